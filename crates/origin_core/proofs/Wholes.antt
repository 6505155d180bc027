-- Whole requests at the front of octets.
use Rattle.std.proofs.Common.{◌≡◌, ℕ, ◌+◌, ◌<◌, ◌≤◌, List, [], ◌∷◌, ◌++◌, length, take, drop, sym, subst, inl, inr, arith, length-append, length-take, length-drop}
use Rattle.std.proofs.lemmas.Grind.{flat_map-append, common_steps}
use Rattle.plain_values.proofs.Fronts.{take_more}
use Rattle.h1_frames.specs.Units.{IsHeadUnit, BeginsWithUnit, lines_text}
use Rattle.origin_core.specs.declared.scripted_request.Asked.{Asked}
use Rattle.origin_core.specs.declared.scripted_request.NextRequest.TheVariants.{Whole, Unfinished, Unreadable}
use Rattle.origin_core.specs.ScriptedRequests.{Asks, AsksNothing, HasBodyOf, HasNoBodySize, IsNext}

-- a unit isn't empty
last_line : (lines : List (List ℕ)) (last : List ℕ) → 0 < length (lines_text (lines ++ last ∷ []))
last_line lines last =
    rw (
      flat_map-append (λ line. line ++ 10 ∷ []) lines (last ∷ []),
      length-append (lines_text lines) (lines_text (last ∷ [])),
      length-append (last ++ 10 ∷ []) [],
      length-append last (10 ∷ []),
    ) (omega arith)

unit_some : (unit : List ℕ) → IsHeadUnit unit → 0 < length unit
unit_some unit h = let P : List ℕ → Type 0 = λ t. 0 < length t in subst P (sym h.4) (last_line (h.0 ++ h.1) h.2)

pub unit_begins : (octets : List ℕ) (n : ℕ) → BeginsWithUnit octets n → 0 < n
unit_begins octets n b = omega (arith, unit_some (take n octets) b.1, length-take n octets, b.0)

pub whole_request : (octets : List ℕ) (n size : ℕ) (asked : Asked) → BeginsWithUnit octets n → Asks (take n octets) asked
    → HasBodyOf asked.fields size → n + size ≤ length octets → IsNext octets (Whole asked (n + size))
whole_request octets n size asked b asks body le =
    let long : length (take size (drop n octets)) ≡ size = omega (arith, length-take size (drop n octets), length-drop n octets) in
    let P : ℕ → Type 0 = λ k. HasBodyOf asked.fields k in (
      omega (arith, unit_begins octets n b),
      le,
      (take n octets, take size (drop n octets), take_more octets n size, b.1, asks, subst P (sym long) body),
    )

pub lacks_body : (octets : List ℕ) (n size : ℕ) (asked : Asked) → BeginsWithUnit octets n → Asks (take n octets) asked
    → HasBodyOf asked.fields size → length octets < n + size → IsNext octets Unfinished
lacks_body octets n size asked b asks body lt = inr (n, size, asked, b, asks, body, lt)

pub asks_none : (octets : List ℕ) (n : ℕ) → BeginsWithUnit octets n → AsksNothing (take n octets) → IsNext octets Unreadable
asks_none octets n b none = (n, b, inl none)

pub sizes_none : (octets : List ℕ) (n : ℕ) (asked : Asked) → BeginsWithUnit octets n → Asks (take n octets) asked
    → HasNoBodySize asked.fields → IsNext octets Unreadable
sizes_none octets n asked b asks none = (n, b, inr (asked, asks, none))
