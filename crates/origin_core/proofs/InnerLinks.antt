-- What a link to a scripted origin keeps.
use Rattle.std.proofs.Common.{◌≡◌, ℕ, ◌<◌, Bool, true, false, List, [], ◌∷◌, ◌++◌, length, if◌then◌else◌, ◌==◌, refl, ap, sym, ◌∙◌, subst, arith}
use Rattle.std.proofs.lemmas.Bool.Decides.{nat_tests}
use Rattle.std.proofs.lemmas.Grind.{common_steps}
use Rattle.plain_values.specs.Fronts.{IsFrontOf}
use Rattle.net_base.specs.declared.peer.Peer.{Peer}
use Rattle.origin_core.specs.declared.scripted_origin.ScriptedOrigin.{ScriptedOrigin}
use Rattle.origin_core.specs.ScriptedOrigin.{Puts, IsOriginAt}
use Rattle.origin_core.specs.InnerLinks.{GivesPut}
use Rattle.origin_core.proofs.Origins.{origin_longer}

-- what was written grew, or stays
pub origin_after : (b : Bool) (peer : Peer) (old new piece : List ℕ) (origin : ScriptedOrigin)
    → new ≡ (if b then old ++ piece else old) → IsOriginAt peer old origin → IsOriginAt peer new origin
origin_after true peer old new piece origin e o = rw e (origin_longer peer old piece origin o)
origin_after false peer old new piece origin e o = rw e o

no_octets : (piece : List ℕ) → true ≡ (length piece == 0) → piece ≡ []
no_octets [] e = refl
no_octets (b ∷ bs) e = grind (arith, nat_tests)

pub some_octets : (piece : List ℕ) → false ≡ (length piece == 0) → 0 < length piece
some_octets piece e = grind (arith, nat_tests)

-- the octets that were given, and the next of those that were put
pub given_more : (received given piece now put all : List ℕ) → given ≡ received → put ≡ all → now ≡ received ++ piece
    → IsFrontOf (given ++ piece) put → IsFrontOf now all
given_more received given piece now put all g f h front = rw (h, ← g, ← f) front

-- nothing is left to give
pub all_given : (peer : Peer) (written input put all received given piece : List ℕ) (over : Bool) → Puts peer input all over
    → input ≡ written → put ≡ all → given ≡ received → (piece ≡ [] → put ≡ given) → true ≡ (length piece == 0) → Puts peer written received over
all_given peer written input put all received given piece over p e f g h none =
    let empty : piece ≡ [] = no_octets piece none in
    let same : all ≡ received = sym f ∙ h empty ∙ g in
    let P : List ℕ → Type 0 = λ s. Puts peer s all over in
    let Q : List ℕ → Type 0 = λ s. Puts peer written s over in
    subst Q same (subst P e p)

-- more was given
pub gives_put : (peer : Peer) (written input put all received given piece now : List ℕ) (over : Bool) → Puts peer input all over
    → input ≡ written → put ≡ all → given ≡ received → IsFrontOf (given ++ piece) put → now ≡ received ++ piece → GivesPut peer written now
gives_put peer written input put all received given piece now over p e f g front h =
    let P : List ℕ → Type 0 = λ s. Puts peer s all over in
    let same : now ≡ given ++ piece = h ∙ ap (λ s. s ++ piece) (sym g) in
    (all, over, subst P e p, rw (same, ← f) front)
