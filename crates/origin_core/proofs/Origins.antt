-- How far an origin has come.
use Rattle.std.proofs.Common.{◌≡◌, ℕ, zero, suc, ◌+◌, ◌≤◌, Bool, List, [], ◌∷◌, ◌++◌, length, take, drop, refl, ap, sym, ◌∙◌, arith, length-append, length-take, length-drop, append-nil}
use Rattle.std.proofs.lemmas.Grind.{flat_map-append, common_steps}
use Rattle.std.proofs.lemmas.List.{take-append-drop, take-append-le}
use Rattle.std.proofs.lemmas.List.Elements.{All-nil, All-push}
use Rattle.std.proofs.Math.Logic.{∥∥₁_map}
use Rattle.plain_values.proofs.Fronts.{take_more}
use Rattle.net_base.specs.declared.peer.Peer.{Peer}
use Rattle.origin_core.specs.declared.scripted_origin.ScriptedOrigin.{ScriptedOrigin}
use Rattle.origin_core.specs.declared.scripted_request.Asked.{Asked}
use Rattle.origin_core.specs.ScriptedRequests.{IsWhole}
use Rattle.origin_core.specs.ScriptedAnswers.{text_for}
use Rattle.origin_core.specs.ScriptedOrigin.{Arrived, AnswersTo, AreAnswered, StopsAt, Puts, IsOriginAt, put_of}

answered_none : (peer : Peer) → AreAnswered peer [] []
answered_none peer = ∣ ([], record { whole = All-nil (λ (e : Arrived). IsWhole e.octets e.asked); octets_are = refl; put_is = refl }) ∣₁

one_more : (peer : Peer) (octets put more : List ℕ) (asked : Asked) → IsWhole more asked
    → ((requests : List Arrived) × AnswersTo peer octets put requests)
    → (requests : List Arrived) × AnswersTo peer (octets ++ more) (put ++ text_for peer.answers asked) requests
one_more peer octets put more asked whole a =
    let r : Arrived = record { octets = more; asked = asked } in (
      a.0 ++ r ∷ [],
      record {
        whole = All-push (λ (e : Arrived). IsWhole e.octets e.asked) a.0 r a.1.whole whole;
        octets_are = rw (flat_map-append (λ (e : Arrived). e.octets) a.0 (r ∷ []), ← a.1.octets_are, append-nil more) refl;
        put_is = rw (flat_map-append (λ (e : Arrived). text_for peer.answers e.asked) a.0 (r ∷ []), ← a.1.put_is, append-nil (text_for peer.answers asked)) refl;
      },
    )

answered_more : (peer : Peer) (octets put more : List ℕ) (asked : Asked) → AreAnswered peer octets put → IsWhole more asked
    → AreAnswered peer (octets ++ more) (put ++ text_for peer.answers asked)
answered_more peer octets put more asked a whole = ∥∥₁_map a (one_more peer octets put more asked whole)

pub origin_new : (peer : Peer) (input : List ℕ) (origin : ScriptedOrigin) → origin.answered ≡ 0 → origin.put ≡ [] → IsOriginAt peer input origin
origin_new peer input origin e f = record {
  within = omega arith;
  answered = rw (e, f) (answered_none peer);
}

pub origin_more : (peer : Peer) (input : List ℕ) (before after : ScriptedOrigin) (n : ℕ) (asked : Asked) → IsOriginAt peer input before
    → n ≤ length (drop before.answered input) → IsWhole (take n (drop before.answered input)) asked
    → after.answered ≡ before.answered + n → after.put ≡ before.put ++ text_for peer.answers asked → IsOriginAt peer input after
origin_more peer input before after n asked o le whole e f = record {
  within = omega (arith, e, length-drop before.answered input, o.within);
  answered = rw (e, f, take_more input before.answered n)
      (answered_more peer (take before.answered input) before.put (take n (drop before.answered input)) asked o.answered whole);
}

pub origin_same : (peer : Peer) (input : List ℕ) (before after : ScriptedOrigin) → IsOriginAt peer input before
    → after.answered ≡ before.answered → after.put ≡ before.put → IsOriginAt peer input after
origin_same peer input before after o e f = record { within = rw e o.within; answered = rw (e, f) o.answered }

-- what more is received changes nothing of what was answered
pub origin_longer : (peer : Peer) (input more : List ℕ) (origin : ScriptedOrigin) → IsOriginAt peer input origin → IsOriginAt peer (input ++ more) origin
origin_longer peer input more origin o = record {
  within = omega (arith, length-append input more, o.within);
  answered = rw (take-append-le origin.answered input more o.within) o.answered;
}

pub puts_from : (peer : Peer) (input : List ℕ) (origin : ScriptedOrigin) (over : Bool) → IsOriginAt peer input origin
    → StopsAt (drop origin.answered input) over → Puts peer input (put_of origin) over
puts_from peer input origin over o stops =
    (take origin.answered input, drop origin.answered input, sym (take-append-drop origin.answered input), o.answered, stops)
