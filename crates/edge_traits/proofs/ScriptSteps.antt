-- The steps that are left of a script.
use Rattle.std.proofs.Common.{◌≡◌, ℕ, ◌+◌, ◌≤◌, ◌<◌, List, [], ◌∷◌, length, take, drop, min, slice_get, Some, refl, sym, ap, subst, ◌∙◌, arith, length-take, length-drop}
use Rattle.std.proofs.lemmas.Grind.{common_steps}
use Rattle.edge_traits.specs.declared.link_step.LinkStep.{LinkStep}
use Rattle.edge_traits.specs.declared.link_step.LinkStep.TheVariants.{Give, Quiet, End, Fail}
use Rattle.edge_traits.specs.declared.script_link.ScriptPlace.{ScriptPlace}
use Rattle.edge_traits.specs.declared.link.LinkRead.TheVariants as reading
use Rattle.edge_traits.specs.Counted.{ends_after}
use Rattle.edge_traits.specs.Script.{ScriptState, TakesStep, step_taken, given, give_left}
use Rattle.edge_traits.proofs.Rest.{drop_next}

-- before any octet of it was given a step is whole
pub given_none : (steps : List LinkStep) → given 0 steps ≡ steps
given_none [] = refl
given_none (Give octets ∷ rest) = refl
given_none (Quiet ∷ rest) = refl
given_none (End ∷ rest) = refl
given_none (Fail ∷ rest) = refl

-- the steps after n octets of what was left of a Give
pub give_after : (steps : List LinkStep) (at next : ScriptPlace) (octets : List ℕ) (n : ℕ)
    → slice_get steps at.step ≡ Some (Give octets) → n ≤ length (drop at.offset octets)
    → (n ≡ length (drop at.offset octets) → next ≡ record { step = at.step + 1; offset = 0 })
    → (n < length (drop at.offset octets) → next ≡ record { step = at.step; offset = at.offset + n })
    → given next.offset (drop next.step steps) ≡ give_left (drop n (drop at.offset octets)) (drop (at.step + 1) steps)
give_after steps at next octets n is le whole part = cases (drop n (drop at.offset octets)) refl
  where
    cases : (left : List ℕ) → drop n (drop at.offset octets) ≡ left → given next.offset (drop next.step steps) ≡ give_left left (drop (at.step + 1) steps)
    cases [] e = rw (whole (omega (arith, length-drop n (drop at.offset octets), ap length e))) (given_none (drop (at.step + 1) steps))
    cases (o ∷ more) e =
        let more_left : n < length (drop at.offset octets) = omega (arith, length-drop n (drop at.offset octets), ap length e) in
        let joined : drop (at.offset + n) octets ≡ drop n (drop at.offset octets) = grind (arith, common_steps) in
        rw (part more_left, drop_next steps at.step (Give octets) is) (ap (λ (l : List ℕ). Give l ∷ drop (at.step + 1) steps) (joined ∙ e))

-- the step that a read takes which gets the front of what is left of a Give
pub give_taken : (before after : ScriptState) (steps : List LinkStep) (at next : ScriptPlace) (octets piece buffer : List ℕ) (size left : ℕ)
    → before.script ≡ given at.offset (drop at.step steps) → slice_get steps at.step ≡ Some (Give octets)
    → piece ≡ take (min (min (length (drop at.offset octets)) size) left) (drop at.offset octets) → take (length piece) buffer ≡ piece
    → (length piece ≡ length (drop at.offset octets) → next ≡ record { step = at.step + 1; offset = 0 })
    → (length piece < length (drop at.offset octets) → next ≡ record { step = at.step; offset = at.offset + length piece })
    → after ≡ step_taken before (given next.offset (drop next.step steps)) (record before.counts { ends = ends_after before.counts.ends (length piece) })
    → TakesStep before.script before (min size left) buffer (reading.Got (length piece)) after
give_taken before after steps at next octets piece buffer size left script is front put whole part becomes =
    let rest = drop at.offset octets in
    let n_is : length piece ≡ min (min (length rest) size) left = omega (arith, ap length front, length-take (min (min (length rest) size) left) rest) in
    let within : length piece ≤ length rest = omega arith in
    let e : before.script ≡ Give rest ∷ drop (at.step + 1) steps = script ∙ ap (given at.offset) (drop_next steps at.step (Give octets) is) in
    let P : List LinkStep → Type 0 = λ s. TakesStep s before (min size left) buffer (reading.Got (length piece)) after in
    subst P (sym e) (record {
      least = omega arith;
      octets_given = put ∙ front ∙ ap (λ (k : ℕ). take k rest) (sym n_is);
      becomes = becomes ∙ ap (λ (l : List LinkStep). step_taken before l (record before.counts { ends = ends_after before.counts.ends (length piece) })) (give_after steps at next octets (length piece) is within whole part);
    })
