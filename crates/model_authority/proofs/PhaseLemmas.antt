-- What the phases of a connection say of each other: a claim on tests of a phase is tried at each phase.
use Rattle.std.proofs.Common.{◌≡◌, ◌<◌, ◌≤◌, ℕ, Bool, true, false, cond, refl, ap, sym, ◌∙◌, arith, ◌==◌}
use Rattle.std.specs.Prelude.{◌&&◌, ◌||◌, not, nat_lt}
use Rattle.std.proofs.lemmas.Bool.{and_parts, ltb-true, not-true}
use Rattle.model_authority.specs.Statuses.{stage_of}
use Rattle.model_values.specs.declared.state.Phase.{Phase}
use Rattle.model_values.specs.declared.state.Phase.TheVariants.{Wanted, Dialing, Open, Draining, Closing, Gone}

abbrev pub is_each : (Phase → Bool) → Bool
is_each f = f Wanted && (f Dialing && (f Open && (f Draining && (f Closing && f Gone))))

pub each_phase : (f : Phase → Bool) → is_each f ≡ true → (p : Phase) → f p ≡ true
each_phase f h p =
    let a = and_parts (f Wanted) (f Dialing && (f Open && (f Draining && (f Closing && f Gone)))) h in
    let b = and_parts (f Dialing) (f Open && (f Draining && (f Closing && f Gone))) a.1 in
    let c = and_parts (f Open) (f Draining && (f Closing && f Gone)) b.1 in
    let d = and_parts (f Draining) (f Closing && f Gone) c.1 in
    let e = and_parts (f Closing) (f Gone) d.1 in
    at a.0 b.0 c.0 d.0 e.0 e.1 p
  where
    at : f Wanted ≡ true → f Dialing ≡ true → f Open ≡ true → f Draining ≡ true → f Closing ≡ true → f Gone ≡ true → (q : Phase) → f q ≡ true
    at a b c d e g Wanted = a
    at a b c d e g Dialing = b
    at a b c d e g Open = c
    at a b c d e g Draining = d
    at a b c d e g Closing = e
    at a b c d e g Gone = g

pub implied : (a b : Bool) → (not a || b) ≡ true → a ≡ true → b ≡ true
implied true b h e = h
implied false b h e = absurd cc

by_two : (a b c : Bool) → (a || (b || c)) ≡ true → a ≡ false → b ≡ false → c ≡ true
by_two true b c h e k = absurd cc
by_two false true c h e k = absurd cc
by_two false false c h e k = h

-- what passes the first test passes the second
pub follows : (f g : Phase → Bool) → is_each (λ p. not (f p) || g p) ≡ true → (p : Phase) → f p ≡ true → g p ≡ true
follows f g h p e = implied (f p) (g p) (each_phase (λ p. not (f p) || g p) h p) e

-- what passes the first test doesn't pass the second
pub excludes : (f g : Phase → Bool) → is_each (λ p. not (f p) || not (g p)) ≡ true → (p : Phase) → f p ≡ true → g p ≡ false
excludes f g h p e = not-true (g p) (follows f (λ p. not (g p)) h p e)

-- what passes neither of two tests passes the third
pub or_else : (f g k : Phase → Bool) → is_each (λ p. f p || (g p || k p)) ≡ true → (p : Phase) → f p ≡ false → g p ≡ false → k p ≡ true
or_else f g k h p e d = by_two (f p) (g p) (k p) (each_phase (λ p. f p || (g p || k p)) h p) e d

pub stage_most : (p : Phase) → stage_of p ≤ 5
stage_most p = let below : stage_of p < 6 = ltb-true (stage_of p) 6 (each_phase (λ q. nat_lt (stage_of q) 6) refl p) in omega arith

phase_at : ℕ → Phase
phase_at n = cond (n == 0) Wanted (cond (n == 1) Dialing (cond (n == 2) Open (cond (n == 3) Draining (cond (n == 4) Closing Gone))))

phase_back : (p : Phase) → phase_at (stage_of p) ≡ p
unfolding phase_at
phase_back Wanted = refl
phase_back Dialing = refl
phase_back Open = refl
phase_back Draining = refl
phase_back Closing = refl
phase_back Gone = refl

pub same_phase : (p q : Phase) → stage_of p ≡ stage_of q → p ≡ q
same_phase p q same = sym (phase_back p) ∙ ap phase_at same ∙ phase_back q
