use Rattle.std.proofs.Common.{Bool, true, false, IsTrue, ◌≡◌, ℕ, ◌<◌, ◌+◌, List, Some, length, take, refl, sym, ap, subst, ◌∙◌, arith}
use Rattle.std.specs.Bool.{OnTrue}
use Rattle.std.specs.Prelude.{slice_get}
use Rattle.std.proofs.lemmas.Option.{slice_get_read}
use Rattle.std.proofs.lemmas.List.{take_all}
use Rattle.model_histories.proofs.FirstBadLemmas.{StandBefore, before_none, before_more, bad_at, history_is, unsettled_at}
use Rattle.model_histories.proofs.RunLemmas.{run_none, run_at}
use Rattle.model_steps.specs.After.{after}
use Rattle.model_histories.specs.Histories.{run, MayStand}
use Rattle.model_settling.specs.Settling.{IsSettled}
use Rattle.model_values.specs.declared.entry.Entry.{Entry}
use Rattle.model_values.specs.declared.state.AbstractPool.{AbstractPool}
use Rattle.pool_model.proofs.judge.first_bad_of.Goals as goal

not_both : (b : Bool) → b ≡ false → IsTrue b → ⊥
not_both true f t = absurd cc
not_both false f t = absurd cc

on_true : (b : Bool) (P : Type 0) → b ≡ true → OnTrue b P → P
on_true true P t p = p
on_true false P t p = absurd cc

pub loop-e-init : goal.loop-e-init
loop-e-init c = record {
  before = before_none c.args.config.now c.args.entries.now;
  state = c.open_pool-s.ensures ∙ sym (run_none c.args.config.now);
  place = refl;
}

pub returns-then-not-branch : goal.returns-then-not-branch
returns-then-not-branch c =
    let i = c.loop-e.e-index in
    let h = c.args.entries.now in
    let x = c.e-item.result in
    let lt : i < length h = omega arith in
    let is : slice_get h i ≡ Some x = slice_get_read h (length h) i x refl lt c.e-item.is in
    let bad = λ (m : MayStand (run c.args.config.now (take i h)) x). not_both _ c.if-not-branch.true (c.in_ok-step.ensures.stands.1 (subst (λ (s : AbstractPool). MayStand s x) (sym c.loop-e.invariant.state) m)) in
    rw c.loop-e.invariant.place (bad_at c.args.config.now h i x is bad c.loop-e.invariant.before)

pub loop-e-preserved : goal.loop-e-preserved
loop-e-preserved c =
    let i = c.loop-e.e-index in
    let h = c.args.entries.now in
    let x = c.e-item.result in
    let lt : i < length h = omega arith in
    let is : slice_get h i ≡ Some x = slice_get_read h (length h) i x refl lt c.e-item.is in
    let stands = subst (λ (s : AbstractPool). MayStand s x) c.loop-e.invariant.state (c.in_ok-step.ensures.stands.0 c.if-not-branch.false) in
    record {
      before = before_more c.args.config.now h i x is stands c.loop-e.invariant.before;
      state = on_true _ _ c.if-not-branch.false c.in_ok-step.ensures.state ∙ ap (λ (s : AbstractPool). after s x) c.loop-e.invariant.state ∙ sym (run_at c.args.config.now h i x is);
      place = omega (arith, c.loop-e.invariant.place);
    }

-- at the end, the index is the length
at_end : (h : List Entry) (i : ℕ) → i ≡ length h → take i h ≡ h
at_end h i e = take_all i h (omega (arith, e))

pub returns-then-branch : goal.returns-then-branch
returns-then-branch c =
    let h = c.args.entries.now in
    let i = c.loop-e.e-index in
    let e : i ≡ length h = omega arith in
    let s : c.loop-e.s ≡ run c.args.config.now h = c.loop-e.invariant.state ∙ ap (λ (es : List Entry). run c.args.config.now es) (at_end h i e) in
    history_is c.args.config.now h (subst (λ (k : ℕ). StandBefore c.args.config.now h k) e c.loop-e.invariant.before)
    (subst IsSettled s (c.in_ok-ends_settled.ensures.0 c.if-branch.true))

pub returns : goal.returns
returns c =
    let h = c.args.entries.now in
    let i = c.loop-e.e-index in
    let e : i ≡ length h = omega arith in
    let s : c.loop-e.s ≡ run c.args.config.now h = c.loop-e.invariant.state ∙ ap (λ (es : List Entry). run c.args.config.now es) (at_end h i e) in
    let bad = λ (x : IsSettled (run c.args.config.now h)). not_both _ c.if-branch.false (c.in_ok-ends_settled.ensures.1 (subst IsSettled (sym s) x)) in
    rw (c.loop-e.invariant.place ∙ ap (λ (k : ℕ). k + 1) e)
    (unsettled_at c.args.config.now h (subst (λ (k : ℕ). StandBefore c.args.config.now h k) e c.loop-e.invariant.before) bad)
