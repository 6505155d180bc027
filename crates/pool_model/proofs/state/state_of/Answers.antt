use Rattle.std.proofs.Common.{◌≡◌, ◌<◌, ◌≤◌, ℕ, List, Some, length, take, refl, sym, ap, ◌∙◌, arith}
use Rattle.std.specs.Prelude.{slice_get}
use Rattle.std.proofs.lemmas.Option.{slice_get_read}
use Rattle.std.proofs.lemmas.List.{take_all}
use Rattle.model_histories.proofs.RunLemmas.{run_none, run_at}
use Rattle.model_histories.specs.Histories.{run}
use Rattle.model_steps.specs.After.{after}
use Rattle.model_values.specs.declared.entry.Entry.{Entry}
use Rattle.model_values.specs.declared.state.AbstractPool.{AbstractPool}
use Rattle.pool_model.proofs.state.state_of.Goals as goal

pub loop-e-init : goal.loop-e-init
loop-e-init c = c.open_pool-s.ensures ∙ sym (run_none c.args.config.now)

pub loop-e-preserved : goal.loop-e-preserved
loop-e-preserved c =
    let i = c.loop-e.e-index in
    let h = c.args.entries.now in
    let x = c.e-item.result in
    let lt : i < length h = omega arith in
    let is : slice_get h i ≡ Some x = slice_get_read h (length h) i x refl lt c.e-item.is in
    c.in_ok-go_on.ensures ∙ ap (λ (s : AbstractPool). after s x) c.loop-e.invariant ∙ sym (run_at c.args.config.now h i x is)

pub returns : goal.returns
returns c =
    let h = c.args.entries.now in
    let i = c.loop-e.e-index in
    let e : length h ≤ i = omega arith in
    c.loop-e.invariant ∙ ap (λ (es : List Entry). run c.args.config.now es) (take_all i h e)
