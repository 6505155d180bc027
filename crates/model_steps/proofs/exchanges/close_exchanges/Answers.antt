use Rattle.std.proofs.Common.{◌≡◌, ◌<◌, ◌∙◌, sym, ap, length, arith}
use Rattle.std.proofs.lemmas.List.Edits.{map_over_more}
use Rattle.model_steps.specs.Exchanges as spec
use Rattle.model_values.specs.declared.outcome.Outcome.TheVariants as outcome
use Rattle.model_steps.proofs.exchanges.close_exchanges.Goals as goal

pub loop-e-preserved : goal.loop-e-preserved
loop-e-preserved c =
    let lt : c.loop-e.e-index < length c.args.list.now = omega arith in
    let e : c.close_exchange.new.e ≡ (spec.ended_unless outcome.PoolClosed) c.e-item.result = c.close_exchange.ensures ∙ ap (spec.ended_unless outcome.PoolClosed) (sym c.e-item.is) in
    rw e (map_over_more (spec.ended_unless outcome.PoolClosed) c.args.list.now c.loop-e.list c.loop-e.e-index c.e-item.result lt c.loop-e.invariant c.e-item.is)
