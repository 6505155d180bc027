use Rattle.std.proofs.Common.{◌≡◌, ◌++◌, take, drop, map}
use Rattle.model_steps.specs.Exchanges as spec
use Rattle.model_values.specs.declared.outcome.Outcome.TheVariants as outcome
use Rattle.model_steps.proofs.exchanges.close_exchanges.Given as goal

abbrev pub invariant-loop-e : goal.invariant-loop-e
invariant-loop-e l = l.list ≡ map (spec.ended_unless outcome.PoolClosed) (take l.e-index l.initial.list) ++ drop l.e-index l.initial.list
