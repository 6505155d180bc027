use Rattle.std.proofs.Common.{◌≡◌, take}
use Rattle.model_histories.specs.Histories.{run}
use Rattle.pool_model.proofs.state.state_of.Given as goal

abbrev pub invariant-loop-e : goal.invariant-loop-e
invariant-loop-e l = l.s ≡ run l.fn.config (take l.e-index l.entries)
