use Rattle.std.proofs.Common.{◌≡◌, ◌++◌, take, drop, map}
use Rattle.model_steps.specs.Exchanges as spec
use Rattle.model_steps.proofs.exchanges.hand_all.Given as goal

abbrev pub invariant-loop-e : goal.invariant-loop-e
invariant-loop-e l = l.list ≡ map (spec.handed_by l.conn l.orders) (take l.e-index l.initial.list) ++ drop l.e-index l.initial.list
