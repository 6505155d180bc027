use Rattle.std.proofs.Common.{◌≡◌, ◌++◌, take, drop, map}
use Rattle.model_steps.specs.Lost as spec
use Rattle.model_steps.proofs.lost.lose_all.Given as goal

abbrev pub invariant-loop-e : goal.invariant-loop-e
invariant-loop-e l = l.list ≡ map (spec.lost l.conn l.cause l.heard) (take l.e-index l.initial.list) ++ drop l.e-index l.initial.list
