use Rattle.std.proofs.Common.{◌≡◌, ◌++◌, take, drop, map}
use Rattle.model_steps.specs.Goaway as spec
use Rattle.model_steps.proofs.goaway.leave_all_out.Given as goal

abbrev pub invariant-loop-e : goal.invariant-loop-e
invariant-loop-e l = l.list ≡ map (spec.left_out l.c l.last) (take l.e-index l.initial.list) ++ drop l.e-index l.initial.list
