use Rattle.std.proofs.Common.{◌≡◌, ◌++◌, take, drop, map}
use Rattle.model_steps.specs.StreamEnds as spec
use Rattle.model_steps.proofs.stream_ends.refuse_all.Given as goal

abbrev pub invariant-loop-e : goal.invariant-loop-e
invariant-loop-e l = l.list ≡ map (spec.refused l.conn l.stream) (take l.e-index l.initial.list) ++ drop l.e-index l.initial.list
