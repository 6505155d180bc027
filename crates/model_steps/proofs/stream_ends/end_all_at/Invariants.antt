use Rattle.std.proofs.Common.{◌≡◌, ◌++◌, take, drop, map}
use Rattle.model_steps.specs.StreamEnds as spec
use Rattle.model_steps.proofs.stream_ends.end_all_at.Given as goal

abbrev pub invariant-loop-e : goal.invariant-loop-e
invariant-loop-e l = l.list ≡ map (spec.ended_at l.conn l.stream l.how) (take l.e-index l.initial.list) ++ drop l.e-index l.initial.list
