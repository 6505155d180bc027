use Rattle.std.proofs.Common.{◌-◌, ◌≤◌, length, take}
use Rattle.pool_run.proofs.StreamSteps.{HasPut}
use Rattle.pool_run.proofs.streams.write_text.Given as goal

abbrev pub invariant-loop-at : goal.invariant-loop-at
invariant-loop-at g l = (l.at ≤ length l.text) × HasPut (g.K.Sink.seen l.initial.sink) (g.K.Sink.seen l.sink) (take l.at l.text)

abbrev pub decreases-loop-at : goal.decreases-loop-at
decreases-loop-at g l = length l.text - l.at
