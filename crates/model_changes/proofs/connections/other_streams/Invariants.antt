use Rattle.std.proofs.Common.{◌≡◌, take}
use Rattle.model_changes.specs.Connections as spec
use Rattle.model_changes.proofs.connections.other_streams.Given as goal

abbrev pub invariant-loop-x : goal.invariant-loop-x
invariant-loop-x l = l.kept ≡ spec.other_streams l.r (take l.x-index l.streams)
