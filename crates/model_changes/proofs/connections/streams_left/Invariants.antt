use Rattle.std.proofs.Common.{◌≡◌, take}
use Rattle.model_changes.specs.Connections as spec
use Rattle.model_changes.proofs.connections.streams_left.Given as goal

abbrev pub invariant-loop-r : goal.invariant-loop-r
invariant-loop-r l = l.kept ≡ spec.streams_left l.conn l.es l.last (take l.r-index l.streams)
