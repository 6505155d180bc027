use Rattle.std.proofs.Common.{◌≡◌, ◌++◌, take}
use Rattle.model_changes.specs.Connections.{streams_started}
use Rattle.model_changes.proofs.connections.note_started.Given as goal

abbrev pub invariant-loop-m : goal.invariant-loop-m
invariant-loop-m l = l.started ≡ l.fn.started ++ streams_started (take l.m-index l.orders)
