use Rattle.std.proofs.Common.{◌≡◌, ◌++◌}
use Rattle.std.specs.Prelude.{replicate, None}
use Rattle.model_changes.specs.Connections.{new_connection}
use Rattle.model_steps.proofs.calls.open_ahead.Given as goal

abbrev pub invariant-loop-i : goal.invariant-loop-i
invariant-loop-i l = l.list ≡ l.initial.list ++ replicate l._i (new_connection l.g None l.now)
