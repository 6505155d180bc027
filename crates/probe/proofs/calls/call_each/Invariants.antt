use Rattle.std.proofs.Common.{◌≡◌, ◌+◌}
use Rattle.probe.proofs.calls.call_each.Given as goal

abbrev pub invariant-loop-e : goal.invariant-loop-e
invariant-loop-e l = l.place ≡ l.e-index + 1
