use Rattle.std.proofs.Common.{◌≡◌, length, sum_by, take}
use Rattle.pool_run.proofs.check.count_calls.Given as goal

abbrev pub invariant-loop-calls : goal.invariant-loop-calls
invariant-loop-calls l = l.n ≡ sum_by length (take l.calls-index l.channels)
