use Rattle.std.proofs.Common.{◌≡◌, take}
use Rattle.journal_summary.specs.Summary.{cancelled_count}
use Rattle.journal_summary.proofs.counts.cancelled_count.Given as goal

abbrev pub invariant-loop-x : goal.invariant-loop-x
invariant-loop-x l = l.n ≡ cancelled_count (take l.x-index l.exchanges)
