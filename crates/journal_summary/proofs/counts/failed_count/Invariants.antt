use Rattle.std.proofs.Common.{◌≡◌, take}
use Rattle.journal_summary.specs.Summary.{failed_count}
use Rattle.journal_summary.proofs.counts.failed_count.Given as goal

abbrev pub invariant-loop-x : goal.invariant-loop-x
invariant-loop-x l = l.n ≡ failed_count (take l.x-index l.exchanges)
