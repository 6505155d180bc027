use Rattle.std.proofs.Common.{◌≡◌, take}
use Rattle.journal_summary.specs.Summary.{submitted_count}
use Rattle.journal_summary.proofs.counts.submitted_count.Given as goal

abbrev pub invariant-loop-e : goal.invariant-loop-e
invariant-loop-e l = l.n ≡ submitted_count (take l.e-index l.entries)
