use Rattle.std.proofs.Common.{◌-◌, ◌≤◌, length, All}
use Rattle.poolrun.specs.Dialers.{IsUnusedInner}
use Rattle.poolrun.proofs.inner_dialers.Given as goal

abbrev pub invariant-loop-dialers : goal.invariant-loop-dialers
invariant-loop-dialers l = (length l.dialers.items ≤ 32) × All IsUnusedInner l.dialers.items

abbrev pub decreases-loop-dialers : goal.decreases-loop-dialers
decreases-loop-dialers l = 32 - length l.dialers.items
