use Rattle.std.proofs.Common.{◌-◌, map, length}
use Rattle.journal_lines.proofs.OrderLoop.{IsReadTo}
use Rattle.journal_lines.proofs.read_works.read_order_marks.Given as goal

abbrev pub invariant-loop-at : goal.invariant-loop-at
invariant-loop-at l = IsReadTo (map (λ w. w.now) l.words) l.marks l.at

abbrev pub decreases-loop-at : goal.decreases-loop-at
decreases-loop-at l = length l.words - l.at
