use Rattle.std.proofs.Common.{◌≡◌, ◌++◌, take, drop, map}
use Rattle.model_changes.specs.Alternatives as spec
use Rattle.model_changes.proofs.alternatives.marked_in_all.Given as goal

abbrev pub invariant-loop-row : goal.invariant-loop-row
invariant-loop-row l = l.rows ≡ map (spec.with_marked_in l.key l.origin l.t l.mark) (take l.row-index l.initial.rows) ++ drop l.row-index l.initial.rows
