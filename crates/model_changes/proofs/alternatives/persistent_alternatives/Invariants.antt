use Rattle.std.proofs.Common.{◌≡◌, ◌++◌, take, drop, map}
use Rattle.model_changes.specs.Alternatives as spec
use Rattle.model_changes.proofs.alternatives.persistent_alternatives.Given as goal

abbrev pub invariant-loop-row : goal.invariant-loop-row
invariant-loop-row l = l.rows ≡ map spec.persistent_in (take l.row-index l.initial.rows) ++ drop l.row-index l.initial.rows
