use Rattle.std.proofs.Common.{◌≡◌, take, map}
use Rattle.model_changes.specs.Alternatives.{marked_as_before}
use Rattle.model_changes.proofs.alternatives.marked_list.Given as goal

abbrev pub invariant-loop-a : goal.invariant-loop-a
invariant-loop-a l = l.all ≡ map (marked_as_before l.old) (take l.a-index l.list)
