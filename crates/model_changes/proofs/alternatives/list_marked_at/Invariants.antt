use Rattle.std.proofs.Common.{◌≡◌, take, map}
use Rattle.model_changes.specs.Alternatives.{marked_at}
use Rattle.model_changes.proofs.alternatives.list_marked_at.Given as goal

abbrev pub invariant-loop-a : goal.invariant-loop-a
invariant-loop-a l = l.all ≡ map (marked_at l.t l.mark) (take l.a-index l.list)
