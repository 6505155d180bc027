use Rattle.std.proofs.Common.{◌≡◌, take, filter}
use Rattle.model_changes.proofs.alternatives.persistent_list.Given as goal

abbrev pub invariant-loop-a : goal.invariant-loop-a
invariant-loop-a l = l.kept ≡ filter (λ a. a.persist) (take l.a-index l.list)
