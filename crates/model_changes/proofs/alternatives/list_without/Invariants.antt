use Rattle.std.proofs.Common.{◌≡◌, take, filter, not}
use Rattle.model_changes.specs.Alternatives.{leads_to}
use Rattle.model_changes.proofs.alternatives.list_without.Given as goal

abbrev pub invariant-loop-a : goal.invariant-loop-a
invariant-loop-a l = l.kept ≡ filter (λ a. not (leads_to l.t a)) (take l.a-index l.list)
