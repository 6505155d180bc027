use Rattle.std.proofs.Common.{◌≡◌, take}
use Rattle.std.specs.Prelude.{count_by}
use Rattle.model_settling.specs.Counts.{is_background_lease}
use Rattle.model_settling.proofs.counts.count_background_leases.Given as goal

abbrev pub invariant-loop-e : goal.invariant-loop-e
invariant-loop-e l = l.n ≡ count_by is_background_lease (take l.e-index l.list)
