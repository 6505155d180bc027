use Rattle.std.proofs.Common.{◌≡◌, take}
use Rattle.std.specs.Prelude.{count_by}
use Rattle.model_settling.specs.Counts.{is_present}
use Rattle.model_settling.proofs.counts.count_present.Given as goal

abbrev pub invariant-loop-c : goal.invariant-loop-c
invariant-loop-c l = l.n ≡ count_by is_present (take l.c-index l.list)
