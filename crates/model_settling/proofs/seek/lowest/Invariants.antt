use Rattle.std.proofs.Common.{◌≡◌, ◌+◌, drop}
use Rattle.model_settling.specs.Due.{lowest_from}
use Rattle.model_settling.proofs.seek.lowest.Given as goal

abbrev pub invariant-loop-place : goal.invariant-loop-place
invariant-loop-place g l =
    let test = g.S.Seeks.test l.sought in
    lowest_from test (l.place + 1) (drop l.place l.list) ≡ lowest_from test 1 l.list
