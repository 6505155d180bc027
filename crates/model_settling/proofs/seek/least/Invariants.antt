use Rattle.std.proofs.Common.{◌≡◌, ◌+◌, ◌≤◌, drop, None, IfSome}
use Rattle.model_settling.specs.Due.{least_from}
use Rattle.model_settling.proofs.seek.least.Given as goal

abbrev pub invariant-loop-place : goal.invariant-loop-place
invariant-loop-place g l =
    let test = g.S.Seeks.test l.sought in
    let key = g.S.Ranks.key l.sought in
    record {
      within : IfSome l.best (λ best. best.number ≤ l.place);
      rest : least_from test key l.best (l.place + 1) (drop l.place l.list) ≡ least_from test key None 1 l.list;
    }
