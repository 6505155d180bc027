use Rattle.std.proofs.Common.{◌≤◌, length, arith, List, ℕ, subst}
use Rattle.net_base.specs.Identities.{IsFirstBadName, most_names}
use Rattle.net_base.proofs.identity.check_names.Goals as goal

pub returns-in-Some-clause-refused : goal.returns-in-Some-clause-refused
returns-in-Some-clause-refused c =
    let few : length c.args.names.now ≤ most_names = omega arith in
    (few, subst (λ (xs : List (List ℕ)). IsFirstBadName xs c.in-Some.i) c.as_slice.ensures c.in-Some.ensures)
