use Rattle.std.proofs.Common.{◌≡◌, Some}
use Rattle.model_settling.specs.Due.{lowest_of}
use Rattle.model_settling.specs.Settling.{can_use}
use Rattle.model_settling.proofs.LowestLemmas.{lowest_is}
use Rattle.model_settling.proofs.settle.assign_over.Goals as goal

pub assign_to-requires-clause-usable : goal.assign_to-requires-clause-usable
assign_to-requires-clause-usable c =
    let found : lowest_of (can_use c.args.s.now c.args.e.now) c.args.s.now.connections ≡ Some c.in-Some.conn = cc in
    (lowest_is _ _ _ found).passes
