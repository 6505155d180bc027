use Rattle.std.proofs.Common.{refl}
use Rattle.pool_run.proofs.Endings.{refuses_many, input_many}
use Rattle.pool_run.proofs.ending.report_on.Goals as goal

pub returns-in-TooMany : goal.returns-in-TooMany
returns-in-TooMany g c =
    refuses_many _ _ _ _ _ refl c.in_ok-too_many_octets-in-TooMany.ensures (input_many _ _ _ c.in-TooMany.is c.in_ok-bytes.ensures)
