use Rattle.std.proofs.Common.{refl}
use Rattle.pool_run.proofs.Endings.{first_set, desk_did, run_status}
use Rattle.pool_run.proofs.desk.run_first.Goals as goal

pub returns-clause-did : goal.returns-clause-did
returns-clause-did g c =
    let f = first_set g.D.Dialer.seen c.args.dialers.now.items _ c.index_mut.result.now c.run_command.new.dialer c.requires.some c.index_mut.ensures.value refl in
    rw c.status.ensures (desk_did c.args.command c.run_command.result _ _ _ _ _ _ f.0 _ _ f.1 f.2 c.run_command.ensures)

pub returns-clause-status : goal.returns-clause-status
returns-clause-status g c = rw c.status.ensures (run_status c.run_command.result)
