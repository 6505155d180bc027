use Rattle.pool_run.proofs.Endings.{one_command}
use Rattle.pool_run.proofs.desk.desk_main.Goals as goal

pub returns-clause-answered : goal.returns-clause-answered
returns-clause-answered g c = λ is zero. c.run_first-status.ensures.did.answered zero (one_command _ _ _ c.in-Some.ensures is)

pub returns-clause-judged : goal.returns-clause-judged
returns-clause-judged g c = λ is zero. c.run_first-status.ensures.did.judged zero (one_command _ _ _ c.in-Some.ensures is)
