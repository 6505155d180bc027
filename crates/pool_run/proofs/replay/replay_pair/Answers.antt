use Rattle.pool_run.proofs.Endings.{judges_on, refuses_pair_on}
use Rattle.pool_run.proofs.replay.replay_pair.Goals as goal

pub returns-in-Ok : goal.returns-in-Ok
returns-in-Ok c = λ v. judges_on _ v c.in-Ok.verdict _ c.judged.ensures c.in-Ok.ensures.judged

pub returns-in-Err : goal.returns-in-Err
returns-in-Err c = λ v. refuses_pair_on _ v c.in-Err.fault _ c.refused_pair.ensures.named c.refused_pair.ensures.line c.in-Err.ensures.refused
