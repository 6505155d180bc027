use Rattle.model_laws.proofs.WorkerLemmas.{others_change_no_own_calls}
use Rattle.model_laws.proofs.workers.others_change_no_own_calls.Goals as goal

pub returns : goal.returns
returns c = others_change_no_own_calls
