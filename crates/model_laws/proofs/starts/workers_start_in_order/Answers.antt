use Rattle.model_laws.proofs.WorkerStartLemmas.{workers_start_in_order}
use Rattle.model_laws.proofs.starts.workers_start_in_order.Goals as goal

pub returns : goal.returns
returns c = workers_start_in_order
