use Rattle.model_laws.proofs.WorkerLemmas.{workers_words_stay_legal}
use Rattle.model_laws.proofs.workers.workers_words_stay_legal.Goals as goal

pub returns : goal.returns
returns c = workers_words_stay_legal
