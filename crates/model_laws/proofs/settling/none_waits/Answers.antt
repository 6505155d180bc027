use Rattle.model_laws.proofs.SettlingLemmas as lemmas
use Rattle.model_laws.proofs.settling.none_waits.Goals as goal

pub returns : goal.returns
returns c = lemmas.none_waits
