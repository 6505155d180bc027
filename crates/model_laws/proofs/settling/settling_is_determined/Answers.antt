use Rattle.model_laws.proofs.SettlingLemmas as lemmas
use Rattle.model_laws.proofs.settling.settling_is_determined.Goals as goal

pub returns : goal.returns
returns c = lemmas.settling_is_determined
