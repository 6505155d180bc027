use Rattle.model_laws.proofs.AskedLemmas.{accepted_ones_are_exchanges}
use Rattle.model_laws.proofs.texts.accepted_ones_are_exchanges.Goals as goal

pub returns : goal.returns
returns c = accepted_ones_are_exchanges
