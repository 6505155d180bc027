use Rattle.model_laws.proofs.DialedLemmas.{connections_are_dialed_once}
use Rattle.model_laws.proofs.dials.connections_are_dialed_once.Goals as goal

pub returns : goal.returns
returns c = connections_are_dialed_once
