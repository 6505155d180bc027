use Rattle.model_laws.proofs.GoneLemmas.{connections_go_forward}
use Rattle.model_laws.proofs.ends.connections_go_forward.Goals as goal

pub returns : goal.returns
returns c = connections_go_forward
