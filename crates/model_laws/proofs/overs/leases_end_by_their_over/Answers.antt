use Rattle.model_laws.proofs.OverLemmas.{leases_end_by_their_over}
use Rattle.model_laws.proofs.overs.leases_end_by_their_over.Goals as goal

pub returns : goal.returns
returns c = leases_end_by_their_over
