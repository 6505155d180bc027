use Rattle.model_laws.proofs.OverlapLemmas.{leases_dont_overlap}
use Rattle.model_laws.proofs.leases.leases_dont_overlap.Goals as goal

pub returns : goal.returns
returns c = leases_dont_overlap
