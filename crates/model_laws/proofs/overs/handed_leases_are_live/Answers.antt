use Rattle.model_laws.proofs.OverLemmas.{handed_leases_are_live}
use Rattle.model_laws.proofs.overs.handed_leases_are_live.Goals as goal

pub returns : goal.returns
returns c = handed_leases_are_live
