use Rattle.model_laws.proofs.OverOthers.{leases_before_others_end_at_their_over}
use Rattle.model_laws.proofs.overs.leases_before_others_end_at_their_over.Goals as goal

pub returns : goal.returns
returns c = leases_before_others_end_at_their_over
