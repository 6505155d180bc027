use Rattle.model_laws.proofs.OverMoves.{moved_leases_end_at_their_over}
use Rattle.model_laws.proofs.overs.moved_leases_end_at_their_over.Goals as goal

pub returns : goal.returns
returns c = moved_leases_end_at_their_over
