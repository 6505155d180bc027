use Rattle.model_laws.proofs.MoveLemmas.{lost_exchanges_stay_lost}
use Rattle.model_laws.proofs.moves.lost_exchanges_stay_lost.Goals as goal

pub returns : goal.returns
returns c = lost_exchanges_stay_lost
