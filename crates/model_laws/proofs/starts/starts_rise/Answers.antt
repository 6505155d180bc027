use Rattle.model_laws.proofs.RisingLemmas.{starts_rise}
use Rattle.model_laws.proofs.starts.starts_rise.Goals as goal

pub returns : goal.returns
returns c = starts_rise
