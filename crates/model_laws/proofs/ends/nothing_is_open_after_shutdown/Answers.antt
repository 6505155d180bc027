use Rattle.model_laws.proofs.ShutLemmas.{nothing_is_open_after_shutdown}
use Rattle.model_laws.proofs.ends.nothing_is_open_after_shutdown.Goals as goal

pub returns : goal.returns
returns c = nothing_is_open_after_shutdown
