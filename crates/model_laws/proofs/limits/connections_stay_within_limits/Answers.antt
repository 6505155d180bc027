use Rattle.model_laws.proofs.SoundLemmas as sound
use Rattle.model_laws.proofs.limits.connections_stay_within_limits.Goals as goal

pub returns : goal.returns
returns c = sound.connections_stay_within_limits
