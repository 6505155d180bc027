use Rattle.model_laws.proofs.SoundLemmas.{reached_is_sound}
use Rattle.model_laws.proofs.sound.reached_is_sound.Goals as goal

pub returns : goal.returns
returns c = reached_is_sound
