use Rattle.model_laws.proofs.SoundLemmas.{streams_are_leased_once}
use Rattle.model_laws.proofs.leases.streams_are_leased_once.Goals as goal

pub returns : goal.returns
returns c = streams_are_leased_once
