use Rattle.model_laws.proofs.PlaceLemmas as lemmas
use Rattle.model_laws.proofs.places.histories_have_no_bad_place.Goals as goal

pub returns : goal.returns
returns c = lemmas.histories_have_no_bad_place
