use Rattle.model_laws.proofs.HandingLemmas.{starts_are_handed_under_a_lease}
use Rattle.model_laws.proofs.starts.starts_are_handed_under_a_lease.Goals as goal

pub returns : goal.returns
returns c = starts_are_handed_under_a_lease
