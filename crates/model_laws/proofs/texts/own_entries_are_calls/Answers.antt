use Rattle.model_laws.proofs.OrderLemmas.{own_entries_are_calls}
use Rattle.model_laws.proofs.texts.own_entries_are_calls.Goals as goal

pub returns : goal.returns
returns c = own_entries_are_calls
