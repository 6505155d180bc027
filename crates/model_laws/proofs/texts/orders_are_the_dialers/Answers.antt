use Rattle.model_laws.proofs.OrderLemmas.{orders_are_the_dialers}
use Rattle.model_laws.proofs.texts.orders_are_the_dialers.Goals as goal

pub returns : goal.returns
returns c = orders_are_the_dialers
