use Rattle.model_laws.proofs.OrderLemmas.{starts_are_orders}
use Rattle.model_laws.proofs.texts.starts_are_orders.Goals as goal

pub returns : goal.returns
returns c = starts_are_orders
