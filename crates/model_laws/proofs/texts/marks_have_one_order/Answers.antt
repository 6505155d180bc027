use Rattle.model_laws.proofs.OrderLemmas.{marks_have_one_order}
use Rattle.model_laws.proofs.texts.marks_have_one_order.Goals as goal

pub returns : goal.returns
returns c = marks_have_one_order
