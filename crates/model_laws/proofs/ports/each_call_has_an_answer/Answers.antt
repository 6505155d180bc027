use Rattle.model_laws.proofs.AnswerLemmas.{each_call_has_an_answer}
use Rattle.model_laws.proofs.ports.each_call_has_an_answer.Goals as goal

pub returns : goal.returns
returns c = each_call_has_an_answer
