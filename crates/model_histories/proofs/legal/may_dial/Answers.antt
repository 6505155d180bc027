use Rattle.std.proofs.Common.{◌∙◌, sym}
use Rattle.model_histories.proofs.DialLemmas.{dial_never, dial_same, dial_other}
use Rattle.model_histories.proofs.legal.may_dial.Goals as goal

pub returns-in-None : goal.returns-in-None
returns-in-None c = dial_never _ _ _ (sym c.next_dial.ensures ∙ c.in-None.is)

pub returns-then-number-from : goal.returns-then-number-from
returns-then-number-from c = dial_same _ _ _ _ _ (sym c.next_dial.ensures ∙ c.in-Some.is) (c.if-number-from.true ∙ c.from.ensures) c.goes_to.ensures

pub returns-else-number-from : goal.returns-else-number-from
returns-else-number-from c = dial_other _ _ _ _ (sym c.next_dial.ensures ∙ c.in-Some.is) (λ e. c.if-number-from.false (e ∙ sym c.from.ensures))
