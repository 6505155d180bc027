use Rattle.std.proofs.Common.{refl}
use Rattle.model_histories.proofs.legal.is_late.Goals as goal

pub returns-in-None : goal.returns-in-None
returns-in-None c = ((λ f. absurd cc), (λ l. absurd (c.in-None.ensures.next l.0 l.1)))

pub returns-in-Some : goal.returns-in-Some
returns-in-Some c = ((λ t. c.in-Some.ensures.next.late), (λ l. refl))
