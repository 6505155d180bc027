use Rattle.std.proofs.Common.{refl}
use Rattle.model_settling.proofs.settle.is_settled.Goals as goal

pub returns-in-None : goal.returns-in-None
returns-in-None c = ((λ t. c.in-None.ensures.next), (λ s. refl))

pub returns-in-Some : goal.returns-in-Some
returns-in-Some c = ((λ f. absurd cc), (λ s. let late = c.in-Some.ensures.next.late in absurd (s late.0 late.1)))
