use Rattle.std.proofs.Common.{Option, MatchOption, sym, subst}
use Rattle.model_settling.proofs.DueLemmas.{due_next}
use Rattle.model_settling.specs.Due.{IsNext}
use Rattle.model_settling.specs.Settling.{IsSettled}
use Rattle.model_settling.specs.declared.kinds.Due.{Due}
use Rattle.model_settling.proofs.settle.next_due.Goals as goal

pub returns-clause-next : goal.returns-clause-next
returns-clause-next c = subst (λ (o : Option Due). MatchOption o (IsSettled c.args.s.now) (IsNext c.args.s.now)) (sym c.computed_due.ensures) (due_next c.args.s.now)
