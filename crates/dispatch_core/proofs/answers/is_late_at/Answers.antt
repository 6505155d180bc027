use Rattle.dispatch_core.proofs.StepLemmas.{late_by}
use Rattle.dispatch_core.proofs.answers.is_late_at.Goals as goal

pub returns-clause-late : goal.returns-clause-late
returns-clause-late c = late_by c.late_ignores_entries.ensures c.args.s.now c.args.moment c.max.result c.is_late-late.result c.max.ensures c.is_late-late.ensures
