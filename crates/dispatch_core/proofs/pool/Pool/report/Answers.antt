use Rattle.model_histories.specs.Histories.{run}
use Rattle.dispatch_core.proofs.StepLemmas.{may_tell_noted}
use Rattle.dispatch_core.proofs.pool.Pool.report.Goals as goal

pub enter-requires-clause-reply : goal.enter-requires-clause-reply
enter-requires-clause-reply c = may_tell_noted (run c.args.self.now.config c.args.self.now.history) c.in_ok-s.s c.args.moment c.args.who c.no.result c.args.sent c.args.r c.in_ok-s.ensures.state (rw c.no.ensures c.requires.tells)
