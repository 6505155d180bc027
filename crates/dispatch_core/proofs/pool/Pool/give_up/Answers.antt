use Rattle.model_histories.specs.Histories.{run}
use Rattle.dispatch_core.proofs.StepLemmas.{may_end_noted}
use Rattle.dispatch_core.proofs.pool.Pool.give_up.Goals as goal

pub enter-requires-clause-reply : goal.enter-requires-clause-reply
enter-requires-clause-reply c = may_end_noted (run c.args.self.now.config c.args.self.now.history) c.in_ok-s.s c.args.moment c.args.who c.args.conn c.args.sent c.args.cause c.in_ok-s.ensures.state c.requires.ends
