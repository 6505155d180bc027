use Rattle.dispatch_core.specs.Pools.{seen_by}
use Rattle.dispatch_core.proofs.PortLemmas.{ticket_kept}
use Rattle.model_values.specs.declared.entry.Act.TheVariants as act
use Rattle.dispatch_core.proofs.port.DirectPortPoolPort.closed.Goals as goal

pub returns : goal.returns
returns c = ticket_kept c.closed.result c.args.self.now.pool.now c.closed.new.self c.args.self.now.who c.args.self.now.pool.ghost_name c.args.moment (act.Closed c.args.conn c.args.sent c.args.cause c.args.heard) c.args.conn c.args.self.now.caller c.closed.ensures.ok c.closed.ensures.err

pub closed-requires-clause-ends : goal.closed-requires-clause-ends
closed-requires-clause-ends c = (c.ends_as_state_says.ensures (seen_by c.args.self.now.pool.now c.args.self.now.who c.args.self.now.pool.ghost_name) c.args.conn c.args.sent c.args.cause c.history-history.ensures.history).0 c.requires
