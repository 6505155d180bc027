use Rattle.dispatch_core.specs.Pools.{seen_by}
use Rattle.dispatch_core.proofs.PortLemmas.{hands_over}
use Rattle.dispatch_core.proofs.port.DirectPortPoolPort.orders.Goals as goal

pub returns : goal.returns
returns c = hands_over c.orders.result c.args.self.now.pool.now c.orders.new.self c.args.self.now.who c.args.self.now.pool.ghost_name c.args.moment c.args.conn.now c.args.sent c.args.self.now.caller c.orders.ensures.ok c.orders.ensures.err

pub orders-requires-clause-works : goal.orders-requires-clause-works
orders-requires-clause-works c = (c.works_as_state_says.ensures (seen_by c.args.self.now.pool.now c.args.self.now.who c.args.self.now.pool.ghost_name) c.args.conn.now c.args.sent c.history-history.ensures.history).0 c.requires
