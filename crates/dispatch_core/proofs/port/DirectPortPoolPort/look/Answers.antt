use Rattle.dispatch_core.proofs.PortLemmas.{looks}
use Rattle.dispatch_core.proofs.port.DirectPortPoolPort.look.Goals as goal

pub returns : goal.returns
returns c = looks c.look.result c.args.self.now.pool.now c.look.new.self c.args.self.now.who c.args.self.now.pool.ghost_name c.args.moment c.args.no c.args.self.now.caller c.look.ensures.ok c.look.ensures.err
