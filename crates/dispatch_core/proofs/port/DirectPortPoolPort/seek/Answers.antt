use Rattle.dispatch_core.proofs.PortLemmas.{seeks}
use Rattle.dispatch_core.proofs.port.DirectPortPoolPort.seek.Goals as goal

pub returns : goal.returns
returns c = seeks c.seek.result c.args.self.now.pool.now c.seek.new.self c.args.self.now.who c.args.self.now.pool.ghost_name c.args.moment c.args.self.now.caller c.seek.ensures.ok c.seek.ensures.err
