use Rattle.dispatch_core.proofs.PortLemmas.{does}
use Rattle.model_values.specs.declared.entry.Act.TheVariants as act
use Rattle.dispatch_core.proofs.port.DirectPortPoolPort.network_changed.Goals as goal

pub returns : goal.returns
returns c = does c.network_changed.result c.args.self.now.pool.now c.network_changed.new.self c.args.self.now.who c.args.self.now.pool.ghost_name c.args.moment act.Network c.args.self.now.caller c.network_changed.ensures.ok c.network_changed.ensures.err
