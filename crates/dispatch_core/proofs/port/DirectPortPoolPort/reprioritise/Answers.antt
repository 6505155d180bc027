use Rattle.dispatch_core.proofs.PortLemmas.{answers}
use Rattle.model_values.specs.declared.entry.Act.TheVariants as act
use Rattle.dispatch_core.proofs.port.DirectPortPoolPort.reprioritise.Goals as goal

pub returns : goal.returns
returns c = answers c.reprioritise.result c.args.self.now.pool.now c.reprioritise.new.self c.args.self.now.who c.args.self.now.pool.ghost_name c.args.moment (λ reply. act.Reprioritise c.args.no c.args.urgency reply) c.args.self.now.caller c.reprioritise.ensures.ok c.reprioritise.ensures.err
