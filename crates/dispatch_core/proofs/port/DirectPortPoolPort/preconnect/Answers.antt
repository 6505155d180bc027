use Rattle.dispatch_core.proofs.PortLemmas.{answers}
use Rattle.model_values.specs.declared.entry.Act.TheVariants as act
use Rattle.dispatch_core.proofs.port.DirectPortPoolPort.preconnect.Goals as goal

pub returns : goal.returns
returns c = answers c.preconnect.result c.args.self.now.pool.now c.preconnect.new.self c.args.self.now.who c.args.self.now.pool.ghost_name c.args.moment (λ reply. act.Preconnect c.args.key c.args.credentials c.args.origin c.args.count reply) c.args.self.now.caller c.preconnect.ensures.ok c.preconnect.ensures.err
