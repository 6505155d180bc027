use Rattle.dispatch_core.proofs.PortLemmas.{answers}
use Rattle.model_values.specs.declared.entry.Act.TheVariants as act
use Rattle.dispatch_core.proofs.port.DirectPortPoolPort.resolved.Goals as goal

pub returns : goal.returns
returns c = answers c.resolved.result c.args.self.now.pool.now c.resolved.new.self c.args.self.now.who c.args.self.now.pool.ghost_name c.args.moment (λ reply. act.Resolved c.args.key c.args.host c.args.addresses reply) c.args.self.now.caller c.resolved.ensures.ok c.resolved.ensures.err
