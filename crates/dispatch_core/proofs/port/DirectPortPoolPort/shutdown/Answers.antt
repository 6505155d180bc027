use Rattle.dispatch_core.proofs.PortLemmas.{answers}
use Rattle.model_values.specs.declared.entry.Act.TheVariants as act
use Rattle.dispatch_core.proofs.port.DirectPortPoolPort.shutdown.Goals as goal

pub returns : goal.returns
returns c = answers c.shutdown.result c.args.self.now.pool.now c.shutdown.new.self c.args.self.now.who c.args.self.now.pool.ghost_name c.args.moment (λ reply. act.Shutdown reply) c.args.self.now.caller c.shutdown.ensures.ok c.shutdown.ensures.err
