use Rattle.dispatch_core.proofs.PortLemmas.{answers}
use Rattle.model_values.specs.declared.entry.Act.TheVariants as act
use Rattle.dispatch_core.proofs.port.DirectPortPoolPort.submit.Goals as goal

pub returns : goal.returns
returns c = answers c.submit.result c.args.self.now.pool.now c.submit.new.self c.args.self.now.who c.args.self.now.pool.ghost_name c.args.moment (λ reply. act.Submit c.args.ask reply) c.args.self.now.caller c.submit.ensures.ok c.submit.ensures.err
