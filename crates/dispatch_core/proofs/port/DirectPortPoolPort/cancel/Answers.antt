use Rattle.dispatch_core.proofs.PortLemmas.{answers}
use Rattle.model_values.specs.declared.entry.Act.TheVariants as act
use Rattle.dispatch_core.proofs.port.DirectPortPoolPort.cancel.Goals as goal

pub returns : goal.returns
returns c = answers c.cancel.result c.args.self.now.pool.now c.cancel.new.self c.args.self.now.who c.args.self.now.pool.ghost_name c.args.moment (λ reply. act.Cancel c.args.no reply) c.args.self.now.caller c.cancel.ensures.ok c.cancel.ensures.err
