use Rattle.dispatch_core.specs.Pools.{seen_by}
use Rattle.dispatch_core.proofs.PortLemmas.{does}
use Rattle.model_values.specs.declared.entry.Act.TheVariants as act
use Rattle.dispatch_core.proofs.port.DirectPortPoolPort.report.Goals as goal

pub returns : goal.returns
returns c = does c.report.result c.args.self.now.pool.now c.report.new.self c.args.self.now.who c.args.self.now.pool.ghost_name c.args.moment (act.Reported c.args.conn.now c.args.sent c.args.r) c.args.self.now.caller c.report.ensures.ok c.report.ensures.err

pub report-requires-clause-tells : goal.report-requires-clause-tells
report-requires-clause-tells c = (c.reports_as_state_says.ensures (seen_by c.args.self.now.pool.now c.args.self.now.who c.args.self.now.pool.ghost_name) c.args.conn.now c.args.sent c.args.r c.history-history.ensures.history).0 c.requires
