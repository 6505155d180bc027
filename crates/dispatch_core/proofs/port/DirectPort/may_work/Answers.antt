use Rattle.dispatch_core.specs.Pools.{seen_by}
use Rattle.dispatch_core.proofs.PortLemmas.{tells}
use Rattle.model_histories.specs.Port.{PortView}
use Rattle.dispatch_core.proofs.port.DirectPort.may_work.Goals as goal

pub returns : goal.returns
returns c =
    let v : PortView = seen_by c.args.self.now.pool.now c.args.self.now.who c.args.self.now.pool.ghost_name in
    tells c.may_work.result (c.works_as_state_says.ensures v c.args.conn c.args.sent c.history-history.ensures.history) c.may_work.ensures.may
