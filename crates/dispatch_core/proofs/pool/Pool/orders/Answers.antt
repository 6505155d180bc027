use Rattle.std.proofs.Common.{◌≡◌, subst, arith}
use Rattle.std.specs.Prelude.{IsSomeAnd}
use Rattle.model_authority.specs.Lists.{numbered}
use Rattle.model_histories.specs.Histories.{run}
use Rattle.model_histories.specs.Working.{MayWorkAt}
use Rattle.model_steps.specs.After.{noted}
use Rattle.model_values.specs.declared.state.AbstractPool.{AbstractPool}
use Rattle.dispatch_core.proofs.StepLemmas.{may_take_noted}
use Rattle.dispatch_core.proofs.pool.Pool.orders.Goals as goal

pub hand-requires-clause-may : goal.hand-requires-clause-may
hand-requires-clause-may c =
    let s : AbstractPool = run c.args.self.now.config c.args.self.now.history in
    let at : c.note.new.s ≡ noted s c.args.moment = cc (c.note.ensures, c.in_ok-s.ensures.state) in
    let works : MayWorkAt s c.args.who c.no-conn.result c.args.sent = rw c.no-conn.ensures c.requires.works in
    let pending : IsSomeAnd (numbered c.no-conn.result.0 s.connections) (λ x. c.in_ok-marks.marks ≡ x.orders) =
    subst (λ (t : AbstractPool). IsSomeAnd (numbered c.no-conn.result.0 t.connections) (λ x. c.in_ok-marks.marks ≡ x.orders)) c.in_ok-s.ensures.state c.in_ok-marks.ensures in
    may_take_noted s c.note.new.s c.args.moment c.args.who c.no-conn.result c.args.sent c.in_ok-marks.marks at works pending (omega arith)
