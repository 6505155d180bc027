use Rattle.std.proofs.Common.{◌≡◌, ◌<◌, ◌∙◌, sym, ap, length, arith}
use Rattle.std.proofs.lemmas.List.Edits.{map_over_more}
use Rattle.model_steps.specs.Exchanges as spec
use Rattle.model_steps.proofs.exchanges.hand_all.Goals as goal

pub loop-e-preserved : goal.loop-e-preserved
loop-e-preserved c =
    let lt : c.loop-e.e-index < length c.args.list.now = omega arith in
    let e : c.hand.new.e ≡ (spec.handed_by c.args.conn c.args.orders.now) c.e-item.result = c.hand.ensures ∙ ap (spec.handed_by c.args.conn c.args.orders.now) (sym c.e-item.is) in
    rw e (map_over_more (spec.handed_by c.args.conn c.args.orders.now) c.args.list.now c.loop-e.list c.loop-e.e-index c.e-item.result lt c.loop-e.invariant c.e-item.is)
