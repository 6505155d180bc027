use Rattle.std.proofs.Common.{◌≡◌, ◌<◌, ◌∙◌, sym, ap, length, arith}
use Rattle.std.proofs.lemmas.List.Edits.{map_over_more}
use Rattle.model_steps.specs.Lost as spec
use Rattle.model_steps.proofs.lost.lose_all.Goals as goal

pub loop-e-preserved : goal.loop-e-preserved
loop-e-preserved c =
    let lt : c.loop-e.e-index < length c.args.list.now = omega arith in
    let e : c.lose.new.e ≡ (spec.lost c.args.conn c.args.cause c.args.heard.now) c.e-item.result = c.lose.ensures ∙ ap (spec.lost c.args.conn c.args.cause c.args.heard.now) (sym c.e-item.is) in
    rw e (map_over_more (spec.lost c.args.conn c.args.cause c.args.heard.now) c.args.list.now c.loop-e.list c.loop-e.e-index c.e-item.result lt c.loop-e.invariant c.e-item.is)
