use Rattle.std.proofs.Common.{◌≡◌, ◌<◌, ◌∙◌, sym, ap, length, arith}
use Rattle.std.proofs.lemmas.List.Edits.{map_over_more}
use Rattle.model_steps.specs.Goaway as spec
use Rattle.model_steps.proofs.goaway.leave_all_out.Goals as goal

pub loop-e-preserved : goal.loop-e-preserved
loop-e-preserved c =
    let lt : c.loop-e.e-index < length c.args.list.now = omega arith in
    let e : c.leave_out.new.e ≡ (spec.left_out c.args.c c.args.last) c.e-item.result = c.leave_out.ensures ∙ ap (spec.left_out c.args.c c.args.last) (sym c.e-item.is) in
    rw e (map_over_more (spec.left_out c.args.c c.args.last) c.args.list.now c.loop-e.list c.loop-e.e-index c.e-item.result lt c.loop-e.invariant c.e-item.is)
