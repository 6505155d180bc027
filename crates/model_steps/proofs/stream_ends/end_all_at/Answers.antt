use Rattle.std.proofs.Common.{◌≡◌, ◌<◌, ◌∙◌, sym, ap, length, arith}
use Rattle.std.proofs.lemmas.List.Edits.{map_over_more}
use Rattle.model_steps.specs.StreamEnds as spec
use Rattle.model_steps.proofs.stream_ends.end_all_at.Goals as goal

pub loop-e-preserved : goal.loop-e-preserved
loop-e-preserved c =
    let lt : c.loop-e.e-index < length c.args.list.now = omega arith in
    let e : c.end_at.new.e ≡ (spec.ended_at c.args.conn c.args.stream c.args.how.now) c.e-item.result = c.in_ok-end_at.ensures ∙ ap (spec.ended_at c.args.conn c.args.stream c.args.how.now) (sym c.e-item.is) in
    rw e (map_over_more (spec.ended_at c.args.conn c.args.stream c.args.how.now) c.args.list.now c.loop-e.list c.loop-e.e-index c.e-item.result lt c.loop-e.invariant c.e-item.is)
