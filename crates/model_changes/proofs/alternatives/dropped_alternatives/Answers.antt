use Rattle.std.proofs.Common.{◌≡◌, ◌<◌, ◌∙◌, sym, ap, length, arith}
use Rattle.std.proofs.lemmas.List.Edits.{map_over_more}
use Rattle.model_changes.specs.Alternatives as spec
use Rattle.model_changes.proofs.alternatives.dropped_alternatives.Goals as goal

pub loop-row-preserved : goal.loop-row-preserved
loop-row-preserved c =
    let lt : c.loop-row.row-index < length c.args.rows.now = omega arith in
    let e : c.without_target_in.new.row ≡ spec.without_target_in c.args.key.now c.args.origin.now c.args.t.now c.row-item.result = c.in_ok-without_target_in.ensures ∙ ap (spec.without_target_in c.args.key.now c.args.origin.now c.args.t.now) (sym c.row-item.is) in
    rw e (map_over_more (spec.without_target_in c.args.key.now c.args.origin.now c.args.t.now) c.args.rows.now c.loop-row.rows c.loop-row.row-index c.row-item.result lt c.loop-row.invariant c.row-item.is)
