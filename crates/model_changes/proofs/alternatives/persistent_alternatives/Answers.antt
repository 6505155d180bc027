use Rattle.std.proofs.Common.{◌≡◌, ◌<◌, ◌∙◌, sym, ap, length, arith}
use Rattle.std.proofs.lemmas.List.Edits.{map_over_more}
use Rattle.model_changes.specs.Alternatives as spec
use Rattle.model_changes.proofs.alternatives.persistent_alternatives.Goals as goal

pub loop-row-preserved : goal.loop-row-preserved
loop-row-preserved c =
    let lt : c.loop-row.row-index < length c.args.rows.now = omega arith in
    let e : c.persistent_in.new.row ≡ spec.persistent_in c.row-item.result = c.in_ok-persistent_in.ensures ∙ ap spec.persistent_in (sym c.row-item.is) in
    rw e (map_over_more spec.persistent_in c.args.rows.now c.loop-row.rows c.loop-row.row-index c.row-item.result lt c.loop-row.invariant c.row-item.is)
