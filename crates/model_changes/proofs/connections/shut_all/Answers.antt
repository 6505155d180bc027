use Rattle.std.proofs.Common.{◌≡◌, ◌<◌, ◌∙◌, sym, ap, length, arith}
use Rattle.std.proofs.lemmas.List.Edits.{map_over_more}
use Rattle.model_changes.specs.Connections as spec
use Rattle.model_changes.proofs.connections.shut_all.Goals as goal

pub loop-c-preserved : goal.loop-c-preserved
loop-c-preserved c =
    let lt : c.loop-c.c-index < length c.args.list.now = omega arith in
    let e : c.after_shutdown.new.c ≡ spec.after_shutdown c.c-item.result = c.in_ok-after_shutdown.ensures ∙ ap spec.after_shutdown (sym c.c-item.is) in
    rw e (map_over_more spec.after_shutdown c.args.list.now c.loop-c.list c.loop-c.c-index c.c-item.result lt c.loop-c.invariant c.c-item.is)
