use Rattle.std.proofs.Common.{◌≡◌, ◌<◌, ◌∙◌, sym, ap, length, arith}
use Rattle.std.proofs.lemmas.List.Edits.{map_over_more}
use Rattle.model_steps.specs.Answered as spec
use Rattle.model_steps.proofs.answered.answer_exchanges.Goals as goal

pub loop-e-preserved : goal.loop-e-preserved
loop-e-preserved c =
    let lt : c.loop-e.e-index < length c.args.list.now = omega arith in
    let e : c.answer_exchange.new.e ≡ (spec.answered c.args.conn c.args.stream c.args.response.now) c.e-item.result = c.in_ok-answer_exchange.ensures ∙ ap (spec.answered c.args.conn c.args.stream c.args.response.now) (sym c.e-item.is) in
    rw e (map_over_more (spec.answered c.args.conn c.args.stream c.args.response.now) c.args.list.now c.loop-e.list c.loop-e.e-index c.e-item.result lt c.loop-e.invariant c.e-item.is)
