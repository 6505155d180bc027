use Rattle.std.proofs.Common.{◌+◌, ℕ, List, map, sym, subst, arith}
use Rattle.std.specs.Borrow.{Bor}
use Rattle.std.proofs.lemmas.List.{length-map}
use Rattle.model_values.specs.declared.order.OrderMark.{OrderMark}
use Rattle.journal_lines.proofs.OrderLoop.{IsReadTo, read_more, stop_or}
use Rattle.journal_lines.proofs.read_works.read_order_marks.Goals as goal

abbrev seen : List (Bor (List ℕ)) → List (List ℕ)
seen words = map (λ w. w.now) words

pub returns-in-Err : goal.returns-in-Err
returns-in-Err c =
    let long = length-map c.args.words.now (λ w. w.now) in
    stop_or (seen c.args.words.now) c.loop-at.marks c.in-Err.fault c.loop-at.at c.loop-at.invariant (omega (arith, long, c.loop-at-test.true)) c.in-Err.ensures.gives

pub loop-at-preserved : goal.loop-at-preserved
loop-at-preserved c =
    let words = seen c.args.words.now in
    let first = c.in-Ok.first in
    let long = length-map c.args.words.now (λ w. w.now) in
    subst (λ (ms : List OrderMark). IsReadTo words ms (c.loop-at.at + first.words)) (sym c.in_ok-push-in-Ok.ensures.ok)
    (read_more words c.loop-at.marks first.mark c.loop-at.at first.words c.loop-at.invariant (omega (arith, long, c.loop-at-test.true))
    c.in-Ok.ensures.gives c.in-Ok.ensures.some.0 (omega (arith, long, c.in-Ok.ensures.some.1)))
