use Rattle.std.proofs.Common.{◌∙◌, ◌++◌, ap, List, ℕ, take_all}
use Rattle.std.specs.List.{flat_map}
use Rattle.model_values.specs.declared.order.OrderMark.{OrderMark}
use Rattle.journal_lines.specs.Lines.{order_words}
use Rattle.journal_words.specs.Words.{spaced_words}
use Rattle.journal_lines.proofs.LineLemmas.{spaced_each}
use Rattle.journal_lines.proofs.parts.put_order_marks.Goals as goal

pub returns : goal.returns
returns c =
    c.loop-mark.invariant
    ∙ ap (λ (marks : List OrderMark). c.args.line.now ++ flat_map (λ (m : OrderMark). spaced_words (order_words m)) marks) (take_all c.loop-mark.mark-index c.args.marks.now c.loop-mark-test.false)
    ∙ ap (λ (text : List ℕ). c.args.line.now ++ text) (spaced_each order_words c.args.marks.now)
