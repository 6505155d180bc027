use Rattle.std.proofs.Common.{◌≡◌, ◌++◌, take}
use Rattle.std.specs.List.{flat_map}
use Rattle.journal_lines.specs.Lines.{order_words}
use Rattle.journal_words.specs.Words.{spaced_words}
use Rattle.model_values.specs.declared.order.OrderMark.{OrderMark}
use Rattle.journal_lines.proofs.parts.put_order_marks.Given as goal

abbrev pub invariant-loop-mark : goal.invariant-loop-mark
invariant-loop-mark l = l.line ≡ l.initial.line ++ flat_map (λ (m : OrderMark). spaced_words (order_words m)) (take l.mark-index l.marks)
