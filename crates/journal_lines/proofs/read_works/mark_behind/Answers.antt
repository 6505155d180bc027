use Rattle.std.proofs.Common.{List, ℕ, map, length, sym, ap, subst, ◌∙◌}
use Rattle.std.specs.Borrow.{Bor}
use Rattle.std.proofs.lemmas.List.{drop-map, length-drop}
use Rattle.journal_lines.specs.LineReaders.{GivesMark}
use Rattle.journal_lines.proofs.OrderLoop.{within_words}
use Rattle.journal_lines.proofs.read_works.mark_behind.Goals as goal

pub returns-clause-gives : goal.returns-clause-gives
returns-clause-gives c =
    subst (GivesMark c.read_order_mark.result)
    (ap (λ (ws : List (Bor (List ℕ))). map (λ w. w.now) ws) c.behind.ensures ∙ sym (drop-map (λ w. w.now) c.args.n c.args.words.now))
    c.read_order_mark.ensures.gives

pub returns-clause-some : goal.returns-clause-some
returns-clause-some c =
    within_words c.read_order_mark.result c.args.n (length c.behind.result.now) (length c.args.words.now) c.requires
    (ap (λ (ws : List (Bor (List ℕ))). length ws) c.behind.ensures ∙ length-drop c.args.n c.args.words.now) c.read_order_mark.ensures.some
