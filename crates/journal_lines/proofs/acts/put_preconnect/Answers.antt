use Rattle.std.proofs.Common.{◌≡◌, ◌∙◌, ◌++◌, ◌∷◌, [], OnOk, ap, subst, List, ℕ, append_assoc, sym, codes}
use Rattle.std.specs.Fmt.{decimal}
use Rattle.std.proofs.lemmas.Grind.{flat_map-append}
use Rattle.journal_lines.specs.Lines.{group_words, preconnect_reply_words}
use Rattle.journal_words.specs.Words.{spaced_words}
use Rattle.journal_lines.proofs.acts.put_preconnect.Goals as goal

pub returns : goal.returns
returns c =
    let named = c.args.line.now ++ spaced_words (codes "preconnect" ∷ []) in
    let group = group_words c.args.key.now c.args.credentials c.args.origin.now in
    let count = decimal c.args.count ∷ codes "=" ∷ preconnect_reply_words c.args.reply in
    let before : c.put_group.new.line ≡ named ++ spaced_words group = c.in_ok-put_group.ensures ∙ ap (λ (l : List ℕ). l ++ spaced_words group) c.in_ok-put.ensures in
    let whole : c.put_group.new.line ++ spaced_words count ≡ c.args.line.now ++ spaced_words (codes "preconnect" ∷ group ++ count) =
    ap (λ (l : List ℕ). l ++ spaced_words count) before
    ∙ append_assoc named (spaced_words group) (spaced_words count)
    ∙ ap (λ (t : List ℕ). named ++ t) (sym (flat_map-append (λ (word : List ℕ). 32 ∷ word) group count))
    ∙ append_assoc c.args.line.now (spaced_words (codes "preconnect" ∷ [])) (spaced_words (group ++ count)) in
    subst (λ (t : List ℕ). OnOk c.put_count.result (c.put_count.new.line ≡ t)) whole c.put_count.ensures
