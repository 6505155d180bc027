-- Orders, and the entries that they are read off, one after another.
use Rattle.std.proofs.Common.{◌≡◌, ◌<◌, ◌+◌, ◌∷◌, ℕ, suc, List, length, drop, get_or, sym, ap, ◌∙◌, add-one}
use Rattle.std.proofs.Math.Seq.{drop-cons}
use Rattle.model_values.specs.declared.entry.Entry.{Entry}

-- the entry at this place stands before those behind it
pub at_place : (h : List Entry) (i : ℕ) (x : Entry) → i < length h → x ≡ get_or h i x → drop i h ≡ x ∷ drop (i + 1) h
at_place h i x lt is = drop-cons h i x lt ∙ ap (λ (y : Entry). y ∷ drop (suc i) h) (sym is) ∙ ap (λ (k : ℕ). x ∷ drop k h) (sym (add-one i))
