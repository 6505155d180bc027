-- What is known of a line once its words are read.
use Rattle.std.proofs.Common.{◌≡◌, ◌⊎◌, inl, inr, ℕ, List, [], ◌∷◌, ◌++◌, Bool, Result, Ok, Err, IfOk, IfErr, IsTrue, MatchResult, ◌↔◌, sym, subst, ◌∙◌}
use Rattle.net_base.specs.declared.NoMem.{NoMem}
use Rattle.model_values.specs.declared.entry.Entry.{Entry}
use Rattle.journal_words.specs.declared.faults.WordFault.{WordFault}
use Rattle.journal_words.specs.declared.faults.WordFault.TheVariants as word
use Rattle.journal_lines.specs.Lines.{entry_line}
use Rattle.journal_lines.specs.Ranges.{EntryFits}
use Rattle.journal_lines.specs.Writable.{IsWritable}
use Rattle.journal_text.specs.Journals.{IsLineOf}

-- the line is that of no other entry than this one
abbrev pub IsOnly : List ℕ → Entry → Type 0
IsOnly line e = (f : Entry) → EntryFits f → IsWritable f → line ++ 10 ∷ [] ≡ entry_line f → e ≡ f

pub line_back : (line : List ℕ) (e : Entry) (r : Result Entry WordFault) → IsOnly line e → IfOk r (λ x. (x ≡ e) × IsLineOf line e)
    → IfErr r (λ f. (f ≡ word.NoMem) ⊎ ¬ (IsLineOf line e)) → (f : Entry) → EntryFits f → IsLineOf line f
    → MatchResult r (λ x. x ≡ f) (λ w. w ≡ word.NoMem)
line_back line e (Ok x) only ok refused f fits of = ok.0 ∙ only f fits of.1 of.0
line_back line e (Err w) only ok (inl none) f fits of = none
line_back line e (Err w) only ok (inr not_of) f fits of = absurd (not_of (subst (IsLineOf line) (sym (only f fits of.1 of.0)) of))

pub line_fits : (line : List ℕ) (e : Entry) (r : Result Entry WordFault) → EntryFits e → IfOk r (λ x. (x ≡ e) × IsLineOf line e) → IfOk r EntryFits
line_fits line e (Ok x) fits ok = subst EntryFits (sym ok.0) fits
line_fits line e (Err w) fits ok = tt

-- two conditions of which the first holds
pub and_first : (r : Result Bool NoMem) (A B : Type 0) → A → IfOk r (λ is. IsTrue is ↔ B) → IfOk r (λ is. IsTrue is ↔ (A × B))
and_first (Ok is) A B a h = (λ t. (a, h.0 t), λ both. h.1 both.1)
and_first (Err e) A B a h = tt

-- two conditions of which the second holds
pub and_second : (r : Result Bool NoMem) (A B : Type 0) → B → IfOk r (λ is. IsTrue is ↔ A) → IfOk r (λ is. IsTrue is ↔ (A × B))
and_second (Ok is) A B b h = (λ t. (h.0 t, b), λ both. h.1 both.0)
and_second (Err e) A B b h = tt
