-- Texts that marks part: their parts, and the place of the last mark.
use Rattle.std.proofs.Common.{◌≡◌, ◌≢◌, ◌∙◌, refl, ap, ℕ, ◌==◌, not, true, false, List, [], ◌∷◌, ◌++◌, length, All, Some, None, append-nil, flat_map, ne_eqb, eq-eqb, arith}
use Rattle.std.specs.List.{list_all}
use Rattle.std.proofs.lemmas.List.Elements.{All-head, All-tail, All-weaker}
use Rattle.std.proofs.lemmas.List.Splits.{slice_split_at, slice_split_none}
use Rattle.std.proofs.lemmas.List.Sums.{AllPass-from_list_all}
use Rattle.journal_words.specs.Readers.{parts, last_place, later}
use Rattle.journal_words.proofs.Steps.{other_test}

-- a text without the mark
abbrev pub Apart : ℕ → List ℕ → Type 0
Apart mark = All (λ b. b ≢ mark)

-- the same by a test
pub apart_by : (mark : ℕ) (text : List ℕ) → list_all (λ b. not (b == mark)) text ≡ true → Apart mark text
apart_by mark text h = All-weaker (λ b. not (b == mark) ≡ true) (λ b. b ≢ mark) (λ b. other_test b mark) text (AllPass-from_list_all (λ b. not (b == mark)) text h)

none_passes : (mark : ℕ) (word : List ℕ) → Apart mark word → All (λ b. (b == mark) ≡ false) word
none_passes mark word apart = All-weaker (λ b. b ≢ mark) (λ b. (b == mark) ≡ false) (λ b h. ne_eqb b mark h) word apart

-- a word alone is the one part
pub part_alone : (mark : ℕ) (word : List ℕ) → Apart mark word → parts mark word ≡ word ∷ []
part_alone mark word apart = slice_split_none (λ b. b == mark) word (none_passes mark word apart)

-- the first part ends at the first mark
pub part_first : (mark : ℕ) (word rest : List ℕ) → Apart mark word → parts mark (word ++ mark ∷ rest) ≡ word ∷ parts mark rest
part_first mark word rest apart = slice_split_at (λ b. b == mark) word mark rest (none_passes mark word apart) (eq-eqb mark mark refl)

pub parts_back : (mark : ℕ) (word : List ℕ) (words : List (List ℕ)) → All (λ b. b ≢ mark) word → All (All (λ b. b ≢ mark)) words
    → parts mark (word ++ flat_map (λ w. mark ∷ w) words) ≡ word ∷ words
parts_back mark word [] apart all = ap (parts mark) (append-nil word) ∙ part_alone mark word apart
parts_back mark word (next ∷ words) apart all =
    part_first mark word (next ++ flat_map (λ w. mark ∷ w) words) apart
    ∙ ap (λ ws. word ∷ ws) (parts_back mark next words (All-head (Apart mark) next words all) (All-tail (Apart mark) next words all))

-- ---- the last mark

no_place : (mark : ℕ) (back : List ℕ) → Apart mark back → last_place mark back ≡ None
no_place mark [] apart = refl
no_place mark (b ∷ back) apart =
    ap (λ o. later o (b == mark)) (no_place mark back (All-tail (λ c. c ≢ mark) b back apart))
    ∙ ap (later None) (ne_eqb b mark (All-head (λ c. c ≢ mark) b back apart))

pub last_place_back : (mark : ℕ) (front back : List ℕ) → All (λ b. b ≢ mark) back → last_place mark (front ++ mark ∷ back) ≡ Some (length front)
last_place_back mark [] back apart = ap (λ o. later o (mark == mark)) (no_place mark back apart) ∙ ap (later None) (eq-eqb mark mark refl)
last_place_back mark (b ∷ front) back apart =
    ap (λ o. later o (b == mark)) (last_place_back mark front back apart) ∙ ap Some (omega arith)
