-- Words of items, one behind the other.
use Rattle.std.proofs.Common.{◌≡◌, ◌∙◌, ◌++◌, ℕ, List, [], ◌∷◌, refl, ap, sym}
use Rattle.std.specs.List.{flat_map}
use Rattle.std.proofs.lemmas.Grind.{flat_map-append}
use Rattle.journal_words.specs.Words.{spaced_words}

-- the words of all items are those of each item
pub spaced_each : {A : Type 0} (words : A → List (List ℕ)) (xs : List A) → flat_map (λ x. spaced_words (words x)) xs ≡ spaced_words (flat_map words xs)
spaced_each words [] = refl
spaced_each words (x ∷ xs) =
    ap (λ (t : List ℕ). spaced_words (words x) ++ t) (spaced_each words xs) ∙ sym (flat_map-append (λ (word : List ℕ). 32 ∷ word) (words x) (flat_map words xs))
