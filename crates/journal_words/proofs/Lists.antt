-- Lists whose items are read back are read back.
use Rattle.std.proofs.Common.{◌≡◌, ◌≢◌, ◌∙◌, sym, refl, ap, ℕ, Bool, true, List, [], ◌∷◌, codes, All, map, flat_map, Ok}
use Rattle.std.specs.List.{list_all}
use Rattle.std.proofs.lemmas.Bool.{and_parts}
use Rattle.std.proofs.lemmas.List.Elements.{All-nil, All-cons, All-head, All-tail, All-append}
use Rattle.net_base.specs.Results.{◌>>=◌}
use Rattle.journal_words.specs.Readers.{Reader, parts, each, list}
use Rattle.journal_words.specs.Words.{list_text}
use Rattle.journal_words.proofs.Marks.{Apart, parts_back}
use Rattle.journal_words.proofs.Steps.{bind, if_no, other_bytes}

-- a value whose text is read back as it, has no comma, and isn't `-`
pub record IsItem {A : Type 0} (read : Reader A) (write : A → List ℕ) (x : A) : Type 0 where
  pub back : read (write x) ≡ Ok x
  pub apart : Apart 44 (write x)
  pub some : write x ≢ codes "-"

module _ {A : Type 0} (read : Reader A) (write : A → List ℕ) where
  each_back : (xs : List A) → All (IsItem read write) xs → each read (map write xs) ≡ Ok xs
  each_back [] all = refl
  each_back (x ∷ xs) all =
      bind (read (write x)) x (λ y. each read (map write xs) >>= λ ys. Ok (y ∷ ys)) (All-head (IsItem read write) x xs all).back
      ∙ bind (each read (map write xs)) xs (λ ys. Ok (x ∷ ys)) (each_back xs (All-tail (IsItem read write) x xs all))

  all_apart : (xs : List A) → All (IsItem read write) xs → All (Apart 44) (map write xs)
  all_apart [] all = All-nil (Apart 44)
  all_apart (x ∷ xs) all =
      All-cons (Apart 44) (write x) (map write xs) (All-head (IsItem read write) x xs all).apart (all_apart xs (All-tail (IsItem read write) x xs all))

  parts_of : (x : A) (xs : List A) → All (IsItem read write) (x ∷ xs) → parts 44 (list_text (map write (x ∷ xs))) ≡ map write (x ∷ xs)
  parts_of x xs all =
      parts_back 44 (write x) (map write xs) (All-head (IsItem read write) x xs all).apart (all_apart xs (All-tail (IsItem read write) x xs all))

  dash_parts : parts 44 (codes "-") ≡ codes "-" ∷ []
  dash_parts = refl

  no_dash : (x : A) (xs : List A) → All (IsItem read write) (x ∷ xs) → list_text (map write (x ∷ xs)) ≢ codes "-"
  no_dash x xs all is =
      let cut = sym (parts_of x xs all) ∙ ap (parts 44) is in
      let same : write x ≡ codes "-" = cc in
      (All-head (IsItem read write) x xs all).some same

  pub list_back : (xs : List A) → All (IsItem read write) xs → list read (list_text (map write xs)) ≡ Ok xs
  list_back [] all = refl
  list_back (x ∷ xs) all =
      if_no _ (Ok []) _ (other_bytes (list_text (map write (x ∷ xs))) (codes "-") (no_dash x xs all))
      ∙ ap (each read) (parts_of x xs all) ∙ each_back (x ∷ xs) all

-- what holds of each by a fact and a test
pub both_all : {A : Type 0} (P Q : A → Type 0) (test : A → Bool) → ((x : A) → P x → test x ≡ true → Q x) → (xs : List A) → All P xs → list_all test xs ≡ true → All Q xs
both_all P Q test f [] all h = All-nil Q
both_all P Q test f (x ∷ xs) all h =
    let each = and_parts (test x) (list_all test xs) h in
    All-cons Q x xs (f x (All-head P x xs all) each.0) (both_all P Q test f xs (All-tail P x xs all) each.1)

-- what holds of a comma, of `-` and of all items' octets holds of the list's
pub list_text_all : (P : ℕ → Type 0) → P 44 → P 45 → (words : List (List ℕ)) → All (All P) words → All P (list_text words)
list_text_all P comma dash [] all = All-cons P 45 [] dash (All-nil P)
list_text_all P comma dash (word ∷ words) all =
    All-append P word _ (All-head (All P) word words all) (behind words (All-tail (All P) word words all))
  where
    behind : (more : List (List ℕ)) → All (All P) more → All P (flat_map (λ other. 44 ∷ other) more)
    behind [] rest = All-nil P
    behind (next ∷ more) rest =
        All-cons P 44 _ comma (All-append P next _ (All-head (All P) next more rest) (behind more (All-tail (All P) next more rest)))
