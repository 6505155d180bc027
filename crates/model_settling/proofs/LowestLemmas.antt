-- The lowest-numbered item that passes a test: what computes it is what defines it.
use Rattle.std.proofs.Common.{◌≡◌, ◌<◌, ◌+◌, ◌⊎◌, ℕ, suc, List, [], ◌∷◌, Option, Some, None, Bool, true, false, cond, inl, inr, refl, sym, ap, ◌∙◌, arith, slice_get, is_some}
use Rattle.std.specs.List.{list_any}
use Rattle.std.specs.Prelude.{◌||◌}
use Rattle.std.proofs.lemmas.Bool.{cases_order}
use Rattle.model_authority.proofs.NumberLemmas.{option_cases, numbered_at, passing_at, passes, each_item}
use Rattle.model_settling.specs.Due.{lowest_from, lowest_of}
use Rattle.model_authority.specs.Lists.{numbered, Passes, IsLowest}

-- where the items are numbered from first, the item at this place is the first that passes
pub record IsFirstAt {A : Type 0} (test : ℕ → A → Bool) (first : ℕ) (xs : List A) (number : ℕ) : Type 0 where
  pub at : ℕ
  pub x : A
  pub is_item : slice_get xs at ≡ Some x
  pub is_number : number ≡ first + at
  pub passes : test number x ≡ true
  pub none_lower : (k : ℕ) (y : A) → slice_get xs k ≡ Some y → first + k < number → test (first + k) y ≡ true → ⊥

here_or_later : (b : Bool) (number : ℕ) (rest : Option ℕ) (n : ℕ) → cond b (Some number) rest ≡ Some n →
    ((b ≡ true) × (number ≡ n)) ⊎ ((b ≡ false) × (rest ≡ Some n))
here_or_later true number rest n h = inl (refl, cc)
here_or_later false number rest n h = inr (refl, h)

neither : (b : Bool) (number : ℕ) (rest : Option ℕ) → cond b (Some number) rest ≡ None → (b ≡ false) × (rest ≡ None)
neither true number rest h = absurd cc
neither false number rest h = (refl, h)

pub lowest_from_is : {A : Type 0} (test : ℕ → A → Bool) (first : ℕ) (xs : List A) (n : ℕ) → lowest_from test first xs ≡ Some n → IsFirstAt test first xs n
unfolding lowest_from
lowest_from_is test first [] n h = absurd cc
lowest_from_is test first (x ∷ xs) n h =
    elim (here_or_later (test first x) first (lowest_from test (first + 1) xs) n h) [
      | inl k ↦ record {
        at = 0;
        x = x;
        is_item = refl;
        is_number = omega (arith, k.1);
        passes = ap (λ i. test i x) (sym k.1) ∙ k.0;
        none_lower = λ j y e lt t. absurd (omega (arith, k.1));
      }
      | inr k ↦
          let r = lowest_from_is test (first + 1) xs n k.1 in
          record {
            at = suc r.at;
            x = r.x;
            is_item = r.is_item;
            is_number = omega (arith, r.is_number);
            passes = r.passes;
            none_lower = each_item (λ i y. i < n → test i y ≡ true → ⊥) first x xs (λ lt t. absurd (cc (k.0, t))) r.none_lower;
          }
    ]

pub lowest_from_none : {A : Type 0} (test : ℕ → A → Bool) (first : ℕ) (xs : List A) → lowest_from test first xs ≡ None →
    (k : ℕ) (y : A) → slice_get xs k ≡ Some y → test (first + k) y ≡ true → ⊥
unfolding lowest_from
lowest_from_none test first [] h k y e t = absurd cc
lowest_from_none test first (x ∷ xs) h k y e t =
    let r = neither (test first x) first (lowest_from test (first + 1) xs) h in
    each_item (λ i y. test i y ≡ true → ⊥) first x xs (λ u. absurd (cc (r.0, u))) (lowest_from_none test (first + 1) xs r.1) k y e t

pub lowest_is : {A : Type 0} (test : ℕ → A → Bool) (xs : List A) (n : ℕ) → lowest_of test xs ≡ Some n → IsLowest test xs n
lowest_is test xs n h =
    let r = lowest_from_is test 1 xs n h in
    let e : n ≡ suc r.at = omega (arith, r.is_number) in
    record {
      passes = passes test xs n r.x (ap (λ i. numbered i xs) e ∙ numbered_at xs r.at ∙ r.is_item) r.passes;
      none_lower = λ other lt p.
          let q = passing_at test xs other p in
          let s : 1 + q.0 ≡ other = omega (arith, q.2) in
          let l : 1 + q.0 < n = omega (arith, s, lt) in
          r.none_lower q.0 q.1 q.3 l (ap (λ i. test i q.1) s ∙ q.4);
    }

pub lowest_none : {A : Type 0} (test : ℕ → A → Bool) (xs : List A) → lowest_of test xs ≡ None → (m : ℕ) → ¬ Passes test xs m
lowest_none test xs h m p =
    let q = passing_at test xs m p in
    let s : 1 + q.0 ≡ m = omega (arith, q.2) in
    lowest_from_none test 1 xs h q.0 q.1 q.3 (ap (λ i. test i q.1) s ∙ q.4)

pub lowest_unique : {A : Type 0} (test : ℕ → A → Bool) (xs : List A) (n m : ℕ) → IsLowest test xs n → IsLowest test xs m → n ≡ m
lowest_unique test xs n m h k =
    elim (cases_order n m) [
      | inl e ↦ e
      | inr (inl l) ↦ absurd (k.none_lower n l h.passes)
      | inr (inr l) ↦ absurd (h.none_lower m l k.passes)
    ]

pub lowest_back : {A : Type 0} (test : ℕ → A → Bool) (xs : List A) (n : ℕ) → IsLowest test xs n → lowest_of test xs ≡ Some n
lowest_back test xs n h =
    elim (option_cases (lowest_of test xs)) [
      | inl e ↦ absurd (lowest_none test xs e n h.passes)
      | inr k ↦ k.1 ∙ ap (λ (i : ℕ). Some i) (lowest_unique test xs k.0 n (lowest_is test xs k.0 k.1) h)
    ]

-- a test that does not ask for the number
pub lowest_any : {A : Type 0} (p : A → Bool) (first : ℕ) (xs : List A) → list_any p xs ≡ is_some (lowest_from (λ number x. p x) first xs)
unfolding lowest_from
lowest_any p first [] = refl
lowest_any p first (x ∷ xs) = step (p x) first (list_any p xs) (lowest_from (λ number y. p y) (first + 1) xs) (lowest_any p (first + 1) xs)
  where
    step : (b : Bool) (number : ℕ) (c : Bool) (o : Option ℕ) → c ≡ is_some o → (b || c) ≡ is_some (cond b (Some number) o)
    step true number c o e = refl
    step false number c o e = e
