-- Items by their numbers, where a list was changed: at one number, at each, or at its end.
use Rattle.std.proofs.Common.{◌≡◌, ◌-◌, ℕ, zero, suc, List, [], ◌∷◌, ◌++◌, Option, Some, None, false, inl, inr, refl, sym, ap, subst, ◌∙◌, arith, slice_get, slice_set, cond, ◌==◌, map, option_map, replicate}
use Rattle.std.proofs.lemmas.Bool.{cases_eq, ne_eqb}
use Rattle.std.proofs.lemmas.Option.{slice_get-map}
use Rattle.model_authority.proofs.NumberLemmas.{option_cases, numbered_at}
use Rattle.model_authority.specs.Lists.{numbered, with_item, edit}

-- ---- at no number

pub none_numbered : (A : Type 0) (number : ℕ) → numbered {A = A} number [] ≡ None
unfolding numbered
none_numbered A zero = refl
none_numbered A (suc k) = numbered_at {A = A} [] k

-- ---- at one place

set_same : {A : Type 0} (xs : List A) (k : ℕ) (x y : A) → slice_get xs k ≡ Some x → slice_get (slice_set xs k y) k ≡ Some y
set_same [] k x y h = absurd cc
set_same (z ∷ xs) zero x y h = refl
set_same (z ∷ xs) (suc k) x y h = set_same xs k x y h

set_other : {A : Type 0} (xs : List A) (k j : ℕ) (y : A) → (j ≡ k → ⊥) → slice_get (slice_set xs k y) j ≡ slice_get xs j
set_other [] k j y h = refl
set_other (z ∷ xs) zero zero y h = absurd (h refl)
set_other (z ∷ xs) zero (suc j) y h = refl
set_other (z ∷ xs) (suc k) zero y h = refl
set_other (z ∷ xs) (suc k) (suc j) y h = set_other xs k j y (λ e. h (ap suc e))

-- ---- at one number

edit_place : {A : Type 0} (k : ℕ) (f : A → A) (xs : List A) → edit (suc k) f xs ≡ with_item xs k f (slice_get xs k)
unfolding edit
edit_place k f xs =
    let not_first : (suc k == 0) ≡ false = ne_eqb (suc k) 0 (λ e. absurd (omega arith)) in
    let e : suc k - 1 ≡ k = omega arith in
    ap (λ b. cond b xs (with_item xs (suc k - 1) f (slice_get xs (suc k - 1)))) not_first ∙ ap (λ i. with_item xs i f (slice_get xs i)) e

-- the item itself
pub edit_here : {A : Type 0} (number : ℕ) (f : A → A) (xs : List A) (x : A) → numbered number xs ≡ Some x → numbered number (edit number f xs) ≡ Some (f x)
unfolding numbered
edit_here zero f xs x h = absurd cc
edit_here (suc k) f xs x h =
    let at : slice_get xs k ≡ Some x = sym (numbered_at xs k) ∙ h in
    let e : edit (suc k) f xs ≡ slice_set xs k (f x) = edit_place k f xs ∙ ap (with_item xs k f) at in
    ap (numbered (suc k)) e ∙ numbered_at (slice_set xs k (f x)) k ∙ set_same xs k x (f x) at

pub edit_none : {A : Type 0} (number : ℕ) (f : A → A) (xs : List A) → numbered number xs ≡ None → edit number f xs ≡ xs
unfolding edit
edit_none zero f xs h = refl
edit_none (suc k) f xs h = edit_place k f xs ∙ ap (with_item xs k f) (sym (numbered_at xs k) ∙ h)

-- each other item
pub edit_other : {A : Type 0} (number n : ℕ) (f : A → A) (xs : List A) → (n ≡ number → ⊥) → numbered n (edit number f xs) ≡ numbered n xs
unfolding edit numbered
edit_other zero n f xs h = refl
edit_other (suc k) zero f xs h = refl
edit_other {A} (suc k) (suc j) f xs h =
    ap (numbered (suc j)) (edit_place k f xs) ∙ numbered_at (with_item xs k f (slice_get xs k)) j ∙ by (slice_get xs k) ∙ sym (numbered_at xs j)
  where
    by : (o : Option A) → slice_get (with_item xs k f o) j ≡ slice_get xs j
    by None = refl
    by (Some x) = set_other xs k j (f x) (λ e. h (ap suc e))

-- what holds between each item and itself, and between the edited item before and after, holds at each number
pub edit_at : {A : Type 0} (R : Option A → Option A → Type 0) (number n : ℕ) (f : A → A) (xs : List A) → ((o : Option A) → R o o) →
    ((x : A) → numbered number xs ≡ Some x → R (Some x) (Some (f x))) → R (numbered n xs) (numbered n (edit number f xs))
edit_at {A} R number n f xs same changed =
    elim (cases_eq n number) [
      | inl e ↦ subst (λ i. R (numbered i xs) (numbered i (edit number f xs))) (sym e) here
      | inr e ↦ subst (R (numbered n xs)) (sym (edit_other number n f xs e)) (same (numbered n xs))
    ]
  where
    here : R (numbered number xs) (numbered number (edit number f xs))
    here = elim (option_cases (numbered number xs)) [
      | inl e ↦ subst (λ ys. R (numbered number xs) (numbered number ys)) (sym (edit_none number f xs e)) (same (numbered number xs))
      | inr e ↦ subst (λ o. R o (numbered number (edit number f xs))) (sym e.1) (subst (R (Some e.0)) (sym (edit_here number f xs e.0 e.1)) (changed e.0 e.1))
    ]

-- ---- at each number

pub map_at : {A : Type 0} (R : Option A → Option A → Type 0) (n : ℕ) (f : A → A) (xs : List A) → R None None →
    ((x : A) → R (Some x) (Some (f x))) → R (numbered n xs) (numbered n (map f xs))
unfolding numbered
map_at R zero f xs none changed = none
map_at {A} R (suc k) f xs none changed =
    let e : numbered (suc k) (map f xs) ≡ option_map f (numbered (suc k) xs) = numbered_at (map f xs) k ∙ slice_get-map f xs k ∙ ap (option_map f) (sym (numbered_at xs k)) in
    subst (R (numbered (suc k) xs)) (sym e) (by (numbered (suc k) xs))
  where
    by : (o : Option A) → R o (option_map f o)
    by None = none
    by (Some x) = changed x

-- ---- at the end

append_place : {A : Type 0} (R : Option A → Option A → Type 0) (k : ℕ) (xs ys : List A) → ((o : Option A) → R o o) →
    ((i : ℕ) (y : A) → slice_get ys i ≡ Some y → R None (Some y)) → R (slice_get xs k) (slice_get (xs ++ ys) k)
append_place R k [] ys same new =
    elim (option_cases (slice_get ys k)) [
      | inl e ↦ subst (R None) (sym e) (same None)
      | inr e ↦ subst (R None) (sym e.1) (new k e.0 e.1)
    ]
append_place R zero (x ∷ xs) ys same new = same (Some x)
append_place R (suc k) (x ∷ xs) ys same new = append_place R k xs ys same new

-- what holds between each item and itself, and between no item and each that is added, holds at each number
pub append_at : {A : Type 0} (R : Option A → Option A → Type 0) (n : ℕ) (xs ys : List A) → ((o : Option A) → R o o) →
    ((i : ℕ) (y : A) → slice_get ys i ≡ Some y → R None (Some y)) → R (numbered n xs) (numbered n (xs ++ ys))
unfolding numbered
append_at R zero xs ys same new = same None
append_at R (suc k) xs ys same new =
    subst (λ o. R o (numbered (suc k) (xs ++ ys))) (sym (numbered_at xs k))
    (subst (R (slice_get xs k)) (sym (numbered_at (xs ++ ys) k)) (append_place R k xs ys same new))

pub each_replicate : {A : Type 0} (P : A → Type 0) (m : ℕ) (x : A) → P x → (i : ℕ) (y : A) → slice_get (replicate m x) i ≡ Some y → P y
each_replicate P zero x h i y e = absurd cc
each_replicate P (suc m) x h zero y e = let same : x ≡ y = cc in subst P same h
each_replicate P (suc m) x h (suc i) y e = each_replicate P m x h i y e

pub each_one : {A : Type 0} (P : A → Type 0) (x : A) → P x → (i : ℕ) (y : A) → slice_get (x ∷ []) i ≡ Some y → P y
each_one P x h zero y e = let same : x ≡ y = cc in subst P same h
each_one P x h (suc i) y e = absurd cc
