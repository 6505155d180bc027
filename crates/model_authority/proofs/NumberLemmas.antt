-- Items by their numbers, and by their places from 0.
use Rattle.std.proofs.Common.{◌≡◌, ◌+◌, ◌-◌, ◌⊎◌, ℕ, zero, suc, List, ◌∷◌, Option, Some, None, Bool, false, inl, inr, refl, sym, ap, subst, ◌∙◌, arith, slice_get, IsTrue, IsSomeAnd, cond, ◌==◌}
use Rattle.std.proofs.lemmas.Bool.{ne_eqb}
use Rattle.model_authority.specs.Lists.{numbered, Passes}

pub option_cases : {A : Type 0} (o : Option A) → (o ≡ None) ⊎ ((x : A) × (o ≡ Some x))
option_cases None = inl refl
option_cases (Some x) = inr (x, refl)

pub value_and : {A : Type 0} (o : Option A) (P : A → Type 0) → IsSomeAnd o P → (x : A) × (o ≡ Some x) × P x
value_and None P h = absurd h
value_and (Some x) P h = (x, refl, h)

pub and_value : {A : Type 0} (o : Option A) (P : A → Type 0) (x : A) → o ≡ Some x → P x → IsSomeAnd o P
and_value o P x e h = subst (λ q. IsSomeAnd q P) (sym e) h

abbrev none_of : (A : Type 0) → Option A
none_of A = None

pub numbered_at : {A : Type 0} (xs : List A) (k : ℕ) → numbered (suc k) xs ≡ slice_get xs k
unfolding numbered
numbered_at {A} xs k =
    let f : (suc k == 0) ≡ false = ne_eqb (suc k) 0 (λ e. absurd (omega arith)) in
    let e : suc k - 1 ≡ k = omega arith in
    ap (λ b. cond b (none_of A) (slice_get xs (suc k - 1))) f ∙ ap (λ i. slice_get xs i) e

-- the item of this number stands at the place one less
pub place_of : {A : Type 0} (xs : List A) (number : ℕ) (x : A) → numbered number xs ≡ Some x → (k : ℕ) × (number ≡ suc k) × (slice_get xs k ≡ Some x)
unfolding numbered
place_of xs zero x h = absurd cc
place_of xs (suc k) x h = (k, refl, sym (numbered_at xs k) ∙ h)

pub passing : {A : Type 0} (test : ℕ → A → Bool) (xs : List A) (number : ℕ) → Passes test xs number → (x : A) × (numbered number xs ≡ Some x) × IsTrue (test number x)
passing test xs number h = value_and (numbered number xs) (λ x. IsTrue (test number x)) h

pub passes : {A : Type 0} (test : ℕ → A → Bool) (xs : List A) (number : ℕ) (x : A) → numbered number xs ≡ Some x → IsTrue (test number x) → Passes test xs number
passes test xs number x e h = and_value (numbered number xs) (λ y. IsTrue (test number y)) x e h

-- the number of an item that passes, with its place
pub passing_at : {A : Type 0} (test : ℕ → A → Bool) (xs : List A) (number : ℕ) → Passes test xs number →
    (k : ℕ) × (x : A) × (number ≡ suc k) × (slice_get xs k ≡ Some x) × IsTrue (test number x)
passing_at test xs number h =
    let p = passing test xs number h in
    let q = place_of xs number p.0 p.1 in
    (q.0, p.0, q.1, q.2, p.2)

-- what holds of the first item and of each after it holds of each, where the first has the number first
pub each_item : {A : Type 0} (P : ℕ → A → Type 0) (first : ℕ) (x : A) (xs : List A) → P first x →
    ((k : ℕ) (y : A) → slice_get xs k ≡ Some y → P (first + 1 + k) y) → (k : ℕ) (y : A) → slice_get (x ∷ xs) k ≡ Some y → P (first + k) y
each_item P first x xs here after zero y e =
    let s : first ≡ first + 0 = omega arith in
    let same : x ≡ y = cc in
    subst (λ i. P i y) s (subst (P first) same here)
each_item P first x xs here after (suc k) y e =
    let s : first + 1 + k ≡ first + suc k = omega arith in
    subst (λ i. P i y) s (after k y e)
