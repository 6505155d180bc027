-- Items of a list by their numbers, which are counted from 1.
use Rattle.std.specs.Prelude.{◌≡◌, ◌<◌, ◌⊎◌, ℕ, List, [], ◌∷◌, ◌-◌, ◌==◌, Bool, true, false, Option, Some, None, if◌then◌else◌, IsTrue, IsSomeAnd, slice_get, slice_set}
use Rattle.std.specs.Borrow.{LendsIf, Fml, RattleType, MutBor, Array}

-- the item of this number
unfoldable pub numbered : {A : Type 0} → ℕ → List A → Option A
numbered number xs = if number == 0 then None else slice_get xs (number - 1)

-- where the item of this number is lent, the list ends with what is left there
abbrev pub lends_numbered : (T : RattleType) → MutBor (List T.Denot) → ℕ → Option (MutBor T.Denot) → Fml
lends_numbered T list number item = LendsIf (Array T 0) T list item (slice_set list.now (number - 1)) list.now

abbrev pub with_item : {A : Type 0} → List A → ℕ → (A → A) → Option A → List A
with_item xs i f None = xs
with_item xs i f (Some x) = slice_set xs i (f x)

-- f changes the item of this number, where there is one
unfoldable pub edit : {A : Type 0} → ℕ → (A → A) → List A → List A
edit number f xs = if number == 0 then xs else with_item xs (number - 1) f (slice_get xs (number - 1))

abbrev pub is_nil : {A : Type 0} → List A → Bool
is_nil [] = true
is_nil (x ∷ xs) = false

-- the item of this number passes the test, which may ask for the number
abbrev pub Passes : {A : Type 0} → (ℕ → A → Bool) → List A → ℕ → Type 0
Passes test xs number = IsSomeAnd (numbered number xs) (λ x. IsTrue (test number x))

-- the lowest-numbered item that passes the test
pub record IsLowest {A : Type 0} (test : ℕ → A → Bool) (xs : List A) (number : ℕ) : Type 0 where
  pub passes : Passes test xs number
  pub none_lower : (other : ℕ) → other < number → ¬ Passes test xs other

-- the first comes before the second: its key is less, or the keys are equal and its number is less
abbrev pub GoesBefore : ℕ → ℕ → ℕ → ℕ → Type 0
GoesBefore key number other_key other = (key < other_key) ⊎ ((key ≡ other_key) × (number < other))

-- of the items that pass the test, the one of this number has the least (key, number)
pub record IsLeast {A : Type 0} (test : ℕ → A → Bool) (key : A → ℕ) (xs : List A) (number : ℕ) : Type 0 where
  pub passes : Passes test xs number
  pub none_less : (x y : A) (other : ℕ) → numbered number xs ≡ Some x → numbered other xs ≡ Some y → IsTrue (test other y) → ¬ GoesBefore (key y) other (key x) number
