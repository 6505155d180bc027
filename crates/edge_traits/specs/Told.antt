-- Lists that an object may tell: Some of the list, or None where it doesn't tell.
use Rattle.std.specs.Prelude.{◌≡◌, ◌⊎◌, ℕ, List, [], ◌++◌, Option, None, Some}

-- the items were added at the end; what isn't told stays untold
abbrev pub Grew : {A : Type 0} → Option (List A) → List A → Option (List A) → Type 0
Grew None more after = after ≡ None
Grew (Some before) more after = after ≡ Some (before ++ more)

-- the octets were taken from the front; what isn't told stays untold
abbrev pub Gave : Option (List ℕ) → List ℕ → Option (List ℕ) → Type 0
Gave None given after = after ≡ None
Gave (Some before) given None = ⊥
Gave (Some before) given (Some after) = before ≡ given ++ after

-- what is told stays, or is told no longer
abbrev pub StaysIfTold : {A : Type 0} → Option (List A) → Option (List A) → Type 0
StaysIfTold before after = (after ≡ before) ⊎ (after ≡ None)

-- there is nothing, where it is told
abbrev pub IsNoneLeft : {A : Type 0} → Option (List A) → Type 0
IsNoneLeft None = Unit {0}
IsNoneLeft (Some items) = items ≡ []
