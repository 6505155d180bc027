-- Steps and tests of the readers, one at a time.
use Rattle.std.proofs.Common.{◌≡◌, ◌≢◌, ◌∙◌, sym, refl, ap, ℕ, not, ◌==◌, Bool, true, false, List, bytes_eq, Result, Ok, if◌then◌else◌, true≢false, eq-eqb}
use Rattle.std.proofs.lemmas.Slice.Eq.{bytes_eq-Decides}
use Rattle.net_base.specs.Results.{◌>>=◌}

-- a step that gave a value
pub bind : {A B E : Type 0} (r : Result A E) (x : A) (next : A → Result B E) → r ≡ Ok x → (r >>= next) ≡ next x
bind r x next is = ap (λ s. s >>= next) is

pub if_yes : {A : Type 0} (b : Bool) (x y : A) → b ≡ true → (if b then x else y) ≡ x
if_yes b x y h = ap (λ t. if t then x else y) h

pub if_no : {A : Type 0} (b : Bool) (x y : A) → b ≡ false → (if b then x else y) ≡ y
if_no b x y h = ap (λ t. if t then x else y) h

pub same_bytes : (xs : List ℕ) → bytes_eq xs xs ≡ true
same_bytes xs = (bytes_eq-Decides xs xs).1 refl

other : (b : Bool) (xs ys : List ℕ) → bytes_eq xs ys ≡ b → xs ≢ ys → b ≡ false
other true xs ys is apart = absurd (apart ((bytes_eq-Decides xs ys).0 is))
other false xs ys is apart = refl

pub other_bytes : (xs ys : List ℕ) → xs ≢ ys → bytes_eq xs ys ≡ false
other_bytes xs ys apart = other (bytes_eq xs ys) xs ys refl apart

-- a number that is not equal by its test
pub other_test : (b c : ℕ) → not (b == c) ≡ true → b ≢ c
other_test b c h is = true≢false (sym h ∙ ap not (eq-eqb b c is))
