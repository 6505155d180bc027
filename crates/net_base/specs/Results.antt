-- Steps of which each may have a fault: the first fault is that of all.
use Rattle.std.specs.Prelude.{◌≡◌, ◌⊎◌, ⊤, Bool, Result, Ok, Err, MatchResult, if◌then◌else◌}

infixl 10 ◌>>=◌ ◌>>◌
-- this step, and the next with what it gave
abbrev pub ◌>>=◌ : {A B E : Type 0} → Result A E → (A → Result B E) → Result B E
◌>>=◌ (Ok x) next = next x
◌>>=◌ (Err e) next = Err e

-- this step, and the next
abbrev pub ◌>>◌ : {A B E : Type 0} → Result A E → Result B E → Result B E
◌>>◌ (Ok x) next = next
◌>>◌ (Err e) next = Err e

-- the test is passed, or there is this fault
abbrev pub demand : {E : Type 0} → Bool → E → Result ⊤ E
demand test fault = if test then Ok tt else Err fault

-- the result is the expected one, where its value is seen so, unless memory ran out, which this fault says
abbrev pub GivesSeen : {T U E : Type 0} → E → (T → U) → Result T E → Result U E → Type 0
GivesSeen lacks seen result expected = MatchResult result (λ x. expected ≡ Ok (seen x)) (λ e. (expected ≡ Err e) ⊎ (e ≡ lacks))
