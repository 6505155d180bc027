-- The front of octets.
use Rattle.std.specs.Prelude.{◌≡◌, ℕ, List, length, take}

-- the octets begin so
abbrev pub IsFrontOf : List ℕ → List ℕ → Type 0
IsFrontOf front octets = take (length front) octets ≡ front
