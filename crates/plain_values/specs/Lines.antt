-- Lines of octets. A line ends with LF (10).
use Rattle.std.specs.Prelude.{◌≢◌, ℕ, List, All}

-- no end of a line stands in it
abbrev pub IsInLine : List ℕ → Type 0
IsInLine text = All (λ b. b ≢ 10) text
