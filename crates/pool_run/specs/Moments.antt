-- The moments of a run by turns.
use Rattle.std.specs.Prelude.{ℕ, ◌*◌, min}

-- the moment of a round, in milliseconds: ten for each round before it, up to the last multiple of ten of 64 bits
abbrev pub moment_of : ℕ → ℕ
moment_of round = min (10 * round) 18446744073709551610
