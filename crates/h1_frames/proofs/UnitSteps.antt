-- A machine over octets that finds the end of a unit.
use Rattle.std.specs.Prelude.{ℕ, ◌+◌, ◌==◌, List, [], ◌∷◌, Option, Some, None, option_map, if◌then◌else◌}
use Rattle.h1_frames.specs.declared.unit.Place.{Place}
use Rattle.h1_frames.specs.declared.unit.Place.TheVariants.{Blank, BlankReturn, Within, Behind, BehindReturn}

-- the place behind an octet, or None where the unit ends with it
abbrev pub step : Place → ℕ → Option Place
step Blank b = if b == 10 then Some Blank else (if b == 13 then Some BlankReturn else Some Within)
step BlankReturn b = if b == 10 then Some Blank else Some Within
step Within b = if b == 10 then Some Behind else Some Within
step Behind b = if b == 10 then None else (if b == 13 then Some BehindReturn else Some Within)
step BehindReturn b = if b == 10 then None else Some Within

-- one octet more, or the last
abbrev pub more_or_last : (Place → Option ℕ) → Option Place → Option ℕ
more_or_last more None = Some 1
more_or_last more (Some place) = option_map (λ n. n + 1) (more place)

-- how many octets are left to the end of the unit
abbrev pub left : Place → List ℕ → Option ℕ
left place [] = None
left place (b ∷ bytes) = more_or_last (λ after. left after bytes) (step place b)
