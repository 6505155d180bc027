-- What reading a source to its end and writing a text to a sink come to.
use Rattle.std.specs.Prelude.{◌≡◌, ◌<◌, ◌≤◌, ℕ, List, ◌++◌, length, Option, None, Some, Result, Ok, Err}
use Rattle.plain_values.specs.declared.memory.NoMem.{NoMem}
use Rattle.plain_values.specs.Fronts.{IsFrontOf}
use Rattle.edge_traits.specs.Counts.{Rose}
use Rattle.edge_traits.specs.Told.{Grew}
use Rattle.edge_traits.specs.Sources.{SourceView}
use Rattle.edge_traits.specs.Sinks.{SinkView}
use Rattle.pool_run.specs.declared.streams.TheConstants.{MOST_INPUT}
use Rattle.pool_run.specs.declared.streams.Input.{Input}
use Rattle.pool_run.specs.declared.streams.Input.TheVariants.{All, TooMany, Failed}
use Rattle.pool_run.specs.declared.streams.Output.{Output}
use Rattle.pool_run.specs.declared.streams.Output.TheVariants as output

-- these are all octets that a source had left, where it tells them
abbrev pub IsAllOf : Option (List ℕ) → List ℕ → Type 0
IsAllOf None bytes = Unit {0}
IsAllOf (Some left) bytes = left ≡ bytes

-- the octets that a source had left begin with these, where it tells them
abbrev pub HadFront : Option (List ℕ) → List ℕ → Type 0
HadFront None bytes = Unit {0}
HadFront (Some left) bytes = IsFrontOf bytes left

-- an input is all octets that its source had left, at most so many
abbrev pub IsInput : Option (List ℕ) → List ℕ → Type 0
IsInput left bytes = IsAllOf left bytes × (length bytes ≤ MOST_INPUT)

-- a source has more octets left than an input may have
abbrev pub HasTooMany : Option (List ℕ) → Type 0
HasTooMany left = (bytes : List ℕ) × HadFront left bytes × (MOST_INPUT < length bytes)

-- a source is read to its end, or past the most octets of an input
abbrev pub ReadsInput : SourceView → Result Input NoMem → SourceView → Type 0
ReadsInput before (Ok (All bytes)) after = IsInput before.left bytes
ReadsInput before (Ok TooMany) after = HasTooMany before.left
ReadsInput before (Ok Failed) after = Rose before.faults after.faults
ReadsInput before (Err e) after = Unit {0}

-- a front of the text was written, but not all of it
abbrev pub WritesFront : SinkView → List ℕ → SinkView → Type 0
WritesFront before text after =
    (put : List ℕ) × (rest : List ℕ) × (text ≡ put ++ rest) × (0 < length rest) × Grew before.written put after.written

-- a text is written whole, or a front of it
abbrev pub WritesText : SinkView → List ℕ → Output → SinkView → Type 0
WritesText before text output.Whole after = Grew before.written text after.written
WritesText before text output.Failed after = Rose before.faults after.faults × WritesFront before text after
WritesText before text output.NoMem after = WritesFront before text after
