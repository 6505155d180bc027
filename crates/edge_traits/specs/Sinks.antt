-- What contracts see of a sink for octets.
use Rattle.std.specs.Prelude.{◌≡◌, ℕ, ◌≤◌, List, length, take, Option}
use Rattle.edge_traits.specs.declared.sink.SinkWrite.{SinkWrite}
use Rattle.edge_traits.specs.declared.sink.SinkWrite.TheVariants.{Took, Failed, NoMem}
use Rattle.edge_traits.specs.Counts.{Rose}
use Rattle.edge_traits.specs.Told.{Grew}

-- its count of faults, and the octets that were written, where it tells them
pub record SinkView : Type 0 where
  pub faults : ℕ
  pub written : Option (List ℕ)

-- a write of which n octets were taken; none counts as a fault
pub record SinkTook (before after : SinkView) (piece : List ℕ) (n : ℕ) : Type 0 where
  pub fits : n ≤ length piece
  pub faults : before.faults ≤ after.faults
  pub none : n ≡ 0 → Rose before.faults after.faults
  pub written : Grew before.written (take n piece) after.written

-- a write that failed
pub record SinkFailed (before after : SinkView) : Type 0 where
  pub faults : Rose before.faults after.faults
  pub kept : before.faults ≤ after.faults
  pub written : after.written ≡ before.written

-- a write of the piece; without memory nothing has changed
abbrev pub SinkWrites : SinkView → List ℕ → SinkWrite → SinkView → Type 0
SinkWrites before piece (Took n) after = SinkTook before after piece n
SinkWrites before piece Failed after = SinkFailed before after
SinkWrites before piece NoMem after = after ≡ before
