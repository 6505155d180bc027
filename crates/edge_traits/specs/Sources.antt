-- What contracts see of a source of octets.
use Rattle.std.specs.Prelude.{◌≡◌, ℕ, ◌≤◌, List, take, Option}
use Rattle.edge_traits.specs.declared.source.SourceRead.{SourceRead}
use Rattle.edge_traits.specs.declared.source.SourceRead.TheVariants.{Got, End, Failed}
use Rattle.edge_traits.specs.Counts.{Rose}
use Rattle.edge_traits.specs.Told.{Gave, IsNoneLeft}

-- its count of faults, and the octets that it has left, where it tells them
pub record SourceView : Type 0 where
  pub faults : ℕ
  pub left : Option (List ℕ)

-- a read that gave n octets, which stand at the front of the buffer; none means that there are none left
pub record SourceGave (before after : SourceView) (size : ℕ) (buffer : List ℕ) (n : ℕ) : Type 0 where
  pub fits : n ≤ size
  pub faults : before.faults ≤ after.faults
  pub left : Gave before.left (take n buffer) after.left
  pub ended : n ≡ 0 → IsNoneLeft before.left

-- a read at the end
pub record SourceEnded (before after : SourceView) : Type 0 where
  pub faults : before.faults ≤ after.faults
  pub left : after.left ≡ before.left
  pub ended : IsNoneLeft before.left

-- a read that failed
pub record SourceFailed (before after : SourceView) : Type 0 where
  pub faults : Rose before.faults after.faults
  pub kept : before.faults ≤ after.faults
  pub left : after.left ≡ before.left

-- a read into a buffer of this size, and the buffer afterwards
abbrev pub SourceReads : SourceView → ℕ → List ℕ → SourceRead → SourceView → Type 0
SourceReads before size buffer (Got n) after = SourceGave before after size buffer n
SourceReads before size buffer End after = SourceEnded before after
SourceReads before size buffer Failed after = SourceFailed before after
