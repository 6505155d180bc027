-- Sources in memory, which tell all that they have left.
use Rattle.std.specs.Prelude.{◌≡◌, ℕ, ◌<◌, List, [], length, drop, min, Contains, Some}
use Rattle.edge_traits.specs.declared.source.SourceRead.{SourceRead}
use Rattle.edge_traits.specs.declared.source.SourceRead.TheVariants.{Got, End, Failed}
use Rattle.edge_traits.specs.Counts.{count_sum}
use Rattle.edge_traits.specs.Counted.{next_call}
use Rattle.edge_traits.specs.Sources.{SourceView}
use Rattle.edge_traits.specs.declared.mem_source.MemSource.{MemSource}
use Rattle.edge_traits.specs.declared.steady_source.SteadySource.{SteadySource}

-- the octets that it has left, how many it gives at most in a call, the numbers of the calls that fail, how many calls
-- there were, and how many of them failed
pub record SourceState : Type 0 where
  pub left : List ℕ
  pub piece : ℕ
  pub fails : List ℕ
  pub calls : ℕ
  pub faults : ℕ

abbrev pub source_state : MemSource → SourceState
source_state s = record { left = drop s.at s.bytes.items; piece = s.piece; fails = s.fails.items; calls = s.calls; faults = s.faults }

abbrev pub source_view : MemSource → SourceView
source_view s = record { faults = s.faults; left = Some (drop s.at s.bytes.items) }

-- a read that fails, as its number is listed
pub record ReadFails (before after : SourceState) : Type 0 where
  pub listed : Contains before.fails (next_call before.calls)
  pub becomes : after ≡ record before { calls = next_call before.calls; faults = count_sum before.faults 1 }

-- a read that finds nothing left
pub record ReadEnds (before after : SourceState) : Type 0 where
  pub unlisted : Contains before.fails (next_call before.calls) → ⊥
  pub none_left : before.left ≡ []
  pub becomes : after ≡ record before { calls = next_call before.calls }

-- a read that gives the least of what is left, what the buffer holds and what one call gives
pub record ReadGives (before after : SourceState) (size n : ℕ) : Type 0 where
  pub unlisted : Contains before.fails (next_call before.calls) → ⊥
  pub some : 0 < n
  pub least : n ≡ min (min (length before.left) size) before.piece
  pub becomes : after ≡ record before { calls = next_call before.calls; left = drop n before.left }

-- what a read into a buffer of this size answers
abbrev pub SourcePlays : SourceState → ℕ → SourceRead → SourceState → Type 0
SourcePlays before size (Got n) after = ReadGives before after size n
SourcePlays before size End after = ReadEnds before after
SourcePlays before size Failed after = ReadFails before after

-- one that never fails
abbrev pub steady_view : SteadySource → SourceView
steady_view s = record { faults = 0; left = Some (drop s.at s.bytes.items) }

-- a read that gives all that is left, or as much as the buffer holds
pub record SteadyGives (before after : List ℕ) (size n : ℕ) : Type 0 where
  pub some : 0 < n
  pub least : n ≡ min (length before) size
  pub becomes : after ≡ drop n before

-- what a read into a buffer of this size answers, by the octets that are left before and after
abbrev pub SteadyPlays : List ℕ → ℕ → SourceRead → List ℕ → Type 0
SteadyPlays before size (Got n) after = SteadyGives before after size n
SteadyPlays before size End after = (before ≡ []) × (after ≡ [])
SteadyPlays before size Failed after = ⊥

-- the octets that it has left
abbrev pub steady_left : SteadySource → List ℕ
steady_left s = drop s.at s.bytes.items
