-- Sinks in memory, which tell all that was written.
use Rattle.std.specs.Prelude.{◌≡◌, ℕ, List, ◌++◌, length, take, min, Contains, Some}
use Rattle.edge_traits.specs.declared.sink.SinkWrite.{SinkWrite}
use Rattle.edge_traits.specs.declared.sink.SinkWrite.TheVariants.{Took, Failed, NoMem}
use Rattle.edge_traits.specs.Counts.{count_sum}
use Rattle.edge_traits.specs.Counted.{next_call}
use Rattle.edge_traits.specs.Sinks.{SinkView}
use Rattle.edge_traits.specs.declared.mem_sink.MemSink.{MemSink}
use Rattle.edge_traits.specs.declared.steady_sink.SteadySink.{SteadySink}

-- the octets that were written, how many it takes at most in a call, the numbers of the calls that fail, how many calls
-- there were, and how many of them failed
pub record SinkState : Type 0 where
  pub written : List ℕ
  pub piece : ℕ
  pub fails : List ℕ
  pub calls : ℕ
  pub faults : ℕ

abbrev pub sink_state : MemSink → SinkState
sink_state s = record { written = s.written.items; piece = s.piece; fails = s.fails.items; calls = s.calls; faults = s.faults }

abbrev pub sink_view : MemSink → SinkView
sink_view s = record { faults = s.faults; written = Some s.written.items }

-- a write that fails, as its number is listed
pub record WriteFails (before after : SinkState) : Type 0 where
  pub listed : Contains before.fails (next_call before.calls)
  pub becomes : after ≡ record before { calls = next_call before.calls; faults = count_sum before.faults 1 }

-- a write that takes the lesser of the piece and what one call takes
pub record WriteTakes (before after : SinkState) (piece : List ℕ) (n : ℕ) : Type 0 where
  pub unlisted : Contains before.fails (next_call before.calls) → ⊥
  pub least : n ≡ min (length piece) before.piece
  pub becomes : after ≡ record before { calls = next_call before.calls; written = before.written ++ take n piece }

-- a write for which there is no memory
pub record WriteLacks (before after : SinkState) : Type 0 where
  pub unlisted : Contains before.fails (next_call before.calls) → ⊥
  pub becomes : after ≡ before

-- what a write of the piece answers
abbrev pub SinkPlays : SinkState → List ℕ → SinkWrite → SinkState → Type 0
SinkPlays before piece (Took n) after = WriteTakes before after piece n
SinkPlays before piece Failed after = WriteFails before after
SinkPlays before piece NoMem after = WriteLacks before after

-- one that never fails
abbrev pub steady_view : SteadySink → SinkView
steady_view s = record { faults = 0; written = Some s.written }

-- what a write of the piece answers, by the octets that were written before and after
abbrev pub SteadyPlays : List ℕ → List ℕ → SinkWrite → List ℕ → Type 0
SteadyPlays before piece (Took n) after = (n ≡ length piece) × (after ≡ before ++ piece)
SteadyPlays before piece Failed after = ⊥
SteadyPlays before piece NoMem after = after ≡ before

-- the octets that were written
abbrev pub steady_written : SteadySink → List ℕ
steady_written s = s.written
