-- A link that plays a script, which tells all that was written and received.
use Rattle.std.specs.Prelude.{◌≡◌, ℕ, ◌-◌, ◌<◌, List, [], ◌∷◌, length, take, drop, min, Contains, Option, None, Some}
use Rattle.net_base.specs.declared.numbers.ConnNo.{ConnNo}
use Rattle.edge_traits.specs.Counts.{Counts, no_counts}
use Rattle.edge_traits.specs.Counted.{next_call, one_fault, one_read_quiet, one_end, ends_after}
use Rattle.edge_traits.specs.Links.{Place, LinkView, IsWithinAllowance}
use Rattle.edge_traits.specs.BookLinks.{counts_of}
use Rattle.edge_traits.specs.declared.link_step.LinkStep.{LinkStep}
use Rattle.edge_traits.specs.declared.link_step.LinkStep.TheVariants.{Give, Quiet, End, Fail}
use Rattle.edge_traits.specs.declared.link.LinkRead.{LinkRead}
use Rattle.edge_traits.specs.declared.link.LinkRead.TheVariants as reading
use Rattle.edge_traits.specs.declared.link.LinkWrite.{LinkWrite}
use Rattle.edge_traits.specs.declared.link.LinkWrite.TheVariants as writing
use Rattle.edge_traits.specs.declared.script_link.ScriptLink.{ScriptLink}

-- the place of a scripted link: its mark is its allowance
abbrev pub place_at : Option ConnNo → ℕ → Option Place
place_at None allowance = None
place_at (Some conn) allowance = Some (record { conn = conn.0; mark = allowance ∷ [] })

abbrev pub link_view : ScriptLink → LinkView
link_view s = record {
  place = place_at s.conn s.allowance;
  allowance = s.allowance;
  gave = length s.received.items;
  took = length s.written.items;
  counts = counts_of s.tally;
  written = Some s.written.items;
  received = Some s.received.items;
}

pub link_within : (s : ScriptLink) → IsWithinAllowance (link_view s)
link_within s = record { gave = s.within; took = s.fits }

-- a link of which nothing was asked yet
abbrev pub new_link : Option ConnNo → ℕ → LinkView
new_link conn allowance = record {
  place = place_at conn allowance;
  allowance = allowance;
  gave = 0;
  took = 0;
  counts = no_counts;
  written = Some [];
  received = Some [];
}

-- the steps that are left, the first of which may be what is left of a Give; the numbers of the writes that fail; how
-- many writes there were; and the counts
pub record ScriptState : Type 0 where
  pub script : List LinkStep
  pub write_fails : List ℕ
  pub writes : ℕ
  pub counts : Counts

-- the steps after so many octets of the first were given
abbrev pub given : ℕ → List LinkStep → List LinkStep
given n [] = []
given n (Give octets ∷ rest) = Give (drop n octets) ∷ rest
given n (Quiet ∷ rest) = Quiet ∷ rest
given n (End ∷ rest) = End ∷ rest
given n (Fail ∷ rest) = Fail ∷ rest

abbrev pub script_state : ScriptLink → ScriptState
script_state s = record {
  script = given s.at.offset (drop s.at.step s.steps);
  write_fails = s.write_fails.items;
  writes = s.writes;
  counts = counts_of s.tally;
}

-- a script of which no step was taken
abbrev pub new_script : List LinkStep → List ℕ → ScriptState
new_script steps write_fails = record { script = steps; write_fails = write_fails; writes = 0; counts = no_counts }

-- the link after the next step was taken, with these counts
abbrev pub step_taken : ScriptState → List LinkStep → Counts → ScriptState
step_taken before rest counts = record before { script = rest; counts = counts }

-- the steps where these octets of a Give are left: without any the Give is done
abbrev pub give_left : List ℕ → List LinkStep → List LinkStep
give_left [] rest = rest
give_left (octet ∷ more) rest = Give (octet ∷ more) ∷ rest

-- a Give gives as much as there is room for; where it has no octets, that is an end
pub record StepGives (octets : List ℕ) (rest : List LinkStep) (before after : ScriptState) (room : ℕ) (buffer : List ℕ) (n : ℕ) : Type 0 where
  pub least : n ≡ min (length octets) room
  pub octets_given : take n buffer ≡ take n octets
  pub becomes : after ≡ step_taken before (give_left (drop n octets) rest) (record before.counts { ends = ends_after before.counts.ends n })

-- what a read answers whose step is a Give of these octets; without memory nothing has changed
abbrev pub GivesStep : List ℕ → List LinkStep → ScriptState → ℕ → List ℕ → LinkRead → ScriptState → Type 0
GivesStep octets rest before room buffer (reading.Got n) after = StepGives octets rest before after room buffer n
GivesStep octets rest before room buffer reading.Quiet after = ⊥
GivesStep octets rest before room buffer reading.End after = ⊥
GivesStep octets rest before room buffer reading.Failed after = ⊥
GivesStep octets rest before room buffer reading.NoMem after = after ≡ before

-- a read that has this much room takes the next step of the script: past the last one it is quiet, and an End stays
abbrev pub TakesStep : List LinkStep → ScriptState → ℕ → List ℕ → LinkRead → ScriptState → Type 0
TakesStep [] before room buffer answer after = (answer ≡ reading.Quiet) × (after ≡ step_taken before [] (one_read_quiet before.counts))
TakesStep (Quiet ∷ rest) before room buffer answer after = (answer ≡ reading.Quiet) × (after ≡ step_taken before rest (one_read_quiet before.counts))
TakesStep (End ∷ rest) before room buffer answer after = (answer ≡ reading.End) × (after ≡ step_taken before (End ∷ rest) (one_end before.counts))
TakesStep (Fail ∷ rest) before room buffer answer after = (answer ≡ reading.Failed) × (after ≡ step_taken before rest (one_fault before.counts))
TakesStep (Give octets ∷ rest) before room buffer answer after = GivesStep octets rest before room buffer answer after

-- what a read of a link answers that gave so much of its allowance
pub record ScriptReads (allowance gave : ℕ) (before after : ScriptState) (size : ℕ) (buffer : List ℕ) (answer : LinkRead) : Type 0 where
  pub used_up : gave ≡ allowance → (answer ≡ reading.End) × (after ≡ record before { counts = one_end before.counts })
  pub step : gave < allowance → TakesStep before.script before (min size (allowance - gave)) buffer answer after

-- a write that fails, as its number is listed
pub record WriteFails (before after : ScriptState) : Type 0 where
  pub listed : Contains before.write_fails (next_call before.writes)
  pub becomes : after ≡ record before { writes = next_call before.writes; counts = one_fault before.counts }

-- a write that takes its whole piece
pub record WriteTakes (before after : ScriptState) (size n : ℕ) : Type 0 where
  pub unlisted : Contains before.write_fails (next_call before.writes) → ⊥
  pub whole : n ≡ size
  pub becomes : after ≡ record before { writes = next_call before.writes }

-- a write for which there is no memory
pub record WriteLacks (before after : ScriptState) : Type 0 where
  pub unlisted : Contains before.write_fails (next_call before.writes) → ⊥
  pub becomes : after ≡ before

-- what a write of a piece of this size answers
abbrev pub ScriptWrites : ScriptState → ℕ → LinkWrite → ScriptState → Type 0
ScriptWrites before size (writing.Took n) after = WriteTakes before after size n
ScriptWrites before size writing.Quiet after = ⊥
ScriptWrites before size writing.Failed after = WriteFails before after
ScriptWrites before size writing.NoMem after = WriteLacks before after
