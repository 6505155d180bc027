-- The steps of a conversation's rounds: what each does to the link, and what it makes of the progress so far.
use Rattle.std.specs.Prelude.{◌≡◌, ◌⊎◌, ◌+◌, ◌<◌, ◌≤◌, ℕ, List, [], ◌++◌, length, drop, Result, Ok, Err}
use Rattle.plain_values.specs.declared.memory.NoMem.{NoMem}
use Rattle.net_base.specs.declared.response.Response.{Response}
use Rattle.edge_traits.specs.Counts.{Rose}
use Rattle.edge_traits.specs.Links.{LinkView, LinkDid}
use Rattle.pool_run.specs.FirstAnswer.{IsFirstAnswer, Stands}
use Rattle.pool_run.specs.Conversation.{Spoke, IsOpen, QuietReads}
use Rattle.pool_run.specs.declared.first_answer.Standing.TheVariants as standing
use Rattle.pool_run.specs.declared.conversation.Heard.{Heard}
use Rattle.pool_run.specs.declared.conversation.Heard.TheVariants as heard
use Rattle.pool_run.specs.declared.conversation.Wrote.{Wrote}
use Rattle.pool_run.specs.declared.conversation.Wrote.TheVariants as wrote
use Rattle.pool_run.specs.declared.conversation.Turn.{Turn}
use Rattle.pool_run.specs.declared.conversation.Turn.TheVariants as turn
use Rattle.pool_run.specs.declared.conversation.Next.{Next}
use Rattle.pool_run.specs.declared.conversation.Next.TheVariants as next
use Rattle.pool_run.specs.declared.conversation.Talk.{Talk}
use Rattle.pool_run.specs.declared.conversation.Talk.TheVariants as talk
use Rattle.pool_run.specs.declared.conversation.Progress.{Progress}

-- what reads heard; without memory, octets may have come that are lost
abbrev pub Hears : LinkView → Result Heard NoMem → LinkView → Type 0
Hears before (Ok heard.Quiet) after = LinkDid before after [] []
Hears before (Ok (heard.Got octets)) after = LinkDid before after [] octets × (0 < length octets)
Hears before (Ok heard.End) after = LinkDid before after [] [] × Rose before.counts.ends after.counts.ends
Hears before (Ok heard.Fault) after = LinkDid before after [] [] × Rose before.counts.faults after.counts.faults
Hears before (Err e) after = (got : List ℕ) × LinkDid before after [] got

-- a quiet answer shows itself by the link's count of quiet reads
abbrev pub CountsQuiet : LinkView → Result Heard NoMem → LinkView → Type 0
CountsQuiet before (Ok heard.Quiet) after = Rose before.counts.read_quiets after.counts.read_quiets
CountsQuiet before (Ok (heard.Got octets)) after = Unit {0}
CountsQuiet before (Ok heard.End) after = Unit {0}
CountsQuiet before (Ok heard.Fault) after = Unit {0}
CountsQuiet before (Err e) after = Unit {0}

-- a quiet answer of the rounds behind a whole answer shows itself by their quiet reads
abbrev pub CountsRounds : LinkView → Result Heard NoMem → LinkView → Type 0
CountsRounds before (Ok heard.Quiet) after = QuietReads 3 before after
CountsRounds before (Ok (heard.Got octets)) after = Unit {0}
CountsRounds before (Ok heard.End) after = Unit {0}
CountsRounds before (Ok heard.Fault) after = Unit {0}
CountsRounds before (Err e) after = Unit {0}

-- what writes took of the output: where they took none, there was none, or a write was quiet
abbrev pub Writes : LinkView → List ℕ → Result Wrote NoMem → LinkView → Type 0
Writes before output (Ok (wrote.Took taken)) after =
    (put : List ℕ) × Spoke before after output put [] × (taken ≡ length put)
    × (taken ≡ 0 → 0 < length output → Rose before.counts.write_quiets after.counts.write_quiets)
Writes before output (Ok wrote.Fault) after = (put : List ℕ) × Spoke before after output put [] × Rose before.counts.faults after.counts.faults
Writes before output (Err e) after = (put : List ℕ) × Spoke before after output put []

-- the reading half of a round that goes on: what came stands behind what was received, and the round is idle if nothing
-- was taken and nothing came
pub record TookIn (before after : LinkView) (waiting taken : ℕ) (old new : Progress) : Type 0 where
  pub got : List ℕ
  pub did : LinkDid before after [] got
  pub sent : new.sent ≡ old.sent
  pub received : new.received ≡ old.received ++ got
  pub idle : (new.idle ≡ 0) ⊎ ((new.idle ≡ old.idle + 1) × (taken ≡ 0) × (waiting ≡ 0 → Rose before.counts.read_quiets after.counts.read_quiets))

-- the reading half of a round, where this much output waits and this much was taken
abbrev pub TakesIn : LinkView → ℕ → ℕ → Progress → Result Turn NoMem → LinkView → Progress → Type 0
TakesIn before waiting taken old (Ok turn.Going) after new = TookIn before after waiting taken old new
TakesIn before waiting taken old (Ok turn.Fault) after new = LinkDid before after [] [] × Rose before.counts.faults after.counts.faults
TakesIn before waiting taken old (Ok turn.End) after new = LinkDid before after [] [] × Rose before.counts.ends after.counts.ends
TakesIn before waiting taken old (Err e) after new = (got : List ℕ) × LinkDid before after [] got

-- a round in which something moved, or one more idle round: the text isn't out and a write was quiet, or it is and a
-- read was
abbrev pub Idles : LinkView → LinkView → List ℕ → Progress → Progress → Type 0
Idles before after text old new =
    (new.idle ≡ 0)
    ⊎ ((new.idle ≡ old.idle + 1) × (new.sent ≡ old.sent)
    × (new.sent < length text → Rose before.counts.write_quiets after.counts.write_quiets)
    × (new.sent ≡ length text → Rose before.counts.read_quiets after.counts.read_quiets))

-- a round that goes on: more of the text is out, and what came stands behind what was received
pub record Advances (before after : LinkView) (text : List ℕ) (old new : Progress) : Type 0 where
  pub put : List ℕ
  pub got : List ℕ
  pub spoke : Spoke before after (drop old.sent text) put got
  pub sent : new.sent ≡ old.sent + length put
  pub received : new.received ≡ old.received ++ got
  pub idle : Idles before after text old new

-- a round
abbrev pub Turns : LinkView → List ℕ → Progress → Result Turn NoMem → LinkView → Progress → Type 0
Turns before text old (Ok turn.Going) after new = Advances before after text old new
Turns before text old (Ok turn.Fault) after new =
    (put : List ℕ) × Spoke before after (drop old.sent text) put [] × Rose before.counts.faults after.counts.faults
Turns before text old (Ok turn.End) after new =
    (put : List ℕ) × Spoke before after (drop old.sent text) put [] × Rose before.counts.ends after.counts.ends
Turns before text old (Err e) after new = (put : List ℕ) × (got : List ℕ) × Spoke before after (drop old.sent text) put got

-- what a round's progress means
abbrev pub Judges : List ℕ → Progress → Result Next NoMem → Type 0
Judges text progress (Ok next.Go) = (progress.idle < 10000) × IsOpen progress.received
Judges text progress (Ok (next.Answered response)) = (progress.sent ≡ length text) × IsFirstAnswer progress.received response
Judges text progress (Ok next.Octets) = Stands progress.received standing.Other
Judges text progress (Ok next.Quiet) =
    (10000 ≤ progress.idle) × IsOpen progress.received × (progress.sent ≡ length text → Stands progress.received standing.More)
Judges text progress (Err e) = Unit {0}

-- what the rounds behind a whole answer make of it
abbrev pub Settles : LinkView → ℕ → Response → Result Talk NoMem → LinkView → Type 0
Settles before round response (Ok (talk.Answered n said)) after =
    LinkDid before after [] [] × QuietReads 3 before after × (n ≡ round) × (said ≡ response)
Settles before round response (Ok talk.Fault) after = LinkDid before after [] [] × Rose before.counts.faults after.counts.faults
Settles before round response (Ok talk.End) after = LinkDid before after [] [] × Rose before.counts.ends after.counts.ends
Settles before round response (Ok talk.Octets) after = (more : List ℕ) × LinkDid before after [] more × (0 < length more)
Settles before round response (Ok talk.Quiet) after = ⊥
Settles before round response (Err e) after = (got : List ℕ) × LinkDid before after [] got
