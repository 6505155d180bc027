-- What comes of a conversation over one link: the request's text goes out, and one answer comes back (RFC 9112, section 9).
use Rattle.std.specs.Prelude.{◌≡◌, ◌⊎◌, ◌+◌, ◌<◌, ◌≤◌, ◌^◌, ℕ, min, List, [], ◌++◌, length, Result, Ok, Err}
use Rattle.plain_values.specs.declared.memory.NoMem.{NoMem}
use Rattle.net_base.specs.declared.response.Response.{Response}
use Rattle.edge_traits.specs.Counts.{Rose}
use Rattle.edge_traits.specs.Links.{LinkView, LinkDid}
use Rattle.pool_run.specs.FirstAnswer.{IsFirstAnswer, Stands}
use Rattle.pool_run.specs.declared.first_answer.Standing.TheVariants as standing
use Rattle.pool_run.specs.declared.conversation.Talk.{Talk}
use Rattle.pool_run.specs.declared.conversation.Talk.TheVariants.{Answered, Fault, End, Octets, Quiet}

-- the count rose by k, or stands at its last value
abbrev pub RoseBy : ℕ → ℕ → ℕ → Type 0
RoseBy k before after = min (before + k) 18446744073709551615 ≤ after

-- these octets went out, which the text begins with, and those came in
pub record Spoke (before after : LinkView) (text put got : List ℕ) : Type 0 where
  pub did : LinkDid before after put got
  pub rest : List ℕ
  pub begins : text ≡ put ++ rest

-- nothing came, or a head that isn't whole, or one of the first form with less than its body, or a whole answer
abbrev pub IsOpen : List ℕ → Type 0
IsOpen got = (got ≡ []) ⊎ (Stands got standing.More ⊎ ((response : Response) × IsFirstAnswer got response))

-- the octets that came are no answer: they came before the request was ordered, or they aren't of the form or go on
-- behind the answer
abbrev pub IsNoAnswer : List ℕ → List ℕ → Type 0
IsNoAnswer put got = ((put ≡ []) × (0 < length got)) ⊎ Stands got standing.Other

-- a link answered so many more reads by Quiet, at least
abbrev pub QuietReads : ℕ → LinkView → LinkView → Type 0
QuietReads k before after = RoseBy k before.counts.read_quiets after.counts.read_quiets

-- the text is out, no whole answer came and 10000 reads at least were quiet; or so many writes were. The count doesn't say when they
-- were, nor that one came behind the other
abbrev pub IsStuck : LinkView → LinkView → List ℕ → List ℕ → List ℕ → Type 0
IsStuck before after text put got =
    ((put ≡ text) × Stands got standing.More × QuietReads 10000 before after)
    ⊎ RoseBy 10000 before.counts.write_quiets after.counts.write_quiets

-- each outcome shows itself by what went over the link and by the link's counts: an answer also by three quiet reads at
-- least, of which the count doesn't say that they came behind it
abbrev pub Talks : LinkView → List ℕ → Result Talk NoMem → LinkView → Type 0
Talks before text (Ok (Answered round response)) after =
    (got : List ℕ) × LinkDid before after text got × IsFirstAnswer got response × QuietReads 3 before after
    × (2 ≤ round) × (round + 3 < 2 ^ 64)
Talks before text (Ok Fault) after =
    (put : List ℕ) × (got : List ℕ) × Spoke before after text put got × IsOpen got × Rose before.counts.faults after.counts.faults
Talks before text (Ok End) after =
    (put : List ℕ) × (got : List ℕ) × Spoke before after text put got × IsOpen got × Rose before.counts.ends after.counts.ends
Talks before text (Ok Octets) after = (put : List ℕ) × (got : List ℕ) × Spoke before after text put got × IsNoAnswer put got
Talks before text (Ok Quiet) after =
    (put : List ℕ) × (got : List ℕ) × Spoke before after text put got × IsOpen got × IsStuck before after text put got
Talks before text (Err e) after = (put : List ℕ) × (got : List ℕ) × Spoke before after text put got
