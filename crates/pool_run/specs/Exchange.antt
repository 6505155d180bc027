-- The exchange over a dialer that was staged, step by step.
use Rattle.std.specs.Prelude.{◌≡◌, ◌⊎◌, ◌≤◌, ℕ, List, [], ◌∷◌, ◌++◌, length, sum_by, Option, Some, None, Result, Ok, Err}
use Rattle.plain_values.specs.declared.memory.NoMem.{NoMem}
use Rattle.net_base.specs.declared.request.Request.{Request}
use Rattle.net_base.specs.declared.response.Response.{Response}
use Rattle.net_base.specs.declared.target.Target.{Target}
use Rattle.net_base.specs.declared.target.Proto.TheVariants.{H1, H2}
use Rattle.net_base.specs.declared.identity.Identity.{Identity}
use Rattle.edge_traits.specs.Counts.{Rose}
use Rattle.edge_traits.specs.Told.{Grew}
use Rattle.edge_traits.specs.Links.{Place, LinkView}
use Rattle.edge_traits.specs.Dialers.{DialerView, DialLacked, LogLine}
use Rattle.pool_run.specs.declared.serial.Said.{Said}
use Rattle.pool_run.specs.declared.serial.Said.TheVariants.{Told, OtherProtocol}
use Rattle.pool_run.specs.declared.report.Unbuilt.{Unbuilt}
use Rattle.pool_run.specs.declared.report.Unbuilt.TheVariants as unbuilt
use Rattle.pool_run.specs.declared.report.Report.{Report}
use Rattle.pool_run.specs.declared.report.Report.TheVariants as report
use Rattle.pool_run.specs.FirstAnswer.{IsFirstAnswer}
use Rattle.pool_run.specs.Conversation.{Talks, Spoke, RoseBy, IsOpen, IsNoAnswer}
use Rattle.pool_run.specs.Journal.{exchange_text}
use Rattle.pool_run.specs.Serial.{one_line, IsQuiet}

-- what is said over a link: a conversation with a peer that speaks HTTP/1.1, nothing to another
abbrev pub Says : LinkView → Identity → List ℕ → Result Said NoMem → LinkView → Type 0
Says before identity text (Ok (Told talk)) after = (identity.proto ≡ H1) × Talks before text (Ok talk) after
Says before identity text (Ok OtherProtocol) after = (identity.proto ≡ H2) × (after ≡ before)
Says before identity text (Err e) after = (put : List ℕ) × (got : List ℕ) × Spoke before after text put got

-- connection 1 was dialed once
pub record DialedStaged (before after : DialerView) (target : Target) (identity : Option Identity) (lines : List LogLine) : Type 0 where
  pub staged : after.staged ≡ before.staged
  pub records : Grew before.records (record { conn = 1; target = target; identity = identity } ∷ []) after.records
  pub log : Grew before.log lines after.log
  pub out : (f : Place → ℕ) → sum_by f after.out ≡ sum_by f before.out

-- it came up, and a front of the text was written
pub record UpStaged (before after : DialerView) (target : Target) (text : List ℕ) (identity : Identity) (put got : List ℕ) : Type 0 where
  pub dialed : DialedStaged before after target (Some identity) (one_line put got)
  pub rest : List ℕ
  pub begins : text ≡ put ++ rest

pub record AnsweredStaged (before after : DialerView) (request : Request) (target : Target) (text told : List ℕ) : Type 0 where
  pub identity : Identity
  pub received : List ℕ
  pub response : Response
  pub round : ℕ
  pub dialed : DialedStaged before after target (Some identity) (one_line text received)
  pub proto : identity.proto ≡ H1
  pub answer : IsFirstAnswer received response
  pub quiet : RoseBy 3 before.counts.read_quiets after.counts.read_quiets
  pub later : 2 ≤ round
  pub journal : told ≡ exchange_text request identity (length text) round response

abbrev pub OpenStaged : DialerView → DialerView → Target → List ℕ → Identity → List ℕ → List ℕ → Type 0
OpenStaged before after target text identity put got =
    UpStaged before after target text identity put got × (identity.proto ≡ H1) × IsOpen got

abbrev pub UnbuiltStaged : DialerView → DialerView → Target → List ℕ → Unbuilt → Type 0
UnbuiltStaged before after target text unbuilt.Dial = DialedStaged before after target None [] × Rose before.counts.faults after.counts.faults
UnbuiltStaged before after target text unbuilt.Identity =
    (identity : Identity) × UpStaged before after target text identity [] [] × (identity.proto ≡ H2)
UnbuiltStaged before after target text unbuilt.Fault =
    (identity : Identity) × (put : List ℕ) × (got : List ℕ) × OpenStaged before after target text identity put got
    × Rose before.counts.faults after.counts.faults
UnbuiltStaged before after target text unbuilt.End =
    (identity : Identity) × (put : List ℕ) × (got : List ℕ) × OpenStaged before after target text identity put got
    × Rose before.counts.ends after.counts.ends
UnbuiltStaged before after target text unbuilt.Octets =
    (identity : Identity) × (put : List ℕ) × (got : List ℕ) × UpStaged before after target text identity put got
    × (identity.proto ≡ H1) × IsNoAnswer put got
UnbuiltStaged before after target text unbuilt.Quiet =
    (identity : Identity) × (put : List ℕ) × (got : List ℕ) × OpenStaged before after target text identity put got
    × IsQuiet before after text put got

-- without memory: before the dial answered, or once the connection had come up, which then was retired
abbrev pub StopsStaged : DialerView → Target → List ℕ → DialerView → Type 0
StopsStaged before target text after =
    DialLacked before after
    ⊎ ((identity : Identity) × (put : List ℕ) × (got : List ℕ) × UpStaged before after target text identity put got)

abbrev pub RunsStaged : DialerView → Request → Target → List ℕ → Result Report NoMem → DialerView → Type 0
RunsStaged before request target text (Ok (report.Answered told)) after = AnsweredStaged before after request target text told
RunsStaged before request target text (Ok (report.Checked told)) after = ⊥
RunsStaged before request target text (Ok (report.Judged told)) after = ⊥
RunsStaged before request target text (Ok (report.Illegal told)) after = ⊥
RunsStaged before request target text (Ok (report.Refused told)) after = ⊥
RunsStaged before request target text (Ok (report.Unbuilt word)) after = UnbuiltStaged before after target text word
RunsStaged before request target text (Err e) after = StopsStaged before target text after
