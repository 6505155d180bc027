-- What a command may say of its input, and what shows it.
use Rattle.std.specs.Prelude.{◌≡◌, ◌≢◌, ◌⊎◌, ◌+◌, ◌≤◌, ℕ, List, [], ◌∷◌, ◌++◌, length, sum_by, codes, Option, Some, None, Result, Ok, Err}
use Rattle.plain_values.specs.declared.memory.NoMem.{NoMem}
use Rattle.net_base.specs.declared.target.Proto.TheVariants.{H1, H2}
use Rattle.net_base.specs.declared.identity.Identity.{Identity}
use Rattle.net_base.specs.declared.response.Response.{Response}
use Rattle.edge_traits.specs.declared.dialer.NetKind.TheVariants.{Inner}
use Rattle.edge_traits.specs.Counts.{Rose}
use Rattle.edge_traits.specs.Links.{Place}
use Rattle.edge_traits.specs.Dialers.{DialerView, LogLine}
use Rattle.h1_frames.specs.RequestText.{request_text}
use Rattle.small_form.specs.declared.form.SmallForm.{SmallForm}
use Rattle.pool_run.specs.declared.streams.TheConstants.{MOST_INPUT}
use Rattle.pool_run.specs.declared.ending.Command.{Command}
use Rattle.pool_run.specs.declared.ending.Command.TheVariants as commands
use Rattle.pool_run.specs.declared.report.Unbuilt.{Unbuilt}
use Rattle.pool_run.specs.declared.report.Unbuilt.TheVariants as unbuilt
use Rattle.pool_run.specs.declared.report.Report.{Report}
use Rattle.pool_run.specs.declared.report.Report.TheVariants as report
use Rattle.scenario_walk.specs.declared.fault.ScenarioFault.{ScenarioFault}
use Rattle.scenario_walk.specs.declared.fault.ScenarioFault.TheVariants.{Unsupported, TooMany}
use Rattle.scenario_text.specs.declared.scenario.Scenario.{Scenario}
use Rattle.scenario_text.specs.Scenarios.{IsScenario, IsNoScenario}
use Rattle.small_form.specs.Forms.{IsForm, IsNoForm}
use Rattle.journal_replay.specs.declared.verdict.ReplayFault.{ReplayFault}
use Rattle.pool_run.specs.Check.{check_line, refusal_line}
use Rattle.pool_run.specs.Replay.{HasLegal, HasIllegal, HasNoPair, legal_line, illegal_line, pair_refusal_line}
use Rattle.pool_run.specs.FirstAnswer.{IsFirstAnswer, Stands}
use Rattle.pool_run.specs.declared.first_answer.Standing.TheVariants as standing
use Rattle.pool_run.specs.Conversation.{RoseBy, IsOpen, IsNoAnswer}
use Rattle.pool_run.specs.Journal.{clear_direct, exchange_text}
use Rattle.pool_run.specs.Streams.{IsInput, HasTooMany}

-- ---- the input

-- the input is a scenario, and this is the scenario
abbrev pub HasScenario : Option (List ℕ) → Scenario → Type 0
HasScenario left s = (bytes : List ℕ) × IsInput left bytes × IsScenario bytes s

-- the input is a scenario of the small form, and this is the form
abbrev pub HasForm : Option (List ℕ) → SmallForm → Type 0
HasForm left form = (bytes : List ℕ) × (s : Scenario) × IsInput left bytes × IsScenario bytes s × IsForm bytes form

-- a scenario that can't be run yet: one that isn't of the small form
abbrev pub IsOutside : Option (List ℕ) → Type 0
IsOutside left = (bytes : List ℕ) × (s : Scenario) × IsInput left bytes × IsScenario bytes s × IsNoForm bytes

-- why an input is refused: it has too many octets; for `serial` and `check` it is no scenario; for `serial` it is one that
-- can't be run yet
abbrev pub IsRefused : Command → Option (List ℕ) → ScenarioFault → Type 0
IsRefused command left fault =
    (HasTooMany left × (fault ≡ TooMany (codes "/") (MOST_INPUT + 1)))
    ⊎ (((command ≢ commands.Replay) × (bytes : List ℕ) × IsInput left bytes × IsNoScenario bytes fault)
    ⊎ ((command ≡ commands.Serial) × IsOutside left × (fault ≡ Unsupported (codes "/"))))

-- the line by which an input is refused, by its cause; for `replay` that is why the pair is refused, or too many octets
abbrev pub IsRefusal : Command → Option (List ℕ) → List ℕ → Type 0
IsRefusal command left line =
    ((why : ScenarioFault) × IsRefused command left why × (line ≡ refusal_line why))
    ⊎ ((command ≡ commands.Replay) × (why : ReplayFault) × HasNoPair left why × (line ≡ pair_refusal_line why))

-- ---- the connection

-- items were added at the end of what was told, where it is told still
abbrev pub AddsIfTold : {A : Type 0} → Option (List A) → List A → Option (List A) → Type 0
AddsIfTold before more None = Unit {0}
AddsIfTold {A} before more (Some after) = (items : List A) × (before ≡ Some items) × (after ≡ items ++ more)

-- the dialer was staged with the scenario's peers, dialed connection 1 to the request's origin once, and has no link
-- out that wasn't; this identity was recorded, and the log has these new lines
pub record DialedOnce (before after : DialerView) (form : SmallForm) (identity : Option Identity) (lines : List LogLine) : Type 0 where
  pub staged : after.staged ≡ Some (record { net = Inner; peers = form.peers })
  pub records : AddsIfTold before.records (record { conn = 1; target = clear_direct form.request.origin; identity = identity } ∷ []) after.records
  pub log : AddsIfTold before.log lines after.log
  pub out : (f : Place → ℕ) → sum_by f after.out ≡ sum_by f before.out

-- the one line of connection 1
abbrev pub one_line : List ℕ → List ℕ → List LogLine
one_line written received = record { conn = 1; written = written; received = received } ∷ []

-- the exchange went over the connection: the request's text was written, and one answer of the first form and nothing
-- else received, in a round from 2 on; three reads at least were quiet, where the count doesn't say which; the text is
-- its journal and summary
pub record AnsweredOnce (before after : DialerView) (form : SmallForm) (text : List ℕ) : Type 0 where
  pub identity : Identity
  pub received : List ℕ
  pub response : Response
  pub round : ℕ
  pub dialed : DialedOnce before after form (Some identity) (one_line (request_text form.request) received)
  pub proto : identity.proto ≡ H1
  pub answer : IsFirstAnswer received response
  pub quiet : RoseBy 3 before.counts.read_quiets after.counts.read_quiets
  pub later : 2 ≤ round
  pub told : text ≡ exchange_text form.request identity (length (request_text form.request)) round response

-- the connection came up and was retired without an answer: a front of the request's text was written
pub record CameUp (before after : DialerView) (form : SmallForm) (identity : Identity) (put got : List ℕ) : Type 0 where
  pub dialed : DialedOnce before after form (Some identity) (one_line put got)
  pub rest : List ℕ
  pub begins : request_text form.request ≡ put ++ rest

-- a dialer's links answered so many more reads by Quiet, at least
abbrev pub QuietDials : ℕ → DialerView → DialerView → Type 0
QuietDials k before after = RoseBy k before.counts.read_quiets after.counts.read_quiets

-- the request's text is out, no whole answer came and reads were quiet 10000 times; or writes were. The count doesn't say when they
-- were, nor that one came behind the other
abbrev pub IsQuiet : DialerView → DialerView → List ℕ → List ℕ → List ℕ → Type 0
IsQuiet before after text put got =
    ((put ≡ text) × Stands got standing.More × QuietDials 10000 before after)
    ⊎ RoseBy 10000 before.counts.write_quiets after.counts.write_quiets

-- the connection came up to a peer that speaks HTTP/1.1; a front of the request's text was written, and what came is nothing, a
-- head that isn't whole, a head of the first form with less than its body, or a whole answer
abbrev pub WasOpen : DialerView → DialerView → SmallForm → Identity → List ℕ → List ℕ → Type 0
WasOpen before after form identity put got = CameUp before after form identity put got × (identity.proto ≡ H1) × IsOpen got

-- why the course of a run can't be told yet, each word by what shows it
abbrev pub IsUnbuilt : DialerView → DialerView → SmallForm → Unbuilt → Type 0
IsUnbuilt before after form unbuilt.Dial = DialedOnce before after form None [] × Rose before.counts.faults after.counts.faults
IsUnbuilt before after form unbuilt.Identity =
    (identity : Identity) × CameUp before after form identity [] [] × (identity.proto ≡ H2)
IsUnbuilt before after form unbuilt.Fault =
    (identity : Identity) × (put : List ℕ) × (got : List ℕ) × WasOpen before after form identity put got
    × Rose before.counts.faults after.counts.faults
IsUnbuilt before after form unbuilt.End =
    (identity : Identity) × (put : List ℕ) × (got : List ℕ) × WasOpen before after form identity put got
    × Rose before.counts.ends after.counts.ends
IsUnbuilt before after form unbuilt.Octets =
    (identity : Identity) × (put : List ℕ) × (got : List ℕ) × CameUp before after form identity put got
    × (identity.proto ≡ H1) × IsNoAnswer put got
IsUnbuilt before after form unbuilt.Quiet =
    (identity : Identity) × (put : List ℕ) × (got : List ℕ) × WasOpen before after form identity put got
    × IsQuiet before after (request_text form.request) put got

abbrev pub unbuilt_line : Unbuilt → List ℕ
unbuilt_line unbuilt.Dial = codes "unbuilt dial" ++ 10 ∷ []
unbuilt_line unbuilt.Identity = codes "unbuilt identity" ++ 10 ∷ []
unbuilt_line unbuilt.Fault = codes "unbuilt fault" ++ 10 ∷ []
unbuilt_line unbuilt.End = codes "unbuilt end" ++ 10 ∷ []
unbuilt_line unbuilt.Octets = codes "unbuilt octets" ++ 10 ∷ []
unbuilt_line unbuilt.Quiet = codes "unbuilt quiet" ++ 10 ∷ []

-- ---- want of memory

-- the dialer was staged with the scenario's peers, but no dial is recorded, the log has no new line, and it has no link
-- out that wasn't
pub record StagedOnly (before after : DialerView) (form : SmallForm) : Type 0 where
  pub staged : after.staged ≡ Some (record { net = Inner; peers = form.peers })
  pub records : AddsIfTold before.records [] after.records
  pub log : AddsIfTold before.log [] after.log
  pub out : (f : Place → ℕ) → sum_by f after.out ≡ sum_by f before.out

-- where the run of an exchange stopped short: before the dialer was staged, before its dial answered, or once the
-- connection had come up, which then was retired
abbrev pub StopsShort : DialerView → SmallForm → DialerView → Type 0
StopsShort before form after =
    (after ≡ before)
    ⊎ (StagedOnly before after form
    ⊎ ((identity : Identity) × (put : List ℕ) × (got : List ℕ) × CameUp before after form identity put got))

-- ---- the report

-- without memory for a report the dialer hasn't changed, or the command runs the small form of the input, and its run
-- stopped short
abbrev pub LacksReport : Command → Option (List ℕ) → DialerView → DialerView → Type 0
LacksReport command left before after =
    (after ≡ before) ⊎ ((command ≡ commands.Serial) × ((form : SmallForm) × HasForm left form × StopsShort before form after))

-- what a run of an exchange says, and what it leaves without memory
abbrev pub RunsForm : DialerView → SmallForm → Result Report NoMem → DialerView → Type 0
RunsForm before form (Ok (report.Answered text)) after = AnsweredOnce before after form text
RunsForm before form (Ok (report.Checked text)) after = ⊥
RunsForm before form (Ok (report.Judged text)) after = ⊥
RunsForm before form (Ok (report.Illegal text)) after = ⊥
RunsForm before form (Ok (report.Refused text)) after = ⊥
RunsForm before form (Ok (report.Unbuilt word)) after = IsUnbuilt before after form word
RunsForm before form (Err e) after = StopsShort before form after

-- what a command says of the octets that its source had left
abbrev pub Reports : Command → Option (List ℕ) → DialerView → Report → DialerView → Type 0
Reports command left before (report.Answered text) after =
    (command ≡ commands.Serial) × ((form : SmallForm) × HasForm left form × AnsweredOnce before after form text)
Reports command left before (report.Checked text) after =
    (command ≡ commands.Check) × ((s : Scenario) × HasScenario left s × (text ≡ check_line s)) × (after ≡ before)
Reports command left before (report.Judged text) after =
    (command ≡ commands.Replay) × ((n : ℕ) × HasLegal left n × (text ≡ legal_line n)) × (after ≡ before)
Reports command left before (report.Illegal text) after =
    (command ≡ commands.Replay) × ((line : ℕ) × HasIllegal left line × (text ≡ illegal_line line)) × (after ≡ before)
Reports command left before (report.Refused text) after = IsRefusal command left text × (after ≡ before)
Reports command left before (report.Unbuilt word) after =
    (command ≡ commands.Serial) × ((form : SmallForm) × HasForm left form × IsUnbuilt before after form word)

-- the text that is written
abbrev pub report_text : Report → List ℕ
report_text (report.Answered text) = text
report_text (report.Checked text) = text
report_text (report.Judged text) = text
report_text (report.Illegal text) = text
report_text (report.Refused text) = text
report_text (report.Unbuilt word) = unbuilt_line word
