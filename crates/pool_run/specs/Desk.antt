-- What the top call answers, status by status.
use Rattle.std.specs.Prelude.{◌≡◌, ◌⊎◌, ℕ, List, [], ◌∷◌, map, codes, Option, None, Some, Result, Ok, Err, String, string_bytes}
use Rattle.std.specs.declared.alloc.Global.{Global}
use Rattle.plain_values.specs.declared.memory.NoMem.{NoMem}
use Rattle.edge_traits.specs.Counts.{Rose}
use Rattle.edge_traits.specs.Told.{Grew}
use Rattle.edge_traits.specs.Sources.{SourceView}
use Rattle.edge_traits.specs.Sinks.{SinkView}
use Rattle.edge_traits.specs.Dialers.{DialerView}
use Rattle.scenario_text.specs.declared.scenario.Scenario.{Scenario}
use Rattle.small_form.specs.declared.form.SmallForm.{SmallForm}
use Rattle.pool_run.specs.declared.ending.Command.{Command}
use Rattle.pool_run.specs.declared.ending.Command.TheVariants as commands
use Rattle.pool_run.specs.declared.report.Unbuilt.{Unbuilt}
use Rattle.pool_run.specs.declared.report.Report.{Report}
use Rattle.pool_run.specs.declared.report.Report.TheVariants as report
use Rattle.pool_run.specs.declared.ending.Ending.{Ending}
use Rattle.pool_run.specs.declared.ending.Ending.TheVariants as ending
use Rattle.pool_run.specs.Streams.{IsInput, WritesFront}
use Rattle.pool_run.specs.Serial.{IsRefusal, HasScenario, HasForm, AnsweredOnce, IsUnbuilt, LacksReport, Reports, report_text, unbuilt_line}
use Rattle.pool_run.specs.Check.{check_line}
use Rattle.pool_run.specs.Replay.{HasLegal, HasIllegal, legal_line, illegal_line}

abbrev pub command_word : Command → List ℕ
command_word commands.Serial = codes "serial"
command_word commands.Check = codes "check"
command_word commands.Replay = codes "replay"

-- the words are those of the command
abbrev pub IsCommand : List (String Global) → Command → Type 0
IsCommand words command = map string_bytes words ≡ command_word command ∷ []

-- only the first dialer has changed, and it so
abbrev pub FirstChanged : List DialerView → List DialerView → (DialerView → DialerView → Type 0) → Type 0
FirstChanged before after P =
    (v : DialerView) × (w : DialerView) × (others : List DialerView) × (before ≡ v ∷ others) × (after ≡ w ∷ others) × P v w

-- status 0 of `serial`: the input is of the small form; its exchange was answered over connection 1 of the first dialer;
-- its journal and summary were written
abbrev pub AnswersExchange : SourceView → SinkView → List DialerView → SinkView → List DialerView → Type 0
AnswersExchange source sink before written after =
    (form : SmallForm) × (text : List ℕ) × HasForm source.left form × FirstChanged before after (λ v w. AnsweredOnce v w form text)
    × Grew sink.written text written.written

-- status 0 of `check`: the input is a scenario, and the line that says how much it has was written; nothing was staged or
-- dialed
abbrev pub ChecksScenario : SourceView → SinkView → List DialerView → SinkView → List DialerView → Type 0
ChecksScenario source sink before written after =
    (s : Scenario) × HasScenario source.left s × (after ≡ before) × Grew sink.written (check_line s) written.written

-- status 0 of `replay`: the input is a pair whose journal is that of a history, and the line that says so was written; nothing
-- was staged or dialed
abbrev pub JudgesPair : SourceView → SinkView → List DialerView → SinkView → List DialerView → Type 0
JudgesPair source sink before written after =
    (n : ℕ) × HasLegal source.left n × (after ≡ before) × Grew sink.written (legal_line n) written.written

-- status 1: the input is a pair; the line of its journal that is the first to keep it from being that of a history was written,
-- and nothing was staged or dialed
abbrev pub FindsIllegal : SourceView → SinkView → List DialerView → SinkView → List DialerView → Type 0
FindsIllegal source sink before written after =
    (line : ℕ) × HasIllegal source.left line × (after ≡ before) × Grew sink.written (illegal_line line) written.written

-- status 3: the input is refused, its line was written, and nothing was staged or dialed
abbrev pub RefusesInput : Command → SourceView → SinkView → List DialerView → SinkView → List DialerView → Type 0
RefusesInput command source sink before written after =
    (line : List ℕ) × IsRefusal command source.left line × (after ≡ before) × Grew sink.written line written.written

-- status 4: a read failed, and nothing was written, staged or dialed
abbrev pub FailsReading : SourceView → SourceView → SinkView → List DialerView → SinkView → List DialerView → Type 0
FailsReading source read sink before written after = Rose source.faults read.faults × (written ≡ sink) × (after ≡ before)

-- a front of the text that the command has was written
abbrev pub WritesReport : Command → SourceView → SinkView → List DialerView → SinkView → List DialerView → Type 0
WritesReport command source sink before written after =
    (told : Report) × FirstChanged before after (λ v w. Reports command source.left v told w) × WritesFront sink (report_text told) written

-- status 5: a write failed, behind a front of the text that the command has
abbrev pub FailsWriting : Command → SourceView → SinkView → List DialerView → SinkView → List DialerView → Type 0
FailsWriting command source sink before written after =
    Rose sink.faults written.faults × WritesReport command source sink before written after

-- status 6: want of memory, before there was a report, with nothing written and the first dialer as far as the run came;
-- or behind a front of the text that the command has
abbrev pub LacksMemory : Command → SourceView → SinkView → List DialerView → SinkView → List DialerView → Type 0
LacksMemory command source sink before written after =
    ((written ≡ sink) × FirstChanged before after (λ v w. LacksReport command source.left v w))
    ⊎ WritesReport command source sink before written after

-- status 8: the input is of the small form; its course can't be told yet, and the word that says why was written
abbrev pub LeavesUnbuilt : SourceView → SinkView → List DialerView → SinkView → List DialerView → Type 0
LeavesUnbuilt source sink before written after =
    (form : SmallForm) × (word : Unbuilt) × HasForm source.left form × FirstChanged before after (λ v w. IsUnbuilt v w form word)
    × Grew sink.written (unbuilt_line word) written.written

-- a status of a run: told, illegal, refused, a read or a write failed, no memory, or unbuilt
abbrev pub IsRunStatus : ℕ → Type 0
IsRunStatus status =
    (status ≡ 0) ⊎ ((status ≡ 1) ⊎ ((status ≡ 3) ⊎ ((status ≡ 4) ⊎ ((status ≡ 5) ⊎ ((status ≡ 6) ⊎ (status ≡ 8))))))

-- a status of the program: 2 for words that are no command, or that of a run
abbrev pub IsStatus : ℕ → Type 0
IsStatus status = (status ≡ 2) ⊎ IsRunStatus status

-- ---- the same by how the run ended

-- what a command has to say, nothing where a read failed, or what it leaves without memory
abbrev pub HasReport : Command → SourceView → DialerView → Result (Option Report) NoMem → SourceView → DialerView → Type 0
HasReport command source before (Ok (Some told)) read after = Reports command source.left before told after
HasReport command source before (Ok None) read after = Rose source.faults read.faults × (after ≡ before)
HasReport command source before (Err e) read after = LacksReport command source.left before after

-- the same of the octets of an input
abbrev pub ReportsOn : Command → List ℕ → DialerView → Result Report NoMem → DialerView → Type 0
ReportsOn command bytes before (Ok told) after = (left : Option (List ℕ)) → IsInput left bytes → Reports command left before told after
ReportsOn command bytes before (Err e) after = (left : Option (List ℕ)) → IsInput left bytes → LacksReport command left before after

-- what writing a report came to
abbrev pub TellsReport : SinkView → Report → Ending → SinkView → Type 0
TellsReport sink told (ending.Told r) written = (r ≡ told) × Grew sink.written (report_text told) written.written
TellsReport sink told (ending.SinkFailed r) written =
    (r ≡ told) × Rose sink.faults written.faults × WritesFront sink (report_text told) written
TellsReport sink told (ending.LacksMemory (Some r)) written = (r ≡ told) × WritesFront sink (report_text told) written
TellsReport sink told (ending.LacksMemory None) written = ⊥
TellsReport sink told ending.SourceFailed written = ⊥

-- how a run ended, over the first dialer alone
abbrev pub Ends : Command → SourceView → SinkView → DialerView → Ending → SourceView → SinkView → DialerView → Type 0
Ends command source sink before (ending.Told told) read written after =
    Reports command source.left before told after × Grew sink.written (report_text told) written.written
Ends command source sink before ending.SourceFailed read written after = Rose source.faults read.faults × (written ≡ sink) × (after ≡ before)
Ends command source sink before (ending.SinkFailed told) read written after =
    Reports command source.left before told after × Rose sink.faults written.faults × WritesFront sink (report_text told) written
Ends command source sink before (ending.LacksMemory None) read written after = (written ≡ sink) × LacksReport command source.left before after
Ends command source sink before (ending.LacksMemory (Some told)) read written after =
    Reports command source.left before told after × WritesFront sink (report_text told) written

abbrev pub report_status : Report → ℕ
report_status (report.Answered text) = 0
report_status (report.Checked text) = 0
report_status (report.Judged text) = 0
report_status (report.Illegal text) = 1
report_status (report.Refused text) = 3
report_status (report.Unbuilt word) = 8

abbrev pub status_of : Ending → ℕ
status_of (ending.Told told) = report_status told
status_of ending.SourceFailed = 4
status_of (ending.SinkFailed told) = 5
status_of (ending.LacksMemory told) = 6

-- what the top call says of a command, status by status. It says besides when no command was meant (`usage`, `untouched`) and which
-- statuses come
pub record DeskDid (command : Command) (status : ℕ) (source read : SourceView) (sink written : SinkView) (before after : List DialerView) : Type 0 where
  pub answered : status ≡ 0 → command ≡ commands.Serial → AnswersExchange source sink before written after
  pub checked : status ≡ 0 → command ≡ commands.Check → ChecksScenario source sink before written after
  pub judged : status ≡ 0 → command ≡ commands.Replay → JudgesPair source sink before written after
  pub illegal : status ≡ 1 → (command ≡ commands.Replay) × FindsIllegal source sink before written after
  pub refused : status ≡ 3 → RefusesInput command source sink before written after
  pub source_failed : status ≡ 4 → FailsReading source read sink before written after
  pub sink_failed : status ≡ 5 → FailsWriting command source sink before written after
  pub memory : status ≡ 6 → LacksMemory command source sink before written after
  pub unbuilt : status ≡ 8 → (command ≡ commands.Serial) × LeavesUnbuilt source sink before written after
