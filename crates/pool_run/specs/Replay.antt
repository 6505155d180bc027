-- What `replay` says of a pair, and the lines for what is none.
use Rattle.std.specs.Prelude.{◌≢◌, ℕ, List, [], ◌∷◌, ◌++◌, codes, Option}
use Rattle.std.specs.Fmt.{decimal}
use Rattle.journal_replay.specs.Pairs.{IsLegalPair, IsIllegalPair, RefusesPair}
use Rattle.journal_replay.specs.declared.verdict.ReplayFault.{ReplayFault}
use Rattle.journal_replay.specs.declared.verdict.ReplayFault.TheVariants as faults
use Rattle.journal_replay.specs.declared.verdict.Verdict.{Verdict}
use Rattle.journal_replay.specs.declared.verdict.Verdict.TheVariants as verdict
use Rattle.pool_run.specs.Check.{refusal_line}
use Rattle.pool_run.specs.Streams.{IsInput}
use Rattle.pool_run.specs.declared.report.Report.{Report}
use Rattle.pool_run.specs.declared.report.Report.TheVariants as report

-- the input is a pair whose journal is that of a history of so many entries
abbrev pub HasLegal : Option (List ℕ) → ℕ → Type 0
HasLegal left n = (bytes : List ℕ) × IsInput left bytes × IsLegalPair bytes n

-- the input is a pair, and this line of its journal is the first that keeps it from being that of a history
abbrev pub HasIllegal : Option (List ℕ) → ℕ → Type 0
HasIllegal left line = (bytes : List ℕ) × IsInput left bytes × IsIllegalPair bytes line

-- why the input is no pair that can be judged
abbrev pub HasNoPair : Option (List ℕ) → ReplayFault → Type 0
HasNoPair left fault = (bytes : List ℕ) × IsInput left bytes × (fault ≢ faults.NoMem) × RefusesPair bytes fault

abbrev pub legal_line : ℕ → List ℕ
legal_line n = codes "legal " ++ decimal n ++ 10 ∷ []

abbrev pub illegal_line : ℕ → List ℕ
illegal_line line = codes "illegal line " ++ decimal line ++ 10 ∷ []

-- the one line that says why a pair is refused; want of memory has none
abbrev pub pair_refusal_line : ReplayFault → List ℕ
pair_refusal_line faults.NoMem = []
pair_refusal_line faults.NoJournal = codes "refused no-journal" ++ 10 ∷ []
pair_refusal_line (faults.Scenario why) = refusal_line why
pair_refusal_line (faults.Line n) = codes "refused line " ++ decimal n ++ 10 ∷ []
pair_refusal_line faults.Truncated = codes "refused truncated" ++ 10 ∷ []

-- what is said of a pair that is judged
abbrev pub verdict_report : Verdict → Report
verdict_report (verdict.Legal n) = report.Judged (legal_line n)
verdict_report (verdict.Illegal line) = report.Illegal (illegal_line line)
