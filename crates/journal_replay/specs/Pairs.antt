-- Pairs: a scenario, a line that is exactly `--`, and a journal. What a pair is judged to be, and why octets are refused.
use Rattle.std.specs.Prelude.{◌≡◌, ◌⊎◌, ◌≤◌, ⊤, ℕ, ◌+◌, List, [], ◌∷◌, ◌++◌, length, codes}
use Rattle.journal_text.specs.Journals.{IsJournal, IsBadLine, IsTruncated}
use Rattle.model_histories.specs.Histories.{IsHistory, IsFirstBad}
use Rattle.model_values.specs.declared.entry.Entry.{Entry}
use Rattle.model_values.specs.declared.config.Config.{Config}
use Rattle.scenario_walk.specs.declared.fault.ScenarioFault.{ScenarioFault}
use Rattle.scenario_text.specs.Scenarios.{IsScenario, IsNoScenario}
use Rattle.scenario_text.specs.declared.scenario.Scenario.{Scenario}
use Rattle.journal_replay.specs.declared.verdict.ReplayFault.{ReplayFault}
use Rattle.journal_replay.specs.declared.verdict.ReplayFault.TheVariants as fault
use Rattle.journal_replay.specs.declared.verdict.Verdict.{Verdict}
use Rattle.journal_replay.specs.declared.verdict.Verdict.TheVariants.{Legal, Illegal}

-- ---- where octets part

-- the line that stands between, with its LF (10)
abbrev pub separator : List ℕ
separator = codes "--" ++ 10 ∷ []

-- a line begins behind these octets: there are none, or they end with LF
abbrev pub EndsLine : List ℕ → Type 0
EndsLine front = (front ≡ []) ⊎ ((text : List ℕ) × (front ≡ text ++ 10 ∷ []))

-- the separator stands as a line behind this front
abbrev pub PartsAt : List ℕ → List ℕ → List ℕ → Type 0
PartsAt bytes front behind = (bytes ≡ front ++ (separator ++ behind)) × EndsLine front

-- no line is the separator
abbrev pub HasNoSeparator : List ℕ → Type 0
HasNoSeparator bytes = (front behind : List ℕ) → ¬ (PartsAt bytes front behind)

-- the first line that is the separator stands between these
pub record IsPair (bytes front behind : List ℕ) : Type 0 where
  pub parts : PartsAt bytes front behind
  pub first : (other rest : List ℕ) → PartsAt bytes other rest → length front ≤ length other

-- ---- the verdict

-- the octets are a pair of this scenario and the journal of these entries
pub record PairsWith (bytes : List ℕ) (s : Scenario) (h : List Entry) : Type 0 where
  pub front : List ℕ
  pub behind : List ℕ
  pub pair : IsPair bytes front behind
  pub scenario : IsScenario front s
  pub journal : IsJournal behind h

-- the journal is that of a history of so many entries
abbrev pub IsLegalPair : List ℕ → ℕ → Type 0
IsLegalPair bytes n = (s : Scenario) × (h : List Entry) × PairsWith bytes s h × IsHistory s.config h × (n ≡ length h)

-- the first bad place of the journal is in this line of it: behind the line of the format each entry has one, and the last is
-- the `end` line
abbrev pub IsIllegalPair : List ℕ → ℕ → Type 0
IsIllegalPair bytes line =
    (s : Scenario) × (h : List Entry) × (place : ℕ) × PairsWith bytes s h × IsFirstBad s.config h place × (line ≡ place + 1)

abbrev pub IsVerdict : List ℕ → Verdict → Type 0
IsVerdict bytes (Legal n) = IsLegalPair bytes n
IsVerdict bytes (Illegal line) = IsIllegalPair bytes line

-- ---- refusals

-- the octets are a pair whose scenario can be read and whose journal is this
abbrev pub HasJournal : List ℕ → List ℕ → Type 0
HasJournal bytes behind = (front : List ℕ) × (s : Scenario) × IsPair bytes front behind × IsScenario front s

-- why octets are refused; want of memory needs no cause
abbrev pub RefusesPair : List ℕ → ReplayFault → Type 0
RefusesPair bytes fault.NoMem = ⊤
RefusesPair bytes fault.NoJournal = HasNoSeparator bytes
RefusesPair bytes (fault.Scenario why) = (front behind : List ℕ) × IsPair bytes front behind × IsNoScenario front why
RefusesPair bytes (fault.Line n) = (behind : List ℕ) × HasJournal bytes behind × IsBadLine behind n
RefusesPair bytes fault.Truncated = (behind : List ℕ) × HasJournal bytes behind × IsTruncated behind

-- ---- the same by its parts

-- why the scenario's octets are refused
abbrev pub RefusesFront : List ℕ → ReplayFault → Type 0
RefusesFront front f = (f ≡ fault.NoMem) ⊎ ((why : ScenarioFault) × (f ≡ fault.Scenario why) × IsNoScenario front why)

-- why the journal's octets are refused
abbrev pub RefusesBehind : List ℕ → ReplayFault → Type 0
RefusesBehind behind f =
    (f ≡ fault.NoMem) ⊎ (((n : ℕ) × (f ≡ fault.Line n) × IsBadLine behind n) ⊎ ((f ≡ fault.Truncated) × IsTruncated behind))

-- what entries are judged to be
abbrev pub IsVerdictOn : Config → List Entry → Verdict → Type 0
IsVerdictOn config h (Legal n) = IsHistory config h × (n ≡ length h)
IsVerdictOn config h (Illegal line) = (place : ℕ) × IsFirstBad config h place × (line ≡ place + 1)
