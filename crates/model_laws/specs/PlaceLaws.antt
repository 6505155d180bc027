-- Histories and their bad places.
use Rattle.std.specs.Prelude.{◌≡◌, ◌↔◌, ℕ, List, take}
use Rattle.model_histories.specs.Histories.{run, IsHistory, IsBadAt, IsUnsettledAt, IsFirstBad}
use Rattle.model_settling.specs.Settling.{IsSettled}
use Rattle.model_values.specs.declared.config.Config.{Config}
use Rattle.model_values.specs.declared.entry.Entry.{Entry}

-- a list of entries is a history exactly where no place of it is bad
abbrev pub HistoriesHaveNoBadPlace : Type 0
HistoriesHaveNoBadPlace = (config : Config) (h : List Entry) → IsHistory config h ↔ ((place : ℕ) → (¬ IsBadAt config h place) × (¬ IsUnsettledAt config h place))

-- and exactly where no place of it is the first bad one
abbrev pub HistoriesHaveNoFirstBadPlace : Type 0
HistoriesHaveNoFirstBadPlace = (config : Config) (h : List Entry) → IsHistory config h ↔ ((place : ℕ) → ¬ IsFirstBad config h place)

-- no list has two first bad places
abbrev pub FirstBadPlaceIsOne : Type 0
FirstBadPlaceIsOne = (config : Config) (h : List Entry) (p q : ℕ) → IsFirstBad config h p → IsFirstBad config h q → p ≡ q

-- each beginning of a history that ends at a settled state is a history
abbrev pub BeginningsAreHistories : Type 0
BeginningsAreHistories = (config : Config) (h : List Entry) (n : ℕ) → IsHistory config h → IsSettled (run config (take n h)) → IsHistory config (take n h)
