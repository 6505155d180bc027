-- Which calls make a history longer.
use Rattle.std.specs.Prelude.{◌↔◌, ℕ, List, ◌∷◌, ◌++◌, max}
use Rattle.net_base.specs.declared.numbers.Moment.{Moment}
use Rattle.model_histories.specs.Histories.{run, IsHistory}
use Rattle.model_histories.specs.Legal.{IsCallsEntry}
use Rattle.model_histories.specs.Looks.{IsLateAt}
use Rattle.model_laws.specs.SettlingLaws.{Settles}
use Rattle.model_settling.specs.Settling.{IsDue, IsLate}
use Rattle.model_steps.specs.After.{after}
use Rattle.model_values.specs.declared.config.Config.{Config}
use Rattle.model_values.specs.declared.entry.Act.{Act}
use Rattle.model_values.specs.declared.entry.Entry.{Entry}
use Rattle.model_values.specs.declared.state.AbstractPool.{AbstractPool}

-- a legal call at the state that a history leaves, and behind it entries of the pool itself up to a settled state, make a history
abbrev pub CallsMakeHistories : Type 0
CallsMakeHistories =
    (config : Config) (h : List Entry) (x : Entry) (xs : List Entry) → IsHistory config h → IsCallsEntry (run config h) x → Settles (after (run config h) x) xs → IsHistory config (h ++ x ∷ xs)

-- what is due is due whatever the number of entries
abbrev pub DueIgnoresEntries : Type 0
DueIgnoresEntries = (s : AbstractPool) (n : ℕ) (act : Act) → IsDue (record s { entries = n }) act ↔ IsDue s act

-- so a look is late where something is due once the greatest moment alone is raised to its own
abbrev pub LateIgnoresEntries : Type 0
LateIgnoresEntries = (s : AbstractPool) (m : Moment) → IsLateAt s m ↔ IsLate (record s { latest = record { 0 = max s.latest.0 m.0 } })
