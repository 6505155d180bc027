-- Histories: which lists of entries a pool may leave.
use Rattle.std.specs.Prelude.{◌≡◌, ◌≢◌, ◌<◌, ◌⊎◌, ℕ, List, [], ◌∷◌, ◌+◌, max, Some, None, length, take, slice_get}
use Rattle.model_steps.specs.After.{after}
use Rattle.model_histories.specs.Legal.{IsLegal}
use Rattle.model_settling.specs.Settling.{IsSettled}
use Rattle.model_values.specs.declared.config.Config.{Config}
use Rattle.model_values.specs.declared.entry.Entry.{Entry}
use Rattle.model_values.specs.declared.state.AbstractPool.{AbstractPool}

-- the pool before its first entry
abbrev pub opening : Config → AbstractPool
opening config =
    record {
      config = config;
      exchanges = [];
      connections = [];
      alternatives = [];
      addresses = [];
      protos = [];
      shutdown = None;
      latest = record { 0 = 0 };
      entries = 0;
    }

-- the greatest moment of a history, 0 for one without entries
abbrev pub now_of : List Entry → ℕ
now_of [] = 0
now_of (x ∷ xs) = max x.moment.0 (now_of xs)

-- the state after entries, one after another
unfoldable pub run_from : AbstractPool → List Entry → AbstractPool
run_from s [] = s
run_from s (x ∷ xs) = run_from (after s x) xs

-- the state that a history leaves
unfoldable pub run : Config → List Entry → AbstractPool
run config h = run_from (opening config) h

-- the entry is legal here, and a call comes only where the pool has nothing to do by itself
pub record MayStand (s : AbstractPool) (x : Entry) : Type 0 where
  pub legal : IsLegal s x
  pub settled : x.who.0 ≢ 0 → IsSettled s

-- a history: each entry may stand where it stands, and at the end the pool has nothing to do by itself
pub record IsHistory (config : Config) (h : List Entry) : Type 0 where
  pub each : (i : ℕ) (x : Entry) → slice_get h i ≡ Some x → MayStand (run config (take i h)) x
  pub settled : IsSettled (run config h)

-- the entry at this place, counted from 1, may not stand where it stands
pub record IsBadAt (config : Config) (h : List Entry) (place : ℕ) : Type 0 where
  pub index : ℕ
  pub is_place : place ≡ index + 1
  pub entry : Entry
  pub is_entry : slice_get h index ≡ Some entry
  pub bad : ¬ MayStand (run config (take index h)) entry

-- at the place behind the last entry the pool has something to do by itself
pub record IsUnsettledAt (config : Config) (h : List Entry) (place : ℕ) : Type 0 where
  pub is_place : place ≡ length h + 1
  pub unsettled : ¬ IsSettled (run config h)

-- the first place that keeps the list from being a history
pub record IsFirstBad (config : Config) (h : List Entry) (place : ℕ) : Type 0 where
  pub before : (i : ℕ) (x : Entry) → i + 1 < place → slice_get h i ≡ Some x → MayStand (run config (take i h)) x
  pub bad : IsBadAt config h place ⊎ IsUnsettledAt config h place
