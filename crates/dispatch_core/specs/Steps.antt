-- A history while a call is under way.
use Rattle.std.specs.Prelude.{◌≡◌, ℕ, List, ◌∷◌, ◌++◌, Some, All, take, slice_get}
use Rattle.model_histories.specs.Histories.{IsHistory, MayStand, run}
use Rattle.model_settling.specs.Settling.{IsSettled}
use Rattle.model_values.specs.declared.config.Config.{Config}
use Rattle.model_values.specs.declared.entry.Entry.{Entry}
use Rattle.model_values.specs.declared.state.AbstractPool.{AbstractPool}

-- each entry may stand where it stands, and they leave this state, which need not be settled
pub record Reaches (config : Config) (h : List Entry) (s : AbstractPool) : Type 0 where
  pub each : (i : ℕ) (e : Entry) → slice_get h i ≡ Some e → MayStand (run config (take i h)) e
  pub state : s ≡ run config h

-- entries came behind what was there
pub record Extends (old new : List Entry) : Type 0 where
  pub behind : List Entry
  pub seen : new ≡ old ++ behind

-- entries of the pool itself came behind what was there
pub record Goes (config : Config) (old new : List Entry) (s : AbstractPool) : Type 0 where
  pub reaches : Reaches config new s
  pub behind : List Entry
  pub seen : new ≡ old ++ behind
  pub own : All (λ e. e.who.0 ≡ 0) behind

-- and the pool has nothing more to do
pub record Settles (config : Config) (old new : List Entry) (s : AbstractPool) : Type 0 where
  pub goes : Goes config old new s
  pub settled : IsSettled s

-- the call's entry, and what the pool did by itself behind it, make a longer history
pub record Follows (config : Config) (old : List Entry) (e : Entry) (new : List Entry) (s : AbstractPool) : Type 0 where
  pub behind : List Entry
  pub seen : new ≡ old ++ e ∷ behind
  pub own : All (λ x. x.who.0 ≡ 0) behind
  pub history : IsHistory config new
  pub state : s ≡ run config new
