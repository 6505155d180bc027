-- The states and entries of a history, one after another. That a law holds at each state that a history goes through is said of the
-- state after its first n entries; where n is the number of entries or more, that is the state at its end.
use Rattle.std.specs.Prelude.{◌≡◌, ℕ, List, Some, IsSomeAnd, take, slice_get}
use Rattle.net_base.specs.declared.numbers.ConnNo.{ConnNo}
use Rattle.net_base.specs.declared.numbers.ExchangeNo.{ExchangeNo}
use Rattle.net_base.specs.declared.numbers.Moment.{Moment}
use Rattle.model_histories.specs.Histories.{now_of, run, IsHistory}
use Rattle.model_values.specs.declared.config.Config.{Config}
use Rattle.model_values.specs.declared.entry.Entry.{Entry}
use Rattle.model_values.specs.declared.state.AbstractPool.{AbstractPool}
use Rattle.model_values.specs.declared.state.Connection.{Connection}
use Rattle.model_values.specs.declared.state.Exchange.{Exchange}
use Rattle.model_authority.specs.Lists.{numbered}

-- the state after the first n entries
abbrev pub state_at : Config → List Entry → ℕ → AbstractPool
state_at config h n = run config (take n h)

-- the greatest moment of the first n entries, 0 where there are none
abbrev pub moment_at : List Entry → ℕ → Moment
moment_at h n = record { 0 = now_of (take n h) }

-- in a history, this entry comes after n others
pub record Comes (config : Config) (h : List Entry) (n : ℕ) (x : Entry) : Type 0 where
  pub history : IsHistory config h
  pub is_entry : slice_get h n ≡ Some x

-- the fact holds of the exchange of this number
abbrev pub OfExchange : AbstractPool → ExchangeNo → (Exchange → Type 0) → Type 0
OfExchange s e P = IsSomeAnd (numbered e.0 s.exchanges) P

-- the fact holds of the connection of this number
abbrev pub OfConnection : AbstractPool → ConnNo → (Connection → Type 0) → Type 0
OfConnection s c P = IsSomeAnd (numbered c.0 s.connections) P

-- the fact holds of the exchange and the connection of these numbers
abbrev pub OfBoth : AbstractPool → ExchangeNo → ConnNo → (Exchange → Connection → Type 0) → Type 0
OfBoth s e c P = OfExchange s e (λ exchange. OfConnection s c (λ connection. P exchange connection))
