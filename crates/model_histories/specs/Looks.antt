-- The answers that no entry carries. Each is given from one history.
use Rattle.std.specs.Prelude.{◌≡◌, ℕ, [], Some, None, IsTrue, IsSomeAnd}
use Rattle.net_base.specs.declared.numbers.CallerNo.{CallerNo}
use Rattle.net_base.specs.declared.numbers.ConnNo.{ConnNo}
use Rattle.net_base.specs.declared.numbers.ExchangeNo.{ExchangeNo}
use Rattle.net_base.specs.declared.numbers.Moment.{Moment}
use Rattle.model_steps.specs.After.{noted}
use Rattle.model_authority.specs.Lists.{numbered, Passes}
use Rattle.model_histories.specs.Replies.{own_exchange, waits_for_dial}
use Rattle.model_settling.specs.Settling.{IsLate}
use Rattle.model_authority.specs.Statuses.{has_ended}
use Rattle.model_values.specs.declared.outcome.Outcome.{Outcome}
use Rattle.model_values.specs.declared.reply.Look.{Look}
use Rattle.model_values.specs.declared.reply.Look.TheVariants as look
use Rattle.model_values.specs.declared.state.AbstractPool.{AbstractPool}
use Rattle.model_values.specs.declared.state.Status.{Status}
use Rattle.model_values.specs.declared.state.Status.TheVariants.{Waiting, Leased, Ended}

-- the exchange has ended like this
abbrev pub HasEndedBy : Outcome → Status → Type 0
HasEndedBy how Waiting = ⊥
HasEndedBy how (Leased conn stream by handed) = ⊥
HasEndedBy how (Ended outcome) = how ≡ outcome

-- what a caller sees of an exchange at this state
abbrev pub IsLook : AbstractPool → CallerNo → ExchangeNo → Look → Type 0
IsLook s who e look.Unknown = own_exchange s who e ≡ None
IsLook s who e (look.Ended how) = IsSomeAnd (own_exchange s who e) (λ exchange. HasEndedBy how exchange.status)
IsLook s who e (look.Pending n) = IsSomeAnd (own_exchange s who e) (λ exchange. ¬ IsTrue (has_ended exchange.status)) × (n ≡ s.entries)

-- a look at this moment is late: something is due once its moment is counted
abbrev pub IsLateAt : AbstractPool → Moment → Type 0
IsLateAt s m = IsLate (noted s m)

-- no connection is wanted
abbrev pub NoneWanted : AbstractPool → Type 0
NoneWanted s = (number : ℕ) → ¬ Passes waits_for_dial s.connections number

-- none is wanted, and the pool was shut down at this place
abbrev pub IsStop : AbstractPool → ℕ → Type 0
IsStop s place = NoneWanted s × (s.shutdown ≡ Some place)

-- none is wanted and there was no shutdown, in the history of this length
abbrev pub IsNothingWanted : AbstractPool → ℕ → Type 0
IsNothingWanted s n = NoneWanted s × (s.shutdown ≡ None) × (n ≡ s.entries)

-- no order of the connection is pending, in the history of this length
abbrev pub IsNothingOrdered : AbstractPool → ConnNo → ℕ → Type 0
IsNothingOrdered s c n = IsSomeAnd (numbered c.0 s.connections) (λ connection. connection.orders ≡ []) × (n ≡ s.entries)
