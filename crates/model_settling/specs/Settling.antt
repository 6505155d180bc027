-- What the pool does by itself after a call: always the first kind that applies, until none does. The order of the kinds
-- and the ranks are this project's own.
use Rattle.std.specs.Prelude.{◌≡◌, ℕ, ◌+◌, ◌&&◌, not, nat_le, Bool, false, Option, Some, None, IsTrue, length}
use Rattle.std.specs.List.{list_any}
use Rattle.net_base.specs.declared.numbers.ConnNo.{ConnNo}
use Rattle.net_base.specs.declared.numbers.ExchangeNo.{ExchangeNo}
use Rattle.net_base.specs.declared.numbers.Moment.{Moment}
use Rattle.net_base.specs.declared.numbers.StreamNo.{StreamNo}
use Rattle.net_base.specs.declared.target.Target.{Target}
use Rattle.partition_keys.specs.Freshness.{is_fresh}
use Rattle.partition_keys.specs.declared.alternative.Alternative.{Alternative}
use Rattle.model_authority.specs.Lists.{numbered, is_nil, IsLowest, IsLeast}
use Rattle.model_settling.specs.Room.{is_eligible, has_room, has_room_but_total, is_total_full}
use Rattle.model_authority.specs.Statuses.{is_waiting, has_ended, is_open, is_closing, is_h2}
use Rattle.model_authority.specs.Ways.{alternatives_of, target_of, is_usable, HasAuthority}
use Rattle.model_values.specs.declared.entry.Act.{Act}
use Rattle.model_values.specs.declared.entry.Act.TheVariants.{Submit, Cancel, Reprioritise, Preconnect, Resolved, Network, Tick, Shutdown, Dial, Orders, Reported, Closed, Expire, Lapse, Assign, Want, Evict}
use Rattle.model_values.specs.declared.entry.Way.{Way}
use Rattle.model_values.specs.declared.state.AbstractPool.{AbstractPool}
use Rattle.model_values.specs.declared.state.Connection.{Connection}
use Rattle.model_values.specs.declared.state.Exchange.{Exchange}

-- ---- which item a kind is about

abbrev pub has_passed : Moment → Option Moment → Bool
has_passed now None = false
has_passed now (Some deadline) = nat_le deadline.0 now.0

-- the exchange has no end, and its deadline is reached
abbrev pub has_expired : AbstractPool → ℕ → Exchange → Bool
has_expired s number e = not (has_ended e.status) && has_passed s.latest e.ask.deadline

abbrev pub is_fresh_h2 : Moment → Alternative → Bool
is_fresh_h2 now a = is_h2 a.proto && is_fresh a now

-- the exchange is a waiting probe whose origin has no fresh HTTP/2 alternative
abbrev pub has_lapsed : AbstractPool → ℕ → Exchange → Bool
has_lapsed s number e = is_waiting e.status && e.ask.probe && not (list_any (is_fresh_h2 s.latest) (alternatives_of s e.ask.key e.ask.request.origin))

abbrev pub can_use : AbstractPool → Exchange → ℕ → Connection → Bool
can_use s e number c = is_usable s e c

-- the exchange is eligible and has a usable connection
abbrev pub can_start : AbstractPool → ℕ → Exchange → Bool
can_start s number e = is_eligible s e && list_any (is_usable s e) s.connections

-- the exchange is eligible and may have a new connection
abbrev pub can_open : AbstractPool → ℕ → Exchange → Bool
can_open s number e = is_eligible s e && has_room s number e

-- the exchange is eligible and might have a new connection were the total not full
abbrev pub is_held_back : AbstractPool → ℕ → Exchange → Bool
is_held_back s number e = is_eligible s e && has_room_but_total s number e

-- the connection is open and carries nothing
abbrev pub is_idle : ℕ → Connection → Bool
is_idle number c = is_open c.phase && is_nil c.live

-- RFC 9218, section 4.1: from 0, the most urgent, to 7. That the pool ranks by it is this project's own
abbrev pub urgency_of : Exchange → ℕ
urgency_of e = e.ask.urgency

abbrev pub idle_since_of : Connection → ℕ
idle_since_of c = c.idle_since.0

-- ---- the kinds, in their order

-- the lowest-numbered exchange whose deadline is reached
abbrev pub IsExpire : AbstractPool → ExchangeNo → Type 0
IsExpire s e = IsLowest (has_expired s) s.exchanges e.0

-- the lowest-numbered waiting probe whose origin has no fresh HTTP/2 alternative
pub record IsLapse (s : AbstractPool) (e : ExchangeNo) : Type 0 where
  pub no_expire : (other : ExchangeNo) → ¬ IsExpire s other
  pub lowest : IsLowest (has_lapsed s) s.exchanges e.0

-- of the eligible exchanges with a usable connection the one of least rank, its lowest-numbered usable connection, the
-- way in which it may use it, and the connection's next stream
pub record IsAssign (s : AbstractPool) (e : ExchangeNo) (c : ConnNo) (stream : StreamNo) (by : Way) : Type 0 where
  pub no_expire : (other : ExchangeNo) → ¬ IsExpire s other
  pub no_lapse : (other : ExchangeNo) → ¬ IsLapse s other
  pub least : IsLeast (can_start s) urgency_of s.exchanges e.0
  pub exchange : Exchange
  pub is_exchange : numbered e.0 s.exchanges ≡ Some exchange
  pub lowest : IsLowest (can_use s exchange) s.connections c.0
  pub connection : Connection
  pub is_connection : numbered c.0 s.connections ≡ Some connection
  pub authority : HasAuthority s exchange connection by
  pub next : stream.0 ≡ connection.next_stream

-- of the eligible exchanges with room the one of least rank, a new connection, and the exchange's target
pub record IsWant (s : AbstractPool) (e : ExchangeNo) (c : ConnNo) (target : Target) : Type 0 where
  pub no_expire : (other : ExchangeNo) → ¬ IsExpire s other
  pub no_lapse : (other : ExchangeNo) → ¬ IsLapse s other
  pub no_assign : (f : ExchangeNo) (d : ConnNo) (r : StreamNo) (by : Way) → ¬ IsAssign s f d r by
  pub least : IsLeast (can_open s) urgency_of s.exchanges e.0
  pub exchange : Exchange
  pub is_exchange : numbered e.0 s.exchanges ≡ Some exchange
  pub is_new : c.0 ≡ length s.connections + 1
  pub is_target : target ≡ target_of s exchange

-- the total is full, no connection closes yet, and an exchange waits for that alone: the connection that is idle for
-- longest
pub record IsEvict (s : AbstractPool) (c : ConnNo) : Type 0 where
  pub no_expire : (other : ExchangeNo) → ¬ IsExpire s other
  pub no_lapse : (other : ExchangeNo) → ¬ IsLapse s other
  pub no_assign : (f : ExchangeNo) (d : ConnNo) (r : StreamNo) (by : Way) → ¬ IsAssign s f d r by
  pub no_want : (f : ExchangeNo) (d : ConnNo) (t : Target) → ¬ IsWant s f d t
  pub full : IsTrue (is_total_full s)
  pub none_closing : ¬ IsTrue (list_any (λ d. is_closing d.phase) s.connections)
  pub held_back : (number : ℕ) × (e : Exchange) × (numbered number s.exchanges ≡ Some e) × IsTrue (is_held_back s number e)
  pub least : IsLeast is_idle idle_since_of s.connections c.0

-- what the pool is to do by itself
abbrev pub IsDue : AbstractPool → Act → Type 0
IsDue s (Submit ask reply) = ⊥
IsDue s (Cancel exchange reply) = ⊥
IsDue s (Reprioritise exchange urgency reply) = ⊥
IsDue s (Preconnect key credentials origin count reply) = ⊥
IsDue s (Resolved key host addresses reply) = ⊥
IsDue s Network = ⊥
IsDue s Tick = ⊥
IsDue s (Shutdown reply) = ⊥
IsDue s (Dial conn target) = ⊥
IsDue s (Orders conn sent orders) = ⊥
IsDue s (Reported conn sent report) = ⊥
IsDue s (Closed conn sent cause heard) = ⊥
IsDue s (Expire e) = IsExpire s e
IsDue s (Lapse e) = IsLapse s e
IsDue s (Assign e c stream by) = IsAssign s e c stream by
IsDue s (Want e c target) = IsWant s e c target
IsDue s (Evict c) = IsEvict s c

-- the pool has nothing to do by itself
abbrev pub IsSettled : AbstractPool → Type 0
IsSettled s = (act : Act) → ¬ IsDue s act

-- the pool has something to do by itself
abbrev pub IsLate : AbstractPool → Type 0
IsLate s = (act : Act) × IsDue s act
