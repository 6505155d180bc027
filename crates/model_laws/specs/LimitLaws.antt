-- The limits of a pool are kept.
use Rattle.std.specs.Prelude.{◌≡◌, ◌<◌, ◌≤◌, ◌+◌, ◌&&◌, ℕ, List, [], ◌∷◌, Bool, false, Option, Some, None, if◌then◌else◌, IsTrue, length}
use Rattle.net_base.specs.declared.numbers.ConnNo.{ConnNo}
use Rattle.net_base.specs.declared.numbers.ExchangeNo.{ExchangeNo}
use Rattle.net_base.specs.declared.numbers.StreamNo.{StreamNo}
use Rattle.net_base.specs.declared.target.Target.{Target}
use Rattle.partition_keys.specs.declared.group.GroupKey.{GroupKey}
use Rattle.model_laws.specs.Courses.{state_at, Comes, OfExchange, OfConnection}
use Rattle.model_histories.specs.Histories.{opening, IsHistory}
use Rattle.model_settling.specs.Counts.{count_total, count_in_group}
use Rattle.model_steps.specs.After.{after}
use Rattle.model_values.specs.declared.config.Config.{Config}
use Rattle.model_values.specs.declared.entry.Act.TheVariants.{Assign, Want}
use Rattle.model_values.specs.declared.entry.Entry.{Entry}
use Rattle.model_values.specs.declared.entry.Way.{Way}
use Rattle.model_values.specs.declared.state.AbstractPool.{AbstractPool}
use Rattle.model_values.specs.declared.state.Connection.{Connection}
use Rattle.model_values.specs.declared.state.Exchange.{Exchange}
use Rattle.model_authority.specs.Lists.{numbered}
use Rattle.model_authority.specs.Statuses.{is_waiting, is_leased, speaks_h2}
use Rattle.model_authority.specs.Ways.{group_of}
use Rattle.model_values.specs.Limits.{most_moves}

-- ---- connections

-- the connections that aren't gone are below the total, and those of the exchange's group below the group's limit
pub record IsBelowLimits (config : Config) (s : AbstractPool) (exchange : Exchange) : Type 0 where
  pub total : count_total s < config.total
  pub group : count_in_group s (group_of s exchange) < config.per_group

-- at each Want of a history
abbrev pub WantsStayBelowLimits : Type 0
WantsStayBelowLimits =
    (config : Config) (h : List Entry) (n : ℕ) (x : Entry) (e : ExchangeNo) (c : ConnNo) (t : Target) →
    Comes config h n x → x.act ≡ Want e c t → OfExchange (state_at config h n) e (IsBelowLimits config (state_at config h n))

-- so at each state of a history, however its connections were opened, they are no more than that
pub record IsWithinLimits (config : Config) (s : AbstractPool) : Type 0 where
  pub total : count_total s ≤ config.total
  pub group : (g : GroupKey) → count_in_group s g ≤ config.per_group

abbrev pub ConnectionsStayWithinLimits : Type 0
ConnectionsStayWithinLimits = (config : Config) (h : List Entry) (n : ℕ) → IsHistory config h → IsWithinLimits config (state_at config h n)

-- ---- streams

-- RFC 9113, section 5.1.2: on HTTP/2 the live streams are below what the peer allows, and below the pool's own limit, which is this
-- project's own; RFC 9112, section 9.3.2, without pipelining: on HTTP/1.1 there is none. The next stream is no later than the last one
-- that the limits allow, which is this project's own too
pub record HasPlace (config : Config) (connection : Connection) : Type 0 where
  pub h2 : IsTrue (speaks_h2 connection) → (length connection.live < config.streams) × (length connection.live < connection.peer_limit)
  pub h1 : (¬ IsTrue (speaks_h2 connection)) → connection.live ≡ []
  pub number : connection.next_stream ≤ config.last_stream

-- at each Assign of a history
abbrev pub AssignsHavePlace : Type 0
AssignsHavePlace =
    (config : Config) (h : List Entry) (n : ℕ) (x : Entry) (e : ExchangeNo) (c : ConnNo) (r : StreamNo) (by : Way) →
    Comes config h n x → x.act ≡ Assign e c r by → OfConnection (state_at config h n) c (HasPlace config)

-- so at each state of a history, whatever the peer has allowed since, no more are live than the pool's own limit, and one on HTTP/1.1
pub record HasStreamsWithin (config : Config) (connection : Connection) : Type 0 where
  pub h2 : IsTrue (speaks_h2 connection) → length connection.live ≤ config.streams
  pub h1 : (¬ IsTrue (speaks_h2 connection)) → length connection.live ≤ 1

abbrev pub StreamsStayWithinLimits : Type 0
StreamsStayWithinLimits =
    (config : Config) (h : List Entry) (n number : ℕ) (connection : Connection) → IsHistory config h → numbered number (state_at config h n).connections ≡ Some connection → HasStreamsWithin config connection

-- ---- moves

-- it has a lease before and waits behind
abbrev pub goes_back : Option Exchange → Option Exchange → Bool
goes_back None behind = false
goes_back (Some before) None = false
goes_back (Some before) (Some behind) = is_leased before.status && is_waiting behind.status

-- the exchange of this number has a lease before the entry and waits again behind it
abbrev pub waits_again : AbstractPool → Entry → ExchangeNo → Bool
waits_again s x e = goes_back (numbered e.0 s.exchanges) (numbered e.0 (after s x).exchanges)

-- how often it waits again by these entries
unfoldable pub count_waits_again : AbstractPool → List Entry → ExchangeNo → ℕ
count_waits_again s [] e = 0
count_waits_again s (x ∷ xs) e = (if waits_again s x e then 1 else 0) + count_waits_again (after s x) xs e

-- in a history an exchange waits again at most five times
abbrev pub ExchangesWaitAgainFiveTimes : Type 0
ExchangesWaitAgainFiveTimes = (config : Config) (h : List Entry) (e : ExchangeNo) → IsHistory config h → count_waits_again (opening config) h e ≤ most_moves
