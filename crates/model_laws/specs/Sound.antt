-- What holds of every state that a history goes through. `reached_is_sound` proves it; what is built over the abstract pool may
-- rest on it.
use Rattle.std.specs.Prelude.{◌≡◌, ◌<◌, ◌≤◌, ◌+◌, ◌*◌, ◌++◌, ◌⊎◌, ℕ, List, [], Some, take, slice_get, IsTrue, IsSome, IsSomeAnd, All, AllPairs, Contains, length}
use Rattle.net_base.specs.declared.numbers.ConnNo.{ConnNo}
use Rattle.net_base.specs.declared.numbers.ExchangeNo.{ExchangeNo}
use Rattle.net_base.specs.declared.numbers.StreamNo.{StreamNo}
use Rattle.partition_keys.specs.Equality.{same_group}
use Rattle.model_laws.specs.LimitLaws.{IsWithinLimits, HasStreamsWithin}
use Rattle.model_changes.specs.Connections.{streams_started}
use Rattle.model_laws.specs.Courses.{state_at, OfExchange}
use Rattle.model_histories.specs.Histories.{run, MayStand, IsHistory}
use Rattle.model_values.specs.declared.config.Config.{Config}
use Rattle.model_values.specs.declared.entry.Entry.{Entry}
use Rattle.model_values.specs.declared.order.OrderMark.TheVariants as mark
use Rattle.model_values.specs.declared.state.AbstractPool.{AbstractPool}
use Rattle.model_values.specs.declared.state.Connection.{Connection}
use Rattle.model_values.specs.declared.state.Exchange.{Exchange}
use Rattle.model_authority.specs.Lists.{numbered}
use Rattle.model_authority.specs.Statuses.{has_ended, is_wanted, is_open, is_draining, is_closing, is_gone, is_opening, is_busy, is_at, is_unsent_at, speaks_h2}
use Rattle.model_authority.specs.Ways.{is_row_of, is_host_row_of}
use Rattle.model_values.specs.Limits.{most_connections, most_moves, most_origins}

-- the connection was opened and isn't gone, and the stream's number is below the next one
pub record Carries (connection : Connection) (r : StreamNo) : Type 0 where
  pub busy : IsTrue (is_busy connection.phase)
  pub given : r.0 < connection.next_stream

-- each lease is on a stream of a connection that carries it
abbrev pub LeasesAreCarried : AbstractPool → Type 0
LeasesAreCarried s = (number : ℕ) (exchange : Exchange) (c : ConnNo) (r : StreamNo) → numbered number s.exchanges ≡ Some exchange → IsTrue (is_at c r exchange.status) → IsSomeAnd (numbered c.0 s.connections) (λ connection. Carries connection r)

-- no two exchanges have a lease on one stream of one connection
abbrev pub LeasesAreApart : AbstractPool → Type 0
LeasesAreApart s =
    (n m : ℕ) (exchange other : Exchange) (c : ConnNo) (r : StreamNo) → numbered n s.exchanges ≡ Some exchange → numbered m s.exchanges ≡ Some other →
    IsTrue (is_at c r exchange.status) → IsTrue (is_at c r other.status) → n ≡ m

-- a lease on a stream that was started isn't unsent
abbrev pub StartedAreSent : AbstractPool → Type 0
StartedAreSent s =
    (number : ℕ) (exchange : Exchange) (c : ConnNo) (r : StreamNo) (connection : Connection) → numbered number s.exchanges ≡ Some exchange → IsTrue (is_unsent_at c r exchange.status) →
    numbered c.0 s.connections ≡ Some connection → ¬ Contains connection.started r

-- no stream was started, is ordered to start, or is live
pub record HasNoStreams (connection : Connection) : Type 0 where
  pub started : connection.started ≡ []
  pub ordered : streams_started connection.orders ≡ []
  pub live : connection.live ≡ []

-- a connection's streams have numbers below the next one; one that isn't up yet has none, one that closes starts none; and no more of
-- them are live than the pool's own limit allows on HTTP/2, and one on HTTP/1.1
pub record HasStreamsInOrder (config : Config) (connection : Connection) : Type 0 where
  pub started : All (λ r. r.0 < connection.next_stream) connection.started
  pub ordered : All (λ r. r.0 < connection.next_stream) (streams_started connection.orders)
  pub opening : IsTrue (is_opening connection.phase) → HasNoStreams connection
  pub closing : IsTrue (is_closing connection.phase) → streams_started connection.orders ≡ []
  pub streams : HasStreamsWithin config connection

-- the streams that the connection was given: those that were started, and behind them those that are ordered to start
abbrev pub streams_given : Connection → List StreamNo
streams_given connection = connection.started ++ streams_started connection.orders

pub record IsOdd (n : ℕ) : Type 0 where
  pub half : ℕ
  pub is_odd : n ≡ 2 * half + 1

-- the connection starts no further stream: it closes or is gone
abbrev pub IsThrough : Connection → Type 0
IsThrough connection = IsTrue (is_closing connection.phase) ⊎ IsTrue (is_gone connection.phase)

-- the streams that a connection was given rise, up to the last one that the limits allow; RFC 9113, section 5.1.1: on HTTP/2 they are
-- odd, and so is the next one while it is open. Those that are ordered to start are live, and those that are live were given. RFC 9112,
-- section 9.3.2, without pipelining: on HTTP/1.1 none was given behind one that is live
pub record GivesStreamsInOrder (config : Config) (connection : Connection) : Type 0 where
  pub rising : AllPairs (λ a b. a.0 < b.0) (streams_given connection)
  pub within : All (λ r. r.0 ≤ config.last_stream) (streams_given connection)
  pub odd : IsTrue (speaks_h2 connection) → All (λ r. IsOdd r.0) (streams_given connection)
  pub next : IsTrue (speaks_h2 connection) → IsTrue (is_open connection.phase) → IsOdd connection.next_stream
  pub ordered : All (λ r. Contains connection.live r) (streams_started connection.orders)
  pub live : (¬ IsThrough connection) → All (λ r. Contains (streams_given connection) r) connection.live
  pub last : (¬ IsTrue (speaks_h2 connection)) → (¬ IsThrough connection) → All (λ r. All (λ other. other.0 ≤ r.0) (streams_given connection)) connection.live

-- on a connection that isn't gone each start that is ordered is of the exchange that has the lease on its stream, which isn't handed yet
abbrev pub PendingAreLeased : AbstractPool → Type 0
PendingAreLeased s =
    (c : ConnNo) (connection : Connection) (e : ExchangeNo) (r : StreamNo) → numbered c.0 s.connections ≡ Some connection → (¬ IsTrue (is_gone connection.phase)) →
    Contains connection.orders (mark.Start e r) → OfExchange s e (λ exchange. IsTrue (is_unsent_at c r exchange.status))

-- and the start of each lease that isn't handed yet is ordered, on a connection that doesn't close
abbrev pub UnsentAwaitHanding : AbstractPool → Type 0
UnsentAwaitHanding s =
    (c : ConnNo) (connection : Connection) (e : ExchangeNo) (exchange : Exchange) (r : StreamNo) → numbered c.0 s.connections ≡ Some connection → (¬ IsTrue (is_closing connection.phase)) →
    numbered e.0 s.exchanges ≡ Some exchange → IsTrue (is_unsent_at c r exchange.status) → Contains connection.orders (mark.Start e r)

-- a pool that was shut down has ended each exchange, and has no connection that is wanted, open or draining
pub record IsShutDown (s : AbstractPool) : Type 0 where
  pub ended : (number : ℕ) (exchange : Exchange) → numbered number s.exchanges ≡ Some exchange → IsTrue (has_ended exchange.status)
  pub closed : (number : ℕ) (connection : Connection) → numbered number s.connections ≡ Some connection → (¬ IsTrue (is_wanted connection.phase)) × (¬ IsTrue (is_open connection.phase)) × (¬ IsTrue (is_draining connection.phase))

-- at most one row is of one origin in one partition, of one host in one partition, and of one group: so the first that fits is the one
-- that does
pub record RowsAreApart (s : AbstractPool) : Type 0 where
  pub alternatives : AllPairs (λ a b. ¬ IsTrue (is_row_of b.key b.origin a)) s.alternatives
  pub addresses : AllPairs (λ a b. ¬ IsTrue (is_host_row_of b.key b.host a)) s.addresses
  pub protos : AllPairs (λ a b. ¬ IsTrue (same_group a.group b.group)) s.protos

-- what each state of a history with these limits keeps
pub record IsSound (config : Config) (s : AbstractPool) : Type 0 where
  pub limits : s.config ≡ config
  pub carried : LeasesAreCarried s
  pub apart : LeasesAreApart s
  pub sent : StartedAreSent s
  pub orderly : (number : ℕ) (connection : Connection) → numbered number s.connections ≡ Some connection → HasStreamsInOrder config connection
  pub given : (number : ℕ) (connection : Connection) → numbered number s.connections ≡ Some connection → GivesStreamsInOrder config connection
  pub pending : PendingAreLeased s
  pub awaited : UnsentAwaitHanding s
  pub moves : (number : ℕ) (exchange : Exchange) → numbered number s.exchanges ≡ Some exchange → exchange.moves ≤ most_moves
  pub shut : IsSome s.shutdown → IsShutDown s
  pub within : IsWithinLimits config s
  pub exchanges : length s.exchanges ≤ config.submissions
  pub connections : length s.connections ≤ most_connections
  pub few : length s.alternatives ≤ most_origins
  pub rows : RowsAreApart s

-- each entry may stand where it stands, whatever is due at the end: so it is in the middle of a call, while the pool settles
abbrev pub EachMayStand : Config → List Entry → Type 0
EachMayStand config h = (i : ℕ) (x : Entry) → slice_get h i ≡ Some x → MayStand (run config (take i h)) x

-- each state that such entries lead to is sound
abbrev pub StandingIsSound : Type 0
StandingIsSound = (config : Config) (h : List Entry) → EachMayStand config h → IsSound config (run config h)

-- each state that a history goes through is sound
abbrev pub ReachedIsSound : Type 0
ReachedIsSound = (config : Config) (h : List Entry) (n : ℕ) → IsHistory config h → IsSound config (state_at config h n)
