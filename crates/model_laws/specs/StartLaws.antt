-- What a worker is told to start: each start once, under its lease, and on streams in order.
use Rattle.std.specs.Prelude.{◌≡◌, ◌≢◌, ◌≤◌, ◌<◌, ◌++◌, ℕ, List, [], ◌∷◌, Option, Some, IsTrue, All, AllPairs, Contains, length}
use Rattle.std.specs.List.{flat_map}
use Rattle.net_base.specs.declared.identity.Identity.{Identity}
use Rattle.net_base.specs.declared.numbers.CallerNo.{CallerNo}
use Rattle.net_base.specs.declared.numbers.ConnNo.{ConnNo}
use Rattle.net_base.specs.declared.numbers.ExchangeNo.{ExchangeNo}
use Rattle.net_base.specs.declared.numbers.StreamNo.{StreamNo}
use Rattle.net_base.specs.declared.target.Proto.{Proto}
use Rattle.net_base.specs.declared.target.Proto.TheVariants.{H1, H2}
use Rattle.model_laws.specs.Courses.{state_at, Comes, OfExchange}
use Rattle.model_laws.specs.Sound.{IsOdd}
use Rattle.model_histories.specs.Histories.{IsHistory}
use Rattle.model_histories.specs.Reading.{IsHandingOf, IsLeaseOf, Own, about, own_of, is_about, is_over_by, starts_of, streams_of}
use Rattle.model_values.specs.declared.config.Config.{Config}
use Rattle.model_values.specs.declared.entry.Act.TheVariants.{Orders, Reported}
use Rattle.model_values.specs.declared.entry.Entry.{Entry}
use Rattle.model_values.specs.declared.order.OrderMark.{OrderMark}
use Rattle.model_values.specs.declared.order.OrderMark.TheVariants as mark
use Rattle.model_values.specs.declared.report.Report.TheVariants as report
use Rattle.model_authority.specs.Statuses.{is_unsent_at}

-- ---- under a lease, once

-- at each Orders of a history, each start in it is of the exchange that has the lease on this stream of this connection, which wasn't
-- handed before. So the start of an exchange that has moved, has ended or was cancelled isn't handed
abbrev pub StartsAreHandedUnderALease : Type 0
StartsAreHandedUnderALease =
    (config : Config) (h : List Entry) (n : ℕ) (x : Entry) (c : ConnNo) (sent : ℕ) (orders : List OrderMark) (e : ExchangeNo) (r : StreamNo) →
    Comes config h n x → x.act ≡ Orders c sent orders → Contains orders (mark.Start e r) → OfExchange (state_at config h n) e (λ exchange. IsTrue (is_unsent_at c r exchange.status))

-- in a history the start of a stream is handed while its lease lasts
abbrev pub StartsAreHandedWithinTheirLease : Type 0
StartsAreHandedWithinTheirLease =
    (config : Config) (h : List Entry) (e : ExchangeNo) (c : ConnNo) (r : StreamNo) (place handing : ℕ) (over : Option ℕ) → IsHistory config h →
    IsLeaseOf config h e c r place over → IsHandingOf h c r handing → (place < handing) × ((o : ℕ) → over ≡ Some o → handing < o)

-- in a history one entry at most hands the start of a stream
abbrev pub StartsAreHandedOnce : Type 0
StartsAreHandedOnce = (config : Config) (h : List Entry) (c : ConnNo) (r : StreamNo) (place other : ℕ) → IsHistory config h → IsHandingOf h c r place → IsHandingOf h c r other → place ≡ other

-- in a history the streams of the starts of a connection rise, in the order in which they are handed
abbrev pub StartsRise : Type 0
StartsRise = (config : Config) (h : List Entry) (c : ConnNo) → IsHistory config h → AllPairs (λ a b. a.0 < b.0) (streams_of (starts_of h c))

-- ---- in order, by a worker's own entries

-- the streams that these entries of a caller were handed on the connection, in order
abbrev pub streams_handed : ConnNo → List Own → List StreamNo
streams_handed c own = flat_map (λ o. streams_of o.orders) (about c own)

-- by one of these entries the caller reports that the connection was opened, and speaks this
pub record IsOpenedWith (c : ConnNo) (proto : Proto) (own : List Own) : Type 0 where
  pub entry : Own
  pub is_entry : Contains own entry
  pub sent : ℕ
  pub identity : Identity
  pub opens : entry.entry.act ≡ Reported c sent (report.Opened identity)
  pub speaks : identity.proto ≡ proto

-- one of these entries was handed the start of the stream, and one behind it ends the stream
pub record IsRunOut (c : ConnNo) (own : List Own) (r : StreamNo) : Type 0 where
  pub before : List Own
  pub handing : Own
  pub behind : List Own
  pub is_split : own ≡ before ++ handing ∷ behind
  pub hands : Contains (streams_handed c (handing ∷ [])) r
  pub over : Own
  pub is_behind : Contains behind over
  pub ends : IsTrue (is_over_by c r over.entry.act)

-- what the engine of a connection asks of the starts that it is given, by the caller's entries before: their streams rise behind all
-- before and up to the last one; RFC 9113, section 5.1.1: on HTTP/2 they are odd; RFC 9112, section 9.3.2, without pipelining: on
-- HTTP/1.1 there is one start at most, and only where each stream before has run out
pub record StartsInOrder (config : Config) (c : ConnNo) (before : List Own) (o : Own) : Type 0 where
  pub rising : AllPairs (λ a b. a.0 < b.0) (streams_handed c before ++ streams_of o.orders)
  pub within : All (λ r. r.0 ≤ config.last_stream) (streams_of o.orders)
  pub odd : IsOpenedWith c H2 before → All (λ r. IsOdd r.0) (streams_of o.orders)
  pub alone : IsOpenedWith c H1 before → length (streams_of o.orders) ≤ 1
  pub run_out : IsOpenedWith c H1 before → streams_of o.orders ≢ [] → All (IsRunOut c before) (streams_handed c before)

-- at each entry of a caller about a connection, with the caller's entries before it in hand
abbrev pub WorkersStartInOrder : Type 0
WorkersStartInOrder =
    (config : Config) (h : List Entry) (who : CallerNo) (c : ConnNo) (before behind : List Own) (o : Own) →
    IsHistory config h → own_of h who ≡ before ++ o ∷ behind → IsTrue (is_about c o.entry.act) → StartsInOrder config c before o
