-- When a lease whose start was handed ends, by the word of a worker that keeps three rules.
use Rattle.std.specs.Prelude.{◌≡◌, ◌≤◌, ◌<◌, ◌++◌, ◌==◌, ◌&&◌, ℕ, List, ◌∷◌, Bool, true, false, Option, Some, IsTrue, IsSomeAnd, All, Contains}
use Rattle.std.specs.List.{flat_map}
use Rattle.net_base.specs.declared.numbers.CallerNo.{CallerNo}
use Rattle.net_base.specs.declared.numbers.ConnNo.{ConnNo}
use Rattle.net_base.specs.declared.numbers.ExchangeNo.{ExchangeNo}
use Rattle.net_base.specs.declared.numbers.StreamNo.{StreamNo}
use Rattle.net_base.specs.declared.response.Response.{Response}
use Rattle.net_base.specs.declared.target.Proto.TheVariants.{H2}
use Rattle.partition_keys.specs.declared.alternative.AltUpdate.{AltUpdate}
use Rattle.partition_keys.specs.declared.alternative.Proof.{Proof}
use Rattle.model_changes.specs.Connections.{is_stream}
use Rattle.model_laws.specs.Courses.{state_at, OfExchange, OfBoth}
use Rattle.model_laws.specs.DialLaws.{WasDialed}
use Rattle.model_laws.specs.StartLaws.{IsOpenedWith}
use Rattle.model_histories.specs.Histories.{IsHistory}
use Rattle.model_histories.specs.Reading.{IsHandingOf, IsLeaseOf, IsOverOf, Own, about, own_of}
use Rattle.model_values.specs.declared.config.Config.{Config}
use Rattle.model_values.specs.declared.entry.Act.{Act}
use Rattle.model_values.specs.declared.entry.Act.TheVariants.{Reported}
use Rattle.model_values.specs.declared.entry.Entry.{Entry}
use Rattle.model_values.specs.declared.entry.Way.{Way}
use Rattle.model_values.specs.declared.order.Order.{Order}
use Rattle.model_values.specs.declared.order.Order.TheVariants as order
use Rattle.model_values.specs.declared.report.Report.{Report}
use Rattle.model_values.specs.declared.report.Report.TheVariants as report
use Rattle.model_values.specs.declared.state.Status.TheVariants.{Waiting, Leased}

-- ---- the rules

-- the orders that these entries of a caller gave to the connection
abbrev pub orders_given : ConnNo → List Own → List Order
orders_given c own = flat_map (λ o. o.orders) (about c own)

abbrev pub is_end_of : StreamNo → Report → Bool
is_end_of r (report.Answered stream response keep alt proof) = is_stream r stream
is_end_of r (report.Refused stream) = is_stream r stream
is_end_of r (report.Reset stream code) = is_stream r stream
is_end_of r (report.TooLarge stream) = is_stream r stream
is_end_of r (report.StreamClosed stream) = is_stream r stream
is_end_of r _ = false

-- the entry reports that the stream has ended: it was answered, refused, reset, given up as too large, or closed
abbrev pub reports_end : ConnNo → StreamNo → Act → Bool
reports_end c r (Reported conn sent report) = conn.0 == c.0 && is_end_of r report
reports_end c r _ = false

-- an entry of a worker keeps its word on the connection, with the worker's entries before it in hand: it reports that a stream is closed
-- only behind an order to reset it; an answer on HTTP/2 leaves the connection as it is (RFC 9113, section 8.1); and a stream is
-- reported to have ended once
pub record KeepsItsWord (c : ConnNo) (before : List Own) (o : Own) : Type 0 where
  pub closed : (sent : ℕ) (r : StreamNo) → o.entry.act ≡ Reported c sent (report.StreamClosed r) → Contains (orders_given c before) (order.Reset r)
  pub kept :
      (sent : ℕ) (r : StreamNo) (response : Response) (keep : Bool) (alt : AltUpdate) (proof : Proof) →
      o.entry.act ≡ Reported c sent (report.Answered r response keep alt proof) → IsOpenedWith c H2 before → keep ≡ true
  pub once : (r : StreamNo) → IsTrue (reports_end c r o.entry.act) → All (λ p. ¬ IsTrue (reports_end c r p.entry.act)) before

-- each entry does
abbrev pub IsWorkedFairly : ConnNo → List Own → Type 0
IsWorkedFairly c own = (before behind : List Own) (o : Own) → own ≡ before ++ o ∷ behind → KeepsItsWord c before o

-- in a history, who dials the connection keeps its word on it
pub record IsFair (config : Config) (h : List Entry) (c : ConnNo) : Type 0 where
  pub history : IsHistory config h
  pub who : CallerNo
  pub dials : WasDialed h c who
  pub fairly : IsWorkedFairly c (own_of h who)

-- ---- the laws

-- at each state, a stream whose start was handed is live while an exchange has the lease on it
abbrev pub HandedLeasesAreLive : Type 0
HandedLeasesAreLive =
    (config : Config) (h : List Entry) (n : ℕ) (e : ExchangeNo) (c : ConnNo) (r : StreamNo) (by : Way) → IsFair config h c →
    OfExchange (state_at config h n) e (λ exchange. exchange.status ≡ Leased c r by true) →
    OfBoth (state_at config h n) e c (λ exchange connection. Contains connection.live r)

-- the entry that ends a stream finds its lease ended, or ends it
abbrev pub LeasesEndByTheirOver : Type 0
LeasesEndByTheirOver =
    (config : Config) (h : List Entry) (e : ExchangeNo) (c : ConnNo) (r : StreamNo) (place last : ℕ) (over : Option ℕ) → IsFair config h c →
    IsLeaseOf config h e c r place over → IsOverOf h c r last → IsSomeAnd over (λ o. o ≤ last)

-- where an exchange waits again whose start was handed, the entry that ended its lease is the one that ended its stream
abbrev pub MovedLeasesEndAtTheirOver : Type 0
MovedLeasesEndAtTheirOver =
    (config : Config) (h : List Entry) (e : ExchangeNo) (c : ConnNo) (r : StreamNo) (place handing over : ℕ) → IsFair config h c →
    IsLeaseOf config h e c r place (Some over) → IsHandingOf h c r handing →
    OfExchange (state_at config h over) e (λ exchange. exchange.status ≡ Waiting) → IsOverOf h c r over

-- so it is where the exchange has a later lease: this one has ended then, by the entry that ended its stream
abbrev pub LeasesBeforeOthersEndAtTheirOver : Type 0
LeasesBeforeOthersEndAtTheirOver =
    (config : Config) (h : List Entry) (e : ExchangeNo) (c d : ConnNo) (r t : StreamNo) (place later handing : ℕ) (over end : Option ℕ) → IsFair config h c →
    IsLeaseOf config h e c r place over → IsLeaseOf config h e d t later end → place < later →
    IsHandingOf h c r handing → IsSomeAnd over (λ o. IsOverOf h c r o)
