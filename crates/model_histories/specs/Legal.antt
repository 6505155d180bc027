-- Which entry may stand at a state.
use Rattle.std.specs.Prelude.{◌≡◌, ◌≢◌, ◌≤◌, ◌<◌, ◌⊎◌, ℕ, List, None, IsTrue, IsSomeAnd, Contains, length}
use Rattle.net_base.specs.declared.end_cause.EndCause.{EndCause}
use Rattle.net_base.specs.declared.end_cause.EndCause.TheVariants as cause
use Rattle.net_base.specs.declared.numbers.CallerNo.{CallerNo}
use Rattle.net_base.specs.declared.numbers.ConnNo.{ConnNo}
use Rattle.net_base.specs.declared.target.Target.{Target}
use Rattle.partition_keys.specs.declared.key.PartitionKey.{PartitionKey}
use Rattle.model_steps.specs.After.{noted}
use Rattle.model_authority.specs.Lists.{numbered}
use Rattle.model_authority.specs.Ways.{group_for}
use Rattle.model_histories.specs.Replies.{IsSubmitReply, IsCancelReply, IsChangeReply, IsPreconnectReply, IsResolvedReply, IsShutReply, IsDial}
use Rattle.model_settling.specs.Settling.{IsDue, IsLate}
use Rattle.model_authority.specs.Statuses.{is_busy, is_dialing}
use Rattle.model_values.specs.declared.entry.Act.{Act}
use Rattle.model_values.specs.declared.entry.Act.TheVariants.{Submit, Cancel, Reprioritise, Preconnect, Resolved, Network, Tick, Shutdown, Dial, Orders, Reported, Closed, Expire, Lapse, Assign, Want, Evict}
use Rattle.model_values.specs.declared.entry.Entry.{Entry}
use Rattle.model_values.specs.declared.order.OrderMark.{OrderMark}
use Rattle.model_values.specs.declared.report.Report.{Report}
use Rattle.model_values.specs.declared.report.Report.TheVariants as report
use Rattle.model_values.specs.declared.state.AbstractPool.{AbstractPool}
use Rattle.model_values.specs.declared.state.Connection.{Connection}

-- a key has no second part so far
abbrev pub HasOnePart : PartitionKey → Type 0
HasOnePart key = key.second ≡ None

-- ---- the entries of a worker

-- the connection is that worker's, and the octets sent never fall
pub record IsWorkersEntry (c : Connection) (who : CallerNo) (sent : ℕ) : Type 0 where
  pub caller : c.caller ≡ who
  pub never_falls : c.sent ≤ sent

-- what may be reported of the connection: it is opened once and first, and a stream was started before it is reported
abbrev pub MayReport : Connection → Report → Type 0
MayReport c (report.Opened id) = IsTrue (is_dialing c.phase)
MayReport c (report.Limit n) = IsTrue (is_busy c.phase)
MayReport c (report.Answered r response keep alt proof) = IsTrue (is_busy c.phase) × Contains c.started r
MayReport c (report.Refused r) = IsTrue (is_busy c.phase) × Contains c.started r
MayReport c (report.Reset r code) = IsTrue (is_busy c.phase) × Contains c.started r
MayReport c (report.TooLarge r) = IsTrue (is_busy c.phase) × Contains c.started r
MayReport c (report.StreamClosed r) = IsTrue (is_busy c.phase) × Contains c.started r
MayReport c (report.Goaway last) = IsTrue (is_busy c.phase)
MayReport c (report.AltSeen origin alt) = IsTrue (is_busy c.phase)

-- how the connection may end: a dial fails while it is being dialed, and all else comes after it was opened
abbrev pub MayClose : Connection → EndCause → Type 0
MayClose c cause.DialFailed = IsTrue (is_dialing c.phase)
MayClose c cause.End = IsTrue (is_busy c.phase)
MayClose c cause.LinkFault = IsTrue (is_busy c.phase)
MayClose c (cause.Broken code place) = IsTrue (is_busy c.phase)
MayClose c cause.Done = IsTrue (is_busy c.phase)

-- all orders that are pending, of which there is one at least
abbrev pub MayTake : Connection → List OrderMark → Type 0
MayTake c orders = IsTrue (is_busy c.phase) × (orders ≡ c.orders) × (0 < length orders)

-- the connection of this number goes to this target
abbrev pub GoesTo : AbstractPool → ℕ → Target → Type 0
GoesTo s number target = IsSomeAnd (numbered number s.connections) (λ c. target ≡ c.group.target)

-- the worker of the connection takes these orders
abbrev pub MayTakeAt : AbstractPool → CallerNo → ConnNo → ℕ → List OrderMark → Type 0
MayTakeAt s who c sent orders = IsSomeAnd (numbered c.0 s.connections) (λ connection. IsWorkersEntry connection who sent × MayTake connection orders)

-- the worker of the connection reports this
abbrev pub MayReportAt : AbstractPool → CallerNo → ConnNo → ℕ → Report → Type 0
MayReportAt s who c sent report = IsSomeAnd (numbered c.0 s.connections) (λ connection. IsWorkersEntry connection who sent × MayReport connection report)

-- the worker of the connection gives it up by this cause
abbrev pub MayCloseAt : AbstractPool → CallerNo → ConnNo → ℕ → EndCause → Type 0
MayCloseAt s who c sent cause = IsSomeAnd (numbered c.0 s.connections) (λ connection. IsWorkersEntry connection who sent × MayClose connection cause)

-- ---- calls

-- the call with its reply is one that the state gives
abbrev pub IsReply : AbstractPool → CallerNo → Act → Type 0
IsReply s who (Submit ask reply) = (ask.urgency ≤ 7) × HasOnePart ask.key × IsSubmitReply s ask reply
IsReply s who (Cancel e reply) = IsCancelReply s who e reply
IsReply s who (Reprioritise e urgency reply) = (urgency ≤ 7) × IsChangeReply s who e reply
IsReply s who (Preconnect key credentials origin count reply) = (1 ≤ count) × HasOnePart key × IsPreconnectReply s (group_for s key credentials origin) count reply
IsReply s who (Resolved key host addresses reply) = HasOnePart key × IsResolvedReply s addresses reply
IsReply s who Network = Unit {0}
IsReply s who Tick = IsLate s
IsReply s who (Shutdown reply) = IsShutReply s reply
IsReply s who (Dial c target) = IsDial s c target
IsReply s who (Orders c sent orders) = MayTakeAt s who c sent orders
IsReply s who (Reported c sent report) = MayReportAt s who c sent report
IsReply s who (Closed c sent cause heard) = MayCloseAt s who c sent cause
IsReply s who (Expire e) = ⊥
IsReply s who (Lapse e) = ⊥
IsReply s who (Assign e c r by) = ⊥
IsReply s who (Want e c t) = ⊥
IsReply s who (Evict c) = ⊥

-- ---- entries

-- a call's entry: its caller isn't 0, and its reply is the one at this state with the entry's moment counted
pub record IsCallsEntry (s : AbstractPool) (x : Entry) : Type 0 where
  pub caller : x.who.0 ≢ 0
  pub reply : IsReply (noted s x.moment) x.who x.act

-- an entry of the pool itself: it is due, at the greatest moment so far
pub record IsPoolsEntry (s : AbstractPool) (x : Entry) : Type 0 where
  pub caller : x.who.0 ≡ 0
  pub moment : x.moment ≡ s.latest
  pub due : IsDue s x.act

-- the entry may stand here
abbrev pub IsLegal : AbstractPool → Entry → Type 0
IsLegal s x = IsPoolsEntry s x ⊎ IsCallsEntry s x
