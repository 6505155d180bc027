-- What a port promises can be kept, and what it keeps without memory.
use Rattle.std.specs.Prelude.{◌≡◌, ◌≢◌, ◌≤◌, ◌⊎◌, ℕ, List, Bool, IsTrue}
use Rattle.net_base.specs.declared.end_cause.EndCause.{EndCause}
use Rattle.net_base.specs.declared.numbers.CallerNo.{CallerNo}
use Rattle.net_base.specs.declared.numbers.ConnNo.{ConnNo}
use Rattle.net_base.specs.declared.numbers.ExchangeNo.{ExchangeNo}
use Rattle.net_base.specs.declared.numbers.Moment.{Moment}
use Rattle.net_base.specs.declared.numbers.StreamNo.{StreamNo}
use Rattle.net_base.specs.declared.origin.Origin.{Origin}
use Rattle.partition_keys.specs.declared.key.PartitionKey.{PartitionKey}
use Rattle.model_histories.specs.Histories.{IsHistory}
use Rattle.model_histories.specs.Legal.{HasOnePart}
use Rattle.model_histories.specs.Port.{PortView, Leaves, LeavesNone, IsLookAt, IsSeekAt, IsOrdersAt, MayWorkBy, MayReportBy, MayCloseBy}
use Rattle.model_values.specs.declared.entry.Act.{Act}
use Rattle.model_values.specs.declared.entry.Act.TheVariants.{Submit, Cancel, Reprioritise, Preconnect, Resolved, Network, Shutdown, Reported, Closed}
use Rattle.model_values.specs.declared.reply.CancelReply.{CancelReply}
use Rattle.model_values.specs.declared.reply.ChangeReply.{ChangeReply}
use Rattle.model_values.specs.declared.reply.Look.{Look}
use Rattle.model_values.specs.declared.reply.OrdersReply.{OrdersReply}
use Rattle.model_values.specs.declared.reply.PreconnectReply.{PreconnectReply}
use Rattle.model_values.specs.declared.reply.ResolvedReply.{ResolvedReply}
use Rattle.model_values.specs.declared.reply.Seek.{Seek}
use Rattle.model_values.specs.declared.reply.ShutReply.{ShutReply}
use Rattle.model_values.specs.declared.reply.SubmitReply.{SubmitReply}
use Rattle.model_values.specs.declared.report.Report.{Report}
use Rattle.model_values.specs.declared.submission.Submission.{Submission}

-- what was seen is a history, the caller isn't the pool, and the port may bring entries of both
pub record IsPort (v : PortView) : Type 0 where
  pub history : IsHistory v.config v.seen
  pub caller : v.mine.0 ≢ 0
  pub own : IsTrue (v.adds v.mine)
  pub pools : (who : CallerNo) → who.0 ≡ 0 → IsTrue (v.adds who)

-- the call with this act leaves its entry
abbrev pub CanLeave : PortView → Moment → Act → Type 0
CanLeave v m act = (w : PortView) × Leaves v m act w

-- at this moment each call whose conditions hold has an answer that the port may give. Numbers are as great as they need to be here:
-- that they fit the types of a program isn't said
pub record CanAnswer (v : PortView) (m : Moment) : Type 0 where
  pub submit : (ask : Submission) → ask.urgency ≤ 7 → HasOnePart ask.key → (reply : SubmitReply) × CanLeave v m (Submit ask reply)
  pub look : (e : ExchangeNo) → (reply : Look) × (w : PortView) × IsLookAt v m e reply w
  pub cancel : (e : ExchangeNo) → (reply : CancelReply) × CanLeave v m (Cancel e reply)
  pub reprioritise : (e : ExchangeNo) (urgency : ℕ) → urgency ≤ 7 → (reply : ChangeReply) × CanLeave v m (Reprioritise e urgency reply)
  pub preconnect : (key : PartitionKey) (credentials : Bool) (origin : Origin) (count : ℕ) → 1 ≤ count → HasOnePart key → (reply : PreconnectReply) × CanLeave v m (Preconnect key credentials origin count reply)
  pub resolved : (key : PartitionKey) (host : List ℕ) (addresses : List (List ℕ)) → HasOnePart key → (reply : ResolvedReply) × CanLeave v m (Resolved key host addresses reply)
  pub network : CanLeave v m Network
  pub shutdown : (reply : ShutReply) × CanLeave v m (Shutdown reply)
  pub seek : (reply : Seek) × (w : PortView) × IsSeekAt v m reply w
  pub orders : (c : ConnNo) (sent : ℕ) → MayWorkBy v c sent → (reply : OrdersReply) × (w : PortView) × IsOrdersAt v m c sent reply w
  pub report : (c : ConnNo) (sent : ℕ) (r : Report) → MayReportBy v c sent r → CanLeave v m (Reported c sent r)
  pub closed : (c : ConnNo) (sent : ℕ) (cause : EndCause) (heard : List StreamNo) → MayCloseBy v c sent cause → CanLeave v m (Closed c sent cause heard)

-- at each port and each moment there is always an answer
abbrev pub EachCallHasAnAnswer : Type 0
EachCallHasAnAnswer = (v : PortView) (m : Moment) → IsPort v → CanAnswer v m

-- over a port that brings entries of its caller and of the pool alone, and whose history is one, a call that leaves no entry, as one that
-- wants memory, leaves everything as it was
abbrev pub WhatLeavesNoneChangesNothing : Type 0
WhatLeavesNoneChangesNothing =
    (v w : PortView) → IsHistory v.config v.seen → ((who : CallerNo) → IsTrue (v.adds who) → (who ≡ v.mine) ⊎ (who.0 ≡ 0)) → LeavesNone v w → w ≡ v
