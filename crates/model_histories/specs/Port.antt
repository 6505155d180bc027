-- What a caller of a pool sees, whether the pool is its own or shared with others.
use Rattle.std.specs.Prelude.{◌≡◌, ◌≢◌, ◌≤◌, ◌⊎◌, ℕ, List, [], ◌∷◌, ◌++◌, ◌==◌, ◌||◌, Bool, true, false, Option, Some, None, if◌then◌else◌, IsTrue, IsSomeAnd, All, Contains}
use Rattle.std.specs.List.{flat_map}
use Rattle.net_base.specs.declared.end_cause.EndCause.{EndCause}
use Rattle.net_base.specs.declared.end_cause.EndCause.TheVariants as cause
use Rattle.net_base.specs.declared.numbers.CallerNo.{CallerNo}
use Rattle.net_base.specs.declared.numbers.ConnNo.{ConnNo}
use Rattle.net_base.specs.declared.numbers.ExchangeNo.{ExchangeNo}
use Rattle.net_base.specs.declared.numbers.Moment.{Moment}
use Rattle.net_base.specs.declared.numbers.StreamNo.{StreamNo}
use Rattle.model_changes.specs.Connections.{streams_started}
use Rattle.model_histories.specs.Histories.{IsHistory, run}
use Rattle.model_histories.specs.Looks.{IsLook, IsLateAt, IsStop, IsNothingWanted, IsNothingOrdered}
use Rattle.model_histories.specs.Reading.{Own, own_of, calls_of, is_about, order_of}
use Rattle.model_values.specs.declared.config.Config.{Config}
use Rattle.model_values.specs.declared.entry.Act.{Act}
use Rattle.model_values.specs.declared.entry.Act.TheVariants.{Tick, Dial, Orders, Reported, Closed}
use Rattle.model_values.specs.declared.entry.Entry.{Entry}
use Rattle.model_values.specs.declared.order.Order.{Order}
use Rattle.model_values.specs.declared.order.OrderMark.{OrderMark}
use Rattle.model_values.specs.declared.reply.Look.{Look}
use Rattle.model_values.specs.declared.reply.OrdersReply.{OrdersReply}
use Rattle.model_values.specs.declared.reply.OrdersReply.TheVariants as orders
use Rattle.model_values.specs.declared.reply.Seek.{Seek}
use Rattle.model_values.specs.declared.reply.Seek.TheVariants as seek
use Rattle.model_values.specs.declared.report.Report.{Report}
use Rattle.model_values.specs.declared.report.Report.TheVariants as report

-- what a port shows: the pool's limits, its caller, the history that the caller has seen, and the callers whose entries
-- a call may bring, this caller and the pool itself among them. `lender` tells which pool a port borrows
pub record PortView : Type 0 where
  pub config : Config
  pub mine : CallerNo
  pub seen : List Entry
  pub adds : CallerNo → Bool
  pub lender : ℕ

-- no entry of this caller
abbrev pub NoneOf : CallerNo → List Entry → Type 0
NoneOf who xs = All (λ x. x.who ≢ who) xs

-- what was seen becomes longer, by entries of callers that the port may bring, and stays a history; nothing else changes.
-- No call, and one call behind another, are of this form
pub record Grows (v w : PortView) : Type 0 where
  pub config : w.config ≡ v.config
  pub mine : w.mine ≡ v.mine
  pub adds : w.adds ≡ v.adds
  pub lender : w.lender ≡ v.lender
  pub more : List Entry
  pub seen : w.seen ≡ v.seen ++ more
  pub by : All (λ x. IsTrue (v.adds x.who)) more
  pub history : IsHistory v.config v.seen → IsHistory v.config w.seen

-- a call that leaves no entry: what is seen afterwards is a history, and may have entries of others besides
pub record LeavesNone (v w : PortView) : Type 0 where
  pub grows : Grows v w
  pub history : IsHistory v.config w.seen
  pub others : List Entry
  pub seen : w.seen ≡ v.seen ++ others
  pub none_own : NoneOf v.mine others

-- a call that leaves this entry, once, in what is a history: entries of others may stand before it, and what the pool
-- does by itself behind it
pub record Leaves (v : PortView) (moment : Moment) (act : Act) (w : PortView) : Type 0 where
  pub grows : Grows v w
  pub history : IsHistory v.config w.seen
  pub before : List Entry
  pub behind : List Entry
  pub seen : w.seen ≡ v.seen ++ before ++ record { who = v.mine; moment = moment; act = act } ∷ behind
  pub none_before : NoneOf v.mine before
  pub none_behind : NoneOf v.mine behind
  pub settles : All (λ x. x.who.0 ≡ 0) behind

-- a look that isn't late leaves no entry, and a late one a tick. Either way its answer is that of what is seen then
pub record IsLookAt (v : PortView) (moment : Moment) (no : ExchangeNo) (reply : Look) (w : PortView) : Type 0 where
  pub answers : IsLook (run v.config w.seen) v.mine no reply
  pub leaves : (LeavesNone v w × (¬ IsLateAt (run v.config w.seen) moment)) ⊎ Leaves v moment Tick w

-- ---- what a worker says and holds, read off its own calls

-- what the port's caller has said
abbrev pub said : PortView → List Own
said v = own_of v.seen v.mine

-- a connection that a worker dialed: the octets sent at its last entry, whether it was opened, and the streams whose
-- starts were handed
pub record Held : Type 0 where
  pub sent : ℕ
  pub opened : Bool
  pub started : List StreamNo

abbrev pub is_opening_report : Report → Bool
is_opening_report (report.Opened id) = true
is_opening_report (report.Limit n) = false
is_opening_report (report.Answered stream response keep alt proof) = false
is_opening_report (report.Refused stream) = false
is_opening_report (report.Reset stream code) = false
is_opening_report (report.TooLarge stream) = false
is_opening_report (report.StreamClosed stream) = false
is_opening_report (report.Goaway last) = false
is_opening_report (report.AltSeen origin alt) = false

abbrev pub with_orders : ℕ → List OrderMark → Option Held → Option Held
with_orders sent orders None = None
with_orders sent orders (Some h) = Some (record { sent = sent; opened = h.opened; started = h.started ++ streams_started orders })

abbrev pub with_report : ℕ → Report → Option Held → Option Held
with_report sent r None = None
with_report sent r (Some h) = Some (record { sent = sent; opened = h.opened || is_opening_report r; started = h.started })

-- what the worker holds of this connection after one more of its own calls
abbrev pub held_after : ConnNo → Option Held → Act → Option Held
held_after c h (Dial conn target) = if conn.0 == c.0 then Some (record { sent = 0; opened = false; started = [] }) else h
held_after c h (Orders conn sent orders) = if conn.0 == c.0 then with_orders sent orders h else h
held_after c h (Reported conn sent r) = if conn.0 == c.0 then with_report sent r h else h
held_after c h (Closed conn sent end heard) = if conn.0 == c.0 then None else h
held_after c h _ = h

unfoldable pub held_from : ConnNo → Option Held → List Entry → Option Held
held_from c h [] = h
held_from c h (x ∷ xs) = held_from c (held_after c h x.act) xs

-- what the port's caller holds of this connection
abbrev pub held_by : PortView → ConnNo → Option Held
held_by v c = held_from c None (calls_of v.seen v.mine)

abbrev pub MayWork : Held → ℕ → Type 0
MayWork h sent = IsTrue h.opened × (h.sent ≤ sent)

-- the caller holds the connection, it was opened, and the octets sent don't fall
abbrev pub MayWorkBy : PortView → ConnNo → ℕ → Type 0
MayWorkBy v c sent = IsSomeAnd (held_by v c) (λ h. MayWork h sent)

abbrev pub IsReportable : Held → Report → Type 0
IsReportable h (report.Opened id) = ¬ IsTrue h.opened
IsReportable h (report.Limit n) = IsTrue h.opened
IsReportable h (report.Answered stream response keep alt proof) = IsTrue h.opened × Contains h.started stream
IsReportable h (report.Refused stream) = IsTrue h.opened × Contains h.started stream
IsReportable h (report.Reset stream code) = IsTrue h.opened × Contains h.started stream
IsReportable h (report.TooLarge stream) = IsTrue h.opened × Contains h.started stream
IsReportable h (report.StreamClosed stream) = IsTrue h.opened × Contains h.started stream
IsReportable h (report.Goaway last) = IsTrue h.opened
IsReportable h (report.AltSeen origin alt) = IsTrue h.opened

-- the caller holds the connection, and may report this
abbrev pub MayReportBy : PortView → ConnNo → ℕ → Report → Type 0
MayReportBy v c sent r = IsSomeAnd (held_by v c) (λ h. (h.sent ≤ sent) × IsReportable h r)

abbrev pub IsEndable : Held → EndCause → Type 0
IsEndable h cause.DialFailed = ¬ IsTrue h.opened
IsEndable h cause.End = IsTrue h.opened
IsEndable h cause.LinkFault = IsTrue h.opened
IsEndable h (cause.Broken code place) = IsTrue h.opened
IsEndable h cause.Done = IsTrue h.opened

-- the caller holds the connection, and may give it up by this cause
abbrev pub MayCloseBy : PortView → ConnNo → ℕ → EndCause → Type 0
MayCloseBy v c sent end = IsSomeAnd (held_by v c) (λ h. (h.sent ≤ sent) × IsEndable h end)

-- ---- the calls that may leave no entry

-- no entry of the caller is about this connection
abbrev pub IsNewTo : PortView → ConnNo → Type 0
IsNewTo v c = All (λ x. ¬ IsTrue (is_about c x.act)) (calls_of v.seen v.mine)

-- a connection to dial is new to its caller
abbrev pub IsSeekAt : PortView → Moment → Seek → PortView → Type 0
IsSeekAt v moment (seek.Dial conn target) w = IsNewTo v conn × Leaves v moment (Dial conn target) w
IsSeekAt v moment (seek.Stop place) w = LeavesNone v w × IsStop (run v.config w.seen) place
IsSeekAt v moment (seek.Nothing n) w = LeavesNone v w × IsNothingWanted (run v.config w.seen) n

-- all orders that are pending, each start with the request that was submitted before
pub record Takes (v : PortView) (moment : Moment) (c : ConnNo) (sent : ℕ) (list : List Order) (w : PortView) : Type 0 where
  pub marks : List OrderMark
  pub leaves : Leaves v moment (Orders c sent marks) w
  pub are_orders : list ≡ flat_map (order_of (v.seen ++ leaves.before) c) marks

abbrev pub IsOrdersAt : PortView → Moment → ConnNo → ℕ → OrdersReply → PortView → Type 0
IsOrdersAt v moment c sent (orders.Orders list) w = Takes v moment c sent list w
IsOrdersAt v moment c sent (orders.Nothing n) w = LeavesNone v w × IsNothingOrdered (run v.config w.seen) c n
