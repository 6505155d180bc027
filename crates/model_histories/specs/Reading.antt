-- What is read off a history.
use Rattle.std.specs.Prelude.{◌≡◌, ◌<◌, ◌≤◌, ℕ, List, [], ◌∷◌, ◌++◌, ◌==◌, ◌&&◌, ◌||◌, nat_lt, Bool, true, false, Option, Some, None, IsTrue, filter, length, take, slice_get, if◌then◌else◌}
use Rattle.std.specs.List.{flat_map, list_any}
use Rattle.net_base.specs.Dressing.{dressed_for}
use Rattle.net_base.specs.declared.numbers.CallerNo.{CallerNo}
use Rattle.net_base.specs.declared.numbers.ConnNo.{ConnNo}
use Rattle.net_base.specs.declared.numbers.ExchangeNo.{ExchangeNo}
use Rattle.net_base.specs.declared.numbers.StreamNo.{StreamNo}
use Rattle.net_base.specs.declared.target.Target.{Target}
use Rattle.model_changes.specs.Connections.{is_start_of, is_reset_of, is_stream}
use Rattle.model_histories.specs.Histories.{run}
use Rattle.model_authority.specs.Lists.{numbered}
use Rattle.model_authority.specs.Statuses.{is_at}
use Rattle.model_values.specs.declared.config.Config.{Config}
use Rattle.model_values.specs.declared.entry.Act.{Act}
use Rattle.model_values.specs.declared.entry.Act.TheVariants.{Submit, Dial, Orders, Reported, Closed, Assign}
use Rattle.model_values.specs.declared.entry.Entry.{Entry}
use Rattle.model_values.specs.declared.entry.Way.{Way}
use Rattle.model_values.specs.declared.order.Order.{Order}
use Rattle.model_values.specs.declared.order.Order.TheVariants as order
use Rattle.model_values.specs.declared.order.OrderMark.{OrderMark}
use Rattle.model_values.specs.declared.order.OrderMark.TheVariants as mark
use Rattle.model_values.specs.declared.reply.SubmitReply.TheVariants as submit
use Rattle.model_values.specs.declared.report.Report.{Report}
use Rattle.model_values.specs.declared.report.Report.TheVariants as report
use Rattle.model_values.specs.declared.state.Exchange.{Exchange}
use Rattle.model_values.specs.declared.submission.Submission.{Submission}

-- ---- calls

-- the entries of a caller, in order
abbrev pub calls_of : List Entry → CallerNo → List Entry
calls_of h who = filter (λ x. x.who.0 == who.0) h

-- the entry is one of this connection's worker
abbrev pub is_about : ConnNo → Act → Bool
is_about c (Dial conn target) = conn.0 == c.0
is_about c (Orders conn sent orders) = conn.0 == c.0
is_about c (Reported conn sent report) = conn.0 == c.0
is_about c (Closed conn sent cause heard) = conn.0 == c.0
is_about c _ = false

-- ---- orders

-- the item alone, where there is one
abbrev pub one_of : {A : Type 0} → Option A → List A
one_of None = []
one_of (Some x) = x ∷ []

abbrev pub accepted_by : Act → List Submission
accepted_by (Submit ask (submit.Accepted e)) = ask ∷ []
accepted_by _ = []

-- the submissions that were accepted, in order: the n-th is that of exchange n
abbrev pub submissions_of : List Entry → List Submission
submissions_of h = flat_map (λ x. accepted_by x.act) h

abbrev pub dialed_by : ConnNo → Act → List Target
dialed_by c (Dial conn target) = if conn.0 == c.0 then target ∷ [] else []
dialed_by c _ = []

-- where a connection was dialed
abbrev pub targets_of : List Entry → ConnNo → List Target
targets_of h c = flat_map (λ x. dialed_by c x.act) h

abbrev pub marks_by : ConnNo → Act → List OrderMark
marks_by c (Orders conn sent orders) = if conn.0 == c.0 then orders else []
marks_by c _ = []

abbrev pub marks_of : List Entry → ConnNo → List OrderMark
marks_of h c = flat_map (λ x. marks_by c x.act) h

abbrev pub start_to : ExchangeNo → StreamNo → Submission → Option Target → List Order
start_to e r ask None = []
start_to e r ask (Some target) = order.Start e r (dressed_for ask.request target) ask.probe ∷ []

abbrev pub start_of : ExchangeNo → StreamNo → Option Submission → Option Target → List Order
start_of e r None target = []
start_of e r (Some ask) target = start_to e r ask target

-- the order of a mark: the request of a start is its exchange's submission, dressed for the connection's target
abbrev pub order_of : List Entry → ConnNo → OrderMark → List Order
order_of h c (mark.Start e r) = start_of e r (numbered e.0 (submissions_of h)) (slice_get (targets_of h c) 0)
order_of h c (mark.Reset r) = order.Reset r ∷ []
order_of h c mark.Close = order.Close ∷ []

-- the orders that were given to a connection, in order
abbrev pub orders_of : List Entry → ConnNo → List Order
orders_of h c = flat_map (order_of h c) (marks_of h c)

abbrev pub is_start_order : Order → Bool
is_start_order (order.Start e r request probe) = true
is_start_order (order.Reset r) = false
is_start_order order.Close = false

-- the starts among them
abbrev pub starts_of : List Entry → ConnNo → List Order
starts_of h c = filter is_start_order (orders_of h c)

abbrev pub stream_started : Order → List StreamNo
stream_started (order.Start e r request probe) = r ∷ []
stream_started (order.Reset r) = []
stream_started order.Close = []

-- the streams of the starts among orders
abbrev pub streams_of : List Order → List StreamNo
streams_of orders = flat_map stream_started orders

-- ---- what one caller says

abbrev pub given_by : List Entry → Act → List Order
given_by before (Orders c sent marks) = flat_map (order_of before c) marks
given_by before _ = []

-- an entry of a caller, with the orders that it gives, read with the entries before it in hand. So what is read stays as
-- it is when more entries come
pub record Own : Type 0 where
  pub entry : Entry
  pub orders : List Order

unfoldable pub own_from : List Entry → CallerNo → List Entry → List Own
own_from before who [] = []
own_from before who (x ∷ xs) =
    if x.who.0 == who.0 then record { entry = x; orders = given_by before x.act } ∷ own_from (before ++ x ∷ []) who xs
    else own_from (before ++ x ∷ []) who xs

-- what one caller says in a history
abbrev pub own_of : List Entry → CallerNo → List Own
own_of h who = own_from [] who h

-- more entries only add behind what a caller says, and what they add is read with all before them in hand
abbrev pub OwnReadingsGrow : Type 0
OwnReadingsGrow = (h more : List Entry) (who : CallerNo) → own_of (h ++ more) who ≡ own_of h who ++ own_from h who more

-- what a caller says of one connection
unfoldable pub about : ConnNo → List Own → List Own
about c own = filter (λ o. is_about c o.entry.act) own

-- ---- leases. Places are counted from 1

-- after this many entries the exchange has the lease on this stream
abbrev pub IsLeasedAfter : Config → List Entry → ExchangeNo → ConnNo → StreamNo → ℕ → Type 0
IsLeasedAfter config h e c r n = (exchange : Exchange) × (numbered e.0 (run config (take n h)).exchanges ≡ Some exchange) × IsTrue (is_at c r exchange.status)

-- the lease of that entry lasts to the end, or to the entry at this place
abbrev pub LastsTo : Config → List Entry → ExchangeNo → ConnNo → StreamNo → ℕ → Option ℕ → Type 0
LastsTo config h e c r place None = (n : ℕ) → place ≤ n → n ≤ length h → IsLeasedAfter config h e c r n
LastsTo config h e c r place (Some over) =
    ((n : ℕ) → place ≤ n → n < over → IsLeasedAfter config h e c r n) × (place < over) × (over ≤ length h) × (¬ IsLeasedAfter config h e c r over)

-- a lease of the exchange: the connection and the stream that it got at one place, and the place of the entry that
-- ended it, where there is one
pub record IsLeaseOf (config : Config) (h : List Entry) (e : ExchangeNo) (c : ConnNo) (r : StreamNo) (place : ℕ) (over : Option ℕ) : Type 0 where
  pub by : Way
  pub entry : Entry
  pub is_entry : numbered place h ≡ Some entry
  pub assigns : entry.act ≡ Assign e c r by
  pub lasts : LastsTo config h e c r place over

-- ---- streams

abbrev pub hands_by : ConnNo → StreamNo → Act → Bool
hands_by c r (Orders conn sent orders) = conn.0 == c.0 && list_any (is_start_of r) orders
hands_by c r _ = false

-- the entry at this place hands the start of the stream to its connection
abbrev pub IsHandingOf : List Entry → ConnNo → StreamNo → ℕ → Type 0
IsHandingOf h c r place = (x : Entry) × (numbered place h ≡ Some x) × IsTrue (hands_by c r x.act)

abbrev pub is_close : OrderMark → Bool
is_close (mark.Start e r) = false
is_close (mark.Reset r) = false
is_close mark.Close = true

abbrev pub is_over_by_report : StreamNo → Report → Bool
is_over_by_report r (report.Opened id) = false
is_over_by_report r (report.Limit n) = false
is_over_by_report r (report.Answered stream response keep alt proof) = is_stream r stream
is_over_by_report r (report.Refused stream) = is_stream r stream
is_over_by_report r (report.Reset stream code) = is_stream r stream
is_over_by_report r (report.TooLarge stream) = is_stream r stream
is_over_by_report r (report.StreamClosed stream) = is_stream r stream
is_over_by_report r (report.Goaway last) = nat_lt last.0 r.0
is_over_by_report r (report.AltSeen origin alt) = false

-- the entry ends the stream
abbrev pub is_over_by : ConnNo → StreamNo → Act → Bool
is_over_by c r (Orders conn sent orders) = conn.0 == c.0 && (list_any (is_reset_of r) orders || list_any is_close orders)
is_over_by c r (Reported conn sent report) = conn.0 == c.0 && is_over_by_report r report
is_over_by c r (Closed conn sent cause heard) = conn.0 == c.0
is_over_by c r _ = false

-- the entry at this place is the first that ends the stream, behind the one that hands its start
pub record IsOverOf (h : List Entry) (c : ConnNo) (r : StreamNo) (place : ℕ) : Type 0 where
  pub handing : ℕ
  pub is_handing : IsHandingOf h c r handing
  pub behind : handing < place
  pub entry : Entry
  pub is_entry : numbered place h ≡ Some entry
  pub over : IsTrue (is_over_by c r entry.act)
  pub first : (other : ℕ) (x : Entry) → handing < other → other < place → numbered other h ≡ Some x → ¬ IsTrue (is_over_by c r x.act)
