-- What is read off a history, and what the state says of the same: submissions, orders and starts of a connection, own entries.
use Rattle.std.specs.Prelude.{◌≡◌, ◌<◌, ◌≤◌, ◌+◌, ⊤, ℕ, List, [], ◌∷◌, Option, Some, None, Contains, if◌then◌else◌, length, take, ◌↔◌, map}
use Rattle.std.specs.List.{flat_map}
use Rattle.net_base.specs.Dressing.{dressed_for}
use Rattle.net_base.specs.declared.numbers.CallerNo.{CallerNo}
use Rattle.net_base.specs.declared.numbers.ConnNo.{ConnNo}
use Rattle.net_base.specs.declared.numbers.ExchangeNo.{ExchangeNo}
use Rattle.net_base.specs.declared.target.Target.{Target}
use Rattle.model_laws.specs.Courses.{state_at, Comes, OfExchange, OfBoth}
use Rattle.model_histories.specs.Histories.{run}
use Rattle.model_histories.specs.Reading.{submissions_of, order_of, orders_of, starts_of, is_about, calls_of, Own, own_of}
use Rattle.model_values.specs.declared.config.Config.{Config}
use Rattle.model_values.specs.declared.entry.Act.TheVariants.{Submit, Dial, Orders}
use Rattle.model_values.specs.declared.entry.Entry.{Entry}
use Rattle.model_values.specs.declared.order.Order.{Order}
use Rattle.model_values.specs.declared.order.Order.TheVariants as order
use Rattle.model_values.specs.declared.order.OrderMark.{OrderMark}
use Rattle.model_values.specs.declared.order.OrderMark.TheVariants as mark
use Rattle.model_values.specs.declared.reply.SubmitReply.TheVariants as submit
use Rattle.model_values.specs.declared.state.AbstractPool.{AbstractPool}
use Rattle.model_values.specs.declared.state.Exchange.{Exchange}
use Rattle.model_values.specs.declared.submission.Submission.{Submission}
use Rattle.model_authority.specs.Lists.{numbered}

-- ---- submissions

-- the exchange asks for what was submitted: its request, partition key, credentials, background, deadline and probe. Its urgency alone
-- may have changed since
abbrev pub AsksFor : Submission → Exchange → Type 0
AsksFor ask exchange = exchange.ask ≡ record ask { urgency = exchange.ask.urgency }

-- both are there, or neither is
abbrev pub AreOne : Option Submission → Option Exchange → Type 0
AreOne None None = ⊤
AreOne None (Some exchange) = ⊥
AreOne (Some ask) None = ⊥
AreOne (Some ask) (Some exchange) = AsksFor ask exchange

-- behind any entries the exchange of a number is the accepted submission of that number
abbrev pub ExchangesAreSubmissions : Type 0
ExchangesAreSubmissions = (config : Config) (h : List Entry) (number : ℕ) → AreOne (numbered number (submissions_of h)) (numbered number (run config h).exchanges)

-- of this entry, n others before it, and a state: the exchange's number is how many submissions were accepted up to the entry, and the
-- exchange of that number is the entry's caller's and asks for this
pub record IsTaken (config : Config) (h : List Entry) (n m : ℕ) (x : Entry) (ask : Submission) (e : ExchangeNo) : Type 0 where
  pub number : e.0 ≡ length (submissions_of (take (n + 1) h))
  pub caller : OfExchange (state_at config h m) e (λ exchange. exchange.caller ≡ x.who)
  pub asks : OfExchange (state_at config h m) e (AsksFor ask)

-- at each state of a history that comes behind the entry by which it was accepted
abbrev pub AcceptedOnesAreExchanges : Type 0
AcceptedOnesAreExchanges =
    (config : Config) (h : List Entry) (n m : ℕ) (x : Entry) (ask : Submission) (e : ExchangeNo) →
    Comes config h n x → x.act ≡ Submit ask (submit.Accepted e) → n < m → IsTaken config h n m x ask e

-- ---- orders

-- what a mark tells the connection, as the state says it: a start sends the request of its exchange, dressed for the target of the
-- connection's group (RFC 7838, section 5)
abbrev pub IsToldAt : AbstractPool → ConnNo → OrderMark → Order → Type 0
IsToldAt s c (mark.Start e r) told = OfBoth s e c (λ exchange connection. told ≡ order.Start e r (dressed_for exchange.ask.request connection.group.target) exchange.ask.probe)
IsToldAt s c (mark.Reset r) told = told ≡ order.Reset r
IsToldAt s c mark.Close told = told ≡ order.Close

-- the mark has one order, that of the state after the first n entries, read with these in hand and with any more of the history
pub record HasOneOrder (config : Config) (h : List Entry) (n : ℕ) (c : ConnNo) (m : OrderMark) : Type 0 where
  pub told : Order
  pub is_told : IsToldAt (state_at config h n) c m told
  pub is_read : (k : ℕ) → n ≤ k → order_of (take k h) c m ≡ told ∷ []

-- at each Orders of a history
abbrev pub MarksHaveOneOrder : Type 0
MarksHaveOneOrder =
    (config : Config) (h : List Entry) (n : ℕ) (x : Entry) (c : ConnNo) (sent : ℕ) (orders : List OrderMark) (m : OrderMark) →
    Comes config h n x → x.act ≡ Orders c sent orders → Contains orders m → HasOneOrder config h n c m

-- the orders that an entry of a caller gives, where it is about this connection
abbrev pub given_to : ConnNo → Own → List Order
given_to c own = if is_about c own.entry.act then own.orders else []

-- in a history the orders of a connection are those that the entries of its dialer give, in order
abbrev pub OrdersAreTheDialers : Type 0
OrdersAreTheDialers =
    (config : Config) (h : List Entry) (n : ℕ) (x : Entry) (c : ConnNo) (goes_to : Target) →
    Comes config h n x → x.act ≡ Dial c goes_to → orders_of h c ≡ flat_map (given_to c) (own_of h x.who)

-- ---- starts, and own entries

abbrev pub IsStart : Order → Type 0
IsStart (order.Start e r request probe) = ⊤
IsStart (order.Reset r) = ⊥
IsStart order.Close = ⊥

-- the starts of a connection are those of its orders that start a stream
abbrev pub StartsAreOrders : Type 0
StartsAreOrders = (h : List Entry) (c : ConnNo) (told : Order) → Contains (starts_of h c) told ↔ (Contains (orders_of h c) told × IsStart told)

-- of any entries, those of a caller with the orders that they give are its calls, in order
abbrev pub OwnEntriesAreCalls : Type 0
OwnEntriesAreCalls = (h : List Entry) (who : CallerNo) → map (λ own. own.entry) (own_of h who) ≡ calls_of h who
