-- What callers see of a pool, and what its calls leave.
use Rattle.std.specs.Prelude.{◌≡◌, ◌⊎◌, ℕ, List, ◌∷◌, ◌++◌, ◌==◌, ◌||◌, Bool, true, Option, IsTrue, IsSomeAnd, All}
use Rattle.std.specs.List.{flat_map}
use Rattle.std.specs.Option.{IfSome}
use Rattle.net_base.specs.declared.numbers.CallerNo.{CallerNo}
use Rattle.net_base.specs.declared.numbers.ConnNo.{ConnNo}
use Rattle.net_base.specs.declared.numbers.ExchangeNo.{ExchangeNo}
use Rattle.net_base.specs.declared.numbers.Moment.{Moment}
use Rattle.dispatch_core.specs.Ranges.{AreWithinRanges}
use Rattle.model_histories.specs.Histories.{IsHistory, run}
use Rattle.model_histories.specs.Looks.{IsLook, IsLateAt, IsStop, IsNothingWanted, IsNothingOrdered}
use Rattle.model_histories.specs.Reading.{calls_of, is_about, order_of}
use Rattle.model_histories.specs.Port.{PortView}
use Rattle.model_histories.specs.Replies.{own_exchange}
use Rattle.model_authority.specs.Statuses.{has_ended}
use Rattle.model_values.specs.declared.config.Config.{Config}
use Rattle.model_values.specs.declared.entry.Act.{Act}
use Rattle.model_values.specs.declared.entry.Act.TheVariants.{Tick, Dial, Orders}
use Rattle.model_values.specs.declared.entry.Entry.{Entry}
use Rattle.model_values.specs.declared.order.Order.{Order}
use Rattle.model_values.specs.declared.order.OrderMark.{OrderMark}
use Rattle.model_values.specs.declared.reply.Look.{Look}
use Rattle.model_values.specs.declared.reply.OrdersReply.{OrdersReply}
use Rattle.model_values.specs.declared.reply.OrdersReply.TheVariants as orders
use Rattle.model_values.specs.declared.reply.Seek.{Seek}
use Rattle.model_values.specs.declared.reply.Seek.TheVariants as seek
use Rattle.model_values.specs.declared.state.AbstractPool.{AbstractPool}

-- what a pool is seen as: its limits, its history, and whether it has at hand the state that its history leaves
pub record PoolView : Type 0 where
  pub config : Config
  pub history : List Entry
  pub at_hand : Bool

-- a pool as one caller sees it. Its calls bring entries of this caller and of the pool itself
abbrev pub seen_by : PoolView → CallerNo → ℕ → PortView
seen_by v who lender = record { config = v.config; mine = who; seen = v.history; adds = λ n. n.0 == who.0 || n.0 == 0; lender = lender }

-- ---- what a pool stands on

-- a state that is kept beside a history is the one that the history leaves
abbrev pub IsKept : Config → List Entry → Option AbstractPool → Type 0
IsKept config h state = IfSome state (λ s. s ≡ run config h)

-- a pool's limits are within their ranges, its entries are a history, and it may keep the state that this leaves
pub record Stands (config : Config) (h : List Entry) (kept : Option AbstractPool) : Type 0 where
  pub ranges : AreWithinRanges config
  pub history : IsHistory config h
  pub state : IsKept config h kept

-- ---- what a call leaves

-- the history is as it was
pub record IsAsBefore (v w : PoolView) : Type 0 where
  pub config : w.config ≡ v.config
  pub same : w.history ≡ v.history
  pub history : IsHistory w.config w.history

-- the history is as it was, and the state that it leaves is at hand
pub record Rests (v w : PoolView) : Type 0 where
  pub before : IsAsBefore v w
  pub at_hand : w.at_hand ≡ true

-- the entry comes behind what was there, and what the pool does by itself behind it
pub record Adds (old : List Entry) (e : Entry) (new : List Entry) : Type 0 where
  pub behind : List Entry
  pub history : new ≡ old ++ e ∷ behind
  pub settles : All (λ x. x.who.0 ≡ 0) behind

-- the call adds its entry, what is left is a history, and the state that it leaves is at hand
pub record Enters (v : PoolView) (who : CallerNo) (moment : Moment) (act : Act) (w : PoolView) : Type 0 where
  pub config : w.config ≡ v.config
  pub adds : Adds v.history (record { who = who; moment = moment; act = act }) w.history
  pub history : IsHistory w.config w.history
  pub at_hand : w.at_hand ≡ true

-- ---- answers

-- the caller's exchange has ended
abbrev pub HasItsEnd : AbstractPool → CallerNo → ExchangeNo → Type 0
HasItsEnd s who e = IsSomeAnd (own_exchange s who e) (λ exchange. IsTrue (has_ended exchange.status))

-- what a caller sees of an exchange: where the look is late, behind a tick
abbrev pub IsLookOf : PoolView → CallerNo → Moment → ExchangeNo → Look → PoolView → Type 0
IsLookOf v who moment e reply w =
    IsLook (run w.config w.history) who e reply × ((Rests v w × (¬ IsLateAt (run v.config v.history) moment)) ⊎ Enters v who moment Tick w)

-- the answer of a seek where no connection is wanted
abbrev pub IsRest : AbstractPool → Seek → Type 0
IsRest s (seek.Dial conn target) = ⊥
IsRest s (seek.Stop place) = IsStop s place
IsRest s (seek.Nothing n) = IsNothingWanted s n

-- the answer to who asks for a connection to dial. One that it gets is in none of its entries
abbrev pub IsSeekOf : PoolView → CallerNo → Moment → Seek → PoolView → Type 0
IsSeekOf v who moment (seek.Dial conn target) w = All (λ e. ¬ IsTrue (is_about conn e.act)) (calls_of v.history who) × Enters v who moment (Dial conn target) w
IsSeekOf v who moment (seek.Stop place) w = Rests v w × IsStop (run v.config v.history) place
IsSeekOf v who moment (seek.Nothing n) w = Rests v w × IsNothingWanted (run v.config v.history) n

-- all orders that are pending, each start with the request that was submitted before
pub record Hands (v : PoolView) (who : CallerNo) (moment : Moment) (c : ConnNo) (sent : ℕ) (list : List Order) (w : PoolView) : Type 0 where
  pub marks : List OrderMark
  pub enters : Enters v who moment (Orders c sent marks) w
  pub are_orders : list ≡ flat_map (order_of v.history c) marks

-- the answer to who asks for the orders of a connection
abbrev pub IsOrdersOf : PoolView → CallerNo → Moment → ConnNo → ℕ → OrdersReply → PoolView → Type 0
IsOrdersOf v who moment c sent (orders.Orders list) w = Hands v who moment c sent list w
IsOrdersOf v who moment c sent (orders.Nothing n) w = Rests v w × IsNothingOrdered (run v.config v.history) c n
