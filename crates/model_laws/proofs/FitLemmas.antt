-- What is known of the exchange and the connection that an act is about, where the act may stand.
use Rattle.std.proofs.Common.{◌≡◌, ℕ, Option, Some, inl, inr, ap, ◌∙◌, IsTrue, IsSomeAnd}
use Rattle.std.specs.Prelude.{◌&&◌, ◌||◌, ◌==◌, not, Bool, true, false}
use Rattle.std.specs.List.{list_any}
use Rattle.std.proofs.lemmas.Bool.{and_parts}
use Rattle.net_base.specs.declared.numbers.ConnNo.{ConnNo}
use Rattle.net_base.specs.declared.numbers.ExchangeNo.{ExchangeNo}
use Rattle.net_base.specs.declared.numbers.Moment.{Moment}
use Rattle.net_base.specs.declared.numbers.CallerNo.{CallerNo}
use Rattle.net_base.specs.declared.numbers.StreamNo.{StreamNo}
use Rattle.model_histories.specs.Histories.{MayStand}
use Rattle.model_histories.specs.Legal.{IsWorkersEntry, MayReport, MayClose, IsReply}
use Rattle.model_histories.specs.Replies.{IsSubmitReply, IsPreconnectReply}
use Rattle.model_settling.specs.Room.{is_eligible, may_background_start, has_room}
use Rattle.model_settling.specs.Settling.{IsDue, can_use, can_start, can_open}
use Rattle.model_steps.specs.After.{noted}
use Rattle.model_authority.proofs.NumberLemmas.{value_and, and_value, passing}
use Rattle.model_authority.specs.Lists.{numbered}
use Rattle.model_authority.specs.Statuses.{is_waiting, is_wanted, is_open}
use Rattle.model_authority.specs.Ways.{group_for, has_capacity, has_way, is_usable}
use Rattle.model_values.specs.declared.entry.Act.{Act}
use Rattle.model_values.specs.declared.entry.Act.TheVariants.{Submit, Preconnect, Dial, Reported, Closed, Expire, Lapse, Assign, Want, Evict}
use Rattle.model_values.specs.declared.entry.Entry.{Entry}
use Rattle.model_values.specs.declared.state.AbstractPool.{AbstractPool}
use Rattle.model_values.specs.declared.state.Connection.{Connection}
use Rattle.model_values.specs.declared.state.Exchange.{Exchange}

-- the act ends the connection of this number
abbrev pub closes : Act → ℕ → Bool
closes (Closed c sent cause heard) n = c.0 == n
closes _ n = false

pub same_item : (o : Option Connection) (x y : Connection) → o ≡ Some x → o ≡ Some y → x ≡ y
same_item o x y h k = cc

abbrev pub IsWaitingAt : AbstractPool → ExchangeNo → Type 0
IsWaitingAt s e = IsSomeAnd (numbered e.0 s.exchanges) (λ x. IsTrue (is_waiting x.status))

-- the connection is open, and this is its next stream
pub record Gives (s : AbstractPool) (c : ConnNo) (r : StreamNo) : Type 0 where
  pub connection : Connection
  pub is_connection : numbered c.0 s.connections ≡ Some connection
  pub opened : is_open connection.phase ≡ true
  pub next : r.0 ≡ connection.next_stream

-- what is used here of an act that may stand
abbrev pub IsFit : AbstractPool → Act → Type 0
IsFit s (Submit ask reply) = IsSubmitReply s ask reply
IsFit s (Preconnect key credentials origin count reply) = IsPreconnectReply s (group_for s key credentials origin) count reply
IsFit s (Dial c target) = IsSomeAnd (numbered c.0 s.connections) (λ x. IsTrue (is_wanted x.phase))
IsFit s (Reported c sent report) = IsSomeAnd (numbered c.0 s.connections) (λ x. MayReport x report)
IsFit s (Closed c sent cause heard) = IsSomeAnd (numbered c.0 s.connections) (λ x. MayClose x cause)
IsFit s (Assign e c r by) = IsWaitingAt s e × Gives s c r
IsFit s (Want e c t) = IsWaitingAt s e
IsFit s _ = Unit {0}

eligible_waits : (s : AbstractPool) (e : Exchange) → IsTrue (is_eligible s e) → IsTrue (is_waiting e.status)
unfolding is_eligible
eligible_waits s e h = (and_parts (is_waiting e.status) (not e.ask.background || may_background_start s) h).0

starting_waits : (s : AbstractPool) (e : ExchangeNo) (number : ℕ) (x : Exchange) → numbered e.0 s.exchanges ≡ Some x → IsTrue (can_start s number x) → IsWaitingAt s e
starting_waits s e number x is_item h =
    and_value (numbered e.0 s.exchanges) (λ y. IsTrue (is_waiting y.status)) x is_item (eligible_waits s x (and_parts (is_eligible s x) (list_any (is_usable s x) s.connections) h).0)

opening_waits : (s : AbstractPool) (e : ExchangeNo) (number : ℕ) (x : Exchange) → numbered e.0 s.exchanges ≡ Some x → IsTrue (can_open s number x) → IsWaitingAt s e
opening_waits s e number x is_item h =
    and_value (numbered e.0 s.exchanges) (λ y. IsTrue (is_waiting y.status)) x is_item (eligible_waits s x (and_parts (is_eligible s x) (has_room s number x) h).0)

usable_open : (s : AbstractPool) (e : Exchange) (c : Connection) → IsTrue (is_usable s e c) → IsTrue (is_open c.phase)
unfolding is_usable
usable_open s e c h = (and_parts (is_open c.phase) (has_capacity s.config c) (and_parts (is_open c.phase && has_capacity s.config c) (has_way s e c) h).0).0

fit_due : (s : AbstractPool) (m : Moment) (act : Act) → IsDue s act → IsFit (noted s m) act
unfolding noted
fit_due s m (Expire e) h = tt
fit_due s m (Lapse e) h = tt
fit_due s m (Assign e c r by) h =
    let p = passing (can_start s) s.exchanges e.0 h.least.passes in
    let q = passing (can_use s h.exchange) s.connections c.0 h.lowest.passes in
    let same : h.connection ≡ q.0 = same_item (numbered c.0 s.connections) h.connection q.0 h.is_connection q.1 in (
      starting_waits s e e.0 p.0 p.1 p.2,
      record {
        connection = q.0;
        is_connection = q.1;
        opened = usable_open s h.exchange q.0 q.2;
        next = h.next ∙ ap (λ (y : Connection). y.next_stream) same;
      },
    )
fit_due s m (Want e c t) h =
    let p = passing (can_open s) s.exchanges e.0 h.least.passes in
    opening_waits s e e.0 p.0 p.1 p.2
fit_due s m (Evict c) h = tt
fit_due s m _ h = absurd h

fit_reply : (s : AbstractPool) (who : CallerNo) (act : Act) → IsReply s who act → IsFit s act
fit_reply s who (Submit ask reply) h = h.2
fit_reply s who (Preconnect key credentials origin count reply) h = h.2
fit_reply s who (Dial c target) h = h.lowest.passes
fit_reply s who (Reported c sent report) h =
    let v = value_and (numbered c.0 s.connections) (λ x. IsWorkersEntry x who sent × MayReport x report) h in
    and_value (numbered c.0 s.connections) (λ x. MayReport x report) v.0 v.1 v.2.1
fit_reply s who (Closed c sent cause heard) h =
    let v = value_and (numbered c.0 s.connections) (λ x. IsWorkersEntry x who sent × MayClose x cause) h in
    and_value (numbered c.0 s.connections) (λ x. MayClose x cause) v.0 v.1 v.2.1
fit_reply s who (Expire e) h = absurd h
fit_reply s who (Lapse e) h = absurd h
fit_reply s who (Assign e c r by) h = absurd h
fit_reply s who (Want e c t) h = absurd h
fit_reply s who (Evict c) h = absurd h
fit_reply s who _ h = tt

-- an entry that may stand is fit for the state with its moment counted, at which it acts
pub fit_stand : (s : AbstractPool) (e : Entry) → MayStand s e → IsFit (noted s e.moment) e.act
fit_stand s e stand = elim stand.legal [
  | inl pools ↦ fit_due s e.moment e.act pools.due
  | inr calls ↦ fit_reply (noted s e.moment) e.who e.act calls.reply
]
