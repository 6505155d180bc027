-- Each entry that may stand keeps the pending starts under their leases, and the unsent leases with their starts.
use Rattle.std.proofs.Common.{◌≡◌, ℕ, Some, None, Option, Bool, true, false, inl, inr, refl, subst, is_some, IsTrue, IsSomeAnd, Contains}
use Rattle.std.specs.Prelude.{not}
use Rattle.std.proofs.lemmas.Bool.{cases_Bool, and_parts, both_ways, false_from_ne_true}
use Rattle.net_base.specs.declared.numbers.CallerNo.{CallerNo}
use Rattle.net_base.specs.declared.numbers.Moment.{Moment}
use Rattle.model_laws.proofs.AwaitLeases.{takes, Tells, unsent_act}
use Rattle.model_laws.proofs.AwaitOrders.{AwaitsAt, awaits_act}
use Rattle.model_laws.proofs.AwaitSteps.{Awaits, awaits_there}
use Rattle.model_laws.proofs.AwaitTaken.{LacksAt, lacks_act, HasStart, start_came, start_given}
use Rattle.model_laws.proofs.FitLemmas.{closes, IsFit, fit_stand}
use Rattle.model_laws.proofs.GivenLemmas.{AreGiven}
use Rattle.model_laws.proofs.OrderlyLemmas.{AreOrderly}
use Rattle.model_laws.proofs.ReleaseLemmas.{HasUnsent}
use Rattle.model_laws.proofs.StayLemmas.{TurnsAt}
use Rattle.model_laws.proofs.TurnLemmas.{no_claim, turned_act}
use Rattle.model_laws.proofs.YieldLemmas.{unsent_leased}
use Rattle.model_laws.specs.Sound.{Carries, LeasesAreCarried, LeasesAreApart, StartedAreSent, PendingAreLeased, UnsentAwaitHanding}
use Rattle.model_histories.proofs.EditLemmas.{none_numbered}
use Rattle.model_histories.specs.Histories.{opening, MayStand}
use Rattle.model_histories.specs.Legal.{IsWorkersEntry, MayTake, IsReply}
use Rattle.model_settling.specs.Settling.{has_passed, has_expired, has_lapsed, IsDue}
use Rattle.model_steps.specs.After.{noted, after_act, after}
use Rattle.model_authority.proofs.NumberLemmas.{value_and, and_value, passing}
use Rattle.model_authority.specs.Lists.{numbered}
use Rattle.model_authority.specs.Statuses.{is_at, is_waiting, has_ended, is_closing, is_gone, is_unsent_at}
use Rattle.model_values.specs.declared.config.Config.{Config}
use Rattle.model_values.specs.declared.entry.Act.{Act}
use Rattle.model_values.specs.declared.entry.Act.TheVariants.{Orders, Expire, Lapse}
use Rattle.model_values.specs.declared.entry.Entry.{Entry}
use Rattle.model_values.specs.declared.order.OrderMark.TheVariants as mark
use Rattle.model_values.specs.declared.state.AbstractPool.{AbstractPool}
use Rattle.model_values.specs.declared.state.Connection.{Connection}
use Rattle.model_values.specs.declared.state.Exchange.{Exchange}

-- what the two rest on
pub record IsReady (s : AbstractPool) : Type 0 where
  pub carried : LeasesAreCarried s
  pub apart : LeasesAreApart s
  pub sent : StartedAreSent s
  pub orderly : AreOrderly s
  pub given : AreGiven s
  pub pending : PendingAreLeased s
  pub awaited : UnsentAwaitHanding s

-- ---- by any act

-- a connection that is gone stays so
gone_on : (ends : Bool) (o p : Option Connection) (x y : Connection) → TurnsAt false ends o p → o ≡ Some x → p ≡ Some y → is_gone x.phase ≡ true →
    is_gone y.phase ≡ true
gone_on ends o p x y k is_x is_y over =
    let of_x : TurnsAt false ends (Some x) p = subst (λ (q : Option Connection). TurnsAt false ends q p) is_x k in
    let turns : TurnsAt false ends (Some x) (Some y) = subst (λ (q : Option Connection). TurnsAt false ends (Some x) q) is_y of_x in
    turns.final over

pending_act : (s : AbstractPool) (who : CallerNo) (act : Act) → IsFit s act → Tells s act → IsReady s → PendingAreLeased (after_act s who act)
pending_act s who act fit tells ready c y e r is_y goes_on has =
    elim (start_came s who act e c r (and_value (numbered c.0 (after_act s who act).connections) (λ z. Contains z.orders (mark.Start e r)) y is_y has)) [
      | inl was ↦ stays was
      | inr g ↦ (unsent_act s who act fit tells e.0).given c r g
    ]
  where
    -- where the act takes the lease no such start is left
    none_left : HasUnsent c r (numbered e.0 s.exchanges) → takes act e.0 c r ≡ true → ⊥
    none_left unsent taken =
        elim (subst (LacksAt e r) is_y (lacks_act s who act e c r fit ready.orderly ready.sent unsent taken)) [
          | inl over ↦ goes_on over
          | inr none ↦ none has
        ]

    stays : HasStart e r (numbered c.0 s.connections) → HasUnsent c r (numbered e.0 (after_act s who act).exchanges)
    stays was =
        let v = value_and (numbered c.0 s.connections) (λ z. Contains z.orders (mark.Start e r)) was in
        let still : is_gone v.0.phase ≡ true → is_gone y.phase ≡ true =
        gone_on (closes act c.0) (numbered c.0 s.connections) (numbered c.0 (after_act s who act).connections) v.0 y
        (turned_act false s who act (no_claim s) fit c.0) v.1 is_y in
        let unsent : HasUnsent c r (numbered e.0 s.exchanges) = ready.pending c v.0 e r v.1 (λ over. goes_on (still over)) v.2 in
        (unsent_act s who act fit tells e.0).kept c r unsent (false_from_ne_true (takes act e.0 c r) (none_left unsent))

awaited_act : (s : AbstractPool) (who : CallerNo) (act : Act) → IsFit s act → Tells s act → IsReady s → UnsentAwaitHanding (after_act s who act)
awaited_act s who act fit tells ready c y e x r is_y goes_on is_x unsent =
    let there : HasUnsent c r (numbered e.0 (after_act s who act).exchanges) =
    and_value (numbered e.0 (after_act s who act).exchanges) (λ z. IsTrue (is_unsent_at c r z.status)) x is_x unsent in
    elim ((unsent_act s who act fit tells e.0).came c r there) [
      | inl was ↦
          awaits_there e r y.phase y.orders (false_from_ne_true (is_closing y.phase) goes_on)
          (subst (AwaitsAt e r) is_y (awaits_act s who act e c r fit tells (alone was.0) was.1 (awaits was.0)))
      | inr g ↦ subst (HasStart e r) is_y (start_given s who act e c r fit g)
    ]
  where
    -- no other exchange has a lease on that stream
    alone : HasUnsent c r (numbered e.0 s.exchanges) → (n : ℕ) (z : Exchange) → numbered n s.exchanges ≡ Some z → is_at c r z.status ≡ true → e.0 ≡ n
    alone was n z is_z at =
        let v = value_and (numbered e.0 s.exchanges) (λ u. IsTrue (is_unsent_at c r u.status)) was in
        ready.apart e.0 n v.0 z c r v.1 is_z (unsent_leased c r v.0.status v.2) at

    -- its start was ordered, on a connection that carries it, unless that closes
    awaits : HasUnsent c r (numbered e.0 s.exchanges) → AwaitsAt e r (numbered c.0 s.connections)
    awaits was =
        let v = value_and (numbered e.0 s.exchanges) (λ u. IsTrue (is_unsent_at c r u.status)) was in
        let w = value_and (numbered c.0 s.connections) (λ z. Carries z r) (ready.carried e.0 v.0 c r v.1 (unsent_leased c r v.0.status v.2)) in
        let here : Awaits e r w.0.phase w.0.orders = elim (cases_Bool (is_closing w.0.phase)) [
          | inl closes ↦ inl closes
          | inr goes ↦ inr (ready.awaited c w.0 e v.0 r w.1 (both_ways (is_closing w.0.phase) goes) v.1 v.2)
        ] in
        and_value (numbered c.0 s.connections) (λ z. Awaits e r z.phase z.orders) w.0 w.1 here

-- ---- any entry that may stand

-- a deadline that is reached is there
passed_some : (now : Moment) (deadline : Option Moment) → has_passed now deadline ≡ true → is_some deadline ≡ true
passed_some now None h = absurd cc
passed_some now (Some m) h = refl

expired_some : (s : AbstractPool) (number : ℕ) (o : Option Exchange) (x : Exchange) → IsSomeAnd o (λ y. IsTrue (has_expired s number y)) →
    o ≡ Some x → is_some x.ask.deadline ≡ true
expired_some s number o x expired is_item =
    let here : has_expired s number x ≡ true = subst (λ (q : Option Exchange). IsSomeAnd q (λ y. IsTrue (has_expired s number y))) is_item expired in
    passed_some s.latest x.ask.deadline (and_parts (not (has_ended x.status)) (has_passed s.latest x.ask.deadline) here).1

tells_due : (s : AbstractPool) (m : Moment) (act : Act) → IsDue s act → Tells (noted s m) act
unfolding noted
tells_due s m (Expire e) due = λ x is_item. expired_some s e.0 (numbered e.0 s.exchanges) x due.passes is_item
tells_due s m (Lapse e) due =
    let p = passing (has_lapsed s) s.exchanges e.0 due.lowest.passes in
    and_value (numbered e.0 s.exchanges) (λ x. IsTrue (is_waiting x.status)) p.0 p.1 (and_parts _ _ (and_parts _ _ p.2).0).0
tells_due s m (Orders c sent orders) due = absurd due
tells_due s m _ due = tt

tells_reply : (s : AbstractPool) (who : CallerNo) (act : Act) → IsReply s who act → Tells s act
tells_reply s who (Expire e) reply = absurd reply
tells_reply s who (Lapse e) reply = absurd reply
tells_reply s who (Orders c sent orders) reply =
    let v = value_and (numbered c.0 s.connections) (λ y. IsWorkersEntry y who sent × MayTake y orders) reply in
    and_value (numbered c.0 s.connections) (λ y. orders ≡ y.orders) v.0 v.1 v.2.1.1
tells_reply s who _ reply = tt

tells_stand : (s : AbstractPool) (e : Entry) → MayStand s e → Tells (noted s e.moment) e.act
tells_stand s e stand = elim stand.legal [
  | inl pools ↦ tells_due s e.moment e.act pools.due
  | inr calls ↦ tells_reply (noted s e.moment) e.who e.act calls.reply
]

ready_noted : (s : AbstractPool) (m : Moment) → IsReady s → IsReady (noted s m)
unfolding noted
ready_noted s m k = record { carried = k.carried; apart = k.apart; sent = k.sent; orderly = k.orderly; given = k.given; pending = k.pending; awaited = k.awaited }

pub pending_after : (s : AbstractPool) (e : Entry) → MayStand s e → IsReady s → PendingAreLeased (after s e)
unfolding after
pending_after s e stand ready = pending_act (noted s e.moment) e.who e.act (fit_stand s e stand) (tells_stand s e stand) (ready_noted s e.moment ready)

pub awaited_after : (s : AbstractPool) (e : Entry) → MayStand s e → IsReady s → UnsentAwaitHanding (after s e)
unfolding after
awaited_after s e stand ready = awaited_act (noted s e.moment) e.who e.act (fit_stand s e stand) (tells_stand s e stand) (ready_noted s e.moment ready)

pub pending_opening : (config : Config) → PendingAreLeased (opening config)
pending_opening config c y e r is_y goes_on has = let none = none_numbered Connection c.0 in absurd cc

pub awaited_opening : (config : Config) → UnsentAwaitHanding (opening config)
awaited_opening config c y e x r is_y goes_on is_x unsent = let none = none_numbered Connection c.0 in absurd cc
