-- What any entry that may stand leaves of what holds of a connection whose worker keeps its word.
use Rattle.std.proofs.Common.{◌≡◌, ℕ, List, Option, Some, None, true, false, inl, inr, refl, sym, ap, subst, IsSomeAnd, Contains}
use Rattle.std.specs.Prelude.{not}
use Rattle.std.proofs.lemmas.Bool.{and_parts, ne_eqb}
use Rattle.net_base.specs.declared.numbers.CallerNo.{CallerNo}
use Rattle.net_base.specs.declared.numbers.ConnNo.{ConnNo}
use Rattle.net_base.specs.declared.numbers.ExchangeNo.{ExchangeNo}
use Rattle.net_base.specs.declared.numbers.Moment.{Moment}
use Rattle.net_base.specs.declared.numbers.StreamNo.{StreamNo}
use Rattle.model_laws.proofs.DoneLemmas.{IsDone, done_act, done_noted}
use Rattle.model_laws.proofs.FairLemmas.{Holds, HoldsAt, Said, Rests, TakesReset, Says, Goes, gives_on, holds_kept, holds_new}
use Rattle.model_laws.proofs.FairReleases.{stands_shut, stands_lease}
use Rattle.model_laws.proofs.FairReports.{holds_report}
use Rattle.model_laws.proofs.FairSteps.{IsAsked, Acts, Stands, going, holds_of, stands_same, stands_on, elsewhere, stands_dial, stands_orders, stands_closed, stands_assign, stands_evict}
use Rattle.model_laws.proofs.FitLemmas.{fit_stand}
use Rattle.model_laws.proofs.FreeLemmas.{timed_out_free}
use Rattle.model_laws.proofs.TreatLemmas.{treats_same}
use Rattle.model_histories.proofs.EffectLemmas.{AddsAt, Adds, effect_act}
use Rattle.model_histories.specs.Legal.{IsWorkersEntry, MayReport, MayTake, IsReply}
use Rattle.model_histories.specs.Histories.{MayStand}
use Rattle.model_histories.specs.Reading.{Own}
use Rattle.model_settling.specs.Settling.{has_passed, has_expired, is_idle, IsDue}
use Rattle.model_steps.specs.After.{noted, after_submit, released_by, released, after_cancel, after_reprioritise, after_preconnect, after_resolved, after_network, after_shut, after_dial, after_orders, after_expire, after_lapse, after_assign, after_evict, after_act, after}
use Rattle.model_steps.specs.Exchanges.{ended_by, timed_out}
use Rattle.model_authority.proofs.NumberLemmas.{value_and, and_value, passing}
use Rattle.model_authority.specs.Lists.{numbered, edit, is_nil}
use Rattle.model_authority.specs.Statuses.{has_ended, is_open, is_busy, is_at}
use Rattle.model_values.specs.declared.config.Config.{Config}
use Rattle.model_values.specs.declared.entry.Act.{Act}
use Rattle.model_values.specs.declared.entry.Act.TheVariants.{Submit, Cancel, Reprioritise, Preconnect, Resolved, Shutdown, Dial, Orders, Reported, Closed, Expire, Assign, Want, Evict}
use Rattle.model_values.specs.declared.entry.Entry.{Entry}
use Rattle.model_values.specs.declared.order.OrderMark.{OrderMark}
use Rattle.model_values.specs.declared.order.OrderMark.TheVariants as mark
use Rattle.model_values.specs.declared.outcome.Outcome.TheVariants as outcome
use Rattle.model_values.specs.declared.reply.CancelReply.TheVariants as cancel
use Rattle.model_values.specs.declared.reply.ChangeReply.TheVariants as change
use Rattle.model_values.specs.declared.reply.PreconnectReply.TheVariants as preconnect
use Rattle.model_values.specs.declared.reply.ResolvedReply.TheVariants as resolved
use Rattle.model_values.specs.declared.reply.ShutReply.TheVariants as shut
use Rattle.model_values.specs.declared.reply.SubmitReply.TheVariants as submit
use Rattle.model_values.specs.declared.report.Report.{Report}
use Rattle.model_values.specs.declared.state.AbstractPool.{AbstractPool}
use Rattle.model_values.specs.declared.state.Connection.{Connection}
use Rattle.model_values.specs.declared.state.Exchange.{Exchange}

module _ (config : Config) (s : AbstractPool) (who : CallerNo) (c : ConnNo) (own next : List Own) (rests : Rests config s) (said : Said c own s)
    (holds : HoldsAt c own s (numbered c.0 s.connections)) where
  same_here : (act : Act) → gives_on c act ≡ false → Acts s c own next act → numbered c.0 (after_act s who act).connections ≡ numbered c.0 s.connections →
      Stands s who c next act
  same_here = stands_same config s who c own next rests holds

  -- the exchange of this number ends, if it is there
  stands_released : (act : Act) → Acts s c own next act → gives_on c act ≡ false → (e : ExchangeNo) (f : Exchange → Exchange) →
      (after_act s who act).exchanges ≡ edit e.0 f s.exchanges →
      (after_act s who act).connections ≡ released s e →
      ((u : Exchange) → numbered e.0 s.exchanges ≡ Some u → (r : StreamNo) → is_at c r (f u).status ≡ true → ⊥) → Stands s who c next act
  unfolding released
  stands_released act acts none e f left is ends = by (numbered e.0 s.exchanges) refl is
    where
      by : (o : Option Exchange) → numbered e.0 s.exchanges ≡ o → (after_act s who act).connections ≡ released_by s.latest o s.connections → Stands s who c next act
      by None no_item same = same_here act none acts (ap (numbered c.0) same)
      by (Some u) is_u same = stands_lease config s who c own next rests holds act acts none e f left u is_u (ends u is_u) u.status refl same

  stands_cancelled : (e : ExchangeNo) → Acts s c own next (Cancel e cancel.Cancelled) → Stands s who c next (Cancel e cancel.Cancelled)
  unfolding after_cancel
  stands_cancelled e acts = stands_released (Cancel e cancel.Cancelled) acts refl e (ended_by outcome.Cancelled) refl refl (λ u is_u r h. absurd cc)

  stands_expired : (e : ExchangeNo) → Acts s c own next (Expire e) → Stands s who c next (Expire e)
  unfolding after_expire
  stands_expired e acts =
      let now : Moment = acts.1.0 in
      stands_released (Expire e) acts refl e timed_out refl refl
      (λ u is_u r. timed_out_free c r now u (subst (λ o. IsSomeAnd o (λ (x : Exchange). has_passed now x.ask.deadline ≡ true)) is_u acts.1.1))

  stands_reported : (sent : ℕ) (told : Report) → Acts s c own next (Reported c sent told) → Stands s who c next (Reported c sent told)
  stands_reported sent told acts =
      let v = value_and (numbered c.0 s.connections) (λ x. MayReport x told) acts.0 in
      holds_report config s who c own next sent v.0 v.1 rests said (holds_of config s who c own next rests holds v.0 v.1) told (acts.0, acts.2)

  -- no connection changes, and further ones are wanted
  stands_added : (act : Act) → Acts s c own next act → gives_on c act ≡ false → Adds s.connections (after_act s who act).connections → Stands s who c next act
  stands_added act acts none adds = by (numbered c.0 s.connections) (numbered c.0 (after_act s who act).connections) refl holds (adds c.0)
    where
      goes : Goes c own next s (after_act s who act)
      goes = going config s who c own next rests holds act none acts

      by : (o p : Option Connection) → numbered c.0 s.connections ≡ o → HoldsAt c own s o → AddsAt o p → HoldsAt c next (after_act s who act) p
      by None None is h a = tt
      by None (Some y) is h a = holds_new c own next s (after_act s who act) y rests.carried is goes a
      by (Some x) None is h a = absurd a
      by (Some x) (Some y) is h a =
          subst (Holds c next (after_act s who act)) (sym a) (holds_kept c own next s (after_act s who act) x x goes (treats_same (λ r. ⊥) (λ r. ⊥) ⊥ x) h)

  -- ---- any act

  stands_act : (act : Act) → Acts s c own next act → Stands s who c next act
  unfolding after_submit after_cancel after_reprioritise after_preconnect after_resolved after_network after_shut after_dial after_orders after_expire after_lapse after_assign after_evict
  stands_act (Submit ask (submit.Accepted e)) acts = same_here (Submit ask (submit.Accepted e)) refl acts refl
  stands_act (Reprioritise e urgency change.Changed) acts = same_here (Reprioritise e urgency change.Changed) refl acts refl
  stands_act (Resolved key host addresses resolved.Noted) acts = same_here (Resolved key host addresses resolved.Noted) refl acts refl
  stands_act (Cancel e cancel.Cancelled) acts = stands_cancelled e acts
  stands_act (Expire e) acts = stands_expired e acts
  stands_act (Shutdown shut.Noted) acts = stands_shut config s who c own next rests holds acts
  stands_act (Preconnect key credentials origin count (preconnect.Opening k)) acts =
      stands_added (Preconnect key credentials origin count (preconnect.Opening k)) acts refl
      (effect_act s who (Preconnect key credentials origin count (preconnect.Opening k)))
  stands_act (Want e d t) acts = stands_added (Want e d t) acts refl (effect_act s who (Want e d t))
  stands_act (Dial d target) acts =
      stands_on config s who c own next rests holds (λ conn. Dial conn target) d (stands_dial config s who c own next rests holds target)
      (elsewhere config s who c own next rests holds (Dial d target) refl (effect_act s who (Dial d target))) acts
  stands_act (Orders d sent orders) acts =
      stands_on config s who c own next rests holds (λ conn. Orders conn sent orders) d (stands_orders config s who c own next rests holds sent orders)
      (elsewhere config s who c own next rests holds (Orders d sent orders) refl (effect_act s who (Orders d sent orders))) acts
  stands_act (Reported d sent told) acts =
      stands_on config s who c own next rests holds (λ conn. Reported conn sent told) d (stands_reported sent told)
      (elsewhere config s who c own next rests holds (Reported d sent told) refl (effect_act s who (Reported d sent told))) acts
  stands_act (Closed d sent cause heard) acts =
      stands_on config s who c own next rests holds (λ conn. Closed conn sent cause heard) d (stands_closed config s who c own next rests holds sent cause heard)
      (elsewhere config s who c own next rests holds (Closed d sent cause heard) refl (effect_act s who (Closed d sent cause heard))) acts
  stands_act (Assign e d r by) acts =
      stands_on config s who c own next rests holds (λ conn. Assign e conn r by) d (stands_assign config s who c own next rests holds e r by)
      (λ apart. elsewhere config s who c own next rests holds (Assign e d r by) (ne_eqb d.0 c.0 (λ same. apart (sym same))) (effect_act s who (Assign e d r by)) apart) acts
  stands_act (Evict d) acts =
      stands_on config s who c own next rests holds (λ conn. Evict conn) d (stands_evict config s who c own next rests holds)
      (elsewhere config s who c own next rests holds (Evict d) refl (effect_act s who (Evict d))) acts
  stands_act act acts = same_here act refl acts refl

  -- what is to be reset has no lease, and is no longer
  said_act : (act : Act) → Acts s c own next act → Said c next (after_act s who act)
  said_act act acts r h = done_act s who act c r acts.0 (elim (acts.2.resets r h) [ inl before ↦ said r before | inr takes ↦ taken takes ])
    where
      taken : TakesReset c r act → IsDone c r s
      taken takes =
          let asked : IsAsked s (Orders c takes.sent takes.orders) = subst (IsAsked s) takes.is_orders acts.1 in
          let v = value_and (numbered c.0 s.connections) (λ x. (is_busy x.phase ≡ true) × (takes.orders ≡ x.orders)) asked in
          (holds_of config s who c own next rests holds v.0 v.1).reset r (subst (λ (ms : List OrderMark). Contains ms (mark.Reset r)) v.2.1 takes.has)

-- ---- any entry that may stand

pub record IsFairAt (c : ConnNo) (own : List Own) (s : AbstractPool) : Type 0 where
  pub said : Said c own s
  pub holds : HoldsAt c own s (numbered c.0 s.connections)

asked_due : (s : AbstractPool) (m : Moment) (act : Act) → IsDue s act → IsAsked (noted s m) act
unfolding noted
asked_due s m (Expire e) due =
    let p = passing (has_expired s) s.exchanges e.0 due.passes in
    let passed : has_passed s.latest p.0.ask.deadline ≡ true = (and_parts (not (has_ended p.0.status)) (has_passed s.latest p.0.ask.deadline) p.2).1 in
    (s.latest, and_value (numbered e.0 s.exchanges) (λ x. has_passed s.latest x.ask.deadline ≡ true) p.0 p.1 passed)
asked_due s m (Evict c) due =
    let p = passing is_idle s.connections c.0 due.least.passes in
    and_value (numbered c.0 s.connections) (λ x. is_nil x.live ≡ true) p.0 p.1 (and_parts (is_open p.0.phase) (is_nil p.0.live) p.2).1
asked_due s m (Orders c sent orders) due = absurd due
asked_due s m _ due = tt

asked_reply : (s : AbstractPool) (who : CallerNo) (act : Act) → IsReply s who act → IsAsked s act
asked_reply s who (Expire e) reply = absurd reply
asked_reply s who (Evict c) reply = absurd reply
asked_reply s who (Orders c sent orders) reply =
    let v = value_and (numbered c.0 s.connections) (λ x. IsWorkersEntry x who sent × MayTake x orders) reply in
    and_value (numbered c.0 s.connections) (λ x. (is_busy x.phase ≡ true) × (orders ≡ x.orders)) v.0 v.1 (v.2.1.0, v.2.1.1)
asked_reply s who _ reply = tt

pub asked_stand : (s : AbstractPool) (e : Entry) → MayStand s e → IsAsked (noted s e.moment) e.act
asked_stand s e stand = elim stand.legal [
  | inl pools ↦ asked_due s e.moment e.act pools.due
  | inr calls ↦ asked_reply (noted s e.moment) e.who e.act calls.reply
]

rests_noted : (config : Config) (s : AbstractPool) (m : Moment) → Rests config s → Rests config (noted s m)
unfolding noted
rests_noted config s m r = record { carried = r.carried; apart = r.apart; sent = r.sent; orderly = r.orderly; given = r.given }

pub fair_noted : (c : ConnNo) (own : List Own) (s : AbstractPool) (e : Entry) → IsFairAt c own s → IsFairAt c own (noted s e.moment)
unfolding noted
fair_noted c own s e fair = record { said = λ r h. done_noted s e c r (fair.said r h); holds = by (numbered c.0 s.connections) fair.holds }
  where
    by : (o : Option Connection) → HoldsAt c own s o → HoldsAt c own (noted s e.moment) o
    by None h = tt
    by (Some x) h = record { live = h.live; reset = λ r k. done_noted s e c r (h.reset r k); closing = h.closing; close = h.close; speaks = h.speaks; ran_out = h.ran_out }

pub fair_after : (config : Config) (s : AbstractPool) (e : Entry) (c : ConnNo) (own next : List Own) → MayStand s e → Rests config s → Says c own next e.act →
    IsFairAt c own s →
    IsFairAt c next (after s e)
unfolding after
fair_after config s e c own next stand rests says before =
    let t : AbstractPool = noted s e.moment in
    let fair : IsFairAt c own t = fair_noted c own s e before in
    let acts : Acts t c own next e.act = (fit_stand s e stand, asked_stand s e stand, says) in
    let sound : Rests config t = rests_noted config s e.moment rests in
    record { said = said_act config t e.who c own next sound fair.said fair.holds e.act acts; holds = stands_act config t e.who c own next sound fair.said fair.holds e.act acts }
