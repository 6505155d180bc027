-- In each history a caller holds of a connection, by its own entries alone, what the pool's state says.
use Rattle.std.proofs.Common.{[], ◌≡◌, ℕ, List, ◌∷◌, Option, Some, None, Bool, true, false, cond, inl, inr, refl, sym, ap, subst, ◌∙◌, IsTrue, IsSomeAnd}
use Rattle.std.specs.Prelude.{◌==◌, ◌&&◌}
use Rattle.std.proofs.lemmas.Bool.{and_parts}
use Rattle.net_base.specs.declared.numbers.CallerNo.{CallerNo}
use Rattle.net_base.specs.declared.numbers.ConnNo.{ConnNo}
use Rattle.net_base.specs.declared.numbers.Moment.{Moment}
use Rattle.model_changes.specs.Connections.{closing, dialing_by, with_start, with_taken, gone, after_shutdown, with_sent}
use Rattle.model_histories.proofs.EditLemmas.{none_numbered}
use Rattle.model_histories.proofs.EffectLemmas.{Adds, IsReported, effect_act}
use Rattle.model_histories.proofs.HeldLemmas.{IsFresh, Goes, kept_goes, one_goes, dial_goes, orders_goes, report_goes, closed_goes, dial_apart, orders_apart, report_apart, closed_apart}
use Rattle.model_histories.proofs.HistoryLemmas.{AreStanding, each_standing}
use Rattle.model_histories.proofs.KeepLemmas.{keeps_closing, keeps_with_start, keeps_after_shutdown, AreKept, kept_same, kept_edit, kept_map, kept_adds}
use Rattle.model_histories.proofs.LeaseLemmas.{IsUp, IsHandable, IsLeaseUp, AreLeasesUp, up_mono, up_after_act, kept_released}
use Rattle.model_histories.proofs.OwnLemmas.{IsReportedIn, reported_in, worked_report, closed_live}
use Rattle.model_histories.specs.Histories.{opening, run_from, run}
use Rattle.model_histories.specs.Legal.{IsWorkersEntry, MayReport, MayClose, MayTake, MayTakeAt, MayReportAt, MayCloseAt, IsReply, IsLegal}
use Rattle.model_histories.specs.Port.{Held, held_after, held_from}
use Rattle.model_histories.specs.Reading.{calls_of}
use Rattle.model_histories.specs.Working.{held_of, held_in, HoldsAsStateSays}
use Rattle.model_settling.specs.Settling.{IsDue, can_use, is_idle}
use Rattle.model_steps.specs.After.{noted, after_submit, after_cancel, after_reprioritise, after_preconnect, after_resolved, after_network, after_shut, after_dial, after_orders, after_expire, after_lapse, after_assign, after_want, after_evict, sent_noted, after_act, after_report, after}
use Rattle.model_steps.specs.Lost.{after_closed}
use Rattle.model_authority.proofs.NumberLemmas.{value_and, and_value, passing}
use Rattle.model_authority.proofs.PhaseLemmas.{excludes}
use Rattle.model_authority.specs.Lists.{numbered, is_nil}
use Rattle.model_authority.specs.Statuses.{is_wanted, is_open, is_busy, is_opening}
use Rattle.model_authority.specs.Ways.{has_capacity, has_way, is_usable}
use Rattle.model_values.specs.declared.config.Config.{Config}
use Rattle.model_values.specs.declared.entry.Act.{Act}
use Rattle.model_values.specs.declared.entry.Act.TheVariants.{Submit, Cancel, Reprioritise, Preconnect, Resolved, Shutdown, Dial, Orders, Reported, Closed, Expire, Lapse, Assign, Want, Evict}
use Rattle.model_values.specs.declared.entry.Entry.{Entry}
use Rattle.model_values.specs.declared.reply.CancelReply.TheVariants as cancel
use Rattle.model_values.specs.declared.reply.ChangeReply.TheVariants as change
use Rattle.model_values.specs.declared.reply.PreconnectReply.TheVariants as preconnect
use Rattle.model_values.specs.declared.reply.ResolvedReply.TheVariants as resolved
use Rattle.model_values.specs.declared.reply.ShutReply.TheVariants as shut
use Rattle.model_values.specs.declared.reply.SubmitReply.TheVariants as submit
use Rattle.model_values.specs.declared.state.AbstractPool.{AbstractPool}
use Rattle.model_values.specs.declared.state.Connection.{Connection}
use Rattle.model_values.specs.declared.state.Exchange.{Exchange}

-- ---- the states of histories

-- nothing was sent on a connection that is wanted, and a start was handed only to a connection that was opened
pub record IsSound (s : AbstractPool) : Type 0 where
  pub fresh : (n : ℕ) → IsFresh (numbered n s.connections)
  pub up : AreLeasesUp s.connections s.exchanges

-- what is asked here of the connection that an act is about
abbrev pub IsFit : AbstractPool → CallerNo → Act → Type 0
IsFit s who (Dial c target) = IsSomeAnd (numbered c.0 s.connections) (λ x. IsTrue (is_wanted x.phase))
IsFit s who (Orders c sent orders) = MayTakeAt s who c sent orders
IsFit s who (Reported c sent report) = MayReportAt s who c sent report
IsFit s who (Closed c sent cause heard) = MayCloseAt s who c sent cause
IsFit s who (Assign e c r way) = IsSomeAnd (numbered c.0 s.connections) (λ x. IsTrue (is_open x.phase))
IsFit s who (Evict c) = IsSomeAnd (numbered c.0 s.connections) (λ x. IsTrue (is_open x.phase))
IsFit s who _ = Unit {0}

-- ---- acts of no worker

open_at : (s : AbstractPool) (c : ConnNo) (x : Connection) → IsSomeAnd (numbered c.0 s.connections) (λ y. IsTrue (is_open y.phase)) → numbered c.0 s.connections ≡ Some x →
    is_open x.phase ≡ true
open_at s c x opened is_item = subst (λ o. IsSomeAnd o (λ (y : Connection). IsTrue (is_open y.phase))) is_item opened

abbrev IsNoWorkers : Act → Type 0
IsNoWorkers (Dial c target) = ⊥
IsNoWorkers (Orders c sent orders) = ⊥
IsNoWorkers (Reported c sent report) = ⊥
IsNoWorkers (Closed c sent cause heard) = ⊥
IsNoWorkers _ = Unit {0}

adds_kept : (s : AbstractPool) (ys : List Connection) → Adds s.connections ys → AreKept s.connections ys
adds_kept s ys adds n = kept_adds (numbered n s.connections) (numbered n ys) (adds n)

kept_act : (s : AbstractPool) (who : CallerNo) (act : Act) → IsNoWorkers act → IsSound s → IsFit s who act → AreKept s.connections (after_act s who act).connections
unfolding after_submit after_cancel after_reprioritise after_preconnect after_resolved after_network after_shut after_expire after_lapse after_assign after_evict
kept_act s who (Submit ask (submit.Accepted e)) plain sound fit = kept_same s.connections
kept_act s who (Cancel e cancel.Cancelled) plain sound fit = kept_released s e sound.up
kept_act s who (Reprioritise e urgency change.Changed) plain sound fit = kept_same s.connections
kept_act s who (Preconnect key credentials origin count (preconnect.Opening k)) plain sound fit =
    let act : Act = Preconnect key credentials origin count (preconnect.Opening k) in
    adds_kept s (after_act s who act).connections (effect_act s who act)
kept_act s who (Resolved key host addresses resolved.Noted) plain sound fit = kept_same s.connections
kept_act s who (Shutdown shut.Noted) plain sound fit = kept_map after_shutdown s.connections keeps_after_shutdown
kept_act s who (Dial c target) plain sound fit = absurd plain
kept_act s who (Orders c sent orders) plain sound fit = absurd plain
kept_act s who (Reported c sent report) plain sound fit = absurd plain
kept_act s who (Closed c sent cause heard) plain sound fit = absurd plain
kept_act s who (Expire e) plain sound fit = kept_released s e sound.up
kept_act s who (Assign e c r way) plain sound fit =
    kept_edit c.0 (with_start s.config.last_stream e r) s.connections (λ x is_item. keeps_with_start s.config.last_stream e r x (open_at s c x fit is_item))
kept_act s who (Want e c t) plain sound fit = adds_kept s (after_want s e t).connections (effect_act s who (Want e c t))
kept_act s who (Evict c) plain sound fit =
    kept_edit c.0 closing s.connections (λ x is_item. keeps_closing x (excludes is_open is_opening refl x.phase (open_at s c x fit is_item)))
kept_act s who _ plain sound fit = kept_same s.connections

-- ---- any act

pub go_act : (s : AbstractPool) (who : CallerNo) (act : Act) → IsSound s → IsFit s who act → (n : ℕ) → Goes who act n (numbered n s.connections) (numbered n (after_act s who act).connections)
go_act s who (Dial c target) sound fit =
    one_goes who (Dial c target) c.0 (λ x y. y ≡ dialing_by who x) (λ x. IsTrue (is_wanted x.phase)) s.connections (after_dial s who c).connections (effect_act s who (Dial c target)) fit
    (dial_apart c target)
    (λ x y is_item wanted is.
    subst (λ z. Goes who (Dial c target) c.0 (Some x) (Some z)) (sym is) (dial_goes who c target x wanted (subst IsFresh is_item (sound.fresh c.0))))
go_act s who (Orders c sent orders) sound fit =
    one_goes who (Orders c sent orders) c.0 (λ x y. y ≡ with_taken orders (with_sent sent x)) (λ x. IsWorkersEntry x who sent × MayTake x orders) s.connections
    (after_orders (sent_noted s c sent) c orders).connections (effect_act s who (Orders c sent orders)) fit (orders_apart c sent orders)
    (λ x y is_item may is. subst (λ z. Goes who (Orders c sent orders) c.0 (Some x) (Some z)) (sym is) (orders_goes who c sent orders x may.0.caller may.1.0))
go_act s who (Reported c sent r) sound fit =
    one_goes who (Reported c sent r) c.0 (λ x y. IsReported s r (with_sent sent x) y) (λ x. IsWorkersEntry x who sent × MayReport x r) s.connections
    (after_report (sent_noted s c sent) c r).connections (effect_act s who (Reported c sent r)) fit (report_apart c sent r)
    (λ x y is_item may is.
    let reported : IsReportedIn x.phase r = reported_in x r may.1 in
    report_goes who c sent r x y may.0.caller reported (worked_report s r (with_sent sent x) y is reported))
go_act s who (Closed c sent end heard) sound fit =
    one_goes who (Closed c sent end heard) c.0 (λ x y. y ≡ gone (with_sent sent x)) (λ x. IsWorkersEntry x who sent × MayClose x end) s.connections
    (after_closed (sent_noted s c sent) c end heard).connections (effect_act s who (Closed c sent end heard)) fit (closed_apart c sent end heard)
    (λ x y is_item may is. closed_goes who c sent end heard x y may.0.caller (closed_live x end may.1) (ap (λ (z : Connection). z.phase) is))
go_act s who act sound fit = λ n. kept_goes who act n (numbered n s.connections) (numbered n (after_act s who act).connections) (λ c h e. refl) (kept_act s who act tt sound fit n)

handable : (s : AbstractPool) (who : CallerNo) (act : Act) → IsFit s who act → IsHandable s.connections act
handable s who (Orders c sent orders) fit =
    let v = value_and (numbered c.0 s.connections) (λ x. IsWorkersEntry x who sent × MayTake x orders) fit in
    subst IsUp (sym v.1) (excludes is_busy is_opening refl v.0.phase v.2.1.0)
handable s who _ fit = tt

sound_act : (s : AbstractPool) (who : CallerNo) (act : Act) → IsSound s → IsFit s who act → IsSound (after_act s who act)
sound_act s who act sound fit =
    let t : AbstractPool = after_act s who act in
    record {
      fresh = λ n. (go_act s who act sound fit n).fresh (sound.fresh n);
      up = λ n.
          up_mono s.connections t.connections (numbered n t.exchanges) (λ m. (go_act s who act sound fit m).up)
          (up_after_act s.connections s who act (handable s who act fit) sound.up n);
    }

-- ---- any entry that may stand

pub sound_noted : (s : AbstractPool) (m : Moment) → IsSound s → IsSound (noted s m)
unfolding noted
sound_noted s m sound = record { fresh = sound.fresh; up = sound.up }

open_usable : (s : AbstractPool) (e : Exchange) (c : Connection) → IsTrue (is_usable s e c) → IsTrue (is_open c.phase)
unfolding is_usable
open_usable s e c h = (and_parts (is_open c.phase) (has_capacity s.config c) (and_parts (is_open c.phase && has_capacity s.config c) (has_way s e c) h).0).0

fit_due : (s : AbstractPool) (m : Moment) (who : CallerNo) (act : Act) → IsDue s act → IsFit (noted s m) who act
unfolding noted
fit_due s m who (Expire e) h = tt
fit_due s m who (Lapse e) h = tt
fit_due s m who (Assign e c r way) h =
    let p = passing (can_use s h.exchange) s.connections c.0 h.lowest.passes in
    and_value (numbered c.0 s.connections) (λ x. IsTrue (is_open x.phase)) p.0 p.1 (open_usable s h.exchange p.0 p.2)
fit_due s m who (Want e c t) h = tt
fit_due s m who (Evict c) h =
    let p = passing is_idle s.connections c.0 h.least.passes in
    and_value (numbered c.0 s.connections) (λ x. IsTrue (is_open x.phase)) p.0 p.1 (and_parts (is_open p.0.phase) (is_nil p.0.live) p.2).0
fit_due s m who _ h = absurd h

fit_reply : (s : AbstractPool) (who : CallerNo) (act : Act) → IsReply s who act → IsFit s who act
fit_reply s who (Dial c target) h = h.lowest.passes
fit_reply s who (Orders c sent orders) h = h
fit_reply s who (Reported c sent report) h = h
fit_reply s who (Closed c sent cause heard) h = h
fit_reply s who (Expire e) h = absurd h
fit_reply s who (Lapse e) h = absurd h
fit_reply s who (Assign e c r way) h = absurd h
fit_reply s who (Want e c t) h = absurd h
fit_reply s who (Evict c) h = absurd h
fit_reply s who _ h = tt

pub fit_legal : (s : AbstractPool) (e : Entry) → IsLegal s e → IsFit (noted s e.moment) e.who e.act
fit_legal s e legal = elim legal [
  | inl pools ↦ fit_due s e.moment e.who e.act pools.due
  | inr calls ↦ fit_reply (noted s e.moment) e.who e.act calls.reply
]

pub sound_after : (s : AbstractPool) (e : Entry) → IsSound s → IsLegal s e → IsSound (after s e)
unfolding after
sound_after s e sound legal = sound_act (noted s e.moment) e.who e.act (sound_noted s e.moment sound) (fit_legal s e legal)

-- by a legal entry a caller's holding changes as its own entry says, and by nobody else's
held_step : (s : AbstractPool) (e : Entry) (who : CallerNo) (c : ConnNo) → IsSound s → IsLegal s e →
    held_in (after s e) who c ≡ cond (e.who.0 == who.0) (held_after c (held_in s who c) e.act) (held_in s who c)
unfolding after noted held_in
held_step s e who c sound legal = (go_act (noted s e.moment) e.who e.act (sound_noted s e.moment sound) (fit_legal s e legal) c.0).held who c refl

-- ---- whole histories

held_first : (mine : Bool) (c : ConnNo) (o : Option Held) (e : Entry) (es : List Entry) → held_from c o (cond mine (e ∷ es) es) ≡ held_from c (cond mine (held_after c o e.act) o) es
unfolding held_from
held_first true c o e es = refl
held_first false c o e es = refl

held_run : (s : AbstractPool) (h : List Entry) (who : CallerNo) (c : ConnNo) → IsSound s → AreStanding s h → held_from c (held_in s who c) (calls_of h who) ≡ held_in (run_from s h) who c
unfolding held_from run_from
held_run s [] who c sound all = refl
held_run s (e ∷ h) who c sound all =
    let legal = all.0.legal in
    held_first (e.who.0 == who.0) c (held_in s who c) e (calls_of h who)
    ∙ ap (λ o. held_from c o (calls_of h who)) (sym (held_step s e who c sound legal))
    ∙ held_run (after s e) h who c (sound_after s e sound legal) all.1

pub sound_opening : (config : Config) → IsSound (opening config)
sound_opening config = record {
  fresh = λ n. subst IsFresh (sym (none_numbered Connection n)) tt;
  up = λ n. subst (IsLeaseUp []) (sym (none_numbered Exchange n)) tt;
}

held_opening : (config : Config) (who : CallerNo) (c : ConnNo) → held_in (opening config) who c ≡ None
unfolding held_in
held_opening config who c = ap (held_of who) (none_numbered Connection c.0)

pub holds_as_state_says : HoldsAsStateSays
unfolding run
holds_as_state_says config h who c history =
    ap (λ o. held_from c o (calls_of h who)) (sym (held_opening config who c))
    ∙ held_run (opening config) h who c (sound_opening config) (each_standing (opening config) h history.each)
