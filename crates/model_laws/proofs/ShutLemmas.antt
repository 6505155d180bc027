-- A shutdown is final: each exchange has ended, no connection is wanted, open or draining, and nothing begins.
use Rattle.std.proofs.Common.{[], ◌∷◌, ◌≡◌, ◌<◌, ◌+◌, ◌⊎◌, ℕ, List, Option, Some, None, Bool, true, inl, inr, refl, sym, ap, subst, ◌∙◌, arith, is_some, IsSome, IsTrue}
use Rattle.std.specs.Prelude.{◌||◌, if◌then◌else◌}
use Rattle.std.proofs.lemmas.Bool.{cond_both, both_ways, false_from_ne_true, or_from}
use Rattle.net_base.specs.declared.end_cause.EndCause.{EndCause}
use Rattle.net_base.specs.declared.numbers.CallerNo.{CallerNo}
use Rattle.net_base.specs.declared.numbers.ConnNo.{ConnNo}
use Rattle.net_base.specs.declared.numbers.ExchangeNo.{ExchangeNo}
use Rattle.net_base.specs.declared.numbers.Moment.{Moment}
use Rattle.net_base.specs.declared.numbers.StreamNo.{StreamNo}
use Rattle.net_base.specs.declared.target.Via.{Via}
use Rattle.net_base.specs.declared.target.Via.TheVariants as via
use Rattle.partition_keys.specs.declared.group.GroupKey.{GroupKey}
use Rattle.model_changes.specs.Connections.{closing, gone, after_shutdown}
use Rattle.model_laws.proofs.CourseLemmas.{IsKept, state_later, state_each, state_after}
use Rattle.model_laws.proofs.FitLemmas.{IsFit, closes, fit_stand}
use Rattle.model_laws.proofs.ReleaseLemmas.{HasEnded, releases_act}
use Rattle.model_laws.proofs.StayLemmas.{is_down, TurnsAt}
use Rattle.model_laws.proofs.TurnLemmas.{IsClaim, not_shut, none_waits, turned_act}
use Rattle.model_laws.specs.Courses.{state_at, Comes}
use Rattle.model_laws.specs.EndLaws.{BeginsNothing, NothingBeginsAfterShutdown, NothingIsOpenAfterShutdown}
use Rattle.model_laws.specs.Sound.{IsShutDown}
use Rattle.model_histories.proofs.CauseLemmas.{by_identity, by_open, by_alt_seen, by_closed, by_want}
use Rattle.model_histories.proofs.EditLemmas.{map_at}
use Rattle.model_histories.specs.Histories.{opening, MayStand}
use Rattle.model_histories.specs.Replies.{IsSubmitReply, IsPreconnectReply}
use Rattle.model_steps.specs.After.{noted, after_submit, after_cancel, after_reprioritise, after_preconnect, after_resolved, after_network, after_shut, after_dial, after_orders, after_report, after_expire, after_lapse, after_assign, after_evict, sent_noted, after_act, after}
use Rattle.model_steps.specs.Opened.{after_useless}
use Rattle.model_steps.specs.Answered.{after_answered}
use Rattle.model_steps.specs.Lost.{after_lost, after_closed}
use Rattle.model_steps.specs.Exchanges.{ended_by, ended_unless}
use Rattle.model_authority.proofs.NumberLemmas.{value_and}
use Rattle.model_authority.specs.Lists.{numbered}
use Rattle.model_authority.proofs.PhaseLemmas.{follows, excludes, or_else}
use Rattle.model_authority.specs.Statuses.{has_ended, is_wanted, is_open, is_draining, is_closing, is_gone}
use Rattle.model_authority.specs.Ways.{group_for}
use Rattle.model_values.specs.declared.config.Config.{Config}
use Rattle.model_values.specs.declared.entry.Act.{Act}
use Rattle.model_values.specs.declared.entry.Act.TheVariants.{Submit, Cancel, Reprioritise, Preconnect, Resolved, Shutdown, Dial, Reported, Closed, Assign, Want}
use Rattle.model_values.specs.declared.entry.Entry.{Entry}
use Rattle.model_values.specs.declared.order.OrderMark.TheVariants as mark
use Rattle.model_values.specs.declared.outcome.Outcome.{Outcome}
use Rattle.model_values.specs.declared.outcome.Outcome.TheVariants as outcome
use Rattle.model_values.specs.declared.reply.CancelReply.TheVariants as cancel
use Rattle.model_values.specs.declared.reply.ChangeReply.TheVariants as change
use Rattle.model_values.specs.declared.reply.PreconnectReply.TheVariants as preconnect
use Rattle.model_values.specs.declared.reply.ResolvedReply.TheVariants as resolved
use Rattle.model_values.specs.declared.reply.ShutReply.TheVariants as shut_reply
use Rattle.model_values.specs.declared.reply.SubmitReply.TheVariants as submit
use Rattle.model_values.specs.declared.report.Report.{Report}
use Rattle.model_values.specs.declared.report.Report.TheVariants as report
use Rattle.model_values.specs.declared.state.AbstractPool.{AbstractPool}
use Rattle.model_values.specs.declared.state.Connection.{Connection}
use Rattle.model_values.specs.declared.state.Exchange.{Exchange}
use Rattle.model_values.specs.declared.state.Phase.{Phase}
use Rattle.model_values.specs.declared.state.Phase.TheVariants.{Closing}

-- ---- the mark of the shutdown, which only the shutdown sets

abbrev IsStill : AbstractPool → AbstractPool → Type 0
IsStill s t = t.shutdown ≡ s.shutdown

still_useless : (s : AbstractPool) (g : GroupKey) (wanted_for : Option ExchangeNo) (how : Outcome) (v : Via) → IsStill s (after_useless s g wanted_for how v)
still_useless s g wanted_for how via.Direct = refl
still_useless s g wanted_for how (via.Alternative p) = refl

still_report : (s : AbstractPool) (conn : ConnNo) (r : Report) → IsStill s (after_report s conn r)
unfolding after_answered
still_report s conn (report.Opened id) =
    by_open (IsStill s) s conn id
    (λ c. by_identity (IsStill s) s conn c.group c.wanted_for id (still_useless s c.group c.wanted_for (outcome.Identity conn) c.group.target.via) refl) refl
still_report s conn (report.AltSeen origin alt) = by_alt_seen (IsStill s) s conn origin alt (λ c. refl) refl
still_report s conn _ = refl

still_closed : (s : AbstractPool) (conn : ConnNo) (cause : EndCause) (heard : List StreamNo) → IsStill s (after_closed s conn cause heard)
still_closed s conn cause heard =
    by_closed (IsStill s) s conn cause heard (λ c. still_useless (after_lost s conn cause heard) c.group c.wanted_for (outcome.DialFault conn) c.group.target.via) refl

-- the act leaves the mark as it is, or is the shutdown
shut_act : (s : AbstractPool) (who : CallerNo) (act : Act) → IsStill s (after_act s who act) ⊎ (act ≡ Shutdown shut_reply.Noted)
unfolding after_submit after_cancel after_reprioritise after_preconnect after_resolved after_network after_shut after_dial after_orders after_expire after_lapse after_assign after_evict
shut_act s who (Submit ask (submit.Accepted e)) = inl refl
shut_act s who (Cancel e cancel.Cancelled) = inl refl
shut_act s who (Reprioritise e urgency change.Changed) = inl refl
shut_act s who (Preconnect key credentials origin count (preconnect.Opening k)) = inl refl
shut_act s who (Resolved key host addresses resolved.Noted) = inl refl
shut_act s who (Shutdown shut_reply.Noted) = inr refl
shut_act s who (Reported c sent report) = inl (still_report (sent_noted s c sent) c report)
shut_act s who (Closed c sent cause heard) = inl (still_closed (sent_noted s c sent) c cause heard)
shut_act s who (Want e c t) = inl (by_want (IsStill s) s e t (λ x. refl) refl)
shut_act s who _ = inl refl

set_by_shutdown : (s : AbstractPool) (who : CallerNo) → IsSome (after_act s who (Shutdown shut_reply.Noted)).shutdown
unfolding after_shut
set_by_shutdown s who = refl

-- a pool that is shut down stays so
still_shut : IsKept (λ s. IsSome s.shutdown)
unfolding after noted
still_shut s e stand is =
    let t : AbstractPool = noted s e.moment in
    elim (shut_act t e.who e.act) [
      | inl same ↦ ap (λ (o : Option ℕ). is_some o) same ∙ is
      | inr noted_it ↦ subst (λ (a : Act). IsSome (after_act t e.who a).shutdown) (sym noted_it) (set_by_shutdown t e.who)
    ]

-- ---- all has ended

abbrev IsDownAt : Option Connection → Type 0
IsDownAt None = Unit {0}
IsDownAt (Some y) = is_down y.phase ≡ true

down_parts : (p : Phase) → is_down p ≡ true → (¬ IsTrue (is_wanted p)) × (¬ IsTrue (is_open p)) × (¬ IsTrue (is_draining p))
down_parts p h =
    (both_ways (is_wanted p) (excludes is_down is_wanted refl p h), both_ways (is_open p) (excludes is_down is_open refl p h), both_ways (is_draining p) (excludes is_down is_draining refl p h))

down_from : (p : Phase) → (¬ IsTrue (is_wanted p)) × (¬ IsTrue (is_open p)) × (¬ IsTrue (is_draining p)) → is_down p ≡ true
down_from p h =
    or_else is_wanted (λ q. is_open q || is_draining q) is_down refl p (false_from_ne_true (is_wanted p) h.0)
    (or_from (is_open p) (is_draining p) (false_from_ne_true (is_open p) h.1) (false_from_ne_true (is_draining p) h.2))

down_closing : (c : Connection) → is_down (closing c).phase ≡ true
unfolding closing
down_closing c =
    cond_both (is_closing c.phase || is_gone c.phase) c (record c { phase = Closing; orders = mark.Close ∷ [] }) (λ (x : Connection). is_down x.phase ≡ true)
    (λ t. follows (λ p. is_closing p || is_gone p) is_down refl c.phase t) (λ f. refl)

-- a shutdown leaves each connection down
pub down_after_shutdown : (c : Connection) → is_down (after_shutdown c).phase ≡ true
unfolding after_shutdown
down_after_shutdown c =
    let up : Connection = if is_open c.phase || is_draining c.phase then closing c else c in
    let down : Connection → Type 0 = λ x. is_down x.phase ≡ true in
    cond_both (is_wanted c.phase) (gone c) up down (λ w. refl)
    (λ f. cond_both (is_open c.phase || is_draining c.phase) (closing c) c down (λ t. down_closing c)
    (λ g. or_else is_wanted (λ p. is_open p || is_draining p) is_down refl c.phase f g))

-- by the number of each
record AllOver (s : AbstractPool) : Type 0 where
  exchanges : (n : ℕ) → HasEnded (numbered n s.exchanges)
  connections : (n : ℕ) → IsDownAt (numbered n s.connections)

over_from : (s : AbstractPool) → IsShutDown s → AllOver s
over_from s k = record {
  exchanges = λ n. of_exchange (numbered n s.exchanges) (k.ended n);
  connections = λ n. of_connection (numbered n s.connections) (k.closed n);
}
  where
    of_exchange : (o : Option Exchange) → ((x : Exchange) → o ≡ Some x → IsTrue (has_ended x.status)) → HasEnded o
    of_exchange None h = tt
    of_exchange (Some x) h = h x refl

    of_connection : (o : Option Connection) → ((y : Connection) → o ≡ Some y → (¬ IsTrue (is_wanted y.phase)) × (¬ IsTrue (is_open y.phase)) × (¬ IsTrue (is_draining y.phase))) → IsDownAt o
    of_connection None h = tt
    of_connection (Some y) h = down_from y.phase (h y refl)

over_to : (s : AbstractPool) → AllOver s → IsShutDown s
over_to s k = record {
  ended = λ n x is_item. subst HasEnded is_item (k.exchanges n);
  closed = λ n y is_item. down_parts y.phase (subst IsDownAt is_item (k.connections n));
}

over_noted : (s : AbstractPool) (m : Moment) → IsShutDown s → IsShutDown (noted s m)
unfolding noted
over_noted s m k = record { ended = k.ended; closed = k.closed }

was_shut : (s : AbstractPool) (m : Moment) → IsSome (noted s m).shutdown → IsSome s.shutdown
unfolding noted
was_shut s m h = h

-- the shutdown ends all
over_by_shutdown : (s : AbstractPool) (who : CallerNo) → AllOver (after_act s who (Shutdown shut_reply.Noted))
unfolding after_shut
over_by_shutdown s who = record {
  exchanges = λ n. map_at (λ o p. HasEnded p) n (ended_unless outcome.PoolClosed) s.exchanges tt ended;
  connections = λ n. map_at (λ o p. IsDownAt p) n after_shutdown s.connections tt down_after_shutdown;
}
  where
    ended : (e : Exchange) → has_ended (ended_unless outcome.PoolClosed e).status ≡ true
    ended e = cond_both (has_ended e.status) e (ended_by outcome.PoolClosed e) (λ (x : Exchange). has_ended x.status ≡ true) (λ t. t) (λ f. refl)

down_turned : (closed : Bool) (o p : Option Connection) → TurnsAt true closed o p → IsDownAt o → IsDownAt p
down_turned closed None None k h = tt
down_turned closed None (Some y) k h = absurd cc
down_turned closed (Some x) None k h = absurd k
down_turned closed (Some x) (Some y) k h = k.down refl h

-- and each later act leaves it so
over_act : (s : AbstractPool) (who : CallerNo) (act : Act) → IsClaim true s → IsFit s act → AllOver s → AllOver (after_act s who act)
over_act s who act claim fit over =
    let t : AbstractPool = after_act s who act in
    record {
      exchanges = λ n. (releases_act true s who act claim fit n).ended refl (over.exchanges n);
      connections = λ n. down_turned (closes act n) (numbered n s.connections) (numbered n t.connections) (turned_act true s who act claim fit n) (over.connections n);
    }

pub shut_after : (s : AbstractPool) (e : Entry) → MayStand s e → (IsSome s.shutdown → IsShutDown s) → IsSome (after s e).shutdown → IsShutDown (after s e)
unfolding after
shut_after s e stand quiet is =
    let t : AbstractPool = noted s e.moment in
    elim (shut_act t e.who e.act) [
      | inl same ↦
          let over : IsShutDown t = over_noted s e.moment (quiet (was_shut s e.moment (sym (ap (λ (o : Option ℕ). is_some o) same) ∙ is))) in
          over_to (after_act t e.who e.act)
          (over_act t e.who e.act (λ h. (sym (ap (λ (o : Option ℕ). is_some o) same) ∙ is, over)) (fit_stand s e stand) (over_from t over))
      | inr noted_it ↦ subst (λ (a : Act). IsShutDown (after_act t e.who a)) (sym noted_it) (over_to (after_act t e.who (Shutdown shut_reply.Noted)) (over_by_shutdown t e.who))
    ]

pub shut_opening : (config : Config) → IsSome (opening config).shutdown → IsShutDown (opening config)
shut_opening config is = absurd cc

-- ---- behind the shutdown of a history

shut_behind : (config : Config) (h : List Entry) (n m : ℕ) (e : Entry) → Comes config h n e → e.act ≡ Shutdown shut_reply.Noted → n < m →
    IsSome (state_at config h m).shutdown × IsShutDown (state_at config h m)
unfolding after
shut_behind config h n m e comes is_shutdown later =
    let s : AbstractPool = state_at config h n in
    let set : IsSome (after s e).shutdown =
    subst (λ (a : Act). IsSome (after_act (noted s e.moment) e.who a).shutdown) (sym is_shutdown) (set_by_shutdown (noted s e.moment) e.who) in
    let first : IsSome (state_at config h (n + 1)).shutdown = subst (λ (t : AbstractPool). IsSome t.shutdown) (sym (state_after config h n e comes.is_entry)) set in
    let is : IsSome (state_at config h m).shutdown = state_later config h (n + 1) m (λ t. IsSome t.shutdown) comes.history still_shut (omega arith) first in
    (is, state_each config h m (λ t. IsSome t.shutdown → IsShutDown t) comes.history shut_after (shut_opening config) is)

is_none : (s : AbstractPool) → IsClaim true s → s.shutdown ≡ None → ⊥
is_none s claim none = both_ways true (not_shut true s claim none) refl

begins_nothing : (s : AbstractPool) (act : Act) → IsClaim true s → IsFit s act → BeginsNothing act
begins_nothing s (Submit ask reply) claim fit = λ x e. is_none s claim (subst (IsSubmitReply s ask) e fit).0
begins_nothing s (Preconnect key credentials origin count reply) claim fit = λ k e. is_none s claim (subst (IsPreconnectReply s (group_for s key credentials origin) count) e fit).0
begins_nothing s (Dial c target) claim fit =
    let v = value_and (numbered c.0 s.connections) (λ x. IsTrue (is_wanted x.phase)) fit in
    ((claim refl).1.closed c.0 v.0 v.1).0 v.2
begins_nothing s (Assign x c r by) claim fit = both_ways true (none_waits true s x claim fit.0) refl
begins_nothing s (Want x c t) claim fit = both_ways true (none_waits true s x claim fit) refl
begins_nothing s _ claim fit = tt

claim_noted : (s : AbstractPool) (m : Moment) → IsSome s.shutdown × IsShutDown s → IsClaim true (noted s m)
unfolding noted
claim_noted s m k h = (k.0, over_noted s m k.1)

pub nothing_begins_after_shutdown : NothingBeginsAfterShutdown
nothing_begins_after_shutdown config h n m e f comes is_shutdown later next =
    let s : AbstractPool = state_at config h m in
    begins_nothing (noted s f.moment) f.act (claim_noted s f.moment (shut_behind config h n m e comes is_shutdown later))
    (fit_stand s f (next.history.each m f next.is_entry))

pub nothing_is_open_after_shutdown : NothingIsOpenAfterShutdown
nothing_is_open_after_shutdown config h n m e comes is_shutdown later = (shut_behind config h n m e comes is_shutdown later).1
