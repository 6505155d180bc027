-- What an entry leaves of each exchange.
use Rattle.std.proofs.Common.{◌≡◌, ℕ, List, Option, Some, None, Bool, true, false, inl, inr, refl, subst, map, IsTrue, IsSomeAnd}
use Rattle.std.specs.Prelude.{◌==◌}
use Rattle.std.proofs.lemmas.Bool.{cond_both, and_parts, not-true, false_from_ne_true}
use Rattle.net_base.specs.declared.end_cause.EndCause.{EndCause}
use Rattle.net_base.specs.declared.numbers.CallerNo.{CallerNo}
use Rattle.net_base.specs.declared.numbers.ConnNo.{ConnNo}
use Rattle.net_base.specs.declared.numbers.ExchangeNo.{ExchangeNo}
use Rattle.net_base.specs.declared.numbers.Moment.{Moment}
use Rattle.net_base.specs.declared.numbers.StreamNo.{StreamNo}
use Rattle.net_base.specs.declared.target.Via.{Via}
use Rattle.net_base.specs.declared.target.Via.TheVariants as via
use Rattle.partition_keys.specs.declared.group.GroupKey.{GroupKey}
use Rattle.partition_keys.specs.declared.key.PartitionKey.{PartitionKey}
use Rattle.model_histories.proofs.CauseLemmas.{by_identity, by_open, by_alt_seen, by_closed, by_want}
use Rattle.model_laws.proofs.ExchangeSteps.{Stays, BecomesAt, AllStay, waiting_open, becomes_on_at, stays_leased, stays_ended_by, stays_timed_out, stays_ended_unless, stays_ended_if_waiting, stays_with_urgency, stays_handed, stay_same, stay_edit, stay_map, stay_push, become_still, become_same, becomes_answered, becomes_refused, becomes_ended_at, becomes_left_out, becomes_lost, become_map}
use Rattle.model_histories.specs.Histories.{MayStand}
use Rattle.model_histories.specs.Legal.{IsReply}
use Rattle.model_histories.specs.Replies.{of_caller, own_exchange}
use Rattle.model_settling.specs.Room.{is_eligible}
use Rattle.model_settling.specs.Settling.{has_expired, has_lapsed, can_start, IsDue}
use Rattle.model_steps.specs.After.{noted, after_submit, after_cancel, after_reprioritise, after_preconnect, after_resolved, after_network, after_shut, after_dial, after_orders, after_report, after_expire, after_lapse, after_assign, after_evict, sent_noted, after_act, after}
use Rattle.model_steps.specs.Opened.{after_useless, after_open}
use Rattle.model_steps.specs.Answered.{answered, after_answered}
use Rattle.model_steps.specs.Goaway.{left_out}
use Rattle.model_steps.specs.Lost.{lost, after_lost, after_closed}
use Rattle.model_steps.specs.StreamEnds.{refused, ended_at}
use Rattle.model_steps.specs.Exchanges.{new_exchange, with_status, ended_by, with_urgency, timed_out, ended_unless, ended_if_waiting, handed_by}
use Rattle.model_authority.proofs.NumberLemmas.{and_value, passing}
use Rattle.model_authority.specs.Lists.{numbered, edit, Passes}
use Rattle.model_authority.specs.Statuses.{has_ended}
use Rattle.model_authority.specs.Ways.{group_for}
use Rattle.model_values.specs.declared.entry.Act.{Act}
use Rattle.model_values.specs.declared.entry.Act.TheVariants.{Submit, Cancel, Reprioritise, Preconnect, Resolved, Network, Tick, Shutdown, Dial, Orders, Reported, Closed, Expire, Lapse, Assign, Want, Evict}
use Rattle.model_values.specs.declared.entry.Entry.{Entry}
use Rattle.model_values.specs.declared.outcome.Outcome.{Outcome}
use Rattle.model_values.specs.declared.outcome.Outcome.TheVariants as outcome
use Rattle.model_values.specs.declared.reply.CancelReply.{CancelReply}
use Rattle.model_values.specs.declared.reply.CancelReply.TheVariants as cancel
use Rattle.model_values.specs.declared.reply.ChangeReply.{ChangeReply}
use Rattle.model_values.specs.declared.reply.ChangeReply.TheVariants as change
use Rattle.model_values.specs.declared.reply.PreconnectReply.{PreconnectReply}
use Rattle.model_values.specs.declared.reply.PreconnectReply.TheVariants as preconnect
use Rattle.model_values.specs.declared.reply.ResolvedReply.{ResolvedReply}
use Rattle.model_values.specs.declared.reply.ResolvedReply.TheVariants as resolved
use Rattle.model_values.specs.declared.reply.ShutReply.{ShutReply}
use Rattle.model_values.specs.declared.reply.ShutReply.TheVariants as shut
use Rattle.model_values.specs.declared.reply.SubmitReply.{SubmitReply}
use Rattle.model_values.specs.declared.reply.SubmitReply.TheVariants as submit
use Rattle.model_values.specs.declared.report.Report.{Report}
use Rattle.model_values.specs.declared.report.Report.TheVariants as report
use Rattle.model_values.specs.declared.state.AbstractPool.{AbstractPool}
use Rattle.model_values.specs.declared.state.Exchange.{Exchange}
use Rattle.model_values.specs.declared.state.Status.TheVariants.{Leased}
use Rattle.model_values.specs.declared.submission.Submission.{Submission}

-- ---- exchanges without an end

abbrev pub HasNoEnd : AbstractPool → ExchangeNo → Type 0
HasNoEnd s e = IsSomeAnd (numbered e.0 s.exchanges) (λ x. has_ended x.status ≡ false)

no_end : (s : AbstractPool) (e : ExchangeNo) (x : Exchange) → numbered e.0 s.exchanges ≡ Some x → HasNoEnd s e → has_ended x.status ≡ false
no_end s e x is_item h = subst (λ o. IsSomeAnd o (λ (y : Exchange). has_ended y.status ≡ false)) is_item h

-- the exchange that the act ends, or gives a lease, has no end yet
abbrev pub Fits : AbstractPool → Act → Type 0
Fits s (Cancel e cancel.Cancelled) = HasNoEnd s e
Fits s (Expire e) = HasNoEnd s e
Fits s (Lapse e) = HasNoEnd s e
Fits s (Assign e c r by) = HasNoEnd s e
Fits s _ = Unit {0}

-- ---- reports and ends

stay_useless : (F : Type 0) (s : AbstractPool) (g : GroupKey) (wanted_for : Option ExchangeNo) (how : Outcome) (v : Via) →
    AllStay F s.exchanges (after_useless s g wanted_for how v).exchanges
stay_useless F s g None how via.Direct = stay_same F s.exchanges
stay_useless F s g (Some e) how via.Direct = stay_edit F e.0 (ended_if_waiting how) s.exchanges (λ x is_item. stays_ended_if_waiting F how x)
stay_useless F s g wanted_for how (via.Alternative p) = stay_same F s.exchanges

become_report : (F : Type 0) (s : AbstractPool) (conn : ConnNo) (sent : ℕ) (r : Report) (n : ℕ) →
    BecomesAt F (Reported conn sent r) (numbered n s.exchanges) (numbered n (after_report s conn r).exchanges)
unfolding after_answered
become_report F s conn sent (report.Opened id) n =
    let P : AbstractPool → Type 0 = λ t. AllStay F s.exchanges t.exchanges in
    let same : AllStay F s.exchanges s.exchanges = stay_same F s.exchanges in
    become_still F (Reported conn sent (report.Opened id)) s.exchanges (after_open s conn id).exchanges
    (by_open P s conn id
    (λ c. by_identity P s conn c.group c.wanted_for id (stay_useless F s c.group c.wanted_for (outcome.Identity conn) c.group.target.via) same) same) n
become_report F s conn sent (report.Answered r response keep alt proof) n =
    become_map F (Reported conn sent (report.Answered r response keep alt proof)) (answered conn r response) s.exchanges (becomes_answered F conn sent r response keep alt proof) n
become_report F s conn sent (report.Refused r) n = become_map F (Reported conn sent (report.Refused r)) (refused conn r) s.exchanges (becomes_refused F conn sent r) n
become_report F s conn sent (report.Reset r code) n =
    let act : Act = Reported conn sent (report.Reset r code) in
    become_map F act (ended_at conn r (outcome.Reset code)) s.exchanges (becomes_ended_at F act conn r (outcome.Reset code)) n
become_report F s conn sent (report.TooLarge r) n =
    let act : Act = Reported conn sent (report.TooLarge r) in
    become_map F act (ended_at conn r outcome.TooLarge) s.exchanges (becomes_ended_at F act conn r outcome.TooLarge) n
become_report F s conn sent (report.Goaway last) n = become_map F (Reported conn sent (report.Goaway last)) (left_out conn last) s.exchanges (becomes_left_out F conn sent last) n
become_report F s conn sent (report.Limit m) n = become_same F (Reported conn sent (report.Limit m)) s.exchanges n
become_report F s conn sent (report.StreamClosed r) n = become_same F (Reported conn sent (report.StreamClosed r)) s.exchanges n
become_report F s conn sent (report.AltSeen origin alt) n =
    let same : BecomesAt F (Reported conn sent (report.AltSeen origin alt)) (numbered n s.exchanges) (numbered n s.exchanges) = become_same F (Reported conn sent (report.AltSeen origin alt)) s.exchanges n in
    by_alt_seen (λ t. BecomesAt F (Reported conn sent (report.AltSeen origin alt)) (numbered n s.exchanges) (numbered n t.exchanges)) s conn origin alt (λ c. same) same

-- what the end of a connection leaves of the exchanges whose leases have moved or ended
pub stay_closed : (F : Type 0) (s : AbstractPool) (conn : ConnNo) (cause : EndCause) (heard : List StreamNo) →
    AllStay F (map (lost conn cause heard) s.exchanges) (after_closed s conn cause heard).exchanges
stay_closed F s conn cause heard =
    by_closed (λ t. AllStay F (map (lost conn cause heard) s.exchanges) t.exchanges) s conn cause heard
    (λ c. stay_useless F (after_lost s conn cause heard) c.group c.wanted_for (outcome.DialFault conn) c.group.target.via) (stay_same F (map (lost conn cause heard) s.exchanges))

become_closed : (F : Type 0) (s : AbstractPool) (conn : ConnNo) (sent : ℕ) (cause : EndCause) (heard : List StreamNo) (n : ℕ) →
    BecomesAt F (Closed conn sent cause heard) (numbered n s.exchanges) (numbered n (after_closed s conn cause heard).exchanges)
become_closed F s conn sent cause heard n =
    let act : Act = Closed conn sent cause heard in
    let f : Exchange → Exchange = lost conn cause heard in
    becomes_on_at F act (numbered n s.exchanges) (numbered n (map f s.exchanges)) (numbered n (after_closed s conn cause heard).exchanges)
    (become_map F act f s.exchanges (becomes_lost F conn sent cause heard) n) (stay_closed F s conn cause heard n)

-- ---- acts that move nothing

stay_submit : (F : Type 0) (s : AbstractPool) (who : CallerNo) (ask : Submission) (r : SubmitReply) → AllStay F s.exchanges (after_submit s who ask r).exchanges
unfolding after_submit
stay_submit F s who ask (submit.Closed place) = stay_same F s.exchanges
stay_submit F s who ask submit.BadProbe = stay_same F s.exchanges
stay_submit F s who ask (submit.SubmissionsFull n) = stay_same F s.exchanges
stay_submit F s who ask (submit.Accepted e) = stay_push F s.exchanges (new_exchange who ask) refl

-- one exchange, which has no end, gets one
stay_end : (F : Type 0) (s : AbstractPool) (e : ExchangeNo) (f : Exchange → Exchange) → (F → HasNoEnd s e) →
    ((x : Exchange) → (F → has_ended x.status ≡ false) → Stays F x (f x)) → AllStay F s.exchanges (edit e.0 f s.exchanges)
stay_end F s e f fits stays = stay_edit F e.0 f s.exchanges (λ x is_item. stays x (λ k. no_end s e x is_item (fits k)))

stay_cancel : (F : Type 0) (s : AbstractPool) (e : ExchangeNo) (r : CancelReply) → (F → Fits s (Cancel e r)) → AllStay F s.exchanges (after_cancel s e r).exchanges
unfolding after_cancel
stay_cancel F s e cancel.Unknown fits = stay_same F s.exchanges
stay_cancel F s e cancel.Ended fits = stay_same F s.exchanges
stay_cancel F s e cancel.Cancelled fits = stay_end F s e (ended_by outcome.Cancelled) fits (stays_ended_by F outcome.Cancelled)

stay_reprioritise : (F : Type 0) (s : AbstractPool) (e : ExchangeNo) (urgency : ℕ) (r : ChangeReply) → AllStay F s.exchanges (after_reprioritise s e urgency r).exchanges
unfolding after_reprioritise
stay_reprioritise F s e urgency change.Unknown = stay_same F s.exchanges
stay_reprioritise F s e urgency change.Ended = stay_same F s.exchanges
stay_reprioritise F s e urgency change.Changed = stay_edit F e.0 (with_urgency urgency) s.exchanges (λ x is_item. stays_with_urgency F urgency x)

stay_preconnect : (F : Type 0) (s : AbstractPool) (g : GroupKey) (r : PreconnectReply) → AllStay F s.exchanges (after_preconnect s g r).exchanges
unfolding after_preconnect
stay_preconnect F s g (preconnect.Closed place) = stay_same F s.exchanges
stay_preconnect F s g (preconnect.NoRoom total in_group) = stay_same F s.exchanges
stay_preconnect F s g (preconnect.Opening k) = stay_same F s.exchanges

stay_resolved : (F : Type 0) (s : AbstractPool) (key : PartitionKey) (host : List ℕ) (addresses : List (List ℕ)) (r : ResolvedReply) →
    AllStay F s.exchanges (after_resolved s key host addresses r).exchanges
unfolding after_resolved
stay_resolved F s key host addresses (resolved.Closed place) = stay_same F s.exchanges
stay_resolved F s key host addresses (resolved.TooMany n) = stay_same F s.exchanges
stay_resolved F s key host addresses resolved.Noted = stay_same F s.exchanges

stay_shut : (F : Type 0) (s : AbstractPool) (r : ShutReply) → AllStay F s.exchanges (after_shut s r).exchanges
unfolding after_shut
stay_shut F s (shut.Closed place) = stay_same F s.exchanges
stay_shut F s shut.Noted = stay_map F (ended_unless outcome.PoolClosed) s.exchanges (stays_ended_unless F outcome.PoolClosed)

-- ---- any act

become_end : (F : Type 0) (act : Act) (s : AbstractPool) (e : ExchangeNo) (f : Exchange → Exchange) → (F → HasNoEnd s e) →
    ((x : Exchange) → (F → has_ended x.status ≡ false) → Stays F x (f x)) → (n : ℕ) → BecomesAt F act (numbered n s.exchanges) (numbered n (edit e.0 f s.exchanges))
become_end F act s e f fits stays n = become_still F act s.exchanges (edit e.0 f s.exchanges) (stay_end F s e f fits stays) n

become_act : (F : Type 0) (s : AbstractPool) (who : CallerNo) (act : Act) → (F → Fits s act) → (n : ℕ) →
    BecomesAt F act (numbered n s.exchanges) (numbered n (after_act s who act).exchanges)
unfolding after_network after_dial after_orders after_expire after_lapse after_assign after_evict
become_act F s who (Submit ask reply) fits n = become_still F (Submit ask reply) s.exchanges (after_submit s who ask reply).exchanges (stay_submit F s who ask reply) n
become_act F s who (Cancel e reply) fits n = become_still F (Cancel e reply) s.exchanges (after_cancel s e reply).exchanges (stay_cancel F s e reply fits) n
become_act F s who (Reprioritise e urgency reply) fits n =
    become_still F (Reprioritise e urgency reply) s.exchanges (after_reprioritise s e urgency reply).exchanges (stay_reprioritise F s e urgency reply) n
become_act F s who (Preconnect key credentials origin count reply) fits n =
    let g = group_for s key credentials origin in
    become_still F (Preconnect key credentials origin count reply) s.exchanges (after_preconnect s g reply).exchanges (stay_preconnect F s g reply) n
become_act F s who (Resolved key host addresses reply) fits n =
    become_still F (Resolved key host addresses reply) s.exchanges (after_resolved s key host addresses reply).exchanges (stay_resolved F s key host addresses reply) n
become_act F s who Network fits n = become_same F Network s.exchanges n
become_act F s who Tick fits n = become_same F Tick s.exchanges n
become_act F s who (Shutdown reply) fits n = become_still F (Shutdown reply) s.exchanges (after_shut s reply).exchanges (stay_shut F s reply) n
become_act F s who (Dial c target) fits n = become_same F (Dial c target) s.exchanges n
become_act F s who (Orders c sent orders) fits n =
    let f : Exchange → Exchange = handed_by c orders in
    become_still F (Orders c sent orders) s.exchanges (map f s.exchanges) (stay_map F f s.exchanges (stays_handed F c orders)) n
become_act F s who (Reported c sent report) fits n = become_report F (sent_noted s c sent) c sent report n
become_act F s who (Closed c sent cause heard) fits n = become_closed F (sent_noted s c sent) c sent cause heard n
become_act F s who (Expire e) fits n = become_end F (Expire e) s e timed_out fits (stays_timed_out F) n
become_act F s who (Lapse e) fits n = become_end F (Lapse e) s e (ended_by outcome.NoAlternative) fits (stays_ended_by F outcome.NoAlternative) n
become_act F s who (Assign e c r by) fits n = become_end F (Assign e c r by) s e (with_status (Leased c r by false)) fits (stays_leased F c r by) n
become_act F s who (Want e c t) fits n =
    let same : BecomesAt F (Want e c t) (numbered n s.exchanges) (numbered n s.exchanges) = become_same F (Want e c t) s.exchanges n in
    by_want (λ u. BecomesAt F (Want e c t) (numbered n s.exchanges) (numbered n u.exchanges)) s e t (λ x. same) same
become_act F s who (Evict c) fits n = become_same F (Evict c) s.exchanges n

-- ---- any entry that may stand

-- the exchange of this number passes a test that none with an end passes
no_end_of : (s : AbstractPool) (e : ExchangeNo) (test : ℕ → Exchange → Bool) → ((x : Exchange) → test e.0 x ≡ true → has_ended x.status ≡ false) → Passes test s.exchanges e.0 → HasNoEnd s e
no_end_of s e test tests passes =
    let p = passing test s.exchanges e.0 passes in
    and_value (numbered e.0 s.exchanges) (λ x. has_ended x.status ≡ false) p.0 p.1 (tests p.0 p.2)

lapsed_open : (s : AbstractPool) (number : ℕ) (x : Exchange) → has_lapsed s number x ≡ true → has_ended x.status ≡ false
lapsed_open s number x h = waiting_open x.status (and_parts _ _ (and_parts _ _ h).0).0

expired_open : (s : AbstractPool) (number : ℕ) (x : Exchange) → has_expired s number x ≡ true → has_ended x.status ≡ false
expired_open s number x h = not-true (has_ended x.status) (and_parts _ _ h).0

starting_open : (s : AbstractPool) (number : ℕ) (x : Exchange) → can_start s number x ≡ true → has_ended x.status ≡ false
unfolding is_eligible
starting_open s number x h = waiting_open x.status (and_parts _ _ (and_parts _ _ h).0).0

fits_due : (s : AbstractPool) (m : Moment) (act : Act) → IsDue s act → Fits (noted s m) act
unfolding noted
fits_due s m (Expire e) h = no_end_of s e (has_expired s) (expired_open s e.0) h.passes
fits_due s m (Lapse e) h = no_end_of s e (has_lapsed s) (lapsed_open s e.0) h.lowest.passes
fits_due s m (Assign e c r by) h = no_end_of s e (can_start s) (starting_open s e.0) h.least.passes
fits_due s m (Want e c t) h = tt
fits_due s m (Evict c) h = tt
fits_due s m _ h = absurd h

-- a caller's own exchange is one of the pool's
own_open : (s : AbstractPool) (who : CallerNo) (e : ExchangeNo) → IsSomeAnd (own_exchange s who e) (λ x. ¬ IsTrue (has_ended x.status)) → HasNoEnd s e
unfolding own_exchange
own_open s who e h = by (numbered e.0 s.exchanges) h
  where
    by : (o : Option Exchange) → IsSomeAnd (of_caller who o) (λ x. ¬ IsTrue (has_ended x.status)) → IsSomeAnd o (λ x. has_ended x.status ≡ false)
    by None k = absurd k
    by (Some x) k =
        cond_both (x.caller.0 == who.0) (Some x) None (λ (o : Option Exchange). IsSomeAnd o (λ (y : Exchange). ¬ IsTrue (has_ended y.status)) → has_ended x.status ≡ false)
        (λ t l. false_from_ne_true (has_ended x.status) l) (λ f l. absurd l) k

fits_reply : (s : AbstractPool) (who : CallerNo) (act : Act) → IsReply s who act → Fits s act
fits_reply s who (Cancel e cancel.Cancelled) h = own_open s who e h
fits_reply s who (Expire e) h = absurd h
fits_reply s who (Lapse e) h = absurd h
fits_reply s who (Assign e c r by) h = absurd h
fits_reply s who _ h = tt

-- where the entry may stand, each end stays
pub exchange_after : (s : AbstractPool) (e : Entry) (n : ℕ) → BecomesAt (MayStand s e) e.act (numbered n s.exchanges) (numbered n (after s e).exchanges)
unfolding after noted
exchange_after s e n = become_act (MayStand s e) (noted s e.moment) e.who e.act fits n
  where
    fits : MayStand s e → Fits (noted s e.moment) e.act
    fits may = elim may.legal [
      | inl pools ↦ fits_due s e.moment e.act pools.due
      | inr calls ↦ fits_reply (noted s e.moment) e.who e.act calls.reply
    ]
