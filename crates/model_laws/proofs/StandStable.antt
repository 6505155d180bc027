-- An entry may stand where it can't fail to stand.
use Rattle.std.proofs.Common.{◌≡◌, ◌≢◌, ◌<◌, ◌≤◌, ◌+◌, ℕ, List, Option, Some, None, true, inl, inr, ap, ◌∙◌, length, IsTrue, IsSomeAnd}
use Rattle.std.specs.List.{Contains}
use Rattle.std.proofs.lemmas.Bool.{cases_eq}
use Rattle.net_base.specs.declared.end_cause.EndCause.{EndCause}
use Rattle.net_base.specs.declared.end_cause.EndCause.TheVariants as cause
use Rattle.net_base.specs.declared.numbers.CallerNo.{CallerNo}
use Rattle.net_base.specs.declared.numbers.ConnNo.{ConnNo}
use Rattle.net_base.specs.declared.numbers.ExchangeNo.{ExchangeNo}
use Rattle.net_base.specs.declared.numbers.StreamNo.{StreamNo}
use Rattle.net_base.specs.declared.target.Target.{Target}
use Rattle.partition_keys.specs.declared.group.GroupKey.{GroupKey}
use Rattle.partition_keys.specs.declared.key.PartitionKey.{PartitionKey}
use Rattle.model_laws.proofs.StableLemmas.{IsStable, stable_not, stable_never, stable_two, stable_three, stable_four, stable_by, stable_some_and, same_number, same_test, stable_less, stable_most, same_none, same_place, same_list, same_caller, same_exchange, same_conn, same_stream, same_moment, same_way, same_targets, same_mark, stable_member}
use Rattle.model_histories.proofs.DialLemmas.{dial_goes, goes_dial}
use Rattle.model_histories.proofs.ReplyLemmas.{dial_back}
use Rattle.model_histories.specs.Histories.{MayStand}
use Rattle.model_histories.specs.Legal.{HasOnePart, IsWorkersEntry, MayReport, MayClose, MayTake, GoesTo, IsReply, IsPoolsEntry}
use Rattle.model_histories.specs.Replies.{is_bad_probe, IsSubmitReply, own_exchange, IsCancelReply, IsChangeReply, IsPreconnectReply, IsResolvedReply, IsShutReply, IsDial, dial_of}
use Rattle.model_settling.proofs.DueLemmas.{due_iff, due_late, settled_none}
use Rattle.model_settling.specs.Counts.{count_total, count_in_group}
use Rattle.model_settling.specs.Due.{due_of, act_of}
use Rattle.model_settling.specs.Room.{planned}
use Rattle.model_settling.specs.Settling.{IsDue, IsLate}
use Rattle.model_steps.specs.After.{noted}
use Rattle.model_values.specs.declared.entry.Act.{Act}
use Rattle.model_values.specs.declared.entry.Act.TheVariants.{Submit, Cancel, Reprioritise, Preconnect, Resolved, Network, Tick, Shutdown, Dial, Orders, Reported, Closed, Expire, Lapse, Assign, Want, Evict}
use Rattle.model_values.specs.declared.entry.Entry.{Entry}
use Rattle.model_values.specs.declared.entry.Way.{Way}
use Rattle.model_values.specs.declared.order.OrderMark.{OrderMark}
use Rattle.model_values.specs.declared.reply.CancelReply.{CancelReply}
use Rattle.model_values.specs.declared.reply.CancelReply.TheVariants as cancel
use Rattle.model_values.specs.declared.reply.ChangeReply.{ChangeReply}
use Rattle.model_values.specs.declared.reply.ChangeReply.TheVariants as change
use Rattle.model_values.specs.declared.reply.PreconnectReply.{PreconnectReply}
use Rattle.model_values.specs.declared.reply.PreconnectReply.TheVariants as preconnect
use Rattle.model_values.specs.declared.reply.ResolvedReply.{ResolvedReply}
use Rattle.model_values.specs.declared.reply.ResolvedReply.TheVariants as resolved
use Rattle.model_values.specs.declared.reply.ShutReply.{ShutReply}
use Rattle.model_values.specs.declared.reply.ShutReply.TheVariants as shut
use Rattle.model_values.specs.declared.reply.SubmitReply.{SubmitReply}
use Rattle.model_values.specs.declared.reply.SubmitReply.TheVariants as submit
use Rattle.model_values.specs.declared.report.Report.{Report}
use Rattle.model_values.specs.declared.report.Report.TheVariants as report
use Rattle.model_values.specs.declared.state.AbstractPool.{AbstractPool}
use Rattle.model_values.specs.declared.state.Connection.{Connection}
use Rattle.model_values.specs.declared.state.Exchange.{Exchange}
use Rattle.model_values.specs.declared.submission.Submission.{Submission}
use Rattle.model_authority.proofs.NumberLemmas.{option_cases}
use Rattle.model_authority.specs.Lists.{numbered}
use Rattle.model_authority.specs.Statuses.{has_ended, is_busy, is_dialing}
use Rattle.model_authority.specs.Ways.{group_for}

-- ---- replies

stable_submit : (s : AbstractPool) (ask : Submission) (r : SubmitReply) → IsStable (IsSubmitReply s ask r)
stable_submit s ask (submit.Closed place) = same_place s.shutdown (Some place)
stable_submit s ask submit.BadProbe = stable_two _ _ (same_none s.shutdown) (same_test (is_bad_probe ask) true)
stable_submit s ask (submit.SubmissionsFull n) =
    stable_four _ _ _ _ (same_none s.shutdown) (stable_not (IsTrue (is_bad_probe ask))) (same_number n (length s.exchanges)) (same_number n s.config.submissions)
stable_submit s ask (submit.Accepted e) =
    stable_four _ _ _ _ (same_none s.shutdown) (stable_not (IsTrue (is_bad_probe ask))) (stable_not (length s.exchanges ≡ s.config.submissions)) (same_number e.0 (length s.exchanges + 1))

-- the caller's own exchange has ended, or hasn't
stable_ended : (o : Option Exchange) → IsStable (IsSomeAnd o (λ x. IsTrue (has_ended x.status)))
stable_ended o = stable_some_and o (λ x. IsTrue (has_ended x.status)) (λ x. same_test (has_ended x.status) true)

stable_unended : (o : Option Exchange) → IsStable (IsSomeAnd o (λ x. ¬ IsTrue (has_ended x.status)))
stable_unended o = stable_some_and o (λ x. ¬ IsTrue (has_ended x.status)) (λ x. stable_not (IsTrue (has_ended x.status)))

stable_cancel : (s : AbstractPool) (who : CallerNo) (e : ExchangeNo) (r : CancelReply) → IsStable (IsCancelReply s who e r)
stable_cancel s who e cancel.Unknown = same_none (own_exchange s who e)
stable_cancel s who e cancel.Ended = stable_ended (own_exchange s who e)
stable_cancel s who e cancel.Cancelled = stable_unended (own_exchange s who e)

stable_change : (s : AbstractPool) (who : CallerNo) (e : ExchangeNo) (r : ChangeReply) → IsStable (IsChangeReply s who e r)
stable_change s who e change.Unknown = same_none (own_exchange s who e)
stable_change s who e change.Ended = stable_ended (own_exchange s who e)
stable_change s who e change.Changed = stable_unended (own_exchange s who e)

stable_preconnect : (s : AbstractPool) (g : GroupKey) (count : ℕ) (r : PreconnectReply) → IsStable (IsPreconnectReply s g count r)
stable_preconnect s g count (preconnect.Closed place) = same_place s.shutdown (Some place)
stable_preconnect s g count (preconnect.NoRoom total in_group) =
    stable_four _ _ _ _ (same_none s.shutdown) (same_number (planned s g count) 0) (same_number total (count_total s)) (same_number in_group (count_in_group s g))
stable_preconnect s g count (preconnect.Opening k) = stable_three _ _ _ (same_none s.shutdown) (stable_less 0 k) (same_number k (planned s g count))

stable_resolved : (s : AbstractPool) (addresses : List (List ℕ)) (r : ResolvedReply) → IsStable (IsResolvedReply s addresses r)
stable_resolved s addresses (resolved.Closed place) = same_place s.shutdown (Some place)
stable_resolved s addresses (resolved.TooMany n) = stable_three _ _ _ (same_none s.shutdown) (same_number n (length addresses)) (stable_less 16 n)
stable_resolved s addresses resolved.Noted = stable_two _ _ (same_none s.shutdown) (stable_most (length addresses) 16)

stable_shut : (s : AbstractPool) (r : ShutReply) → IsStable (IsShutReply s r)
stable_shut s (shut.Closed place) = same_place s.shutdown (Some place)
stable_shut s shut.Noted = same_none s.shutdown

stable_one_part : (key : PartitionKey) → IsStable (HasOnePart key)
stable_one_part key = same_none key.second

-- ---- workers

stable_goes : (s : AbstractPool) (number : ℕ) (t : Target) → IsStable (GoesTo s number t)
stable_goes s number t = stable_some_and (numbered number s.connections) (λ c. t ≡ c.group.target) (λ c. same_targets t c.group.target)

-- it is the connection that is to be dialed, and its target
stable_dial : (s : AbstractPool) (c : ConnNo) (t : Target) → IsStable (IsDial s c t)
stable_dial s c t =
    stable_by (IsDial s c t) ((dial_of s ≡ Some c.0) × GoesTo s c.0 t) (λ d. (dial_back s c t d, goes_dial s c t d)) (λ p. dial_goes s c.0 t p.0 p.1)
    (stable_two (dial_of s ≡ Some c.0) (GoesTo s c.0 t) (same_place (dial_of s) (Some c.0)) (stable_goes s c.0 t))

stable_workers : (c : Connection) (who : CallerNo) (sent : ℕ) → IsStable (IsWorkersEntry c who sent)
stable_workers c who sent h = record {
  caller = same_caller c.caller who (λ n. h (λ w. n w.caller));
  never_falls = stable_most c.sent sent (λ n. h (λ w. n w.never_falls));
}

stable_take : (c : Connection) (orders : List OrderMark) → IsStable (MayTake c orders)
stable_take c orders =
    stable_three (IsTrue (is_busy c.phase)) (orders ≡ c.orders) (0 < length orders) (same_test (is_busy c.phase) true) (same_list same_mark orders c.orders) (stable_less 0 (length orders))

busy_with : (c : Connection) (r : StreamNo) → IsStable (IsTrue (is_busy c.phase) × Contains c.started r)
busy_with c r = stable_two (IsTrue (is_busy c.phase)) (Contains c.started r) (same_test (is_busy c.phase) true) (stable_member c.started r)

stable_report : (c : Connection) (r : Report) → IsStable (MayReport c r)
stable_report c (report.Opened id) = same_test (is_dialing c.phase) true
stable_report c (report.Limit n) = same_test (is_busy c.phase) true
stable_report c (report.Answered r response keep alt proof) = busy_with c r
stable_report c (report.Refused r) = busy_with c r
stable_report c (report.Reset r code) = busy_with c r
stable_report c (report.TooLarge r) = busy_with c r
stable_report c (report.StreamClosed r) = busy_with c r
stable_report c (report.Goaway last) = same_test (is_busy c.phase) true
stable_report c (report.AltSeen origin alt) = same_test (is_busy c.phase) true

stable_close : (c : Connection) (end : EndCause) → IsStable (MayClose c end)
stable_close c cause.DialFailed = same_test (is_dialing c.phase) true
stable_close c cause.End = same_test (is_busy c.phase) true
stable_close c cause.LinkFault = same_test (is_busy c.phase) true
stable_close c (cause.Broken code place) = same_test (is_busy c.phase) true
stable_close c cause.Done = same_test (is_busy c.phase) true

-- the connection is the worker's, and what it says of it may be said
stable_at : (s : AbstractPool) (who : CallerNo) (c : ConnNo) (sent : ℕ) (P : Connection → Type 0) → ((x : Connection) → IsStable (P x)) →
    IsStable (IsSomeAnd (numbered c.0 s.connections) (λ x. IsWorkersEntry x who sent × P x))
stable_at s who c sent P each =
    stable_some_and (numbered c.0 s.connections) (λ x. IsWorkersEntry x who sent × P x) (λ x. stable_two (IsWorkersEntry x who sent) (P x) (stable_workers x who sent) (each x))

-- ---- what the pool does by itself

some_expire : (o : Option Act) (e : ExchangeNo) → IsStable (o ≡ Some (Expire e))
some_expire None e h = absurd (h (λ k. cc))
some_expire (Some (Expire f)) e h = ap (λ (x : ExchangeNo). Some (Expire x)) (same_exchange f e (λ n. h (λ k. let q : f ≡ e = cc in n q)))
some_expire (Some act) e h = absurd (h (λ k. cc))

some_lapse : (o : Option Act) (e : ExchangeNo) → IsStable (o ≡ Some (Lapse e))
some_lapse None e h = absurd (h (λ k. cc))
some_lapse (Some (Lapse f)) e h = ap (λ (x : ExchangeNo). Some (Lapse x)) (same_exchange f e (λ n. h (λ k. let q : f ≡ e = cc in n q)))
some_lapse (Some act) e h = absurd (h (λ k. cc))

some_assign : (o : Option Act) (e : ExchangeNo) (c : ConnNo) (r : StreamNo) (by : Way) → IsStable (o ≡ Some (Assign e c r by))
some_assign None e c r by h = absurd (h (λ k. cc))
some_assign (Some (Assign f d q via)) e c r by h =
    ap (λ (x : ExchangeNo). Some (Assign x d q via)) (same_exchange f e (λ n. h (λ k. let i : f ≡ e = cc in n i)))
    ∙ ap (λ (x : ConnNo). Some (Assign e x q via)) (same_conn d c (λ n. h (λ k. let i : d ≡ c = cc in n i)))
    ∙ ap (λ (x : StreamNo). Some (Assign e c x via)) (same_stream q r (λ n. h (λ k. let i : q ≡ r = cc in n i)))
    ∙ ap (λ (x : Way). Some (Assign e c r x)) (same_way via by (λ n. h (λ k. let i : via ≡ by = cc in n i)))
some_assign (Some act) e c r by h = absurd (h (λ k. cc))

some_want : (o : Option Act) (e : ExchangeNo) (c : ConnNo) (t : Target) → IsStable (o ≡ Some (Want e c t))
some_want None e c t h = absurd (h (λ k. cc))
some_want (Some (Want f d u)) e c t h =
    ap (λ (x : ExchangeNo). Some (Want x d u)) (same_exchange f e (λ n. h (λ k. let i : f ≡ e = cc in n i)))
    ∙ ap (λ (x : ConnNo). Some (Want e x u)) (same_conn d c (λ n. h (λ k. let i : d ≡ c = cc in n i)))
    ∙ ap (λ (x : Target). Some (Want e c x)) (same_targets u t (λ n. h (λ k. let i : u ≡ t = cc in n i)))
some_want (Some act) e c t h = absurd (h (λ k. cc))

some_evict : (o : Option Act) (c : ConnNo) → IsStable (o ≡ Some (Evict c))
some_evict None c h = absurd (h (λ k. cc))
some_evict (Some (Evict d)) c h = ap (λ (x : ConnNo). Some (Evict x)) (same_conn d c (λ n. h (λ k. let q : d ≡ c = cc in n q)))
some_evict (Some act) c h = absurd (h (λ k. cc))

-- what is due is what is computed
by_computed : (s : AbstractPool) (act : Act) → ((o : Option Act) → IsStable (o ≡ Some act)) → IsStable (IsDue s act)
by_computed s act same h = elim (option_cases (due_of s)) [
  | inl none ↦ absurd (h (settled_none s none act))
  | inr some ↦ let iff = due_iff s some.0 some.1 act in stable_by (IsDue s act) (act_of s some.0 ≡ Some act) iff.0 iff.1 (same (act_of s some.0)) h
]

stable_due : (s : AbstractPool) (act : Act) → IsStable (IsDue s act)
stable_due s (Expire e) = by_computed s (Expire e) (λ o. some_expire o e)
stable_due s (Lapse e) = by_computed s (Lapse e) (λ o. some_lapse o e)
stable_due s (Assign e c r by) = by_computed s (Assign e c r by) (λ o. some_assign o e c r by)
stable_due s (Want e c t) = by_computed s (Want e c t) (λ o. some_want o e c t)
stable_due s (Evict c) = by_computed s (Evict c) (λ o. some_evict o c)
stable_due s _ = stable_never

stable_late : (s : AbstractPool) → IsStable (IsLate s)
stable_late s h = elim (option_cases (due_of s)) [
  | inl none ↦ absurd (h (λ late. settled_none s none late.0 late.1))
  | inr some ↦ due_late s some.0 some.1
]

-- ---- entries

stable_reply : (s : AbstractPool) (who : CallerNo) (act : Act) → IsStable (IsReply s who act)
stable_reply s who (Submit ask reply) =
    stable_three (ask.urgency ≤ 7) (HasOnePart ask.key) (IsSubmitReply s ask reply) (stable_most ask.urgency 7) (stable_one_part ask.key) (stable_submit s ask reply)
stable_reply s who (Cancel e reply) = stable_cancel s who e reply
stable_reply s who (Reprioritise e urgency reply) = stable_two (urgency ≤ 7) (IsChangeReply s who e reply) (stable_most urgency 7) (stable_change s who e reply)
stable_reply s who (Preconnect key credentials origin count reply) =
    stable_three (1 ≤ count) (HasOnePart key) (IsPreconnectReply s (group_for s key credentials origin) count reply) (stable_most 1 count) (stable_one_part key) (stable_preconnect s (group_for s key credentials origin) count reply)
stable_reply s who (Resolved key host addresses reply) = stable_two (HasOnePart key) (IsResolvedReply s addresses reply) (stable_one_part key) (stable_resolved s addresses reply)
stable_reply s who Network = λ h. tt
stable_reply s who Tick = stable_late s
stable_reply s who (Shutdown reply) = stable_shut s reply
stable_reply s who (Dial c target) = stable_dial s c target
stable_reply s who (Orders c sent orders) = stable_at s who c sent (λ x. MayTake x orders) (λ x. stable_take x orders)
stable_reply s who (Reported c sent report) = stable_at s who c sent (λ x. MayReport x report) (λ x. stable_report x report)
stable_reply s who (Closed c sent cause heard) = stable_at s who c sent (λ x. MayClose x cause) (λ x. stable_close x cause)
stable_reply s who _ = stable_never

-- an entry of the pool itself
pools_stand : (s : AbstractPool) (e : Entry) → e.who.0 ≡ 0 → IsStable (MayStand s e)
pools_stand s e pool h = record {
  legal = inl (record { caller = pool; moment = same_moment e.moment s.latest (λ n. own (λ p. n p.moment)); due = stable_due s e.act (λ n. own (λ p. n p.due)) });
  settled = λ not_pool. absurd (not_pool pool);
}
  where
    own : ¬ (¬ IsPoolsEntry s e)
    own n = h (λ m. elim m.legal [ inl p ↦ n p | inr c ↦ c.caller pool ])

-- a call's entry
calls_stand : (s : AbstractPool) (e : Entry) → e.who.0 ≢ 0 → IsStable (MayStand s e)
calls_stand s e not_pool h = record {
  legal = inr (record { caller = not_pool; reply = stable_reply (noted s e.moment) e.who e.act (λ n. h (λ m. elim m.legal [ inl p ↦ not_pool p.caller | inr c ↦ n c.reply ])) });
  settled = λ caller act due. h (λ m. m.settled caller act due);
}

-- an entry may stand where it can't fail to stand
pub stable_stand : (s : AbstractPool) (e : Entry) → IsStable (MayStand s e)
stable_stand s e = elim (cases_eq e.who.0 0) [ inl pool ↦ pools_stand s e pool | inr caller ↦ calls_stand s e caller ]
