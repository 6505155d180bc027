-- Each computed reply is the one that its definition names, and the other way round.
use Rattle.std.proofs.Common.{◌≡◌, ◌+◌, ℕ, List, Option, Some, None, cond, length, refl, sym, ap, ◌∙◌, arith}
use Rattle.std.specs.Prelude.{◌==◌, IsTrue, nat_lt}
use Rattle.std.proofs.lemmas.Bool.{both_ways, ltb-true, ltb-false, eqb-true, eqb-false, lt-ltb, le-ltb, eq-eqb, ne_eqb, cond-true, cond-false, cond_both, false_from_ne_true}
use Rattle.net_base.specs.declared.numbers.CallerNo.{CallerNo}
use Rattle.net_base.specs.declared.numbers.ConnNo.{ConnNo}
use Rattle.net_base.specs.declared.numbers.ExchangeNo.{ExchangeNo}
use Rattle.net_base.specs.declared.target.Target.{Target}
use Rattle.partition_keys.specs.declared.group.GroupKey.{GroupKey}
use Rattle.model_settling.proofs.LowestLemmas.{lowest_is, lowest_none, lowest_back}
use Rattle.model_authority.proofs.NumberLemmas.{value_and, and_value, passing}
use Rattle.model_settling.specs.Counts.{count_total, count_in_group}
use Rattle.model_authority.specs.Lists.{numbered}
use Rattle.model_histories.specs.Replies.{IsSubmitReply, submit_reply, submit_reply_by, is_bad_probe, IsCancelReply, cancel_reply, cancel_reply_by, own_exchange, IsChangeReply, change_reply, change_reply_by, IsPreconnectReply, preconnect_reply, preconnect_reply_by, IsResolvedReply, resolved_reply, resolved_reply_by, IsShutReply, shut_reply, shut_reply_by, waits_for_dial, IsDial, dial_of}
use Rattle.model_settling.specs.Room.{planned}
use Rattle.model_authority.specs.Statuses.{has_ended}
use Rattle.model_values.specs.declared.reply.CancelReply.{CancelReply}
use Rattle.model_values.specs.declared.reply.CancelReply.TheVariants as cancel
use Rattle.model_values.specs.declared.reply.ChangeReply.{ChangeReply}
use Rattle.model_values.specs.declared.reply.ChangeReply.TheVariants as change
use Rattle.model_values.specs.declared.reply.PreconnectReply.{PreconnectReply}
use Rattle.model_values.specs.declared.reply.PreconnectReply.TheVariants as preconnect
use Rattle.model_values.specs.declared.reply.ResolvedReply.{ResolvedReply}
use Rattle.model_values.specs.declared.reply.ResolvedReply.TheVariants as resolved
use Rattle.model_values.specs.declared.reply.ShutReply.{ShutReply}
use Rattle.model_values.specs.declared.reply.ShutReply.TheVariants as shut
use Rattle.model_values.specs.declared.reply.SubmitReply.{SubmitReply}
use Rattle.model_values.specs.declared.reply.SubmitReply.TheVariants as submit
use Rattle.model_values.specs.declared.state.AbstractPool.{AbstractPool}
use Rattle.model_values.specs.declared.state.Connection.{Connection}
use Rattle.model_values.specs.declared.state.Exchange.{Exchange}
use Rattle.model_values.specs.declared.submission.Submission.{Submission}

-- ---- submit

-- the reply to a submission that is no bad probe
abbrev submit_by_count : ℕ → ℕ → SubmitReply
submit_by_count n most = cond (n == most) (submit.SubmissionsFull n) (submit.Accepted (record { 0 = n + 1 }))

submit_by : (s : AbstractPool) (ask : Submission) (o : Option ℕ) → s.shutdown ≡ o → IsSubmitReply s ask (submit_reply_by s ask o)
submit_by s ask (Some place) h = h
submit_by s ask None h =
    cond_both (is_bad_probe ask) submit.BadProbe (submit_by_count (length s.exchanges) s.config.submissions) (IsSubmitReply s ask) (λ b. (h, b)) (λ g. by_count (both_ways (is_bad_probe ask) g))
  where
    by_count : (¬ IsTrue (is_bad_probe ask)) → IsSubmitReply s ask (submit_by_count (length s.exchanges) s.config.submissions)
    by_count g =
        cond_both (length s.exchanges == s.config.submissions) (submit.SubmissionsFull (length s.exchanges)) (submit.Accepted (record { 0 = length s.exchanges + 1 })) (IsSubmitReply s ask)
        (λ e. (h, g, refl, eqb-true (length s.exchanges) s.config.submissions e))
        (λ e. (h, g, eqb-false (length s.exchanges) s.config.submissions e, refl))

pub submit_is : (s : AbstractPool) (ask : Submission) → IsSubmitReply s ask (submit_reply s ask)
unfolding submit_reply
submit_is s ask = submit_by s ask s.shutdown refl

-- what is computed for a submission that is no bad probe, where the pool is open
submit_open : (s : AbstractPool) (ask : Submission) → s.shutdown ≡ None → (¬ IsTrue (is_bad_probe ask)) →
    submit_reply s ask ≡ submit_by_count (length s.exchanges) s.config.submissions
unfolding submit_reply
submit_open s ask h g =
    ap (submit_reply_by s ask) h
    ∙ cond-false (is_bad_probe ask) submit.BadProbe (submit_by_count (length s.exchanges) s.config.submissions) (false_from_ne_true (is_bad_probe ask) g)

pub submit_back : (s : AbstractPool) (ask : Submission) (r : SubmitReply) → IsSubmitReply s ask r → r ≡ submit_reply s ask
unfolding submit_reply
submit_back s ask (submit.Closed place) h = sym (ap (submit_reply_by s ask) h)
submit_back s ask submit.BadProbe h =
    sym (ap (submit_reply_by s ask) h.0 ∙ cond-true (is_bad_probe ask) submit.BadProbe (submit_by_count (length s.exchanges) s.config.submissions) h.1)
submit_back s ask (submit.SubmissionsFull n) h =
    let n_is : length s.exchanges ≡ n = sym h.2 in
    let full = eq-eqb (length s.exchanges) s.config.submissions (n_is ∙ h.3) in
    sym (submit_open s ask h.0 h.1
    ∙ cond-true (length s.exchanges == s.config.submissions) (submit.SubmissionsFull (length s.exchanges)) (submit.Accepted (record { 0 = length s.exchanges + 1 })) full
    ∙ ap (λ (i : ℕ). submit.SubmissionsFull i) n_is)
submit_back s ask (submit.Accepted e) h =
    let room = ne_eqb (length s.exchanges) s.config.submissions h.2 in
    sym (submit_open s ask h.0 h.1
    ∙ cond-false (length s.exchanges == s.config.submissions) (submit.SubmissionsFull (length s.exchanges)) (submit.Accepted (record { 0 = length s.exchanges + 1 })) room
    ∙ ap (λ (i : ℕ). submit.Accepted (record { 0 = i })) (sym h.3))

-- ---- cancel and reprioritise

cancel_by : (s : AbstractPool) (who : CallerNo) (e : ExchangeNo) (o : Option Exchange) → own_exchange s who e ≡ o → IsCancelReply s who e (cancel_reply_by o)
cancel_by s who e None h = h
cancel_by s who e (Some x) h =
    cond_both (has_ended x.status) cancel.Ended cancel.Cancelled (IsCancelReply s who e)
    (λ t. and_value (own_exchange s who e) (λ y. IsTrue (has_ended y.status)) x h t)
    (λ f. and_value (own_exchange s who e) (λ y. ¬ IsTrue (has_ended y.status)) x h (both_ways (has_ended x.status) f))

pub cancel_is : (s : AbstractPool) (who : CallerNo) (e : ExchangeNo) → IsCancelReply s who e (cancel_reply s who e)
unfolding cancel_reply
cancel_is s who e = cancel_by s who e (own_exchange s who e) refl

pub cancel_back : (s : AbstractPool) (who : CallerNo) (e : ExchangeNo) (r : CancelReply) → IsCancelReply s who e r → r ≡ cancel_reply s who e
unfolding cancel_reply
cancel_back s who e cancel.Unknown h = sym (ap cancel_reply_by h)
cancel_back s who e cancel.Ended h =
    let v = value_and (own_exchange s who e) (λ y. IsTrue (has_ended y.status)) h in
    sym (ap cancel_reply_by v.1 ∙ cond-true (has_ended v.0.status) cancel.Ended cancel.Cancelled v.2)
cancel_back s who e cancel.Cancelled h =
    let v = value_and (own_exchange s who e) (λ y. ¬ IsTrue (has_ended y.status)) h in
    sym (ap cancel_reply_by v.1 ∙ cond-false (has_ended v.0.status) cancel.Ended cancel.Cancelled (false_from_ne_true (has_ended v.0.status) v.2))

change_by : (s : AbstractPool) (who : CallerNo) (e : ExchangeNo) (o : Option Exchange) → own_exchange s who e ≡ o → IsChangeReply s who e (change_reply_by o)
change_by s who e None h = h
change_by s who e (Some x) h =
    cond_both (has_ended x.status) change.Ended change.Changed (IsChangeReply s who e)
    (λ t. and_value (own_exchange s who e) (λ y. IsTrue (has_ended y.status)) x h t)
    (λ f. and_value (own_exchange s who e) (λ y. ¬ IsTrue (has_ended y.status)) x h (both_ways (has_ended x.status) f))

pub change_is : (s : AbstractPool) (who : CallerNo) (e : ExchangeNo) → IsChangeReply s who e (change_reply s who e)
unfolding change_reply
change_is s who e = change_by s who e (own_exchange s who e) refl

pub change_back : (s : AbstractPool) (who : CallerNo) (e : ExchangeNo) (r : ChangeReply) → IsChangeReply s who e r → r ≡ change_reply s who e
unfolding change_reply
change_back s who e change.Unknown h = sym (ap change_reply_by h)
change_back s who e change.Ended h =
    let v = value_and (own_exchange s who e) (λ y. IsTrue (has_ended y.status)) h in
    sym (ap change_reply_by v.1 ∙ cond-true (has_ended v.0.status) change.Ended change.Changed v.2)
change_back s who e change.Changed h =
    let v = value_and (own_exchange s who e) (λ y. ¬ IsTrue (has_ended y.status)) h in
    sym (ap change_reply_by v.1 ∙ cond-false (has_ended v.0.status) change.Ended change.Changed (false_from_ne_true (has_ended v.0.status) v.2))

-- ---- preconnect

preconnect_by : (s : AbstractPool) (g : GroupKey) (count : ℕ) (o : Option ℕ) → s.shutdown ≡ o → IsPreconnectReply s g count (preconnect_reply_by s g count o)
preconnect_by s g count (Some place) h = h
preconnect_by s g count None h =
    cond_both (planned s g count == 0) (preconnect.NoRoom (count_total s) (count_in_group s g)) (preconnect.Opening (planned s g count)) (IsPreconnectReply s g count)
    (λ e. (h, eqb-true (planned s g count) 0 e, refl, refl))
    (λ e. let some = eqb-false (planned s g count) 0 e in (h, omega (arith, some), refl))

pub preconnect_is : (s : AbstractPool) (g : GroupKey) (count : ℕ) → IsPreconnectReply s g count (preconnect_reply s g count)
unfolding preconnect_reply
preconnect_is s g count = preconnect_by s g count s.shutdown refl

pub preconnect_back : (s : AbstractPool) (g : GroupKey) (count : ℕ) (r : PreconnectReply) → IsPreconnectReply s g count r → r ≡ preconnect_reply s g count
unfolding preconnect_reply
preconnect_back s g count (preconnect.Closed place) h = sym (ap (preconnect_reply_by s g count) h)
preconnect_back s g count (preconnect.NoRoom total in_group) h =
    sym (ap (preconnect_reply_by s g count) h.0
    ∙ cond-true (planned s g count == 0) (preconnect.NoRoom (count_total s) (count_in_group s g)) (preconnect.Opening (planned s g count)) (eq-eqb (planned s g count) 0 h.1)
    ∙ ap (λ (i : ℕ). preconnect.NoRoom i (count_in_group s g)) (sym h.2)
    ∙ ap (λ (i : ℕ). preconnect.NoRoom total i) (sym h.3))
preconnect_back s g count (preconnect.Opening k) h =
    let some = ne_eqb (planned s g count) 0 (λ e. absurd (omega (arith, h.1, h.2, e))) in
    sym (ap (preconnect_reply_by s g count) h.0
    ∙ cond-false (planned s g count == 0) (preconnect.NoRoom (count_total s) (count_in_group s g)) (preconnect.Opening (planned s g count)) some
    ∙ ap (λ (i : ℕ). preconnect.Opening i) (sym h.2))

-- ---- resolved and shutdown

resolved_by : (s : AbstractPool) (addresses : List (List ℕ)) (o : Option ℕ) → s.shutdown ≡ o → IsResolvedReply s addresses (resolved_reply_by addresses o)
resolved_by s addresses (Some place) h = h
resolved_by s addresses None h =
    cond_both (nat_lt 16 (length addresses)) (resolved.TooMany (length addresses)) resolved.Noted (IsResolvedReply s addresses)
    (λ e. (h, refl, ltb-true 16 (length addresses) e))
    (λ e. (h, ltb-false 16 (length addresses) e))

pub resolved_is : (s : AbstractPool) (addresses : List (List ℕ)) → IsResolvedReply s addresses (resolved_reply s addresses)
resolved_is s addresses = resolved_by s addresses s.shutdown refl

pub resolved_back : (s : AbstractPool) (addresses : List (List ℕ)) (r : ResolvedReply) → IsResolvedReply s addresses r → r ≡ resolved_reply s addresses
resolved_back s addresses (resolved.Closed place) h = sym (ap (resolved_reply_by addresses) h)
resolved_back s addresses (resolved.TooMany n) h =
    let many = lt-ltb 16 (length addresses) (omega (arith, h.1, h.2)) in
    sym (ap (resolved_reply_by addresses) h.0
    ∙ cond-true (nat_lt 16 (length addresses)) (resolved.TooMany (length addresses)) resolved.Noted many
    ∙ ap (λ (i : ℕ). resolved.TooMany i) (sym h.1))
resolved_back s addresses resolved.Noted h =
    sym (ap (resolved_reply_by addresses) h.0
    ∙ cond-false (nat_lt 16 (length addresses)) (resolved.TooMany (length addresses)) resolved.Noted (le-ltb 16 (length addresses) h.1))

shut_by : (s : AbstractPool) (o : Option ℕ) → s.shutdown ≡ o → IsShutReply s (shut_reply_by o)
shut_by s None h = h
shut_by s (Some place) h = h

pub shut_is : (s : AbstractPool) → IsShutReply s (shut_reply s)
shut_is s = shut_by s s.shutdown refl

pub shut_back : (s : AbstractPool) (r : ShutReply) → IsShutReply s r → r ≡ shut_reply s
shut_back s (shut.Closed place) h = sym (ap shut_reply_by h)
shut_back s shut.Noted h = sym (ap shut_reply_by h)

-- ---- seek

pub dial_is : (s : AbstractPool) (n : ℕ) → dial_of s ≡ Some n → (c : Connection) × (numbered n s.connections ≡ Some c) × IsDial s (record { 0 = n }) c.group.target
unfolding dial_of
dial_is s n h =
    let low = lowest_is waits_for_dial s.connections n h in
    let p = passing waits_for_dial s.connections n low.passes in
    (p.0, p.1, record { lowest = low; connection = p.0; is_connection = p.1; is_target = refl })

pub dial_back : (s : AbstractPool) (c : ConnNo) (target : Target) → IsDial s c target → dial_of s ≡ Some c.0
unfolding dial_of
dial_back s c target h = lowest_back waits_for_dial s.connections c.0 h.lowest

-- the target is that of the connection of this number
pub dial_target : (s : AbstractPool) (c : ConnNo) (target : Target) → IsDial s c target → (x : Connection) → numbered c.0 s.connections ≡ Some x → target ≡ x.group.target
dial_target s c target h x e =
    let k = h.is_connection in
    let same : h.connection ≡ x = cc in
    h.is_target ∙ ap (λ (y : Connection). y.group.target) same

pub dial_none : (s : AbstractPool) → dial_of s ≡ None → (c : ConnNo) (target : Target) → ¬ IsDial s c target
unfolding dial_of
dial_none s h c target d = lowest_none waits_for_dial s.connections h c.0 d.lowest.passes
