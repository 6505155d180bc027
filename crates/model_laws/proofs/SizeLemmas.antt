-- The exchanges and the connections of a pool stay as many as there may be, behind each entry that may stand.
use Rattle.std.proofs.Common.{◌≡◌, ◌<◌, ◌≤◌, ◌≢◌, ◌∙◌, ℕ, true, None, inl, inr, sym, ap, subst, arith, length, replicate}
use Rattle.std.specs.Prelude.{◌-◌, ◌&&◌, not}
use Rattle.std.proofs.lemmas.Bool.{and_parts, ltb-true}
use Rattle.std.proofs.lemmas.List.{length-map, length-append, length-replicate, length_push}
use Rattle.net_base.specs.declared.numbers.CallerNo.{CallerNo}
use Rattle.net_base.specs.declared.numbers.ConnNo.{ConnNo}
use Rattle.net_base.specs.declared.numbers.ExchangeNo.{ExchangeNo}
use Rattle.net_base.specs.declared.numbers.Moment.{Moment}
use Rattle.net_base.specs.declared.target.Target.{Target}
use Rattle.partition_keys.specs.declared.group.GroupKey.{GroupKey}
use Rattle.model_changes.specs.Connections.{new_connection}
use Rattle.model_laws.proofs.AskedLemmas.{asked, IsSubmitting, same_act}
use Rattle.model_laws.proofs.FitLemmas.{IsFit, fit_stand}
use Rattle.model_laws.proofs.PresentLemmas.{adds_act, length_adds}
use Rattle.model_laws.proofs.RoomLemmas.{plan_within}
use Rattle.model_histories.proofs.EffectLemmas.{IsAdding}
use Rattle.model_histories.proofs.RunLemmas.{config-after}
use Rattle.model_histories.specs.Histories.{opening, MayStand}
use Rattle.model_histories.specs.Legal.{IsReply}
use Rattle.model_histories.specs.Replies.{IsSubmitReply, IsPreconnectReply}
use Rattle.model_settling.specs.Counts.{openings_of}
use Rattle.model_settling.specs.Room.{is_eligible, expects_h2, has_open_h2, has_numbers, is_total_full, has_room_in, has_room_but_total, has_room, room_left, planned}
use Rattle.model_settling.specs.Settling.{IsDue, IsWant, can_open}
use Rattle.model_steps.specs.After.{noted, after_submit, after_preconnect, wanted_connection, after_want_of, after_want, after_act, after}
use Rattle.model_steps.specs.Exchanges.{new_exchange}
use Rattle.model_authority.proofs.NumberLemmas.{passing}
use Rattle.model_authority.specs.Ways.{group_of, group_for}
use Rattle.model_values.specs.declared.config.Config.{Config}
use Rattle.model_values.specs.declared.entry.Act.{Act}
use Rattle.model_values.specs.declared.entry.Act.TheVariants.{Submit, Preconnect, Want}
use Rattle.model_values.specs.declared.entry.Entry.{Entry}
use Rattle.model_values.specs.declared.reply.PreconnectReply.{PreconnectReply}
use Rattle.model_values.specs.declared.reply.PreconnectReply.TheVariants as preconnect
use Rattle.model_values.specs.declared.reply.SubmitReply.{SubmitReply}
use Rattle.model_values.specs.declared.reply.SubmitReply.TheVariants as submit
use Rattle.model_values.specs.declared.state.AbstractPool.{AbstractPool}
use Rattle.model_values.specs.declared.state.Connection.{Connection}
use Rattle.model_values.specs.declared.state.Exchange.{Exchange}
use Rattle.model_values.specs.declared.submission.Submission.{Submission}

-- ---- entries that add no exchange

-- the later pool has as many exchanges
many_act : (s : AbstractPool) (who : CallerNo) (act : Act) → (IsSubmitting act → ⊥) → length (after_act s who act).exchanges ≡ length s.exchanges
many_act s who act none =
    let t : AbstractPool = after_act s who act in
    sym (length-map t.exchanges asked) ∙ ap (λ xs. length xs) (same_act s who act none) ∙ length-map s.exchanges asked

-- ---- entries that add some

-- the exchanges are at most as many as may be submitted, and the connections as there are numbers for
abbrev pub HasNumbers : AbstractPool → Type 0
HasNumbers s = (length s.exchanges ≤ s.config.submissions) × (length s.connections ≤ 2147483647)

-- as many as the pool may have: what the entry leaves, against the limits before it
abbrev AreEnough : AbstractPool → AbstractPool → Type 0
AreEnough s t = (length t.exchanges ≤ s.config.submissions) × (length t.connections ≤ 2147483647)

-- what adds neither an exchange nor a connection
enough_other : (s : AbstractPool) (who : CallerNo) (act : Act) → IsFit s act → (IsSubmitting act → ⊥) → (IsAdding act → ⊥) → HasNumbers s → AreEnough s (after_act s who act)
enough_other s who act fit none_submitted none_added has =
    let t : AbstractPool = after_act s who act in
    (omega (arith, many_act s who act none_submitted, has.0), omega (arith, length_adds s.connections t.connections (adds_act s who act fit none_added), has.1))

-- an exchange is accepted where more may be submitted
enough_submit : (s : AbstractPool) (who : CallerNo) (ask : Submission) (r : SubmitReply) → IsSubmitReply s ask r → HasNumbers s → AreEnough s (after_submit s who ask r)
unfolding after_submit
enough_submit s who ask (submit.Closed place) reply has = has
enough_submit s who ask submit.BadProbe reply has = has
enough_submit s who ask (submit.SubmissionsFull n) reply has = has
enough_submit s who ask (submit.Accepted e) reply has =
    let full : length s.exchanges ≢ s.config.submissions = reply.2 in
    let more = length_push s.exchanges (new_exchange who ask) in
    (omega (arith, full, more, has.0), has.1)

-- as many connections are opened ahead as there are numbers left
planned_numbers : (s : AbstractPool) (g : GroupKey) (count : ℕ) → planned s g count ≤ 2147483647 - length s.connections
unfolding planned room_left
planned_numbers s g count =
    let most = plan_within count (room_left s g) (openings_of s g) (expects_h2 s g) (has_open_h2 s g) in
    omega (arith, most)

enough_preconnect : (s : AbstractPool) (g : GroupKey) (count : ℕ) (r : PreconnectReply) → IsPreconnectReply s g count r → HasNumbers s → AreEnough s (after_preconnect s g r)
unfolding after_preconnect
enough_preconnect s g count (preconnect.Closed place) reply has = has
enough_preconnect s g count (preconnect.NoRoom total in_group) reply has = has
enough_preconnect s g count (preconnect.Opening k) reply has =
    let new : Connection = new_connection g None s.latest in
    let planned_k : k ≡ planned s g count = reply.2 in
    let most = planned_numbers s g count in
    let more = length-append s.connections (replicate k new) in
    let further = length-replicate k new in
    (has.0, omega (arith, planned_k, most, more, further, has.1))

room_numbers : (s : AbstractPool) (number : ℕ) (e : Exchange) → has_room s number e ≡ true → length s.connections < 2147483647
unfolding has_room has_room_but_total
room_numbers s number e h =
    let room = (and_parts (not (is_total_full s)) (has_numbers s && has_room_in s number (group_of s e)) h).1 in
    ltb-true (length s.connections) 2147483647 (and_parts (has_numbers s) (has_room_in s number (group_of s e)) room).0

-- a connection is wanted where there is a number for it
enough_want : (s : AbstractPool) (m : Moment) (e : ExchangeNo) (c : ConnNo) (t : Target) → IsWant s e c t → HasNumbers s → AreEnough s (after_want (noted s m) e t)
unfolding after_want noted
enough_want s m e c t due has =
    let x : Exchange = due.exchange in
    let new : Connection = wanted_connection x e t (noted s m).latest in
    let p = passing (can_open s) s.exchanges e.0 due.least.passes in
    let room = room_numbers s e.0 p.0 (and_parts (is_eligible s p.0) (has_room s e.0 p.0) p.2).1 in
    let more = length_push s.connections new in
    subst (λ o. AreEnough s (after_want_of (noted s m) e t o)) (sym due.is_exchange) (has.0, omega (arith, room, more))

-- ---- any entry that may stand

-- what the pool does by itself
enough_due : (s : AbstractPool) (m : Moment) (who : CallerNo) (act : Act) → IsDue s act → IsFit (noted s m) act → HasNumbers s → AreEnough s (after_act (noted s m) who act)
unfolding noted
enough_due s m who (Submit ask reply) due fit has = absurd due
enough_due s m who (Preconnect key credentials origin count reply) due fit has = absurd due
enough_due s m who (Want e c t) due fit has = enough_want s m e c t due has
enough_due s m who act due fit has = enough_other (noted s m) who act fit (λ submits. submits) (λ adds. adds) has

-- what a call leaves
enough_reply : (s : AbstractPool) (who : CallerNo) (act : Act) → IsReply s who act → IsFit s act → HasNumbers s → AreEnough s (after_act s who act)
enough_reply s who (Submit ask r) reply fit has = enough_submit s who ask r reply.2 has
enough_reply s who (Preconnect key credentials origin count r) reply fit has = enough_preconnect s (group_for s key credentials origin) count r reply.2 has
enough_reply s who (Want e c t) reply fit has = absurd reply
enough_reply s who act reply fit has = enough_other s who act fit (λ submits. submits) (λ adds. adds) has

enough_legal : (s : AbstractPool) (e : Entry) → MayStand s e → HasNumbers s → AreEnough s (after s e)
unfolding after noted
enough_legal s e stand has = elim stand.legal [
  | inl pools ↦ enough_due s e.moment e.who e.act pools.due (fit_stand s e stand) has
  | inr calls ↦ enough_reply (noted s e.moment) e.who e.act calls.reply (fit_stand s e stand) has
]

pub numbers_after : (s : AbstractPool) (e : Entry) → MayStand s e → HasNumbers s → HasNumbers (after s e)
numbers_after s e stand has =
    let left = enough_legal s e stand has in
    (subst (λ (config : Config). length (after s e).exchanges ≤ config.submissions) (sym (config-after s e)) left.0, left.1)

pub numbers_opening : (config : Config) → HasNumbers (opening config)
numbers_opening config = (omega arith, omega arith)
