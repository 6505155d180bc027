-- The connections that aren't gone stay within the limits: behind each entry that may stand, in all and in each group.
use Rattle.std.proofs.Common.{◌≡◌, ◌<◌, ◌≤◌, ℕ, true, None, inl, inr, sym, ap, subst, arith}
use Rattle.std.specs.Prelude.{count_by}
use Rattle.std.proofs.lemmas.Bool.{and_parts}
use Rattle.net_base.specs.declared.numbers.CallerNo.{CallerNo}
use Rattle.net_base.specs.declared.numbers.ConnNo.{ConnNo}
use Rattle.net_base.specs.declared.numbers.ExchangeNo.{ExchangeNo}
use Rattle.net_base.specs.declared.numbers.Moment.{Moment}
use Rattle.net_base.specs.declared.target.Target.{Target}
use Rattle.partition_keys.specs.declared.group.GroupKey.{GroupKey}
use Rattle.model_changes.specs.Connections.{new_connection}
use Rattle.model_laws.proofs.FitLemmas.{IsFit, fit_stand}
use Rattle.model_laws.proofs.PresentLemmas.{adds_act}
use Rattle.model_laws.proofs.RoomLemmas.{AreWithin, within_adds, within_further, room_below, planned_within}
use Rattle.model_histories.proofs.EffectLemmas.{IsAdding}
use Rattle.model_histories.proofs.RunLemmas.{config-after}
use Rattle.model_histories.specs.Histories.{opening, MayStand}
use Rattle.model_histories.specs.Legal.{IsReply}
use Rattle.model_histories.specs.Replies.{IsPreconnectReply}
use Rattle.model_settling.specs.Counts.{is_present_in, count_total, count_in_group}
use Rattle.model_settling.specs.Room.{is_eligible, has_room, planned}
use Rattle.model_settling.specs.Settling.{IsDue, IsWant, can_open}
use Rattle.model_steps.specs.After.{noted, after_preconnect, wanted_connection, after_want_of, after_want, after_act, after}
use Rattle.model_authority.proofs.NumberLemmas.{passing}
use Rattle.model_authority.specs.Ways.{target_of, group_of, group_for}
use Rattle.model_values.specs.declared.config.Config.{Config}
use Rattle.model_values.specs.declared.entry.Act.{Act}
use Rattle.model_values.specs.declared.entry.Act.TheVariants.{Preconnect, Want}
use Rattle.model_values.specs.declared.entry.Entry.{Entry}
use Rattle.model_values.specs.declared.reply.PreconnectReply.{PreconnectReply}
use Rattle.model_values.specs.declared.reply.PreconnectReply.TheVariants as preconnect
use Rattle.model_values.specs.declared.state.AbstractPool.{AbstractPool}
use Rattle.model_values.specs.declared.state.Connection.{Connection}
use Rattle.model_values.specs.declared.state.Exchange.{Exchange}

-- ---- entries that add a connection

wanted_group : (s : AbstractPool) (x : Exchange) (e : ExchangeNo) (t : Target) (now : Moment) → t ≡ target_of s x → (wanted_connection x e t now).group ≡ group_of s x
unfolding group_of
wanted_group s x e t now h = ap (λ (target : Target). (wanted_connection x e target now).group) h

-- a connection is wanted where there is room, for the group of its exchange
within_want : (s : AbstractPool) (m : Moment) (e : ExchangeNo) (c : ConnNo) (t : Target) → IsWant s e c t → AreWithin s.config s.connections →
    AreWithin s.config (after_want (noted s m) e t).connections
unfolding after_want noted
within_want s m e c t due within =
    let x : Exchange = due.exchange in
    let now : Moment = (noted s m).latest in
    let new : Connection = wanted_connection x e t now in
    let p = passing (can_open s) s.exchanges e.0 due.least.passes in
    let same : p.0 ≡ x = let a = p.1 in let b = due.is_exchange in cc in
    let room : has_room s e.0 x ≡ true = subst (λ (y : Exchange). has_room s e.0 y ≡ true) same (and_parts (is_eligible s p.0) (has_room s e.0 p.0) p.2).1 in
    let below = room_below s e.0 x room in
    let in_group : count_by (is_present_in new.group) s.connections < s.config.per_group =
    subst (λ (g : GroupKey). count_by (is_present_in g) s.connections < s.config.per_group) (sym (wanted_group s x e t now due.is_target)) below.1 in
    subst (λ o. AreWithin s.config (after_want_of (noted s m) e t o).connections) (sym due.is_exchange)
    (within_further s.config s.connections 1 new within (omega (arith, below.0)) (omega (arith, in_group)))

-- as many are opened ahead as there is room for
within_preconnect : (s : AbstractPool) (g : GroupKey) (count : ℕ) (r : PreconnectReply) → IsPreconnectReply s g count r → AreWithin s.config s.connections →
    AreWithin s.config (after_preconnect s g r).connections
unfolding after_preconnect
within_preconnect s g count (preconnect.Closed place) reply within = within
within_preconnect s g count (preconnect.NoRoom total in_group) reply within = within
within_preconnect s g count (preconnect.Opening k) reply within =
    let room = planned_within s g count within in
    let planned_k : k ≡ planned s g count = reply.2 in
    let in_all = room.0 in
    let in_group = room.1 in
    within_further s.config s.connections k (new_connection g None s.latest) within (omega (arith, in_all, planned_k)) (omega (arith, in_group, planned_k))

-- ---- any entry that may stand

-- what adds no connection keeps the limits
within_other : (s : AbstractPool) (who : CallerNo) (act : Act) → IsFit s act → (IsAdding act → ⊥) → AreWithin s.config s.connections → AreWithin s.config (after_act s who act).connections
within_other s who act fit none within = within_adds s.config s.connections (after_act s who act).connections (adds_act s who act fit none) within

-- what the pool does by itself
within_due : (s : AbstractPool) (m : Moment) (who : CallerNo) (act : Act) → IsDue s act → IsFit (noted s m) act → AreWithin s.config s.connections →
    AreWithin s.config (after_act (noted s m) who act).connections
unfolding noted
within_due s m who (Preconnect key credentials origin count reply) due fit within = absurd due
within_due s m who (Want e c t) due fit within = within_want s m e c t due within
within_due s m who act due fit within = within_other (noted s m) who act fit (λ adds. adds) within

-- what a call leaves
within_reply : (s : AbstractPool) (who : CallerNo) (act : Act) → IsReply s who act → IsFit s act → AreWithin s.config s.connections → AreWithin s.config (after_act s who act).connections
within_reply s who (Preconnect key credentials origin count r) reply fit within = within_preconnect s (group_for s key credentials origin) count r reply.2 within
within_reply s who (Want e c t) reply fit within = absurd reply
within_reply s who act reply fit within = within_other s who act fit (λ adds. adds) within

-- the connections that aren't gone are no more than the limits allow, in all and in each group
abbrev pub IsWithin : AbstractPool → Type 0
IsWithin s = (count_total s ≤ s.config.total) × ((g : GroupKey) → count_in_group s g ≤ s.config.per_group)

within_of : (s : AbstractPool) → AreWithin s.config s.connections → IsWithin s
unfolding count_total count_in_group
within_of s within = (within.0, within.1)

of_within : (s : AbstractPool) → IsWithin s → AreWithin s.config s.connections
unfolding count_total count_in_group
of_within s within = (within.0, within.1)

within_legal : (s : AbstractPool) (e : Entry) → MayStand s e → AreWithin s.config s.connections → AreWithin s.config (after s e).connections
unfolding after noted
within_legal s e stand within = elim stand.legal [
  | inl pools ↦ within_due s e.moment e.who e.act pools.due (fit_stand s e stand) within
  | inr calls ↦ within_reply (noted s e.moment) e.who e.act calls.reply (fit_stand s e stand) within
]

pub within_after : (s : AbstractPool) (e : Entry) → MayStand s e → IsWithin s → IsWithin (after s e)
within_after s e stand within =
    within_of (after s e) (subst (λ (config : Config). AreWithin config (after s e).connections) (sym (config-after s e)) (within_legal s e stand (of_within s within)))

pub within_opening : (config : Config) → IsWithin (opening config)
within_opening config = within_of (opening config) (omega arith, λ g. omega arith)
