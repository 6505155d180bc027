-- Each entry that may stand keeps each connection orderly.
use Rattle.std.proofs.Common.{◌≡◌, ℕ, List, Option, Some, None, inl, inr, refl, sym, ap, subst, ◌∙◌, is_some, IsTrue}
use Rattle.net_base.specs.declared.numbers.CallerNo.{CallerNo}
use Rattle.net_base.specs.declared.numbers.Moment.{Moment}
use Rattle.model_changes.specs.Connections.{with_sent}
use Rattle.model_laws.proofs.AssignedLemmas.{usable_parts}
use Rattle.model_laws.proofs.FitLemmas.{same_item}
use Rattle.model_laws.proofs.OrderlySteps.{orderly_leaves, orderly_sent, orderly_gone, orderly_new, orderly_dialing, orderly_after_opened, orderly_with_start, orderly_with_taken}
use Rattle.model_laws.proofs.TurnLemmas.{at_item}
use Rattle.model_laws.specs.Sound.{HasStreamsInOrder}
use Rattle.model_histories.proofs.EditLemmas.{none_numbered}
use Rattle.model_histories.proofs.EffectLemmas.{IsNew, IsReported, conn_of, Changes, effect_at}
use Rattle.model_histories.proofs.OwnLemmas.{IsReportedIn, reported_in}
use Rattle.model_histories.proofs.RunLemmas.{config-after}
use Rattle.model_histories.specs.Histories.{opening, MayStand}
use Rattle.model_histories.specs.Legal.{IsWorkersEntry, MayReport, MayTake, IsReply}
use Rattle.model_settling.specs.Settling.{can_use, IsDue}
use Rattle.model_steps.specs.After.{noted, after_act, after}
use Rattle.model_authority.proofs.NumberLemmas.{passing}
use Rattle.model_authority.specs.Lists.{numbered}
use Rattle.model_authority.specs.Statuses.{is_wanted, is_open}
use Rattle.model_authority.specs.Ways.{has_capacity, is_usable}
use Rattle.model_values.specs.declared.config.Config.{Config}
use Rattle.model_values.specs.declared.entry.Act.{Act}
use Rattle.model_values.specs.declared.entry.Act.TheVariants.{Dial, Orders, Reported, Closed, Assign}
use Rattle.model_values.specs.declared.entry.Entry.{Entry}
use Rattle.model_values.specs.declared.report.Report.{Report}
use Rattle.model_values.specs.declared.report.Report.TheVariants as report
use Rattle.model_values.specs.declared.state.AbstractPool.{AbstractPool}
use Rattle.model_values.specs.declared.state.Connection.{Connection}

-- each connection is orderly
abbrev pub AreOrderly : AbstractPool → Type 0
AreOrderly s = (number : ℕ) (y : Connection) → numbered number s.connections ≡ Some y → HasStreamsInOrder s.config y

-- ---- lists of connections

abbrev OrderlyAt : Config → Option Connection → Type 0
OrderlyAt config None = Unit {0}
OrderlyAt config (Some y) = HasStreamsInOrder config y

-- one that is orderly stays so, and a further one is orderly
abbrev OrderlyStays : Config → Option Connection → Option Connection → Type 0
OrderlyStays config o p = OrderlyAt config o → OrderlyAt config p

-- each does so
abbrev StayOrderly : Config → List Connection → List Connection → Type 0
StayOrderly config xs ys = (n : ℕ) → OrderlyStays config (numbered n xs) (numbered n ys)

-- ---- acts

-- what is asked here of the connection that an act is about
abbrev pub Asks : AbstractPool → Act → Connection → Type 0
Asks s (Dial c target) x = IsTrue (is_wanted x.phase)
Asks s (Orders c sent orders) x = orders ≡ x.orders
Asks s (Reported c sent r) x = MayReport x r
Asks s (Assign e c r by) x = IsTrue (is_open x.phase) × IsTrue (has_capacity s.config x) × (r.0 ≡ x.next_stream)
Asks s _ x = Unit {0}

orderly_reported : (s : AbstractPool) (sent : ℕ) (r : Report) (x y : Connection) → IsReportedIn x.phase r → IsReported s r (with_sent sent x) y → HasStreamsInOrder s.config x → HasStreamsInOrder s.config y
orderly_reported s sent (report.Opened id) x y h is was =
    let z : Connection = with_sent sent x in
    subst (HasStreamsInOrder s.config) (sym is) (orderly_after_opened s.config (is_some s.shutdown) s.latest id z h (orderly_sent s.config sent x was))
orderly_reported s sent r x y h is was = orderly_leaves s.config (with_sent sent x) y is (orderly_sent s.config sent x was)

orderly_change : (s : AbstractPool) (who : CallerNo) (act : Act) (x y : Connection) → Asks s act x → Changes s who act x y → HasStreamsInOrder s.config x → HasStreamsInOrder s.config y
orderly_change s who (Dial c target) x y asked is h = subst (HasStreamsInOrder s.config) (sym is) (orderly_dialing s.config who x asked h)
orderly_change s who (Orders c sent orders) x y asked is h =
    subst (HasStreamsInOrder s.config) (sym is) (orderly_with_taken s.config orders (with_sent sent x) asked (orderly_sent s.config sent x h))
orderly_change s who (Reported c sent r) x y asked is h = orderly_reported s sent r x y (reported_in x r asked) is h
orderly_change s who (Closed c sent cause heard) x y asked is h = subst (HasStreamsInOrder s.config) (sym is) (orderly_gone s.config (with_sent sent x) (orderly_sent s.config sent x h))
orderly_change s who (Assign e c r by) x y asked is h =
    subst (HasStreamsInOrder s.config) (sym is) (orderly_with_start s.config s.config.last_stream e r x asked.0 asked.1 asked.2 h)
orderly_change s who _ x y asked is h = orderly_leaves s.config x y is h

new_orderly : (config : Config) (y : Connection) → IsNew y → HasStreamsInOrder config y
new_orderly config y new = subst (HasStreamsInOrder config) (sym new.is_new) (orderly_new config new.group new.wanted_for new.now)

stay_act : (s : AbstractPool) (who : CallerNo) (act : Act) → ((x : Connection) → numbered (conn_of act) s.connections ≡ Some x → Asks s act x) →
    StayOrderly s.config s.connections (after_act s who act).connections
stay_act s who act asks =
    effect_at (λ n. OrderlyStays s.config) s who act (λ n h. h) (λ n. orderly_leaves s.config) (λ adds n y new h. new_orderly s.config y new)
    (λ x y is_item is. orderly_change s who act x y (asks x is_item) is)

-- ---- any entry that may stand

asked_due : (s : AbstractPool) (m : Moment) (act : Act) → IsDue s act → (x : Connection) → numbered (conn_of act) (noted s m).connections ≡ Some x → Asks (noted s m) act x
unfolding noted
asked_due s m (Dial c target) due x is_item = absurd due
asked_due s m (Orders c sent orders) due x is_item = absurd due
asked_due s m (Reported c sent r) due x is_item = absurd due
asked_due s m (Assign e c r by) due x is_item =
    let p = passing (can_use s due.exchange) s.connections c.0 due.lowest.passes in
    let usable : IsTrue (is_usable s due.exchange x) = subst (λ (y : Connection). IsTrue (is_usable s due.exchange y)) (same_item (numbered c.0 s.connections) p.0 x p.1 is_item) p.2 in
    let parts = usable_parts s due.exchange x usable in
    (parts.phase, parts.capacity, due.next ∙ ap (λ (y : Connection). y.next_stream) (same_item (numbered c.0 s.connections) due.connection x due.is_connection is_item))
asked_due s m _ due x is_item = tt

asked_reply : (s : AbstractPool) (who : CallerNo) (act : Act) → IsReply s who act → (x : Connection) → numbered (conn_of act) s.connections ≡ Some x → Asks s act x
asked_reply s who (Dial c target) fit x is_item = at_item (λ y. IsTrue (is_wanted y.phase)) (numbered c.0 s.connections) x fit.lowest.passes is_item
asked_reply s who (Orders c sent orders) fit x is_item = (at_item (λ y. IsWorkersEntry y who sent × MayTake y orders) (numbered c.0 s.connections) x fit is_item).1.1
asked_reply s who (Reported c sent r) fit x is_item = (at_item (λ y. IsWorkersEntry y who sent × MayReport y r) (numbered c.0 s.connections) x fit is_item).1
asked_reply s who (Assign e c r by) fit x is_item = absurd fit
asked_reply s who _ fit x is_item = tt

pub asked_stand : (s : AbstractPool) (e : Entry) → MayStand s e → (x : Connection) → numbered (conn_of e.act) (noted s e.moment).connections ≡ Some x → Asks (noted s e.moment) e.act x
asked_stand s e stand = elim stand.legal [ inl pools ↦ asked_due s e.moment e.act pools.due | inr calls ↦ asked_reply (noted s e.moment) e.who e.act calls.reply ]

stay_stand : (s : AbstractPool) (e : Entry) → MayStand s e → StayOrderly s.config s.connections (after s e).connections
unfolding after noted
stay_stand s e stand = stay_act (noted s e.moment) e.who e.act (asked_stand s e stand)

orderly_at : (config : Config) (o : Option Connection) → ((y : Connection) → o ≡ Some y → HasStreamsInOrder config y) → OrderlyAt config o
orderly_at config None each = tt
orderly_at config (Some y) each = each y refl

pub orderly_after : (s : AbstractPool) (e : Entry) → MayStand s e → AreOrderly s → AreOrderly (after s e)
orderly_after s e stand orderly number y is_item =
    let before : OrderlyAt s.config (numbered number s.connections) = orderly_at s.config (numbered number s.connections) (orderly number) in
    let later : OrderlyAt s.config (Some y) = subst (OrderlyAt s.config) is_item (stay_stand s e stand number before) in
    subst (λ (config : Config). HasStreamsInOrder config y) (sym (config-after s e)) later

pub orderly_opening : (config : Config) → AreOrderly (opening config)
orderly_opening config number y is_item = let none = none_numbered Connection number in absurd cc
