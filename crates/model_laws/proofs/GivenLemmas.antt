-- Each entry that may stand keeps the streams of each connection in order.
use Rattle.std.proofs.Common.{◌≡◌, ℕ, List, Option, Some, None, true, false, inl, inr, refl, sym, subst, is_some, IsTrue, Contains}
use Rattle.std.proofs.lemmas.Bool.{both_ways}
use Rattle.std.proofs.lemmas.Map.Keys.{any_passes_from_place}
use Rattle.net_base.specs.declared.numbers.CallerNo.{CallerNo}
use Rattle.net_base.specs.declared.numbers.ConnNo.{ConnNo}
use Rattle.net_base.specs.declared.numbers.ExchangeNo.{ExchangeNo}
use Rattle.net_base.specs.declared.numbers.Moment.{Moment}
use Rattle.net_base.specs.declared.numbers.StreamNo.{StreamNo}
use Rattle.model_changes.specs.Connections.{streams_started, closing, without_stream, without_start, without_exchange, after_opened, with_limit, after_large_answer, is_unsent_stream, going_away, after_shutdown, with_sent}
use Rattle.model_laws.proofs.FitLemmas.{same_item}
use Rattle.model_laws.proofs.GivenEnds.{given_without_exchange, given_large_answer, given_answered, given_shutdown}
use Rattle.model_laws.proofs.GivenStarts.{given_new, given_dialing, given_after_opened, given_with_start, given_with_taken}
use Rattle.model_laws.proofs.GivenSteps.{given_closing, given_gone, given_sent, given_limit, given_without_stream, given_without_start, given_going_away}
use Rattle.model_laws.proofs.OrderlyLemmas.{AreOrderly, Asks, asked_stand}
use Rattle.model_laws.proofs.OrderlySteps.{orderly_sent}
use Rattle.model_laws.proofs.StreamLemmas.{start_among}
use Rattle.model_laws.specs.Sound.{HasStreamsInOrder, GivesStreamsInOrder, PendingAreLeased}
use Rattle.model_histories.proofs.CauseLemmas.{by_open, by_alt_seen}
use Rattle.model_histories.proofs.EditLemmas.{none_numbered, edit_here, edit_none, edit_at, map_at}
use Rattle.model_histories.proofs.EffectLemmas.{AddsAt, OneBecomes, one_at, conn_of, Changes, effect_act}
use Rattle.model_histories.proofs.RunLemmas.{config-after}
use Rattle.model_histories.specs.Histories.{opening, MayStand}
use Rattle.model_histories.specs.Legal.{MayReport}
use Rattle.model_steps.specs.After.{after_submit, released_lease, released_by, released, after_cancel, after_reprioritise, after_preconnect, after_resolved, after_network, after_shut, after_report, after_expire, after_lapse, after_evict, sent_noted, noted, after_act, after}
use Rattle.model_steps.specs.Answered.{lease_at, answered_connection, after_answered}
use Rattle.model_authority.proofs.NumberLemmas.{option_cases, value_and, place_of}
use Rattle.model_authority.proofs.PhaseLemmas.{excludes}
use Rattle.model_authority.specs.Lists.{numbered, edit}
use Rattle.model_authority.specs.Statuses.{is_busy, is_gone, is_unsent_at}
use Rattle.model_values.specs.declared.config.Config.{Config}
use Rattle.model_values.specs.declared.entry.Act.{Act}
use Rattle.model_values.specs.declared.entry.Act.TheVariants.{Submit, Cancel, Reprioritise, Preconnect, Resolved, Shutdown, Dial, Orders, Reported, Closed, Expire, Assign, Want, Evict}
use Rattle.model_values.specs.declared.entry.Entry.{Entry}
use Rattle.model_values.specs.declared.reply.CancelReply.TheVariants as cancel
use Rattle.model_values.specs.declared.reply.ChangeReply.TheVariants as change
use Rattle.model_values.specs.declared.reply.PreconnectReply.TheVariants as preconnect
use Rattle.model_values.specs.declared.reply.ResolvedReply.TheVariants as resolved
use Rattle.model_values.specs.declared.reply.ShutReply.TheVariants as shut
use Rattle.model_values.specs.declared.reply.SubmitReply.TheVariants as submit
use Rattle.model_values.specs.declared.report.Report.{Report}
use Rattle.model_values.specs.declared.report.Report.TheVariants as report
use Rattle.model_values.specs.declared.state.AbstractPool.{AbstractPool}
use Rattle.model_values.specs.declared.state.Connection.{Connection}
use Rattle.model_values.specs.declared.state.Exchange.{Exchange}
use Rattle.model_values.specs.declared.state.Status.{Status}
use Rattle.model_values.specs.declared.state.Status.TheVariants.{Waiting, Leased, Ended}

-- each connection was given its streams in order
abbrev pub AreGiven : AbstractPool → Type 0
AreGiven s = (number : ℕ) (y : Connection) → numbered number s.connections ≡ Some y → GivesStreamsInOrder s.config y

-- ---- lists of connections

abbrev GivenAt : Config → Option Connection → Type 0
GivenAt config None = Unit {0}
GivenAt config (Some y) = GivesStreamsInOrder config y

-- one whose streams are in order keeps them so, and a further one has them so
abbrev StaysGiven : Config → Option Connection → Option Connection → Type 0
StaysGiven config o p = GivenAt config o → GivenAt config p

-- each does so
abbrev StayGiven : Config → List Connection → List Connection → Type 0
StayGiven config xs ys = (n : ℕ) → StaysGiven config (numbered n xs) (numbered n ys)

given_edit : (config : Config) (number : ℕ) (f : Connection → Connection) (xs : List Connection) →
    ((x : Connection) → numbered number xs ≡ Some x → GivesStreamsInOrder config x → GivesStreamsInOrder config (f x)) → StayGiven config xs (edit number f xs)
given_edit config number f xs keeps n = edit_at (StaysGiven config) number n f xs (λ o h. h) keeps

given_added : (config : Config) (o p : Option Connection) → AddsAt o p → StaysGiven config o p
given_added config None None k h = h
given_added config None (Some y) k h = subst (GivesStreamsInOrder config) (sym k.is_new) (given_new config k.group k.wanted_for k.now)
given_added config (Some x) None k h = absurd k
given_added config (Some x) (Some y) k h = subst (GivesStreamsInOrder config) (sym k) h

-- ---- leases that are released

given_lease : (config : Config) (now : Moment) (xs : List Connection) (status : Status) → StayGiven config xs (released_lease now status xs)
given_lease config now xs Waiting n h = h
given_lease config now xs (Leased c r by false) n h = given_edit config c.0 (without_start now r) xs (λ x is_item. given_without_start config now r x) n h
given_lease config now xs (Leased c r by true) n h = given_edit config c.0 (without_exchange r) xs (λ x is_item. given_without_exchange config r x) n h
given_lease config now xs (Ended how) n h = h

given_released : (s : AbstractPool) (e : ExchangeNo) → StayGiven s.config s.connections (released s e)
unfolding released
given_released s e = by (numbered e.0 s.exchanges)
  where
    by : (o : Option Exchange) → StayGiven s.config s.connections (released_by s.latest o s.connections)
    by None n h = h
    by (Some x) n h = given_lease s.config s.latest s.connections x.status n h

-- ---- reports

-- what is known of the connection of which this is reported
record MayTell (s : AbstractPool) (c : ConnNo) (r : Report) (x : Connection) : Type 0 where
  orderly : HasStreamsInOrder s.config x
  may : MayReport x r
  unsent : (¬ IsTrue (is_gone x.phase)) → (t : StreamNo) → Contains (streams_started x.orders) t → is_unsent_stream c s.exchanges t ≡ true

-- a stream that is ordered to start has a lease that isn't handed yet
unsent_pending : (s : AbstractPool) (c : ConnNo) (x : Connection) (t : StreamNo) → PendingAreLeased s → numbered c.0 s.connections ≡ Some x →
    (¬ IsTrue (is_gone x.phase)) → Contains (streams_started x.orders) t → is_unsent_stream c s.exchanges t ≡ true
unsent_pending s c x t pending is_item there has =
    let among = start_among t x.orders has in
    let v = value_and (numbered among.0.0 s.exchanges) (λ u. IsTrue (is_unsent_at c t u.status)) (pending c x among.0 t is_item there among.1) in
    let place = place_of s.exchanges among.0.0 v.0 v.1 in
    any_passes_from_place (λ (u : Exchange). is_unsent_at c t u.status) s.exchanges place.0 v.0 place.2 v.2

given_report : (s : AbstractPool) (c : ConnNo) (r : Report) → ((x : Connection) → numbered c.0 s.connections ≡ Some x → MayTell s c r x) →
    StayGiven s.config s.connections (after_report s c r).connections
unfolding after_answered
given_report s c (report.Opened id) tells =
    by_open (λ t. StayGiven s.config s.connections t.connections) s c id
    (λ y. given_edit s.config c.0 (after_opened (is_some s.shutdown) s.latest id) s.connections
    (λ x is_item h. given_after_opened s.config (is_some s.shutdown) s.latest id x (tells x is_item).may (tells x is_item).orderly))
    (λ n h. h)
given_report s c (report.Limit n) tells = given_edit s.config c.0 (with_limit n) s.connections (λ x is_item. given_limit s.config n x)
given_report s c (report.Answered r response keep alt proof) tells =
    given_edit s.config c.0 (answered_connection s.latest r response keep (lease_at s c r)) s.connections
    (λ x is_item. given_answered s.config s.latest r response keep (lease_at s c r) x (tells x is_item).may.1)
given_report s c (report.Refused r) tells =
    given_edit s.config c.0 (without_stream s.latest r) s.connections
    (λ x is_item. given_without_stream s.config s.latest r x (tells x is_item).may.1)
given_report s c (report.Reset r code) tells =
    given_edit s.config c.0 (without_stream s.latest r) s.connections
    (λ x is_item. given_without_stream s.config s.latest r x (tells x is_item).may.1)
given_report s c (report.TooLarge r) tells =
    given_edit s.config c.0 (after_large_answer s.latest r) s.connections
    (λ x is_item. given_large_answer s.config s.latest r x (tells x is_item).may.1)
given_report s c (report.StreamClosed r) tells =
    given_edit s.config c.0 (without_stream s.latest r) s.connections
    (λ x is_item. given_without_stream s.config s.latest r x (tells x is_item).may.1)
given_report s c (report.Goaway last) tells =
    given_edit s.config c.0 (going_away s.latest c s.exchanges last) s.connections
    (λ x is_item. given_going_away s.config s.latest c s.exchanges last x
    ((tells x is_item).unsent (λ gone. both_ways (is_gone x.phase) (excludes is_busy is_gone refl x.phase (tells x is_item).may) gone)))
given_report s c (report.AltSeen origin alt) tells = by_alt_seen (λ t. StayGiven s.config s.connections t.connections) s c origin alt (λ x n h. h) (λ n h. h)

-- the octets that are noted first are none of what a report tells
may_sent : (sent : ℕ) (x : Connection) (r : Report) → MayReport x r → MayReport (with_sent sent x) r
may_sent sent x (report.Opened id) h = h
may_sent sent x r h = h

sent_item : (s : AbstractPool) (c : ConnNo) (sent : ℕ) (z : Connection) → numbered c.0 (sent_noted s c sent).connections ≡ Some z →
    (x : Connection) × (numbered c.0 s.connections ≡ Some x) × (with_sent sent x ≡ z)
sent_item s c sent z is_item = elim (option_cases (numbered c.0 s.connections)) [
  | inl none ↦
      let same : numbered c.0 s.connections ≡ Some z = subst (λ xs. numbered c.0 xs ≡ Some z) (edit_none c.0 (with_sent sent) s.connections none) is_item in
      absurd (cc (none, same))
  | inr some ↦
      let here : numbered c.0 (sent_noted s c sent).connections ≡ Some (with_sent sent some.0) = edit_here c.0 (with_sent sent) s.connections some.0 some.1 in
      (some.0, some.1, same_item (numbered c.0 (sent_noted s c sent).connections) (with_sent sent some.0) z here is_item)
]

given_reported : (s : AbstractPool) (c : ConnNo) (sent : ℕ) (r : Report) → ((x : Connection) → numbered c.0 s.connections ≡ Some x → MayTell s c r x) →
    StayGiven s.config s.connections (after_report (sent_noted s c sent) c r).connections
given_reported s c sent r tells n h =
    given_report (sent_noted s c sent) c r
    (λ z is_item.
    let was = sent_item s c sent z is_item in
    let told : MayTell s c r was.0 = tells was.0 was.1 in
    subst (MayTell (sent_noted s c sent) c r) was.2
    (record { orderly = orderly_sent s.config sent was.0 told.orderly; may = may_sent sent was.0 r told.may; unsent = told.unsent }))
    n (given_edit s.config c.0 (with_sent sent) s.connections (λ x is_item. given_sent s.config sent x) n h)

-- ---- acts

-- by the acts that change one connection, and aren't reports
given_change : (s : AbstractPool) (who : CallerNo) (act : Act) (xs ys : List Connection) → OneBecomes (Changes s who act) (conn_of act) xs ys →
    ((x y : Connection) → numbered (conn_of act) xs ≡ Some x → Changes s who act x y → GivesStreamsInOrder s.config x → GivesStreamsInOrder s.config y) →
    StayGiven s.config xs ys
given_change s who act xs ys one keeps =
    one_at (λ n. StaysGiven s.config) (Changes s who act) (conn_of act) xs ys one (λ n o other h. h) (λ e h. h) keeps

given_act : (s : AbstractPool) (who : CallerNo) (act : Act) → ((x : Connection) → numbered (conn_of act) s.connections ≡ Some x → Asks s act x) → AreOrderly s →
    PendingAreLeased s → StayGiven s.config s.connections (after_act s who act).connections
unfolding after_submit after_cancel after_reprioritise after_preconnect after_resolved after_network after_shut after_expire after_lapse after_evict
given_act s who (Submit ask (submit.Accepted e)) asks orderly pending = λ n h. h
given_act s who (Cancel e cancel.Cancelled) asks orderly pending = given_released s e
given_act s who (Reprioritise e urgency change.Changed) asks orderly pending = λ n h. h
given_act s who (Preconnect key credentials origin count (preconnect.Opening k)) asks orderly pending =
    let act : Act = Preconnect key credentials origin count (preconnect.Opening k) in
    λ n. given_added s.config (numbered n s.connections) (numbered n (after_act s who act).connections) (effect_act s who act n)
given_act s who (Resolved key host addresses resolved.Noted) asks orderly pending = λ n h. h
given_act s who (Shutdown shut.Noted) asks orderly pending = λ n. map_at (StaysGiven s.config) n after_shutdown s.connections (λ h. h) (given_shutdown s.config)
given_act s who (Dial c target) asks orderly pending =
    given_change s who (Dial c target) s.connections (after_act s who (Dial c target)).connections (effect_act s who (Dial c target))
    (λ x y is_item is h. subst (GivesStreamsInOrder s.config) (sym is) (given_dialing s.config who x (asks x is_item) (orderly c.0 x is_item)))
given_act s who (Orders c sent orders) asks orderly pending =
    given_change s who (Orders c sent orders) s.connections (after_act s who (Orders c sent orders)).connections (effect_act s who (Orders c sent orders))
    (λ x y is_item is h.
    subst (GivesStreamsInOrder s.config) (sym is) (given_with_taken s.config orders (with_sent sent x) (asks x is_item) (given_sent s.config sent x h)))
given_act s who (Reported c sent r) asks orderly pending =
    given_reported s c sent r
    (λ x is_item. record { orderly = orderly c.0 x is_item; may = asks x is_item; unsent = λ there t has. unsent_pending s c x t pending is_item there has })
given_act s who (Closed c sent cause heard) asks orderly pending =
    given_change s who (Closed c sent cause heard) s.connections (after_act s who (Closed c sent cause heard)).connections (effect_act s who (Closed c sent cause heard))
    (λ x y is_item is h. subst (GivesStreamsInOrder s.config) (sym is) (given_gone s.config (with_sent sent x) (given_sent s.config sent x h)))
given_act s who (Expire e) asks orderly pending = given_released s e
given_act s who (Assign e c r by) asks orderly pending =
    given_change s who (Assign e c r by) s.connections (after_act s who (Assign e c r by)).connections (effect_act s who (Assign e c r by))
    (λ x y is_item is h.
    let asked = asks x is_item in
    subst (GivesStreamsInOrder s.config) (sym is) (given_with_start s.config e r x asked.0 asked.1 asked.2 (orderly c.0 x is_item) h))
given_act s who (Want e c target) asks orderly pending =
    λ n. given_added s.config (numbered n s.connections) (numbered n (after_act s who (Want e c target)).connections) (effect_act s who (Want e c target) n)
given_act s who (Evict c) asks orderly pending = given_edit s.config c.0 closing s.connections (λ x is_item. given_closing s.config x)
given_act s who _ asks orderly pending = λ n h. h

-- ---- any entry that may stand

given_stand : (s : AbstractPool) (e : Entry) → MayStand s e → AreOrderly s → PendingAreLeased s → StayGiven s.config s.connections (after s e).connections
unfolding after noted
given_stand s e stand orderly pending = given_act (noted s e.moment) e.who e.act (asked_stand s e stand) orderly pending

given_at : (config : Config) (o : Option Connection) → ((y : Connection) → o ≡ Some y → GivesStreamsInOrder config y) → GivenAt config o
given_at config None each = tt
given_at config (Some y) each = each y refl

pub given_after : (s : AbstractPool) (e : Entry) → MayStand s e → AreOrderly s → PendingAreLeased s → AreGiven s → AreGiven (after s e)
given_after s e stand orderly pending given number y is_item =
    let before : GivenAt s.config (numbered number s.connections) = given_at s.config (numbered number s.connections) (given number) in
    let later : GivenAt s.config (Some y) = subst (GivenAt s.config) is_item (given_stand s e stand orderly pending number before) in
    subst (λ (config : Config). GivesStreamsInOrder config y) (sym (config-after s e)) later

pub given_opening : (config : Config) → AreGiven (opening config)
given_opening config number y is_item = let none = none_numbered Connection number in absurd cc
