-- A connection that was reported to be opened has the identity that it was opened with.
use Rattle.std.proofs.Common.{[], ◌≡◌, ◌<◌, ◌+◌, ℕ, List, Some, Bool, true, refl, sym, ap, subst, ◌∙◌, arith, take, slice_get, is_some, length, IsTrue, IsSomeAnd, Contains}
use Rattle.std.specs.Prelude.{◌&&◌, not, nat_lt}
use Rattle.std.proofs.lemmas.Bool.{cond_both, both_ways, not-true}
use Rattle.std.proofs.lemmas.Option.{slice_get-get_or}
use Rattle.std.proofs.lemmas.List.{length-take, get_or-take}
use Rattle.net_base.specs.declared.identity.Identity.{Identity}
use Rattle.net_base.specs.declared.numbers.CallerNo.{CallerNo}
use Rattle.net_base.specs.declared.numbers.ConnNo.{ConnNo}
use Rattle.net_base.specs.declared.numbers.ExchangeNo.{ExchangeNo}
use Rattle.net_base.specs.declared.numbers.Moment.{Moment}
use Rattle.net_base.specs.declared.numbers.StreamNo.{StreamNo}
use Rattle.net_base.specs.declared.target.Proto.{Proto}
use Rattle.model_changes.specs.Connections.{closing, suits, opened_with, refused_with, after_opened, stream_after, with_start, with_sent}
use Rattle.model_laws.proofs.CourseLemmas.{IsKept, state_later, state_after}
use Rattle.model_laws.proofs.FitLemmas.{IsFit, fit_stand}
use Rattle.model_laws.proofs.OwnPlaceLemmas.{own_among}
use Rattle.model_laws.proofs.TurnLemmas.{at_item}
use Rattle.model_laws.specs.Courses.{state_at, OfConnection}
use Rattle.model_laws.specs.StartLaws.{IsOpenedWith}
use Rattle.model_histories.proofs.EffectLemmas.{Lasting, Leaves, going_by, leaves_closing, IsReported, conn_of, Changes, OneChanges, effect_act, effect_at}
use Rattle.model_histories.proofs.OwnLemmas.{worked_report}
use Rattle.model_histories.specs.Histories.{MayStand, IsHistory}
use Rattle.model_histories.specs.Legal.{MayReport}
use Rattle.model_histories.specs.Reading.{own_of}
use Rattle.model_steps.specs.After.{noted, after_act, after}
use Rattle.model_authority.proofs.NumberLemmas.{value_and, and_value}
use Rattle.model_authority.proofs.PhaseLemmas.{follows}
use Rattle.model_authority.specs.Lists.{numbered}
use Rattle.model_authority.specs.Statuses.{is_wanted, is_dialing, is_opening, is_busy, is_h2, shows, speaks_h2}
use Rattle.model_values.specs.declared.config.Config.{Config}
use Rattle.model_values.specs.declared.entry.Act.{Act}
use Rattle.model_values.specs.declared.entry.Act.TheVariants.{Dial, Orders, Reported, Closed, Assign}
use Rattle.model_values.specs.declared.entry.Entry.{Entry}
use Rattle.model_values.specs.declared.report.Report.{Report}
use Rattle.model_values.specs.declared.report.Report.TheVariants as report
use Rattle.model_values.specs.declared.state.AbstractPool.{AbstractPool}
use Rattle.model_values.specs.declared.state.Connection.{Connection}
use Rattle.model_values.specs.declared.state.Phase.{Phase}
use Rattle.model_values.specs.declared.state.Phase.TheVariants.{Draining}

-- ---- one connection

-- it was opened, and this is its identity
pub record HasShown (id : Identity) (y : Connection) : Type 0 where
  pub up : not (is_opening y.phase) ≡ true
  pub identity : y.identity ≡ Some id

shown_leaves : (id : Identity) (x y : Connection) → Leaves x y → HasShown id x → HasShown id y
shown_leaves id x y k shown = record {
  up = going_by (λ p q. not (is_opening p)) (λ p q. not (is_opening q)) refl x.phase y.phase k.phase shown.up;
  identity = ap (λ (l : Lasting). l.identity) k.lasts ∙ shown.identity;
}

shown_reported : (s : AbstractPool) (sent : ℕ) (id : Identity) (told : Report) (x y : Connection) → MayReport x told → IsReported s told (with_sent sent x) y →
    HasShown id x → HasShown id y
shown_reported s sent id (report.Opened other) x y may is shown = absurd (both_ways (is_opening x.phase) (not-true (is_opening x.phase) shown.up) (follows is_dialing is_opening refl x.phase may))
shown_reported s sent id told x y may is shown = shown_leaves id (with_sent sent x) y is (record { up = shown.up; identity = shown.identity })

shown_with_start : (last : ℕ) (id : Identity) (e : ExchangeNo) (r : StreamNo) (x : Connection) → HasShown id x → HasShown id (with_start last e r x)
unfolding with_start
shown_with_start last id e r x shown = record {
  up = cond_both (nat_lt last (stream_after r x)) Draining x.phase (λ (p : Phase). not (is_opening p) ≡ true) (λ t. refl) (λ f. shown.up);
  identity = shown.identity;
}

identity_opened : (is_shut : Bool) (now : Moment) (id : Identity) (x : Connection) → (after_opened is_shut now id x).identity ≡ Some id
unfolding after_opened
identity_opened is_shut now id x =
    let shown : Connection = record x { identity = Some id } in
    let k : Leaves shown (closing shown) = leaves_closing shown in
    cond_both (not is_shut && suits x.group id) (opened_with now id x) (refused_with id x) (λ (y : Connection). y.identity ≡ Some id) (λ t. refl) (λ f. ap (λ (l : Lasting). l.identity) k.lasts)

shown_opened : (s : AbstractPool) (id : Identity) (x y : Connection) → is_dialing x.phase ≡ true → IsReported s (report.Opened id) x y → HasShown id y
shown_opened s id x y dialing is = record {
  up = follows is_busy (λ p. not (is_opening p)) refl y.phase (worked_report s (report.Opened id) x y is dialing).busy;
  identity = ap (λ (z : Connection). z.identity) is ∙ identity_opened (is_some s.shutdown) s.latest id x;
}

-- ---- any act that may stand

shown_change : (id : Identity) (s : AbstractPool) (who : CallerNo) (act : Act) → IsFit s act → (x y : Connection) →
    numbered (conn_of act) s.connections ≡ Some x → Changes s who act x y →
    HasShown id x → HasShown id y
shown_change id s who (Dial c target) fit x y is_item is shown =
    let wanted : IsTrue (is_wanted x.phase) = at_item (λ z. IsTrue (is_wanted z.phase)) (numbered c.0 s.connections) x fit is_item in
    absurd (both_ways (is_opening x.phase) (not-true (is_opening x.phase) shown.up) (follows is_wanted is_opening refl x.phase wanted))
shown_change id s who (Orders c sent orders) fit x y is_item is shown = subst (HasShown id) (sym is) (record { up = shown.up; identity = shown.identity })
shown_change id s who (Reported c sent told) fit x y is_item is shown =
    shown_reported s sent id told x y (at_item (λ z. MayReport z told) (numbered c.0 s.connections) x fit is_item) is shown
shown_change id s who (Closed c sent cause heard) fit x y is_item is shown = subst (HasShown id) (sym is) (record { up = refl; identity = shown.identity })
shown_change id s who (Assign e c r by) fit x y is_item is shown = subst (HasShown id) (sym is) (shown_with_start s.config.last_stream id e r x shown)
shown_change id s who _ fit x y is_item is shown = shown_leaves id x y is shown

shown_kept : (c : ConnNo) (id : Identity) → IsKept (λ s. OfConnection s c (HasShown id))
unfolding after noted
shown_kept c id s e stand shown =
    let t : AbstractPool = noted s e.moment in
    effect_at (λ n o p. IsSomeAnd o (HasShown id) → IsSomeAnd p (HasShown id)) t e.who e.act (λ n h. h) (λ n x y k h. shown_leaves id x y k h) (λ adds n y new h. absurd h)
    (λ x y is_item is h. shown_change id t e.who e.act (fit_stand s e stand) x y is_item is h) c.0 shown

-- behind the report that it was opened
shown_after : (s : AbstractPool) (e : Entry) (c : ConnNo) (sent : ℕ) (id : Identity) → MayStand s e → e.act ≡ Reported c sent (report.Opened id) →
    OfConnection (after s e) c (HasShown id)
unfolding after noted
shown_after s e c sent id stand is =
    let t : AbstractPool = noted s e.moment in
    let told : Report = report.Opened id in
    let act : Act = Reported c sent told in
    let fit : IsFit t act = subst (IsFit t) is (fit_stand s e stand) in
    let v = value_and (numbered c.0 t.connections) (λ x. MayReport x told) fit in
    let effect : OneChanges t e.who act (after_act t e.who act).connections = effect_act t e.who act in
    let left = effect.changed v.0 v.1 in
    subst (λ (a : Act). OfConnection (after_act t e.who a) c (HasShown id)) (sym is)
    (and_value (numbered c.0 (after_act t e.who act).connections) (HasShown id) left.0 left.1
    (shown_opened t id (with_sent sent v.0) left.0 v.2 left.2))

-- ---- at each state of a history

pub entry_at : (h : List Entry) (n : ℕ) (x : Entry) → Contains (take n h) x → (i : ℕ) × (i < n) × (slice_get h i ≡ Some x)
entry_at h n x has =
    let i : ℕ = has.0 in
    let size = length-take n h in
    let low : i < length (take n h) = has.1 in
    let first : i < n = omega arith in
    (i, first, slice_get-get_or h i x (omega arith) ∙ ap (λ (y : Entry). Some y) (sym (get_or-take n h i x first) ∙ has.2))

-- by the own entries that report it
pub shown_by : (config : Config) (h : List Entry) (n : ℕ) (who : CallerNo) (c : ConnNo) (proto : Proto) → IsHistory config h →
    (o : IsOpenedWith c proto (own_of (take n h) who)) →
    OfConnection (state_at config h n) c (HasShown o.identity)
shown_by config h n who c proto history o =
    let at = entry_at h n o.entry.entry (own_among [] who (take n h) o.entry o.is_entry) in
    let i : ℕ = at.0 in
    let before : i < n = at.1 in
    state_later config h (i + 1) n (λ s. OfConnection s c (HasShown o.identity)) history (shown_kept c o.identity) (omega arith)
    (subst (λ (s : AbstractPool). OfConnection s c (HasShown o.identity)) (sym (state_after config h i o.entry.entry at.2))
    (shown_after (state_at config h i) o.entry.entry c o.sent o.identity (history.each i o.entry.entry at.2) o.opens))

-- so the connection speaks what these say
pub speaks_by : (config : Config) (h : List Entry) (n : ℕ) (who : CallerNo) (c : ConnNo) (proto : Proto) (y : Connection) → IsHistory config h →
    IsOpenedWith c proto (own_of (take n h) who) →
    numbered c.0 (state_at config h n).connections ≡ Some y → speaks_h2 y ≡ is_h2 proto
speaks_by config h n who c proto y history o is_item =
    let shown : HasShown o.identity y = at_item (HasShown o.identity) (numbered c.0 (state_at config h n).connections) y (shown_by config h n who c proto history o) is_item in
    ap (shows (λ id. is_h2 id.proto)) shown.identity ∙ ap is_h2 o.speaks
