-- Each start that is pending is of an exchange that is there.
use Rattle.std.proofs.Common.{[], ◌≡◌, ℕ, List, Option, Some, None, Bool, inl, inr, refl, sym, ap, subst, arith, is_some, IsSome, IsTrue}
use Rattle.std.specs.Prelude.{◌&&◌, not, Contains}
use Rattle.std.proofs.lemmas.Bool.{cond_both}
use Rattle.std.proofs.lemmas.List.Elements.{Contains-push_cases}
use Rattle.net_base.specs.declared.identity.Identity.{Identity}
use Rattle.net_base.specs.declared.numbers.CallerNo.{CallerNo}
use Rattle.net_base.specs.declared.numbers.ExchangeNo.{ExchangeNo}
use Rattle.net_base.specs.declared.numbers.Moment.{Moment}
use Rattle.net_base.specs.declared.numbers.StreamNo.{StreamNo}
use Rattle.model_changes.specs.Connections.{suits, opened_with, refused_with, after_opened, with_start, with_sent}
use Rattle.model_laws.proofs.CourseLemmas.{state_each}
use Rattle.model_laws.proofs.ExchangeSteps.{BecomesAt}
use Rattle.model_laws.proofs.ExchangesAfter.{exchange_after}
use Rattle.model_laws.proofs.FitLemmas.{IsFit, fit_stand}
use Rattle.model_laws.specs.Courses.{state_at}
use Rattle.model_histories.proofs.EditLemmas.{none_numbered}
use Rattle.model_histories.proofs.EffectLemmas.{leaves_closing, IsNew, IsReported, Changes, effect_at}
use Rattle.model_histories.specs.Histories.{opening, MayStand, IsHistory}
use Rattle.model_steps.specs.After.{noted, after_act, after}
use Rattle.model_authority.proofs.NumberLemmas.{value_and}
use Rattle.model_authority.specs.Lists.{numbered}
use Rattle.model_authority.specs.Statuses.{is_waiting}
use Rattle.model_values.specs.declared.config.Config.{Config}
use Rattle.model_values.specs.declared.entry.Act.{Act}
use Rattle.model_values.specs.declared.entry.Act.TheVariants.{Dial, Orders, Reported, Closed, Assign}
use Rattle.model_values.specs.declared.entry.Entry.{Entry}
use Rattle.model_values.specs.declared.order.OrderMark.{OrderMark}
use Rattle.model_values.specs.declared.order.OrderMark.TheVariants as mark
use Rattle.model_values.specs.declared.report.Report.{Report}
use Rattle.model_values.specs.declared.report.Report.TheVariants as report
use Rattle.model_values.specs.declared.state.AbstractPool.{AbstractPool}
use Rattle.model_values.specs.declared.state.Connection.{Connection}
use Rattle.model_values.specs.declared.state.Exchange.{Exchange}

pub none_there : {A : Type 0} (x : A) → Contains [] x → ⊥
none_there x h = absurd (omega (arith, h.1))

abbrev pub IsThere : AbstractPool → ExchangeNo → Type 0
IsThere s e = IsSome (numbered e.0 s.exchanges)

-- each start among the connection's orders is of an exchange of the pool
abbrev IsKnown : AbstractPool → Connection → Type 0
IsKnown s x = (e : ExchangeNo) (r : StreamNo) → Contains x.orders (mark.Start e r) → IsThere s e

abbrev KnownAt : AbstractPool → Option Connection → Type 0
KnownAt s None = Unit {0}
KnownAt s (Some x) = IsKnown s x

known_opened : (s : AbstractPool) (is_shut : Bool) (now : Moment) (id : Identity) (x : Connection) → IsKnown s x → IsKnown s (after_opened is_shut now id x)
unfolding after_opened
known_opened s is_shut now id x known =
    let shown : Connection = record x { identity = Some id } in
    cond_both (not is_shut && suits x.group id) (opened_with now id x) (refused_with id x) (IsKnown s) (λ t. known) (λ f e r h. known e r ((leaves_closing shown).starts e r h))

known_reported : (s : AbstractPool) (sent : ℕ) (r : Report) (x y : Connection) → IsReported s r (with_sent sent x) y → IsKnown s x → IsKnown s y
known_reported s sent (report.Opened id) x y is known = subst (IsKnown s) (sym is) (known_opened s (is_some s.shutdown) s.latest id (with_sent sent x) known)
known_reported s sent report x y is known = λ e r h. known e r (is.starts e r h)

-- a start is ordered of an exchange that waits
known_with_start : (s : AbstractPool) (last : ℕ) (e : ExchangeNo) (r : StreamNo) (x : Connection) → IsThere s e → IsKnown s x → IsKnown s (with_start last e r x)
unfolding with_start
known_with_start s last e r x there known f t h = elim (Contains-push_cases x.orders (mark.Start e r) (mark.Start f t) h) [
  | inl before ↦ known f t before
  | inr same ↦ let one : e ≡ f = cc in subst (IsThere s) one there
]

known_change : (s : AbstractPool) (who : CallerNo) (act : Act) → IsFit s act → (x y : Connection) → Changes s who act x y → IsKnown s x → IsKnown s y
known_change s who (Dial c goes_to) fit x y is known = subst (IsKnown s) (sym is) known
known_change s who (Orders c sent orders) fit x y is known = subst (IsKnown s) (sym is) (λ e r h. absurd (none_there (mark.Start e r) h))
known_change s who (Reported c sent r) fit x y is known = known_reported s sent r x y is known
known_change s who (Closed c sent cause heard) fit x y is known = subst (IsKnown s) (sym is) known
known_change s who (Assign e c r by) fit x y is known =
    let v = value_and (numbered e.0 s.exchanges) (λ u. IsTrue (is_waiting u.status)) fit.0 in
    let there : IsThere s e = subst IsSome (sym v.1) refl in
    subst (IsKnown s) (sym is) (known_with_start s s.config.last_stream e r x there known)
known_change s who _ fit x y is known = λ e r h. known e r (is.starts e r h)

known_new : (s : AbstractPool) (y : Connection) → IsNew y → IsKnown s y
known_new s y new e r h = absurd (none_there (mark.Start e r) (subst (λ (ms : List OrderMark). Contains ms (mark.Start e r)) (ap (λ (c : Connection). c.orders) new.is_new) h))

known_act : (s : AbstractPool) (who : CallerNo) (act : Act) → IsFit s act → (n : ℕ) → KnownAt s (numbered n s.connections) → KnownAt s (numbered n (after_act s who act).connections)
known_act s who act fit =
    effect_at (λ n o p. KnownAt s o → KnownAt s p) s who act (λ n known. tt) (λ n x y k known e r h. known e r (k.starts e r h)) (λ adds n y new known. known_new s y new)
    (λ x y is_item is known. known_change s who act fit x y is known)

-- no exchange is lost
still_at : (F : Type 0) (act : Act) (o p : Option Exchange) → BecomesAt F act o p → IsSome o → IsSome p
still_at F act None p b there = absurd cc
still_at F act (Some x) None b there = absurd b
still_at F act (Some x) (Some y) b there = refl

still_known : (s t : AbstractPool) (o : Option Connection) → ((e : ExchangeNo) → IsThere s e → IsThere t e) → KnownAt s o → KnownAt t o
still_known s t None still known = tt
still_known s t (Some x) still known = λ e r h. still e (known e r h)

AreKnown : AbstractPool → Type 0
AreKnown s = (n : ℕ) → KnownAt s (numbered n s.connections)

known_after : (s : AbstractPool) (x : Entry) → MayStand s x → AreKnown s → AreKnown (after s x)
unfolding after noted AreKnown
known_after s x stand known n =
    still_known s (after s x) (numbered n (after s x).connections) (λ e there. still_at (MayStand s x) x.act (numbered e.0 s.exchanges) (numbered e.0 (after s x).exchanges) (exchange_after s x e.0) there)
    (known_act (noted s x.moment) x.who x.act (fit_stand s x stand) n (known n))

known_opening : (config : Config) → AreKnown (opening config)
unfolding AreKnown
known_opening config n = subst (KnownAt (opening config)) (sym (none_numbered Connection n)) tt

-- at each state of a history
pub pending_there : (config : Config) (h : List Entry) (n : ℕ) (number : ℕ) (y : Connection) (e : ExchangeNo) (r : StreamNo) → IsHistory config h →
    numbered number (state_at config h n).connections ≡ Some y → Contains y.orders (mark.Start e r) → IsThere (state_at config h n) e
unfolding AreKnown
pending_there config h n number y e r history is_item has =
    let s : AbstractPool = state_at config h n in
    subst (KnownAt s) is_item (state_each config h n AreKnown history known_after (known_opening config) number) e r has
