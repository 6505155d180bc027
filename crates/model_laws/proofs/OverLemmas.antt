-- When a lease ends whose start was handed, where the worker of its connection keeps its word.
use Rattle.std.proofs.Common.{◌≡◌, ◌<◌, ◌≤◌, ◌+◌, ℕ, List, Option, Some, None, Bool, true, inl, inr, refl, sym, ap, subst, ◌∙◌, arith, length, IsTrue, IsSomeAnd, Contains}
use Rattle.std.specs.Prelude.{◌==◌}
use Rattle.std.proofs.lemmas.Bool.{and_from, eq-eqb, cases_lt}
use Rattle.std.proofs.lemmas.List.Elements.{All-contains}
use Rattle.std.proofs.lemmas.Option.{slice_get_within}
use Rattle.net_base.specs.declared.numbers.ConnNo.{ConnNo}
use Rattle.net_base.specs.declared.numbers.ExchangeNo.{ExchangeNo}
use Rattle.net_base.specs.declared.numbers.StreamNo.{StreamNo}
use Rattle.model_laws.proofs.AssignedLemmas.{assigned}
use Rattle.model_laws.proofs.FairCourse.{fair_each, over_free}
use Rattle.model_laws.proofs.FairLemmas.{Holds, HoldsAt}
use Rattle.model_laws.proofs.FitLemmas.{same_item}
use Rattle.model_laws.proofs.ReleaseLemmas.{HasLease}
use Rattle.model_laws.proofs.SentLemmas.{started_by}
use Rattle.model_laws.proofs.SoundLemmas.{reached_is_sound}
use Rattle.model_laws.specs.Courses.{state_at, OfConnection}
use Rattle.model_laws.specs.OverLaws.{IsFair, HandedLeasesAreLive, LeasesEndByTheirOver}
use Rattle.model_laws.specs.Sound.{Carries}
use Rattle.model_histories.specs.Histories.{IsHistory}
use Rattle.model_histories.specs.Reading.{IsLeasedAfter, LastsTo, IsLeaseOf, IsHandingOf, is_over_by}
use Rattle.model_authority.proofs.NumberLemmas.{value_and, and_value, place_of}
use Rattle.model_authority.specs.Lists.{numbered}
use Rattle.model_authority.specs.Statuses.{is_at}
use Rattle.model_values.specs.declared.config.Config.{Config}
use Rattle.model_values.specs.declared.entry.Entry.{Entry}
use Rattle.model_values.specs.declared.entry.Way.{Way}
use Rattle.model_values.specs.declared.state.AbstractPool.{AbstractPool}
use Rattle.model_values.specs.declared.state.Connection.{Connection}
use Rattle.model_values.specs.declared.state.Exchange.{Exchange}
use Rattle.model_values.specs.declared.state.Status.{Status}
use Rattle.model_values.specs.declared.state.Status.TheVariants.{Leased}

leased_is : (c : ConnNo) (r : StreamNo) (by : Way) (handed : Bool) (status : Status) → status ≡ Leased c r by handed → is_at c r status ≡ true
leased_is c r by handed status is = ap (is_at c r) is ∙ and_from (c.0 == c.0) (r.0 == r.0) (eq-eqb c.0 c.0 refl) (eq-eqb r.0 r.0 refl)

pub handed_leases_are_live : HandedLeasesAreLive
handed_leases_are_live config h n e c r by fair leased =
    let s : AbstractPool = state_at config h n in
    let v = value_and (numbered e.0 s.exchanges) (λ (x : Exchange). x.status ≡ Leased c r by true) leased in
    let lease : is_at c r v.0.status ≡ true = leased_is c r by true v.0.status v.2 in
    let w = value_and (numbered c.0 s.connections) (λ y. Carries y r) ((reached_is_sound config h n fair.history).carried e.0 v.0 c r v.1 lease) in
    let holds : Holds c _ s w.0 = subst (HoldsAt c _ s) w.1 (fair_each config h c fair n).holds in
    let live : Contains w.0.live r = holds.live e.0 r (and_value (numbered e.0 s.exchanges) (λ (x : Exchange). IsTrue (is_at c r x.status)) v.0 v.1 lease) in
    and_value (numbered e.0 s.exchanges) (λ x. OfConnection s c (λ y. Contains y.live r)) v.0 v.1
    (and_value (numbered c.0 s.connections) (λ y. Contains y.live r) w.0 w.1 live)

-- ---- where the entry that ends a stream leaves no lease

-- the exchange has no lease on the stream behind an entry that ends it
pub unleased_behind : (config : Config) (h : List Entry) (e : ExchangeNo) (c : ConnNo) (r : StreamNo) (place : ℕ) (x : Entry) → IsFair config h c →
    numbered place h ≡ Some x →
    is_over_by c r x.act ≡ true → IsLeasedAfter config h e c r place → ⊥
unleased_behind config h e c r place x fair is_entry over leased =
    let at = place_of h place x is_entry in
    let next : place ≡ at.0 + 1 = omega (arith, at.1) in
    over_free config h c fair at.0 x r at.2 over e.0
    (subst (λ n. HasLease c r (numbered e.0 (state_at config h n).exchanges)) next
    (and_value (numbered e.0 (state_at config h place).exchanges) (λ (y : Exchange). IsTrue (is_at c r y.status)) leased.0 leased.1 leased.2))

-- the start of a lease isn't handed before its Assign
pub assigned_first : (config : Config) (h : List Entry) (e : ExchangeNo) (c : ConnNo) (r : StreamNo) (place handing : ℕ) (over : Option ℕ) →
    IsHistory config h → IsLeaseOf config h e c r place over →
    IsHandingOf h c r handing → place ≤ handing
assigned_first config h e c r place handing over history lease hands = elim (cases_lt handing place) [
  | inl before ↦
      let at = place_of h place lease.entry lease.is_entry in
      let k : ℕ = at.0 in
      let s : AbstractPool = state_at config h k in
      let a = assigned config h k lease.entry e c r lease.by (record { history = history; is_entry = at.2 }) lease.assigns in
      let within : handing ≤ k = omega (arith, before, at.1) in
      let v = value_and (numbered c.0 s.connections) (λ y. Contains y.started r) (started_by config h k c r history (handing, within, hands)) in
      let same : v.0 ≡ a.connection = same_item (numbered c.0 s.connections) v.0 a.connection v.1 a.is_connection in
      let below : r.0 < v.0.next_stream =
      All-contains (λ (t : StreamNo). t.0 < v.0.next_stream) v.0.started r ((reached_is_sound config h k history).orderly c.0 v.0 v.1).started v.2 in
      let next : r.0 ≡ v.0.next_stream = a.next ∙ ap (λ (y : Connection). y.next_stream) (sym same) in
      absurd (omega arith)
  | inr behind ↦ behind
]

pub leases_end_by_their_over : LeasesEndByTheirOver
leases_end_by_their_over config h e c r place last over fair lease is_over = by over lease.lasts
  where
    begun : place ≤ last
    begun = omega (arith, assigned_first config h e c r place is_over.handing over fair.history lease is_over.is_handing, is_over.behind)

    within : last ≤ length h
    within = let at = place_of h last is_over.entry is_over.is_entry in omega (arith, at.1, slice_get_within h at.0 is_over.entry at.2)

    ended : IsLeasedAfter config h e c r last → ⊥
    ended = unleased_behind config h e c r last is_over.entry fair is_over.is_entry is_over.over

    by : (end : Option ℕ) → LastsTo config h e c r place end → IsSomeAnd end (λ o. o ≤ last)
    by None lasts = absurd (ended (lasts last begun within))
    by (Some o) lasts = elim (cases_lt last o) [
      | inl before ↦ absurd (ended (lasts.0 last begun before))
      | inr behind ↦ behind
    ]
