-- So does the lease of an exchange that has a later one: the exchange waited again where the first one ended.
use Rattle.std.proofs.Common.{◌≡◌, ◌<◌, ◌≤◌, ◌+◌, ℕ, zero, suc, List, Option, Some, None, true, false, inl, inr, refl, sym, ap, subst, ◌∙◌, arith, slice_get, IsTrue, IsSomeAnd}
use Rattle.std.specs.Prelude.{◌==◌}
use Rattle.std.proofs.lemmas.Bool.{both_ways, and_from, eq-eqb}
use Rattle.std.proofs.lemmas.Option.{slice_get_cases}
use Rattle.net_base.specs.declared.numbers.ConnNo.{ConnNo}
use Rattle.net_base.specs.declared.numbers.ExchangeNo.{ExchangeNo}
use Rattle.net_base.specs.declared.numbers.StreamNo.{StreamNo}
use Rattle.model_laws.proofs.CourseLemmas.{state_after}
use Rattle.model_laws.proofs.DoneLemmas.{leases_after}
use Rattle.model_laws.proofs.EndedLemmas.{ended_stays_ended}
use Rattle.model_laws.proofs.ExchangeSteps.{BecomesAt}
use Rattle.model_laws.proofs.ExchangesAfter.{exchange_after}
use Rattle.model_laws.proofs.FitLemmas.{IsWaitingAt, IsFit, fit_stand}
use Rattle.model_laws.proofs.OverMoves.{one_lease, moved_leases_end_at_their_over}
use Rattle.model_laws.proofs.OverlapLemmas.{waits_or_leased, leases_dont_overlap}
use Rattle.model_laws.specs.Courses.{state_at, OfExchange}
use Rattle.model_laws.specs.OverLaws.{LeasesBeforeOthersEndAtTheirOver}
use Rattle.model_histories.specs.Histories.{IsHistory, MayStand}
use Rattle.model_histories.specs.Reading.{IsLeasedAfter, IsLeaseOf, IsOverOf}
use Rattle.model_steps.specs.After.{noted, after}
use Rattle.model_authority.proofs.NumberLemmas.{option_cases, value_and, and_value, place_of}
use Rattle.model_authority.specs.Lists.{numbered}
use Rattle.model_authority.specs.Statuses.{is_waiting, is_at}
use Rattle.model_values.specs.declared.config.Config.{Config}
use Rattle.model_values.specs.declared.entry.Act.TheVariants.{Assign}
use Rattle.model_values.specs.declared.entry.Entry.{Entry}
use Rattle.model_values.specs.declared.entry.Way.{Way}
use Rattle.model_values.specs.declared.outcome.Outcome.{Outcome}
use Rattle.model_values.specs.declared.state.AbstractPool.{AbstractPool}
use Rattle.model_values.specs.declared.state.Exchange.{Exchange}
use Rattle.model_values.specs.declared.state.Status.{Status}
use Rattle.model_values.specs.declared.state.Status.TheVariants.{Waiting, Leased, Ended}

-- an exchange that is assigned waits
assign_waits : (s : AbstractPool) (x : Entry) (e : ExchangeNo) (c : ConnNo) (r : StreamNo) (by : Way) → MayStand s x → x.act ≡ Assign e c r by → IsWaitingAt s e
unfolding noted
assign_waits s x e c r by stand is = let fit : IsFit (noted s x.moment) (Assign e c r by) = subst (IsFit (noted s x.moment)) is (fit_stand s x stand) in fit.0

-- of the exchange of this number at a state
exchange_is : (s : AbstractPool) (e : ExchangeNo) (P : Exchange → Type 0) (y : Exchange) → OfExchange s e P → numbered e.0 s.exchanges ≡ Some y → P y
exchange_is s e P y of is_item = subst (λ o. IsSomeAnd o P) is_item of

-- what an exchange whose lease ends becomes: where it is assigned again later, it waits
module _ (config : Config) (h : List Entry) (e : ExchangeNo) (c : ConnNo) (r : StreamNo) (k m : ℕ) (x : Entry) (history : IsHistory config h)
    (is_entry : slice_get h k ≡ Some x)
    (leased : IsLeasedAfter config h e c r k) (over : ¬ IsLeasedAfter config h e c r (suc k)) (later : suc k ≤ m) (again : IsWaitingAt (state_at config h m) e) where
  abbrev before : AbstractPool
  before = state_at config h k

  stand : MayStand before x
  stand = history.each k x is_entry

  behind : state_at config h (suc k) ≡ after before x
  behind = let next : k + 1 ≡ suc k = omega arith in ap (state_at config h) (sym next) ∙ state_after config h k x is_entry

  -- no other lease
  unleased : (a : ConnNo) (q : StreamNo) (y : Exchange) → numbered e.0 (after before x).exchanges ≡ Some y → is_at a q y.status ≡ true → ⊥
  unleased a q y is_y at =
      elim (leases_after before x e.0 a q stand (and_value (numbered e.0 (after before x).exchanges) (λ (z : Exchange). IsTrue (is_at a q z.status)) y is_y at)) [
        | inl was ↦
            let first : is_at a q leased.0.status ≡ true = exchange_is before e (λ z. IsTrue (is_at a q z.status)) leased.0 was leased.1 in
            let same = one_lease c a r q leased.0.status leased.2 first in
            let conn : ℕ → ConnNo = λ n. record { 0 = n } in
            let stream : ℕ → StreamNo = λ n. record { 0 = n } in
            let a_is : a ≡ c = ap conn same.0 in
            let q_is : q ≡ r = ap stream same.1 in
            let here : is_at c r y.status ≡ true = subst (λ d. is_at d r y.status ≡ true) a_is (subst (λ t. is_at a t y.status ≡ true) q_is at) in
            over (y, ap (λ (t : AbstractPool). numbered e.0 t.exchanges) behind ∙ is_y, here)
        | inr g ↦
            let number : ℕ → ExchangeNo = λ n. record { 0 = n } in
            let same : g.exchange ≡ e = ap number (sym g.is_exchange) in
            let waits : IsWaitingAt before e = subst (IsWaitingAt before) same (assign_waits before x g.exchange g.conn g.stream g.by stand g.is_assign) in
            waits_or_leased c r leased.0.status (exchange_is before e (λ z. IsTrue (is_waiting z.status)) leased.0 waits leased.1) leased.2
      ]

  -- and no end
  unended : (how : Outcome) → OfExchange (state_at config h (suc k)) e (λ exchange. exchange.status ≡ Ended how) → ⊥
  unended how ended =
      let v =
      value_and (numbered e.0 (state_at config h m).exchanges) (λ (z : Exchange). z.status ≡ Ended how) (ended_stays_ended config h (suc k) m e how history later ended) in
      let waits : is_waiting v.0.status ≡ true = exchange_is (state_at config h m) e (λ z. IsTrue (is_waiting z.status)) v.0 again v.1 in
      let never : is_waiting v.0.status ≡ false = ap (λ (z : Status). is_waiting z) v.2 in
      both_ways (is_waiting v.0.status) never waits

  -- what holds of what it becomes
  of_behind : (P : Exchange → Type 0) (y : Exchange) → numbered e.0 (after before x).exchanges ≡ Some y → P y → OfExchange (state_at config h (suc k)) e P
  of_behind P y is_y holds =
      and_value (numbered e.0 (state_at config h (suc k)).exchanges) P y (ap (λ (t : AbstractPool). numbered e.0 t.exchanges) behind ∙ is_y) holds

  waits_behind : OfExchange (state_at config h (suc k)) e (λ exchange. exchange.status ≡ Waiting)
  waits_behind = elim (option_cases (numbered e.0 (after before x).exchanges)) [
    | inl none ↦
        absurd (subst (λ p. BecomesAt (MayStand before x) x.act (Some leased.0) p) none
        (subst (λ o. BecomesAt (MayStand before x) x.act o (numbered e.0 (after before x).exchanges)) leased.1 (exchange_after before x e.0)))
    | inr some ↦ by some.0 some.1 some.0.status refl
  ]
    where
      by : (y : Exchange) → numbered e.0 (after before x).exchanges ≡ Some y → (status : Status) → y.status ≡ status →
          OfExchange (state_at config h (suc k)) e (λ exchange. exchange.status ≡ Waiting)
      by y is_y Waiting is = of_behind (λ z. z.status ≡ Waiting) y is_y is
      by y is_y (Leased a q way handed) is =
          absurd (unleased a q y is_y (ap (is_at a q) is ∙ and_from (a.0 == a.0) (q.0 == q.0) (eq-eqb a.0 a.0 refl) (eq-eqb q.0 q.0 refl)))
      by y is_y (Ended how) is = absurd (unended how (of_behind (λ z. z.status ≡ Ended how) y is_y is))

pub leases_before_others_end_at_their_over : LeasesBeforeOthersEndAtTheirOver
leases_before_others_end_at_their_over config h e c d r t place later handing over end fair first second less hands_it =
    by over first (leases_dont_overlap config h e c d r t place later over end fair.history first second less)
  where
    waits : (o : ℕ) → IsLeaseOf config h e c r place (Some o) → o < later → OfExchange (state_at config h o) e (λ exchange. exchange.status ≡ Waiting)
    waits zero lease before = let begun = lease.lasts.1 in absurd (omega arith)
    waits (suc k) lease before =
        let begun = lease.lasts.1 in
        let within = lease.lasts.2 in
        let at = place_of h later second.entry second.is_entry in
        let again : IsWaitingAt (state_at config h at.0) e =
        assign_waits (state_at config h at.0) second.entry e d t second.by (fair.history.each at.0 second.entry at.2) second.assigns in
        elim (slice_get_cases h k).1 [
          | inl is ↦ waits_behind config h e c r k at.0 is.0 fair.history is.2 (lease.lasts.0 k (omega arith) (omega arith)) lease.lasts.3 (omega (arith, at.1)) again
          | inr past ↦ absurd (omega (arith, past.0))
        ]

    by : (o : Option ℕ) → IsLeaseOf config h e c r place o → IsSomeAnd o (λ n. n < later) → IsSomeAnd o (λ n. IsOverOf h c r n)
    by None lease none = absurd none
    by (Some o) lease before = moved_leases_end_at_their_over config h e c r place handing o fair lease hands_it (waits o lease before)
