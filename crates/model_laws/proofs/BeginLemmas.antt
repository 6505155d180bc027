-- Each Assign begins a lease, which lasts to the end or to the entry that ends it.
use Rattle.std.proofs.Common.{◌≡◌, ◌<◌, ◌≤◌, ◌+◌, ◌⊎◌, inl, inr, ℕ, zero, suc, List, Option, Some, None, Bool, true, false, refl, sym, ap, subst, ◌∙◌, arith, length, take, IsTrue}
use Rattle.std.specs.Prelude.{◌==◌, ◌&&◌, ◌-◌}
use Rattle.std.proofs.lemmas.Bool.{eq-eqb, cases_order}
use Rattle.std.proofs.lemmas.Option.{slice_get_within}
use Rattle.net_base.specs.declared.numbers.ConnNo.{ConnNo}
use Rattle.net_base.specs.declared.numbers.ExchangeNo.{ExchangeNo}
use Rattle.net_base.specs.declared.numbers.StreamNo.{StreamNo}
use Rattle.model_laws.proofs.AssignedLemmas.{assigned}
use Rattle.model_laws.specs.LeaseLaws.{AssignsBeginLeases}
use Rattle.model_histories.proofs.EditLemmas.{edit_here}
use Rattle.model_histories.proofs.RunLemmas.{run_at}
use Rattle.model_histories.specs.Histories.{run}
use Rattle.model_histories.specs.Reading.{IsLeasedAfter, LastsTo}
use Rattle.model_steps.specs.After.{noted, after_assign, after_act, after}
use Rattle.model_steps.specs.Exchanges.{with_status}
use Rattle.model_authority.proofs.NumberLemmas.{option_cases, numbered_at}
use Rattle.model_authority.specs.Lists.{numbered}
use Rattle.model_authority.specs.Statuses.{is_at}
use Rattle.model_values.specs.declared.config.Config.{Config}
use Rattle.model_values.specs.declared.entry.Act.{Act}
use Rattle.model_values.specs.declared.entry.Act.TheVariants.{Assign}
use Rattle.model_values.specs.declared.entry.Entry.{Entry}
use Rattle.model_values.specs.declared.entry.Way.{Way}
use Rattle.model_values.specs.declared.state.AbstractPool.{AbstractPool}
use Rattle.model_values.specs.declared.state.Exchange.{Exchange}
use Rattle.model_values.specs.declared.state.Status.TheVariants.{Leased}

-- ---- at the Assign

leased_by : (s : AbstractPool) (x : ExchangeNo) (c : ConnNo) (r : StreamNo) (by : Way) (e : Exchange) → numbered x.0 s.exchanges ≡ Some e →
    (y : Exchange) × (numbered x.0 (after_assign s x c r by).exchanges ≡ Some y) × IsTrue (is_at c r y.status)
unfolding after_assign
leased_by s x c r by e is_item = (
  with_status (Leased c r by false) e,
  edit_here x.0 (with_status (Leased c r by false)) s.exchanges e is_item,
  ap (λ (b : Bool). b && r.0 == r.0) (eq-eqb c.0 c.0 refl) ∙ eq-eqb r.0 r.0 refl,
)

leased_behind : (s : AbstractPool) (n : Entry) (x : ExchangeNo) (c : ConnNo) (r : StreamNo) (by : Way) (e : Exchange) → n.act ≡ Assign x c r by → numbered x.0 s.exchanges ≡ Some e →
    (y : Exchange) × (numbered x.0 (after s n).exchanges ≡ Some y) × IsTrue (is_at c r y.status)
unfolding after noted
leased_behind s n x c r by e is_act is_item =
    subst (λ (act : Act). (y : Exchange) × (numbered x.0 (after_act (noted s n.moment) n.who act).exchanges ≡ Some y) × IsTrue (is_at c r y.status)) (sym is_act)
    (leased_by (noted s n.moment) x c r by e is_item)

-- ---- how long it lasts

module _ (config : Config) (h : List Entry) (x : ExchangeNo) (c : ConnNo) (r : StreamNo) where
  -- after so many entries the exchange has the lease, or it hasn't
  leased_or : (n : ℕ) → IsLeasedAfter config h x c r n ⊎ (¬ IsLeasedAfter config h x c r n)
  leased_or n = elim (option_cases (numbered x.0 (run config (take n h)).exchanges)) [
    | inl none ↦ inr (λ leased. absurd (cc (none, leased.1)))
    | inr some ↦ by some.0 some.1 (is_at c r some.0.status) refl
  ]
    where
      by : (e : Exchange) → numbered x.0 (run config (take n h)).exchanges ≡ Some e → (b : Bool) → is_at c r e.status ≡ b → IsLeasedAfter config h x c r n ⊎ (¬ IsLeasedAfter config h x c r n)
      by e is_item true at = inl (e, is_item, at)
      by e is_item false at = inr (λ leased. let same : e ≡ leased.0 = cc (is_item, leased.1) in let on : is_at c r e.status ≡ true = subst (λ (z : Exchange). is_at c r z.status ≡ true) (sym same) leased.2 in absurd cc)

  abbrev LeasedTo : ℕ → ℕ → Type 0
  LeasedTo place k = (n : ℕ) → place ≤ n → n ≤ k → IsLeasedAfter config h x c r n

  leased_more : (place k : ℕ) → LeasedTo place k → IsLeasedAfter config h x c r (suc k) → LeasedTo place (suc k)
  leased_more place k all next n from to = elim (cases_order n (suc k)) [
    | inl same ↦ subst (IsLeasedAfter config h x c r) (sym same) next
    | inr (inl less) ↦ all n from (omega arith)
    | inr (inr more) ↦ absurd (omega arith)
  ]

  -- it lasts to the end, or to the first entry that ends it
  lasts : (left place k : ℕ) → k + left ≡ length h → place ≤ k → LeasedTo place k → (over : Option ℕ) × LastsTo config h x c r place over
  lasts zero place k whole from all = (None, λ n a b. all n a (omega arith))
  lasts (suc left) place k whole from all = elim (leased_or (suc k)) [
    | inl still ↦ lasts left place (suc k) (omega arith) (omega arith) (leased_more place k all still)
    | inr ended ↦ (Some (suc k), (λ n a b. all n a (omega arith), omega arith, omega arith, ended))
  ]

pub assigns_begin_leases : AssignsBeginLeases
assigns_begin_leases config h n e x c r by comes is =
    let s : AbstractPool = run config (take n h) in
    let a = assigned config h n e x c r by comes is in
    let within : n < length h = slice_get_within h n e comes.is_entry in
    let here : IsLeasedAfter config h x c r (n + 1) =
    subst (λ (t : AbstractPool). (y : Exchange) × (numbered x.0 t.exchanges ≡ Some y) × IsTrue (is_at c r y.status)) (sym (run_at config h n e comes.is_entry))
    (leased_behind s e x c r by a.exchange is a.is_exchange) in
    let only : (m : ℕ) → n + 1 ≤ m → m ≤ n + 1 → IsLeasedAfter config h x c r m = λ m from to. subst (IsLeasedAfter config h x c r) (omega arith) here in
    let long = lasts config h x c r (length h - (n + 1)) (n + 1) (n + 1) (omega arith) (omega arith) only in
    let place : n + 1 ≡ suc n = omega arith in (
      long.0,
      record {
        by = by;
        entry = e;
        is_entry = ap (λ (k : ℕ). numbered k h) place ∙ numbered_at h n ∙ comes.is_entry;
        assigns = is;
        lasts = long.1;
      },
    )
