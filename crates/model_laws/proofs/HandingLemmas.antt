-- A start is handed under the lease on its stream, once, and while the lease lasts.
use Rattle.std.proofs.Common.{◌≡◌, ◌<◌, ◌≤◌, ◌+◌, ℕ, zero, suc, List, Option, Some, true, false, inl, inr, refl, sym, ap, subst, ◌∙◌, arith, slice_get, IsTrue, Contains}
use Rattle.std.specs.Prelude.{◌==◌, ◌&&◌}
use Rattle.std.specs.List.{list_any}
use Rattle.std.proofs.lemmas.Bool.{both_ways, cond_both, cases_lt, cases_order}
use Rattle.std.proofs.lemmas.Option.{slice_get_cases}
use Rattle.net_base.specs.declared.numbers.ConnNo.{ConnNo}
use Rattle.net_base.specs.declared.numbers.ExchangeNo.{ExchangeNo}
use Rattle.net_base.specs.declared.numbers.StreamNo.{StreamNo}
use Rattle.model_changes.specs.Connections.{is_start_of}
use Rattle.model_laws.proofs.CourseLemmas.{state_later, state_after}
use Rattle.model_laws.proofs.DoneLemmas.{IsDone, done_after, done_behind}
use Rattle.model_laws.proofs.OverLemmas.{assigned_first}
use Rattle.model_laws.proofs.OverMoves.{done_unhanded}
use Rattle.model_laws.proofs.OverSteps.{has_start}
use Rattle.model_laws.proofs.ReleaseLemmas.{HasLease}
use Rattle.model_laws.proofs.SentLemmas.{Hands, hands, started_by}
use Rattle.model_laws.proofs.SoundLemmas.{reached_is_sound}
use Rattle.model_laws.proofs.WorkerLemmas.{may_order}
use Rattle.model_laws.specs.Courses.{state_at, OfExchange}
use Rattle.model_laws.specs.Sound.{IsSound}
use Rattle.model_laws.specs.StartLaws.{StartsAreHandedUnderALease, StartsAreHandedWithinTheirLease, StartsAreHandedOnce}
use Rattle.model_histories.proofs.EditLemmas.{map_at}
use Rattle.model_histories.specs.Histories.{IsHistory}
use Rattle.model_histories.specs.Legal.{IsWorkersEntry, MayTake}
use Rattle.model_histories.specs.Reading.{IsLeasedAfter, LastsTo, IsLeaseOf, hands_by, IsHandingOf}
use Rattle.model_steps.specs.After.{noted, after_orders, after_act, after}
use Rattle.model_steps.specs.Exchanges.{handed_lease, handed_by}
use Rattle.model_authority.proofs.NumberLemmas.{value_and, and_value, place_of}
use Rattle.model_authority.proofs.PhaseLemmas.{excludes}
use Rattle.model_authority.specs.Lists.{numbered}
use Rattle.model_authority.specs.Statuses.{is_busy, is_gone, is_at, is_unsent_at}
use Rattle.model_values.specs.declared.config.Config.{Config}
use Rattle.model_values.specs.declared.entry.Act.{Act}
use Rattle.model_values.specs.declared.entry.Act.TheVariants.{Orders, Assign}
use Rattle.model_values.specs.declared.entry.Entry.{Entry}
use Rattle.model_values.specs.declared.entry.Way.{Way}
use Rattle.model_values.specs.declared.order.OrderMark.{OrderMark}
use Rattle.model_values.specs.declared.order.OrderMark.TheVariants as mark
use Rattle.model_values.specs.declared.state.AbstractPool.{AbstractPool}
use Rattle.model_values.specs.declared.state.Exchange.{Exchange}
use Rattle.model_values.specs.declared.state.Status.{Status}
use Rattle.model_values.specs.declared.state.Status.TheVariants.{Waiting, Leased, Ended}

-- ---- under a lease

-- the orders that are taken are those of a connection that is up
pub starts_are_handed_under_a_lease : StartsAreHandedUnderALease
starts_are_handed_under_a_lease config h n x c sent orders e r comes is has =
    let s : AbstractPool = state_at config h n in
    let may = (may_order s x c sent orders is (comes.history.each n x comes.is_entry).legal).1 in
    let v = value_and (numbered c.0 s.connections) (λ y. IsWorkersEntry y x.who sent × MayTake y orders) may in
    let up : is_gone v.0.phase ≡ false = excludes is_busy is_gone refl v.0.phase v.2.1.0 in
    (reached_is_sound config h n comes.history).pending c v.0 e r v.1 (λ t. both_ways (is_gone v.0.phase) up t)
    (subst (λ (ms : List OrderMark). Contains ms (mark.Start e r)) v.2.1.1 has)

-- an exchange has the lease whose start the entry hands, which wasn't handed before
handing_unsent : (config : Config) (h : List Entry) (k : ℕ) (x : Entry) (c : ConnNo) (r : StreamNo) → IsHistory config h → slice_get h k ≡ Some x →
    hands_by c r x.act ≡ true →
    (e : ExchangeNo) × OfExchange (state_at config h k) e (λ y. IsTrue (is_unsent_at c r y.status))
handing_unsent config h k x c r history is_entry handing =
    let o : Hands x.act c r = hands x.act c r handing in
    let start = has_start r o.orders o.starts in
    (start.0, starts_are_handed_under_a_lease config h k x c o.sent o.orders start.0 r (record { history = history; is_entry = is_entry }) o.is_orders start.1)

-- ---- once

-- behind one that hands it no entry hands the start of a stream
never_again : (config : Config) (h : List Entry) (c : ConnNo) (r : StreamNo) (place other : ℕ) → IsHistory config h → IsHandingOf h c r place →
    IsHandingOf h c r other → place < other → ⊥
never_again config h c r place other history first second before =
    let at = place_of h other second.0 second.1 in
    let s : AbstractPool = state_at config h at.0 in
    let within : place ≤ at.0 = omega (arith, before, at.1) in
    let unsent = handing_unsent config h at.0 second.0 c r history at.2 second.2 in
    let u = value_and (numbered unsent.0.0 s.exchanges) (λ (y : Exchange). IsTrue (is_unsent_at c r y.status)) unsent.1 in
    let v = value_and (numbered c.0 s.connections) (λ y. Contains y.started r) (started_by config h at.0 c r history (place, within, first)) in
    (reached_is_sound config h at.0 history).sent unsent.0.0 u.0 c r v.0 u.1 u.2 v.1 v.2

pub starts_are_handed_once : StartsAreHandedOnce
starts_are_handed_once config h c r place other history first second = elim (cases_order place other) [
  | inl same ↦ same
  | inr (inl less) ↦ absurd (never_again config h c r place other history first second less)
  | inr (inr more) ↦ absurd (never_again config h c r other place history second first more)
]

-- ---- within the lease

-- handing a start ends no lease
handed_stays : (c : ConnNo) (r : StreamNo) (d : ConnNo) (orders : List OrderMark) (status : Status) → is_at c r (handed_lease d orders status) ≡ is_at c r status
handed_stays c r d orders Waiting = refl
handed_stays c r d orders (Leased conn t by handed) =
    cond_both (conn.0 == d.0 && list_any (is_start_of t) orders) (Leased conn t by true) (Leased conn t by handed) (λ (q : Status). is_at c r q ≡ is_at c r (Leased conn t by handed))
    (λ k. refl) (λ k. refl)
handed_stays c r d orders (Ended how) = refl

stays_leased : (s : AbstractPool) (x : Entry) (d : ConnNo) (sent : ℕ) (orders : List OrderMark) (n : ℕ) (c : ConnNo) (r : StreamNo) → x.act ≡ Orders d sent orders →
    HasLease c r (numbered n s.exchanges) → HasLease c r (numbered n (after s x).exchanges)
unfolding after noted after_orders
stays_leased s x d sent orders n c r is leased =
    let t : AbstractPool = noted s x.moment in
    subst (λ (act : Act). HasLease c r (numbered n (after_act t x.who act).exchanges)) (sym is)
    (map_at (λ (o p : Option Exchange). HasLease c r o → HasLease c r p) n (handed_by d orders) s.exchanges (λ k. k) (λ y k. handed_stays c r d orders y.status ∙ k) leased)

assign_hands_none : (c d : ConnNo) (r t : StreamNo) (e : ExchangeNo) (by : Way) (act : Act) → act ≡ Assign e d t by → hands_by c r act ≡ true → ⊥
assign_hands_none c d r t e by act is handing = let never : hands_by c r (Assign e d t by) ≡ true = subst (λ (a : Act). hands_by c r a ≡ true) is handing in absurd cc

module _ (config : Config) (h : List Entry) (e : ExchangeNo) (c : ConnNo) (r : StreamNo) (place handing : ℕ) (over : Option ℕ) (history : IsHistory config h)
    (lease : IsLeaseOf config h e c r place over) (handed : IsHandingOf h c r handing) where
  -- it isn't the Assign
  begun : place < handing
  begun = elim (cases_order place handing) [
    | inl same ↦
        let one : lease.entry ≡ handed.0 = let first : numbered handing h ≡ Some lease.entry = ap (λ (k : ℕ). numbered k h) (sym same) ∙ lease.is_entry in let second = handed.1 in cc in
        absurd (assign_hands_none c c r r e lease.by handed.0.act (ap (λ (y : Entry). y.act) (sym one) ∙ lease.assigns) handed.2)
    | inr (inl less) ↦ less
    | inr (inr more) ↦ let first = assigned_first config h e c r place handing over history lease handed in absurd (omega arith)
  ]

  has_lease : (n : ℕ) → IsLeasedAfter config h e c r n → HasLease c r (numbered e.0 (state_at config h n).exchanges)
  has_lease n leased = and_value (numbered e.0 (state_at config h n).exchanges) (λ (z : Exchange). IsTrue (is_at c r z.status)) leased.0 leased.1 leased.2

  -- the lease ends by the entry behind q others; the start is handed by the one behind k others
  module _ (q k : ℕ) (x y : Entry) (is_x : slice_get h q ≡ Some x) (is_y : slice_get h k ≡ Some y) (hands_it : hands_by c r y.act ≡ true)
      (leased : IsLeasedAfter config h e c r q) (ended : IsLeasedAfter config h e c r (q + 1) → ⊥) where
    unleased : HasLease c r (numbered e.0 (after (state_at config h q) x).exchanges) → ⊥
    unleased again =
        let v = value_and (numbered e.0 (after (state_at config h q) x).exchanges) (λ (z : Exchange). IsTrue (is_at c r z.status)) again in
        ended (v.0, ap (λ (t : AbstractPool). numbered e.0 t.exchanges) (state_after config h q x is_x) ∙ v.1, v.2)

    not_before : q < k → ⊥
    not_before less =
        let sound : IsSound config (state_at config h q) = reached_is_sound config h q history in
        let done : IsDone c r (state_at config h (q + 1)) =
        subst (IsDone c r) (sym (state_after config h q x is_x)) (done_behind (state_at config h q) x e.0 c r (history.each q x is_x) sound.carried sound.apart (has_lease q leased) unleased) in
        done_unhanded config h k y c r history is_y (hands y.act c r hands_it) (state_later config h (q + 1) k (IsDone c r) history (done_after c r) (omega arith) done)

    not_by : q ≡ k → ⊥
    not_by same =
        let one : x ≡ y = let first : slice_get h k ≡ Some x = ap (slice_get h) (sym same) ∙ is_x in cc (first, is_y) in
        let o : Hands y.act c r = hands y.act c r hands_it in
        unleased (stays_leased (state_at config h q) x c o.sent o.orders e.0 c r (ap (λ (z : Entry). z.act) one ∙ o.is_orders) (has_lease q leased))

  -- behind its end it isn't handed
  not_behind : (q : ℕ) → LastsTo config h e c r place (Some (suc q)) → suc q ≤ handing → ⊥
  not_behind q lasts behind =
      let next : suc q ≡ q + 1 = omega arith in
      let at = place_of h handing handed.0 handed.1 in
      let y : Entry = handed.0 in
      let leased : IsLeasedAfter config h e c r q = let begins = lasts.1 in lasts.0 q (omega arith) (omega arith) in
      let ended : IsLeasedAfter config h e c r (q + 1) → ⊥ = subst (λ (n : ℕ). IsLeasedAfter config h e c r n → ⊥) next lasts.3 in
      elim (slice_get_cases h q).1 [
        | inl is ↦ elim (cases_lt q at.0) [
          | inl less ↦ not_before q at.0 is.0 y is.2 at.2 handed.2 leased ended less
          | inr most ↦ not_by q at.0 is.0 y is.2 at.2 handed.2 leased ended (omega (arith, behind, at.1, most))
        ]
        | inr past ↦ let within = lasts.2 in absurd (omega (arith, past.0))
      ]

  before_end : (o : ℕ) → LastsTo config h e c r place (Some o) → handing < o
  before_end zero lasts = let begins = lasts.1 in absurd (omega arith)
  before_end (suc q) lasts = elim (cases_lt handing (suc q)) [ inl before ↦ before | inr behind ↦ absurd (not_behind q lasts behind) ]

pub starts_are_handed_within_their_lease : StartsAreHandedWithinTheirLease
starts_are_handed_within_their_lease config h e c r place handing over history lease handed = (
  begun config h e c r place handing over history lease handed,
  λ o is. before_end config h e c r place handing over history lease handed o (subst (LastsTo config h e c r place) is lease.lasts),
)
