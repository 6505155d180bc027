-- An Evict is computed as it is defined.
use Rattle.std.proofs.Common.{◌≡◌, ℕ, Option, Some, None, Bool, true, false, cond, inl, inr, refl, ap, ◌∙◌, is_some, IsTrue}
use Rattle.std.specs.Prelude.{◌&&◌, not}
use Rattle.std.specs.List.{list_any}
use Rattle.std.proofs.lemmas.Bool.{and_parts, and_from, not-true, false_from_ne_true}
use Rattle.net_base.specs.declared.numbers.ConnNo.{ConnNo}
use Rattle.model_settling.proofs.KindLemmas.{NoExpire, NoLapse, NoAssign, NoWant}
use Rattle.model_settling.proofs.LeastLemmas.{least_is, least_back}
use Rattle.model_settling.proofs.LowestLemmas.{lowest_is, lowest_none}
use Rattle.model_authority.proofs.NumberLemmas.{option_cases, passing, passes}
use Rattle.model_settling.specs.Due.{lowest_of, least_of, evict_best, must_evict, evict_due}
use Rattle.model_authority.specs.Lists.{numbered}
use Rattle.model_settling.specs.Room.{is_total_full}
use Rattle.model_settling.specs.Settling.{is_held_back, is_idle, idle_since_of, IsEvict}
use Rattle.model_authority.specs.Statuses.{is_closing}
use Rattle.model_settling.specs.declared.kinds.Best.{Best}
use Rattle.model_settling.specs.declared.kinds.Due.{Due}
use Rattle.model_settling.specs.declared.kinds.Due.TheVariants as due
use Rattle.model_values.specs.declared.state.AbstractPool.{AbstractPool}
use Rattle.model_values.specs.declared.state.Exchange.{Exchange}

-- a connection has to make room just where the definition says so
must_evict_is : (s : AbstractPool) → must_evict s ≡ true →
    IsTrue (is_total_full s) × (¬ IsTrue (list_any (λ x. is_closing x.phase) s.connections)) × IsTrue (is_some (lowest_of (is_held_back s) s.exchanges))
unfolding must_evict
must_evict_is s h =
    let p = and_parts (is_total_full s && not (list_any (λ x. is_closing x.phase) s.connections)) (is_some (lowest_of (is_held_back s) s.exchanges)) h in
    let q = and_parts (is_total_full s) (not (list_any (λ x. is_closing x.phase) s.connections)) p.0 in
    (q.0, λ k. let f = not-true (list_any (λ x. is_closing x.phase) s.connections) q.1 in absurd (cc (f, k)), p.1)

must_evict_from : (s : AbstractPool) → IsTrue (is_total_full s) → (¬ IsTrue (list_any (λ x. is_closing x.phase) s.connections)) →
    IsTrue (is_some (lowest_of (is_held_back s) s.exchanges)) → must_evict s ≡ true
unfolding must_evict
must_evict_from s full none held =
    let closing : list_any (λ x. is_closing x.phase) s.connections ≡ false = false_from_ne_true (list_any (λ x. is_closing x.phase) s.connections) none in
    and_from (is_total_full s && not (list_any (λ x. is_closing x.phase) s.connections)) (is_some (lowest_of (is_held_back s) s.exchanges))
    (and_from (is_total_full s) (not (list_any (λ x. is_closing x.phase) s.connections)) full (ap not closing)) held

-- the exchange that waits for room alone
held_back_is : (s : AbstractPool) → is_some (lowest_of (is_held_back s) s.exchanges) ≡ true →
    (number : ℕ) × (e : Exchange) × (numbered number s.exchanges ≡ Some e) × IsTrue (is_held_back s number e)
held_back_is s h = elim (option_cases (lowest_of (is_held_back s) s.exchanges)) [
  | inl r ↦ let f : is_some (lowest_of (is_held_back s) s.exchanges) ≡ false = ap (λ (o : Option ℕ). is_some o) r in absurd cc
  | inr r ↦
      let p = passing (is_held_back s) s.exchanges r.0 (lowest_is (is_held_back s) s.exchanges r.0 r.1).passes in
      (r.0, p.0, p.1, p.2)
]

held_back_from : (s : AbstractPool) (number : ℕ) (e : Exchange) → numbered number s.exchanges ≡ Some e → IsTrue (is_held_back s number e) →
    is_some (lowest_of (is_held_back s) s.exchanges) ≡ true
held_back_from s number e ie h = elim (option_cases (lowest_of (is_held_back s) s.exchanges)) [
  | inl r ↦ absurd (lowest_none (is_held_back s) s.exchanges r number (passes (is_held_back s) s.exchanges number e ie h))
  | inr r ↦ ap (λ (o : Option ℕ). is_some o) r.1
]

evicting : (b : Bool) (o : Option Best) (d : Due) → cond b (evict_best o) None ≡ Some d → (b ≡ true) × (best : Best) × (o ≡ Some best) × (d ≡ due.Evict (record { 0 = best.number }))
evicting true None d h = absurd cc
evicting true (Some best) d h = (refl, best, refl, cc)
evicting false o d h = absurd cc

pub evict_is : (s : AbstractPool) (d : Due) → NoExpire s → NoLapse s → NoAssign s → NoWant s →
    evict_due s ≡ Some d → (c : ConnNo) × (d ≡ due.Evict c) × IsEvict s c
unfolding evict_due
evict_is s d no_expire no_lapse no_assign no_want h =
    let p = evicting (must_evict s) (least_of is_idle idle_since_of s.connections) d h in
    let m = must_evict_is s p.0 in (
      record { 0 = p.1.number },
      p.3,
      record {
        no_expire = no_expire;
        no_lapse = no_lapse;
        no_assign = no_assign;
        no_want = no_want;
        full = m.0;
        none_closing = m.1;
        held_back = held_back_is s m.2;
        least = least_is is_idle idle_since_of s.connections p.1 p.2;
      },
    )

pub evict_back : (s : AbstractPool) (c : ConnNo) → IsEvict s c → evict_due s ≡ Some (due.Evict c)
unfolding evict_due
evict_back s c h =
    let b = least_back is_idle idle_since_of s.connections c.0 h.least in
    let m = must_evict_from s h.full h.none_closing (held_back_from s h.held_back.0 h.held_back.1 h.held_back.2 h.held_back.3) in
    ap (λ i. cond i (evict_best (least_of is_idle idle_since_of s.connections)) None) m
    ∙ ap evict_best b.1
    ∙ ap (λ i. Some (due.Evict (record { 0 = i }))) b.2

pub evict_none : (s : AbstractPool) → evict_due s ≡ None → (c : ConnNo) → ¬ IsEvict s c
evict_none s h c k = let b = evict_back s c k in absurd cc
