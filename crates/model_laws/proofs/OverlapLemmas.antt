-- An exchange gets a lease only while it waits, so its leases don't overlap.
use Rattle.std.proofs.Common.{◌≡◌, ◌<◌, ◌≤◌, inl, inr, ℕ, suc, List, Option, Some, None, sym, subst, arith, length, take, IsTrue, IsSomeAnd}
use Rattle.std.specs.Prelude.{◌||◌, not}
use Rattle.std.specs.List.{list_any}
use Rattle.std.proofs.lemmas.Bool.{and_parts, cases_lt}
use Rattle.std.proofs.lemmas.Option.{slice_get_within}
use Rattle.net_base.specs.declared.numbers.ConnNo.{ConnNo}
use Rattle.net_base.specs.declared.numbers.ExchangeNo.{ExchangeNo}
use Rattle.net_base.specs.declared.numbers.StreamNo.{StreamNo}
use Rattle.model_laws.proofs.AssignedLemmas.{assigned}
use Rattle.model_laws.specs.LeaseLaws.{LeasesDontOverlap}
use Rattle.model_histories.specs.Histories.{run}
use Rattle.model_histories.specs.Reading.{IsLeasedAfter, LastsTo}
use Rattle.model_settling.specs.Settling.{can_start, IsAssign}
use Rattle.model_settling.specs.Room.{may_background_start, is_eligible}
use Rattle.model_authority.proofs.NumberLemmas.{place_of, passing}
use Rattle.model_authority.specs.Statuses.{is_waiting, is_at}
use Rattle.model_authority.specs.Ways.{is_usable}
use Rattle.model_values.specs.declared.config.Config.{Config}
use Rattle.model_values.specs.declared.entry.Entry.{Entry}
use Rattle.model_values.specs.declared.entry.Way.{Way}
use Rattle.model_values.specs.declared.state.AbstractPool.{AbstractPool}
use Rattle.model_values.specs.declared.state.Exchange.{Exchange}
use Rattle.model_values.specs.declared.state.Status.{Status}
use Rattle.model_values.specs.declared.state.Status.TheVariants.{Waiting, Leased, Ended}

-- what waits has no lease
pub waits_or_leased : (c : ConnNo) (r : StreamNo) (s : Status) → IsTrue (is_waiting s) → IsTrue (is_at c r s) → ⊥
waits_or_leased c r Waiting waits leased = absurd cc
waits_or_leased c r (Leased conn stream by handed) waits leased = absurd cc
waits_or_leased c r (Ended outcome) waits leased = absurd cc

eligible_waits : (s : AbstractPool) (x : Exchange) → IsTrue (is_eligible s x) → IsTrue (is_waiting x.status)
unfolding is_eligible
eligible_waits s x h = (and_parts (is_waiting x.status) (not x.ask.background || may_background_start s) h).0

-- before an Assign its exchange has no lease
none_before : (config : Config) (h : List Entry) (k : ℕ) (e : ExchangeNo) (c d : ConnNo) (r t : StreamNo) (by : Way) →
    IsAssign (run config (take k h)) e d t by → IsLeasedAfter config h e c r k → ⊥
none_before config h k e c d r t by a leased =
    let s = run config (take k h) in
    let p = passing (can_start s) s.exchanges e.0 a.least.passes in
    let eligible = (and_parts (is_eligible s p.0) (list_any (is_usable s p.0) s.connections) p.2).0 in
    let same : p.0 ≡ leased.0 = cc (p.1, leased.1) in
    waits_or_leased c r leased.0.status (subst (λ x. IsTrue (is_waiting x.status)) same (eligible_waits s p.0 eligible)) leased.2

-- a lease that isn't there after k entries has ended before
ended_by_then : (config : Config) (h : List Entry) (e : ExchangeNo) (c : ConnNo) (r : StreamNo) (p k : ℕ) (over : Option ℕ) →
    p ≤ k → k < length h → (IsLeasedAfter config h e c r k → ⊥) → LastsTo config h e c r p over → IsSomeAnd over (λ o. o < suc k)
ended_by_then config h e c r p k None from within none lasts = absurd (none (lasts k from (omega arith)))
ended_by_then config h e c r p k (Some o) from within none lasts = elim (cases_lt o (suc k)) [
  | inl before ↦ before
  | inr behind ↦ absurd (none (lasts.0 k from (omega arith)))
]

pub leases_dont_overlap : LeasesDontOverlap
leases_dont_overlap config h e c d r t p q over later history first second before =
    let at = place_of h q second.entry second.is_entry in
    let a = assigned config h at.0 second.entry e d t second.by (record { history = history; is_entry = at.2 }) second.assigns in
    let is_place : q ≡ suc at.0 = at.1 in
    let from : p ≤ at.0 = omega arith in
    let within : at.0 < length h = slice_get_within h at.0 second.entry at.2 in
    subst (λ (n : ℕ). IsSomeAnd over (λ o. o < n)) (sym is_place)
    (ended_by_then config h e c r p at.0 over from within (none_before config h at.0 e c d r t second.by a) first.lasts)
