-- Which streams no exchange has a lease on behind a worker's report, a release or a shutdown.
use Rattle.std.proofs.Common.{◌≡◌, ℕ, List, Option, Some, None, Bool, true, false, inl, inr, refl, subst, IsSomeAnd, map}
use Rattle.std.specs.Prelude.{◌&&◌, ◌||◌, ◌==◌, not, nat_lt, if◌then◌else◌}
use Rattle.std.proofs.lemmas.Bool.{cases_eq, cond_both, and_parts, and_from, or_parts, both_ways, eqb-true, false_from_ne_true}
use Rattle.net_base.specs.declared.numbers.ConnNo.{ConnNo}
use Rattle.net_base.specs.declared.numbers.Moment.{Moment}
use Rattle.net_base.specs.declared.numbers.StreamNo.{StreamNo}
use Rattle.net_base.specs.declared.response.Response.{Response}
use Rattle.model_laws.proofs.ReleaseLemmas.{HasLease}
use Rattle.model_laws.proofs.YieldLemmas.{moved_unleased}
use Rattle.model_histories.proofs.EditLemmas.{edit_here, edit_other, map_at}
use Rattle.model_settling.specs.Settling.{has_passed}
use Rattle.model_steps.specs.Answered.{is_misdirected, as_misdirected, answered_lease, answered}
use Rattle.model_steps.specs.Exchanges.{ended_by, timed_out_at, timed_out, ended_unless, moved}
use Rattle.model_steps.specs.Goaway.{is_left_out, left_out}
use Rattle.model_steps.specs.StreamEnds.{refused, ended_at}
use Rattle.model_authority.specs.Lists.{numbered, edit}
use Rattle.model_authority.specs.Statuses.{has_ended, is_at, is_unsent_at}
use Rattle.model_values.specs.declared.outcome.Outcome.{Outcome}
use Rattle.model_values.specs.declared.outcome.Outcome.TheVariants as outcome
use Rattle.model_values.specs.declared.state.Exchange.{Exchange}
use Rattle.model_values.specs.declared.state.Status.{Status}
use Rattle.model_values.specs.declared.state.Status.TheVariants.{Waiting, Leased, Ended}

-- none of the exchanges has the lease
abbrev pub AreFree : ConnNo → StreamNo → List Exchange → Type 0
AreFree c r es = (n : ℕ) → HasLease c r (numbered n es) → ⊥

-- ---- one exchange

-- where the one with the lease becomes this one, which hasn't it
one_free : (c : ConnNo) (r : StreamNo) (x y : Exchange) → is_at c r y.status ≡ false → is_at c r (if is_at c r x.status then y else x).status ≡ true → ⊥
one_free c r x y without =
    cond_both (is_at c r x.status) y x (λ (z : Exchange). is_at c r z.status ≡ true → ⊥) (λ t h. both_ways (is_at c r y.status) without h)
    (λ f h. both_ways (is_at c r x.status) f h)

answered_free : (c : ConnNo) (r : StreamNo) (response : Response) (x : Exchange) → is_at c r (answered c r response x).status ≡ true → ⊥
answered_free c r response x =
    one_free c r x (answered_lease response x)
    (cond_both (is_misdirected response x) (moved (as_misdirected x)) (ended_by (outcome.Answered response) x) (λ (z : Exchange). is_at c r z.status ≡ false)
    (λ t. moved_unleased c r (as_misdirected x)) (λ f. refl))

-- ---- each exchange

map_free : (c : ConnNo) (r : StreamNo) (f : Exchange → Exchange) (es : List Exchange) → ((x : Exchange) → is_at c r (f x).status ≡ true → ⊥) → AreFree c r (map f es)
map_free c r f es free n h = map_at (λ (o p : Option Exchange). HasLease c r p → ⊥) n f es (λ k. k) free h

pub free_answered : (c : ConnNo) (r : StreamNo) (response : Response) (es : List Exchange) → AreFree c r (map (answered c r response) es)
free_answered c r response es = map_free c r (answered c r response) es (answered_free c r response)

pub free_refused : (c : ConnNo) (r : StreamNo) (es : List Exchange) → AreFree c r (map (refused c r) es)
free_refused c r es = map_free c r (refused c r) es (λ x. one_free c r x (moved x) (moved_unleased c r x))

pub free_ended_at : (c : ConnNo) (r : StreamNo) (how : Outcome) (es : List Exchange) → AreFree c r (map (ended_at c r how) es)
free_ended_at c r how es = map_free c r (ended_at c r how) es (λ x. one_free c r x (ended_by how x) refl)

ended_unleased : (c : ConnNo) (r : StreamNo) (status : Status) → has_ended status ≡ true → is_at c r status ≡ true → ⊥
ended_unleased c r Waiting e h = absurd cc
ended_unleased c r (Leased d t by handed) e h = absurd cc
ended_unleased c r (Ended how) e h = absurd cc

pub free_shut : (c : ConnNo) (r : StreamNo) (how : Outcome) (es : List Exchange) → AreFree c r (map (ended_unless how) es)
free_shut c r how es =
    map_free c r (ended_unless how) es
    (λ x. cond_both (has_ended x.status) x (ended_by how x) (λ (z : Exchange). is_at c r z.status ≡ true → ⊥) (λ t h. ended_unleased c r x.status t h) (λ f h. absurd cc))

-- a lease that a GOAWAY leaves was handed, and isn't above the last stream
pub record IsLeft (c : ConnNo) (last r : StreamNo) (x : Exchange) : Type 0 where
  pub lease : is_at c r x.status ≡ true
  pub sent : is_unsent_at c r x.status ≡ false
  pub within : nat_lt last.0 r.0 ≡ false

left_by : (c : ConnNo) (last r : StreamNo) (status : Status) → is_left_out c last status ≡ false → is_at c r status ≡ true →
    (is_unsent_at c r status ≡ false) × (nat_lt last.0 r.0 ≡ false)
left_by c last r Waiting stays h = absurd cc
left_by c last r (Leased d t by handed) stays h =
    let parts = and_parts (d.0 == c.0) (t.0 == r.0) h in
    let out : Bool = not handed || nat_lt last.0 t.0 in
    let kept = or_parts (not handed) (nat_lt last.0 t.0) (false_from_ne_true out (λ k. both_ways (d.0 == c.0 && out) stays (and_from (d.0 == c.0) out parts.0 k))) in (
      false_from_ne_true (d.0 == c.0 && t.0 == r.0 && not handed) (λ k. both_ways (not handed) kept.0 (and_parts (d.0 == c.0 && t.0 == r.0) (not handed) k).1),
      subst (λ n. nat_lt last.0 n ≡ false) (eqb-true t.0 r.0 parts.1) kept.1,
    )
left_by c last r (Ended how) stays h = absurd cc

left_one : (c : ConnNo) (last r : StreamNo) (x : Exchange) → is_at c r (left_out c last x).status ≡ true → IsLeft c last r x
left_one c last r x =
    cond_both (is_left_out c last x.status) (moved x) x (λ (z : Exchange). is_at c r z.status ≡ true → IsLeft c last r x)
    (λ t h. absurd (both_ways (is_at c r (moved x).status) (moved_unleased c r x) h))
    (λ f h. let by = left_by c last r x.status f h in record { lease = h; sent = by.0; within = by.1 })

pub left_by_goaway : (c : ConnNo) (last r : StreamNo) (es : List Exchange) (n : ℕ) → HasLease c r (numbered n (map (left_out c last) es)) →
    IsSomeAnd (numbered n es) (IsLeft c last r)
left_by_goaway c last r es n h =
    map_at (λ (o p : Option Exchange). HasLease c r p → IsSomeAnd o (IsLeft c last r)) n (left_out c last) es (λ k. absurd k) (left_one c last r) h

-- ---- one exchange of the list, whose lease no other has

pub free_edit : (c : ConnNo) (r : StreamNo) (number : ℕ) (f : Exchange → Exchange) (es : List Exchange) (x : Exchange) → numbered number es ≡ Some x →
    (is_at c r (f x).status ≡ true → ⊥) →
    ((n : ℕ) → HasLease c r (numbered n es) → n ≡ number) → AreFree c r (edit number f es)
free_edit c r number f es x is_item without alone n h = elim (cases_eq n number) [
  | inl here ↦
      without (subst (HasLease c r) (edit_here number f es x is_item) (subst (λ k. HasLease c r (numbered k (edit number f es))) here h))
  | inr other ↦ other (alone n (subst (HasLease c r) (edit_other number n f es other) h))
]

-- one whose deadline has passed ends by it
pub timed_out_free : (c : ConnNo) (r : StreamNo) (now : Moment) (x : Exchange) → has_passed now x.ask.deadline ≡ true → is_at c r (timed_out x).status ≡ true → ⊥
timed_out_free c r now x = by x.ask.deadline
  where
    by : (deadline : Option Moment) → has_passed now deadline ≡ true → is_at c r (timed_out_at deadline x).status ≡ true → ⊥
    by None passed h = absurd cc
    by (Some m) passed h = absurd cc
