-- What a change of an exchange leaves of it: its lease or none, and its end.
use Rattle.std.proofs.Common.{◌≡◌, ℕ, List, Option, Some, None, Bool, true, false, refl, sym, ◌∙◌}
use Rattle.std.specs.Prelude.{◌&&◌, ◌==◌, not}
use Rattle.std.specs.List.{list_any}
use Rattle.std.proofs.lemmas.Bool.{cond_both, and_parts, both_ways, eqb-true, eqb-false, ne_eqb}
use Rattle.net_base.specs.declared.end_cause.EndCause.{EndCause}
use Rattle.net_base.specs.declared.numbers.ConnNo.{ConnNo}
use Rattle.net_base.specs.declared.numbers.Moment.{Moment}
use Rattle.net_base.specs.declared.numbers.StreamNo.{StreamNo}
use Rattle.net_base.specs.declared.response.Response.{Response}
use Rattle.model_changes.specs.Connections.{is_start_of}
use Rattle.model_histories.proofs.CauseLemmas.{by_moved, by_refused, by_ended_at, by_left_out, by_answered, by_lost}
use Rattle.model_laws.proofs.ExchangeSteps.{leased_at, leased_on, left_open}
use Rattle.model_steps.specs.Exchanges.{ended_by, timed_out_at, timed_out, ended_unless, ended_if_waiting, moved, handed_lease, handed_by}
use Rattle.model_steps.specs.Answered.{as_misdirected, answered}
use Rattle.model_steps.specs.Goaway.{left_out}
use Rattle.model_steps.specs.Lost.{as_retried, lost}
use Rattle.model_steps.specs.StreamEnds.{refused, ended_at}
use Rattle.model_authority.specs.Statuses.{is_waiting, has_ended, is_on, is_at, is_unsent_at}
use Rattle.model_values.specs.declared.order.OrderMark.{OrderMark}
use Rattle.model_values.specs.declared.outcome.Outcome.{Outcome}
use Rattle.model_values.specs.declared.outcome.Outcome.TheVariants as outcome
use Rattle.model_values.specs.declared.state.Exchange.{Exchange}
use Rattle.model_values.specs.declared.state.Status.{Status}
use Rattle.model_values.specs.declared.state.Status.TheVariants.{Waiting, Leased, Ended}

-- ---- one exchange

-- it gets no lease, loses one on a connection that ends, and stays ended; and a lease that isn't handed wasn't
pub record Yields (ends : ℕ → Bool) (x y : Exchange) : Type 0 where
  pub leases : (c : ConnNo) (r : StreamNo) → is_at c r y.status ≡ true → (is_at c r x.status ≡ true) × (ends c.0 ≡ false)
  pub ended : has_ended x.status ≡ true → has_ended y.status ≡ true
  pub unsent : (c : ConnNo) (r : StreamNo) → is_unsent_at c r y.status ≡ true → is_unsent_at c r x.status ≡ true

-- no connection ends
abbrev pub none_ends : ℕ → Bool
none_ends n = false

pub yields_same : (e : Exchange) → Yields none_ends e e
yields_same e = record { leases = λ c r h. (h, refl); ended = λ h. h; unsent = λ c r h. h }

pub yields_end : (ends : ℕ → Bool) (how : Outcome) (e : Exchange) → Yields ends e (ended_by how e)
yields_end ends how e = record { leases = λ c r h. absurd cc; ended = λ h. refl; unsent = λ c r h. absurd cc }

pub yields_trans : (ends : ℕ → Bool) (x y z : Exchange) → Yields ends x y → Yields none_ends y z → Yields ends x z
yields_trans ends x y z k l = record { leases = λ c r h. k.leases c r (l.leases c r h).0; ended = λ h. l.ended (k.ended h); unsent = λ c r h. k.unsent c r (l.unsent c r h) }

pub yields_ended_unless : (how : Outcome) (e : Exchange) → Yields none_ends e (ended_unless how e)
yields_ended_unless how e = cond_both (has_ended e.status) e (ended_by how e) (Yields none_ends e) (λ t. yields_same e) (λ f. yields_end none_ends how e)

pub yields_ended_if_waiting : (how : Outcome) (e : Exchange) → Yields none_ends e (ended_if_waiting how e)
yields_ended_if_waiting how e = cond_both (is_waiting e.status) (ended_by how e) e (Yields none_ends e) (λ t. yields_end none_ends how e) (λ f. yields_same e)

pub yields_timed_out : (e : Exchange) → Yields none_ends e (timed_out e)
yields_timed_out e = by e.ask.deadline
  where
    by : (deadline : Option Moment) → Yields none_ends e (timed_out_at deadline e)
    by None = yields_same e
    by (Some m) = yields_end none_ends (outcome.TimedOut m) e

-- a lease that isn't on the connection is on another
lease_elsewhere : (conn c : ConnNo) (r : StreamNo) (status : Status) → is_on conn status ≡ false → is_at c r status ≡ true → (conn.0 == c.0) ≡ false
lease_elsewhere conn c r Waiting f h = absurd cc
lease_elsewhere conn c r (Leased d t by handed) f h =
    let here : d.0 ≡ c.0 = eqb-true d.0 c.0 (and_parts (d.0 == c.0) (t.0 == r.0) h).0 in
    ne_eqb conn.0 c.0 (λ e. eqb-false d.0 conn.0 f (here ∙ sym e))
lease_elsewhere conn c r (Ended how) f h = absurd cc

pub moved_unleased : (c : ConnNo) (r : StreamNo) (e : Exchange) → is_at c r (moved e).status ≡ false
moved_unleased c r e = by_moved (λ x. is_at c r x.status ≡ false) e refl (λ f. refl)

-- one whose start isn't handed has the lease
pub unsent_leased : (c : ConnNo) (r : StreamNo) (status : Status) → is_unsent_at c r status ≡ true → is_at c r status ≡ true
unsent_leased c r Waiting h = absurd cc
unsent_leased c r (Leased d t way handed) h = (and_parts (d.0 == c.0 && t.0 == r.0) (not handed) h).0
unsent_leased c r (Ended how) h = absurd cc

-- one that moves had a lease, and has none. m is the exchange with its marks
yields_moved : (ends : ℕ → Bool) (e m : Exchange) → has_ended e.status ≡ false → Yields ends e (moved m)
yields_moved ends e m open_lease = record {
  leases = λ c r h. absurd (both_ways (is_at c r (moved m).status) (moved_unleased c r m) h);
  ended = λ h. absurd (both_ways (has_ended e.status) open_lease h);
  unsent = λ c r h. absurd (both_ways (is_at c r (moved m).status) (moved_unleased c r m) (unsent_leased c r (moved m).status h));
}

pub yields_answered : (c : ConnNo) (r : StreamNo) (response : Response) (e : Exchange) → Yields none_ends e (answered c r response e)
yields_answered c r response e =
    by_answered (Yields none_ends e) c r response e (λ t m. yields_moved none_ends e (as_misdirected e) (leased_at c r e.status t))
    (λ t. yields_end none_ends (outcome.Answered response) e) (yields_same e)

pub yields_refused : (c : ConnNo) (r : StreamNo) (e : Exchange) → Yields none_ends e (refused c r e)
yields_refused c r e = by_refused (Yields none_ends e) c r e (λ t. yields_moved none_ends e e (leased_at c r e.status t)) (yields_same e)

pub yields_ended_at : (c : ConnNo) (r : StreamNo) (how : Outcome) (e : Exchange) → Yields none_ends e (ended_at c r how e)
yields_ended_at c r how e = by_ended_at (Yields none_ends e) c r how e (λ t. yields_end none_ends how e) (yields_same e)

pub yields_left_out : (c : ConnNo) (last : StreamNo) (e : Exchange) → Yields none_ends e (left_out c last e)
yields_left_out c last e = by_left_out (Yields none_ends e) c last e (λ t. yields_moved none_ends e e (left_open c last e.status t)) (yields_same e)

pub yields_lost : (c : ConnNo) (cause : EndCause) (heard : List StreamNo) (e : Exchange) → Yields (λ n. c.0 == n) e (lost c cause heard e)
yields_lost c cause heard e =
    let ends : ℕ → Bool = λ n. c.0 == n in
    by_lost (Yields ends e) c cause heard e (λ t m. yields_moved ends e (as_retried e) (leased_on c e.status t)) (λ t f. yields_end ends (outcome.Lost c cause) e)
    (λ f. record { leases = λ d r h. (h, lease_elsewhere c d r e.status f h); ended = λ h. h; unsent = λ d r h. h })

-- the handing of a start keeps its lease
handed_at : (conn : ConnNo) (orders : List OrderMark) (c : ConnNo) (r : StreamNo) (status : Status) → is_at c r (handed_lease conn orders status) ≡ true → is_at c r status ≡ true
handed_at conn orders c r Waiting h = h
handed_at conn orders c r (Leased d t way handed) h =
    cond_both (d.0 == conn.0 && list_any (is_start_of t) orders) (Leased d t way true) (Leased d t way handed) (λ (x : Status). is_at c r x ≡ true → is_at c r (Leased d t way handed) ≡ true)
    (λ k i. i) (λ k i. i) h
handed_at conn orders c r (Ended how) h = h

handed_ended : (conn : ConnNo) (orders : List OrderMark) (status : Status) → has_ended status ≡ true → has_ended (handed_lease conn orders status) ≡ true
handed_ended conn orders Waiting h = absurd cc
handed_ended conn orders (Leased d t way handed) h = absurd cc
handed_ended conn orders (Ended how) h = h

-- what isn't handed then wasn't handed before
handed_unsent : (conn : ConnNo) (orders : List OrderMark) (c : ConnNo) (r : StreamNo) (status : Status) → is_unsent_at c r (handed_lease conn orders status) ≡ true →
    is_unsent_at c r status ≡ true
handed_unsent conn orders c r Waiting h = h
handed_unsent conn orders c r (Leased d t way handed) h =
    cond_both (d.0 == conn.0 && list_any (is_start_of t) orders) (Leased d t way true) (Leased d t way handed)
    (λ (x : Status). is_unsent_at c r x ≡ true → is_unsent_at c r (Leased d t way handed) ≡ true) (λ k i. let never : false ≡ true = (and_parts (d.0 == c.0 && t.0 == r.0) false i).1 in absurd cc)
    (λ k i. i) h
handed_unsent conn orders c r (Ended how) h = h

pub yields_handed : (conn : ConnNo) (orders : List OrderMark) (e : Exchange) → Yields none_ends e (handed_by conn orders e)
yields_handed conn orders e = record {
  leases = λ c r h. (handed_at conn orders c r e.status h, refl);
  ended = handed_ended conn orders e.status;
  unsent = λ c r h. handed_unsent conn orders c r e.status h;
}
