-- What a change of an exchange leaves of its lease where the start isn't handed yet.
use Rattle.std.proofs.Common.{◌≡◌, ℕ, List, Option, Some, None, Bool, true, false, refl, sym, ap, ◌∙◌, is_some}
use Rattle.std.specs.Prelude.{◌==◌, ◌&&◌, not, if◌then◌else◌}
use Rattle.std.specs.List.{list_any}
use Rattle.std.proofs.lemmas.Bool.{cond_both, cond-true, cond-false, and_parts, both_ways, not-true, false_from_ne_true, eqb-true}
use Rattle.net_base.specs.declared.end_cause.EndCause.{EndCause}
use Rattle.net_base.specs.declared.numbers.ConnNo.{ConnNo}
use Rattle.net_base.specs.declared.numbers.Moment.{Moment}
use Rattle.net_base.specs.declared.numbers.StreamNo.{StreamNo}
use Rattle.net_base.specs.declared.response.Response.{Response}
use Rattle.model_changes.specs.Connections.{is_start_of}
use Rattle.model_laws.proofs.ReleaseLemmas.{HasUnsent}
use Rattle.model_laws.proofs.YieldLemmas.{yields_handed}
use Rattle.model_histories.proofs.CauseLemmas.{by_moved}
use Rattle.model_steps.specs.Answered.{is_misdirected, as_misdirected, answered_lease, answered}
use Rattle.model_steps.specs.Exchanges.{ended_by, timed_out_at, timed_out, ended_unless, ended_if_waiting, moved, handed_lease, handed_by}
use Rattle.model_steps.specs.Goaway.{is_left_out, left_out}
use Rattle.model_steps.specs.Lost.{may_be_sent, as_retried, lost_lease, lost}
use Rattle.model_steps.specs.StreamEnds.{refused, ended_at}
use Rattle.model_authority.specs.Statuses.{is_waiting, has_ended, is_on, is_at, is_unsent_at}
use Rattle.model_values.specs.declared.entry.Way.{Way}
use Rattle.model_values.specs.declared.order.OrderMark.{OrderMark}
use Rattle.model_values.specs.declared.outcome.Outcome.{Outcome}
use Rattle.model_values.specs.declared.outcome.Outcome.TheVariants as outcome
use Rattle.model_values.specs.declared.state.Exchange.{Exchange}
use Rattle.model_values.specs.declared.state.Status.{Status}
use Rattle.model_values.specs.declared.state.Status.TheVariants.{Waiting, Leased, Ended}

-- ---- one exchange

-- of the leases that aren't handed yet these are taken, and the others stay
pub record Spends (taken : ConnNo → StreamNo → Bool) (o p : Option Exchange) : Type 0 where
  pub kept : (c : ConnNo) (r : StreamNo) → HasUnsent c r o → taken c r ≡ false → HasUnsent c r p
  pub came : (c : ConnNo) (r : StreamNo) → HasUnsent c r p → HasUnsent c r o × (taken c r ≡ false)

abbrev pub none_taken : ConnNo → StreamNo → Bool
none_taken c r = false

-- it has no lease that isn't handed yet
abbrev pub NoneUnsent : Exchange → Type 0
NoneUnsent y = (c : ConnNo) (r : StreamNo) → is_unsent_at c r y.status ≡ true → ⊥

pub spends_same : (o : Option Exchange) → Spends none_taken o o
spends_same o = record { kept = λ c r h f. h; came = λ c r h. (h, refl) }

pub spends_then : (taken : ConnNo → StreamNo → Bool) (o p q : Option Exchange) → Spends taken o p → Spends none_taken p q → Spends taken o q
spends_then taken o p q k l = record { kept = λ c r h f. l.kept c r (k.kept c r h f) refl; came = λ c r h. k.came c r (l.came c r h).0 }

pub spends_none : (taken : ConnNo → StreamNo → Bool) → Spends taken None None
spends_none taken = record { kept = λ c r h f. absurd h; came = λ c r h. absurd h }

-- a lease that isn't handed yet
pub unsent_is : (c : ConnNo) (r : StreamNo) (status : Status) → is_unsent_at c r status ≡ true → (by : Way) × (status ≡ Leased c r by false)
unsent_is c r Waiting h = absurd cc
unsent_is c r (Leased d t by handed) h =
    let first = and_parts (d.0 == c.0 && t.0 == r.0) (not handed) h in
    let here = and_parts (d.0 == c.0) (t.0 == r.0) first.0 in
    let conn : ℕ → ConnNo = λ k. record { 0 = k } in
    let stream : ℕ → StreamNo = λ k. record { 0 = k } in
    let same_conn : d ≡ c = ap conn (eqb-true d.0 c.0 here.0) in
    let same_stream : t ≡ r = ap stream (eqb-true t.0 r.0 here.1) in
    let not_handed : handed ≡ false = not-true handed first.1 in
    (by, cc)
unsent_is c r (Ended how) h = absurd cc

-- where the leases that are taken are those of a test, and what becomes of their exchange has none
spends_if : (taken : ConnNo → StreamNo → Bool) (test : Status → Bool) (x y : Exchange) →
    ((c : ConnNo) (r : StreamNo) (by : Way) → taken c r ≡ test (Leased c r by false)) → NoneUnsent y →
    Spends taken (Some x) (Some (if test x.status then y else x))
spends_if taken test x y same none =
    cond_both (test x.status) y x (λ (z : Exchange). Spends taken (Some x) (Some z))
    (λ t. record { kept = λ c r h f. absurd (both_ways (test x.status) (sym (at c r h) ∙ f) t); came = λ c r h. absurd (none c r h) })
    (λ f. record { kept = λ c r h k. h; came = λ c r h. (h, at c r h ∙ f) })
  where
    at : (c : ConnNo) (r : StreamNo) → is_unsent_at c r x.status ≡ true → taken c r ≡ test x.status
    at c r h = let u = unsent_is c r x.status h in same c r u.0 ∙ ap test (sym u.1)

pub none_ended : (how : Outcome) (e : Exchange) → NoneUnsent (ended_by how e)
none_ended how e c r h = absurd cc

none_moved : (e : Exchange) → NoneUnsent (moved e)
none_moved e = by_moved NoneUnsent e (none_ended outcome.TooManyMoves e) (λ f c r h. absurd cc)

pub spends_answered : (conn : ConnNo) (stream : StreamNo) (response : Response) (x : Exchange) →
    Spends (λ c r. c.0 == conn.0 && r.0 == stream.0) (Some x) (Some (answered conn stream response x))
spends_answered conn stream response x =
    spends_if (λ c r. c.0 == conn.0 && r.0 == stream.0) (is_at conn stream) x (answered_lease response x) (λ c r by. refl)
    (cond_both (is_misdirected response x) (moved (as_misdirected x)) (ended_by (outcome.Answered response) x) NoneUnsent (λ t. none_moved (as_misdirected x))
    (λ f. none_ended (outcome.Answered response) x))

pub spends_refused : (conn : ConnNo) (stream : StreamNo) (x : Exchange) →
    Spends (λ c r. c.0 == conn.0 && r.0 == stream.0) (Some x) (Some (refused conn stream x))
spends_refused conn stream x = spends_if (λ c r. c.0 == conn.0 && r.0 == stream.0) (is_at conn stream) x (moved x) (λ c r by. refl) (none_moved x)

pub spends_ended_at : (conn : ConnNo) (stream : StreamNo) (how : Outcome) (x : Exchange) →
    Spends (λ c r. c.0 == conn.0 && r.0 == stream.0) (Some x) (Some (ended_at conn stream how x))
spends_ended_at conn stream how x = spends_if (λ c r. c.0 == conn.0 && r.0 == stream.0) (is_at conn stream) x (ended_by how x) (λ c r by. refl) (none_ended how x)

-- what isn't handed yet is left out, wherever the last stream is
pub spends_left_out : (conn : ConnNo) (last : StreamNo) (x : Exchange) → Spends (λ c r. c.0 == conn.0) (Some x) (Some (left_out conn last x))
spends_left_out conn last x = spends_if (λ c r. c.0 == conn.0) (is_left_out conn last) x (moved x) (λ c r by. whole (c.0 == conn.0)) (none_moved x)
  where
    whole : (b : Bool) → b ≡ b && true
    whole true = refl
    whole false = refl

pub spends_lost : (conn : ConnNo) (cause : EndCause) (heard : List StreamNo) (x : Exchange) →
    Spends (λ c r. c.0 == conn.0) (Some x) (Some (lost conn cause heard x))
spends_lost conn cause heard x =
    spends_if (λ c r. c.0 == conn.0) (is_on conn) x (lost_lease conn cause heard x) (λ c r by. refl)
    (cond_both (may_be_sent x heard x.status) (moved (as_retried x)) (ended_by (outcome.Lost conn cause) x) NoneUnsent (λ t. none_moved (as_retried x))
    (λ f. none_ended (outcome.Lost conn cause) x))

pub spends_ended_if_waiting : (how : Outcome) (x : Exchange) → Spends none_taken (Some x) (Some (ended_if_waiting how x))
spends_ended_if_waiting how x = spends_if none_taken is_waiting x (ended_by how x) (λ c r by. refl) (none_ended how x)

-- one that ends where it may have a lease, and one that ends where it has none
pub spends_all : (x y : Exchange) → NoneUnsent y → Spends (λ c r. true) (Some x) (Some y)
spends_all x y none = record { kept = λ c r h f. absurd cc; came = λ c r h. absurd (none c r h) }

pub spends_nothing : (x y : Exchange) → NoneUnsent x → NoneUnsent y → Spends none_taken (Some x) (Some y)
spends_nothing x y old none = record { kept = λ c r h f. absurd (old c r h); came = λ c r h. absurd (none c r h) }

pub none_ended_unless : (how : Outcome) (x : Exchange) → NoneUnsent (ended_unless how x)
none_ended_unless how x = cond_both (has_ended x.status) x (ended_by how x) NoneUnsent (λ t. by x.status t) (λ f. none_ended how x)
  where
    by : (status : Status) → has_ended status ≡ true → (c : ConnNo) (r : StreamNo) → is_unsent_at c r status ≡ true → ⊥
    by Waiting t c r h = absurd cc
    by (Leased d u way handed) t c r h = absurd cc
    by (Ended outcome) t c r h = absurd cc

pub none_waiting : (x : Exchange) → is_waiting x.status ≡ true → NoneUnsent x
none_waiting x = by x.status
  where
    by : (status : Status) → is_waiting status ≡ true → (c : ConnNo) (r : StreamNo) → is_unsent_at c r status ≡ true → ⊥
    by Waiting t c r h = absurd cc
    by (Leased d u way handed) t c r h = absurd cc
    by (Ended outcome) t c r h = absurd cc

pub none_timed_out : (x : Exchange) → is_some x.ask.deadline ≡ true → NoneUnsent (timed_out x)
none_timed_out x = by x.ask.deadline
  where
    by : (deadline : Option Moment) → is_some deadline ≡ true → NoneUnsent (timed_out_at deadline x)
    by None h = absurd cc
    by (Some m) h = none_ended (outcome.TimedOut m) x

-- the orders of a connection hand the leases whose starts are among them
pub spends_handed : (conn : ConnNo) (orders : List OrderMark) (x : Exchange) →
    Spends (λ c r. c.0 == conn.0 && list_any (is_start_of r) orders) (Some x) (Some (handed_by conn orders x))
spends_handed conn orders x = record { kept = kept; came = came }
  where
    kept : (c : ConnNo) (r : StreamNo) → is_unsent_at c r x.status ≡ true → (c.0 == conn.0 && list_any (is_start_of r) orders) ≡ false →
        is_unsent_at c r (handed_lease conn orders x.status) ≡ true
    kept c r h f =
        let u = unsent_is c r x.status h in
        let same : handed_lease conn orders x.status ≡ x.status =
        ap (λ (t : Status). handed_lease conn orders t) u.1
        ∙ cond-false (c.0 == conn.0 && list_any (is_start_of r) orders) (Leased c r u.0 true) (Leased c r u.0 false) f
        ∙ sym u.1 in
        ap (λ (t : Status). is_unsent_at c r t) same ∙ h

    came : (c : ConnNo) (r : StreamNo) → is_unsent_at c r (handed_lease conn orders x.status) ≡ true →
        (is_unsent_at c r x.status ≡ true) × ((c.0 == conn.0 && list_any (is_start_of r) orders) ≡ false)
    came c r h =
        let was : is_unsent_at c r x.status ≡ true = (yields_handed conn orders x).unsent c r h in
        let u = unsent_is c r x.status was in
        let test : Bool = c.0 == conn.0 && list_any (is_start_of r) orders in (
          was,
          false_from_ne_true test
              (λ t.
              let now : handed_lease conn orders x.status ≡ Leased c r u.0 true =
              ap (λ (k : Status). handed_lease conn orders k) u.1 ∙ cond-true test (Leased c r u.0 true) (Leased c r u.0 false) t in
              let never : false ≡ true = (and_parts (c.0 == c.0 && r.0 == r.0) false (sym (ap (λ (k : Status). is_unsent_at c r k) now) ∙ h)).1 in
              absurd cc),
        )
