-- What a change of a connection leaves of it: that it goes forward, that it is gone, that it was opened, and that it is neither wanted, open nor draining.
use Rattle.std.proofs.Common.{◌≡◌, ◌<◌, ◌≤◌, ℕ, Option, Some, None, Bool, true, false, refl, ap, subst, ◌∙◌, arith}
use Rattle.std.specs.Prelude.{◌+◌, ◌&&◌, ◌||◌, not, nat_lt, nat_le}
use Rattle.std.proofs.lemmas.Bool.{cond_both, and_parts, both_ways, not-true, leb-true}
use Rattle.net_base.specs.declared.identity.Identity.{Identity}
use Rattle.net_base.specs.declared.numbers.CallerNo.{CallerNo}
use Rattle.net_base.specs.declared.numbers.ExchangeNo.{ExchangeNo}
use Rattle.net_base.specs.declared.numbers.Moment.{Moment}
use Rattle.net_base.specs.declared.numbers.StreamNo.{StreamNo}
use Rattle.model_changes.specs.Connections.{closing, dialing_by, suits, opened_with, refused_with, after_opened, stream_after, with_start}
use Rattle.model_histories.proofs.EffectLemmas.{Lasting, Leaves, going_on, going_by, leaves_closing}
use Rattle.model_authority.proofs.PhaseLemmas.{follows, excludes}
use Rattle.model_authority.specs.Statuses.{stage_of, is_wanted, is_dialing, is_open, is_draining, is_gone, is_busy, speaks_h2}
use Rattle.model_values.specs.declared.state.Connection.{Connection}
use Rattle.model_values.specs.declared.state.Phase.{Phase}
use Rattle.model_values.specs.declared.state.Phase.TheVariants.{Draining}

-- it is neither wanted, open nor draining
abbrev pub is_down : Phase → Bool
is_down p = not (is_wanted p || is_open p || is_draining p)

-- ---- one connection

-- of a pool that was shut down, and by the end of a connection, less is said
pub record Turns (shut closes : Bool) (x y : Connection) : Type 0 where
  pub forward : stage_of x.phase ≤ stage_of y.phase
  pub final : is_gone x.phase ≡ true → is_gone y.phase ≡ true
  pub busy : closes ≡ false → is_busy x.phase ≡ true → is_busy y.phase ≡ true
  pub next : closes ≡ false → is_busy x.phase ≡ true → x.next_stream ≤ y.next_stream
  pub down : shut ≡ true → is_down x.phase ≡ true → is_down y.phase ≡ true

pub turns_leaves : (shut closes : Bool) (x y : Connection) → Leaves x y → Turns shut closes x y
turns_leaves shut closes x y k = record {
  forward = leb-true (stage_of x.phase) (stage_of y.phase) (going_on (λ p q. nat_le (stage_of p) (stage_of q)) refl x.phase y.phase k.phase);
  final = going_by (λ p q. is_gone p) (λ p q. is_gone q) refl x.phase y.phase k.phase;
  busy = λ f. going_by (λ p q. is_busy p) (λ p q. is_busy q) refl x.phase y.phase k.phase;
  next = λ f h. let same : y.next_stream ≡ x.next_stream = ap (λ (l : Lasting). l.next_stream) k.lasts in omega arith;
  down = λ t. going_by (λ p q. is_down p) (λ p q. is_down q) refl x.phase y.phase k.phase;
}

-- from one on with the same phase and the same next stream
pub turns_from : (shut closes : Bool) (x z y : Connection) → z.phase ≡ x.phase → z.next_stream ≡ x.next_stream → Turns shut closes z y → Turns shut closes x y
turns_from shut closes x z y phase next k = record {
  forward = subst (λ p. stage_of p ≤ stage_of y.phase) phase k.forward;
  final = λ h. k.final (ap (λ (p : Phase). is_gone p) phase ∙ h);
  busy = λ f h. k.busy f (ap (λ (p : Phase). is_busy p) phase ∙ h);
  next = λ f h. subst (λ n. n ≤ y.next_stream) next (k.next f (ap (λ (p : Phase). is_busy p) phase ∙ h));
  down = λ t h. k.down t (ap (λ (p : Phase). is_down p) phase ∙ h);
}

pub turns_dialing : (shut closes : Bool) (who : CallerNo) (c : Connection) → is_wanted c.phase ≡ true → Turns shut closes c (dialing_by who c)
turns_dialing shut closes who c wanted = record {
  forward = leb-true (stage_of c.phase) 1 (follows is_wanted (λ p. nat_le (stage_of p) 1) refl c.phase wanted);
  final = λ h. absurd (both_ways (is_gone c.phase) (excludes is_wanted is_gone refl c.phase wanted) h);
  busy = λ f h. absurd (both_ways (is_busy c.phase) (excludes is_wanted is_busy refl c.phase wanted) h);
  next = λ f h. omega arith;
  down = λ t h. refl;
}

-- one that is being dialed opens only where the pool isn't shut down
pub turns_opened : (shut closes is_shut : Bool) (now : Moment) (id : Identity) (c : Connection) → is_dialing c.phase ≡ true → (shut ≡ true → is_shut ≡ true) →
    Turns shut closes c (after_opened is_shut now id c)
unfolding after_opened
turns_opened shut closes is_shut now id c dialing claim =
    let shown : Connection = record c { identity = Some id } in
    cond_both (not is_shut && suits c.group id) (opened_with now id c) (refused_with id c) (Turns shut closes c)
    (λ t. record {
      forward = leb-true (stage_of c.phase) 2 (follows is_dialing (λ p. nat_le (stage_of p) 2) refl c.phase dialing);
      final = λ h. absurd (both_ways (is_gone c.phase) (excludes is_dialing is_gone refl c.phase dialing) h);
      busy = λ f h. refl;
      next = λ f h. absurd (both_ways (is_busy c.phase) (excludes is_dialing is_busy refl c.phase dialing) h);
      down = λ is h. absurd (both_ways is_shut (not-true is_shut (and_parts (not is_shut) (suits c.group id) t).0) (claim is));
    })
    (λ f. turns_from shut closes c shown (closing shown) refl refl (turns_leaves shut closes shown (closing shown) (leaves_closing shown)))

-- each stream's number is below the next one
pub stream_rises : (r : StreamNo) (c : Connection) → r.0 < stream_after r c
stream_rises r c = cond_both (speaks_h2 c) (r.0 + 2) (r.0 + 1) (λ k. r.0 < k) (λ t. omega arith) (λ f. omega arith)

pub busy_with_start : (last : ℕ) (e : ExchangeNo) (r : StreamNo) (c : Connection) → is_open c.phase ≡ true → is_busy (with_start last e r c).phase ≡ true
unfolding with_start
busy_with_start last e r c opened =
    cond_both (nat_lt last (stream_after r c)) Draining c.phase (λ (p : Phase). is_busy p ≡ true) (λ t. refl) (λ f. follows is_open is_busy refl c.phase opened)

pub next_with_start : (last : ℕ) (e : ExchangeNo) (r : StreamNo) (c : Connection) → r.0 < (with_start last e r c).next_stream
unfolding with_start
next_with_start last e r c = stream_rises r c

pub turns_with_start : (shut closes : Bool) (last : ℕ) (e : ExchangeNo) (r : StreamNo) (c : Connection) → is_open c.phase ≡ true → r.0 ≡ c.next_stream →
    Turns shut closes c (with_start last e r c)
unfolding with_start
turns_with_start shut closes last e r c opened given =
    let rises : r.0 < stream_after r c = stream_rises r c in
    record {
      forward = cond_both (nat_lt last (stream_after r c)) Draining c.phase (λ (p : Phase). stage_of c.phase ≤ stage_of p)
          (λ t. leb-true (stage_of c.phase) 3 (follows is_open (λ p. nat_le (stage_of p) 3) refl c.phase opened)) (λ f. omega arith);
      final = λ h. absurd (both_ways (is_gone c.phase) (excludes is_open is_gone refl c.phase opened) h);
      busy = λ f h. busy_with_start last e r c opened;
      next = λ f h. omega arith;
      down = λ t h. absurd (both_ways (is_down c.phase) (excludes is_open is_down refl c.phase opened) h);
    }

-- ---- lists of connections

abbrev pub TurnsAt : Bool → Bool → Option Connection → Option Connection → Type 0
TurnsAt shut closes None None = Unit {0}
TurnsAt shut closes None (Some y) = shut ≡ false
TurnsAt shut closes (Some x) None = ⊥
TurnsAt shut closes (Some x) (Some y) = Turns shut closes x y
