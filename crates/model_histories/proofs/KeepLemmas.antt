-- What an entry of another worker, or of the pool itself, leaves of a connection as it was.
use Rattle.std.proofs.Common.{[], ◌≡◌, ℕ, List, Option, Some, None, Bool, true, false, refl, sym, ap, subst, ◌∙◌, map, filter}
use Rattle.std.specs.Prelude.{◌&&◌, ◌||◌, not, nat_lt, if◌then◌else◌}
use Rattle.std.proofs.lemmas.Bool.{cond_both, false_from_ne_true, both_ways, or_parts, or_from, and_left, and_right, not-true}
use Rattle.net_base.specs.declared.numbers.ExchangeNo.{ExchangeNo}
use Rattle.net_base.specs.declared.numbers.Moment.{Moment}
use Rattle.net_base.specs.declared.numbers.StreamNo.{StreamNo}
use Rattle.model_changes.specs.Connections.{closing, idle_from, has_run_out, idle_if_run_out, other_streams, is_start_of, without_start, without_exchange, stream_after, with_start, gone, after_shutdown}
use Rattle.model_histories.proofs.EditLemmas.{edit_at, map_at}
use Rattle.model_histories.proofs.EffectLemmas.{Lasting, Leaves, going_by, leaves_closing, leaves_without_start, leaves_without_exchange, leaves_after_shutdown, IsNew, AddsAt}
use Rattle.model_authority.proofs.PhaseLemmas.{each_phase, follows, excludes}
use Rattle.model_authority.specs.Lists.{numbered, edit}
use Rattle.model_authority.specs.Statuses.{is_wanted, is_dialing, is_open, is_draining, is_closing, is_busy, is_opening}
use Rattle.model_values.specs.declared.order.OrderMark.{OrderMark}
use Rattle.model_values.specs.declared.state.Connection.{Connection}
use Rattle.model_values.specs.declared.state.Phase.{Phase}
use Rattle.model_values.specs.declared.state.Phase.TheVariants.{Draining}

-- ---- one connection

-- what a worker holds of it stays as it is, and it isn't wanted again
pub record Keeps (x y : Connection) : Type 0 where
  pub caller : y.caller ≡ x.caller
  pub sent : y.sent ≡ x.sent
  pub started : y.started ≡ x.started
  pub dialing : is_dialing y.phase ≡ is_dialing x.phase
  pub busy : is_busy y.phase ≡ is_busy x.phase
  pub wanted : is_wanted y.phase ≡ true → is_wanted x.phase ≡ true

keeps_refl : (c : Connection) → Keeps c c
keeps_refl c = record { caller = refl; sent = refl; started = refl; dialing = refl; busy = refl; wanted = λ h. h }

-- one that is up stays up
pub keeps_up : (x y : Connection) → Keeps x y → is_opening x.phase ≡ false → is_opening y.phase ≡ false
keeps_up x y k up =
    let parts = or_parts (is_wanted x.phase) (is_dialing x.phase) up in
    or_from (is_wanted y.phase) (is_dialing y.phase) (false_from_ne_true (is_wanted y.phase) (λ w. both_ways (is_wanted x.phase) parts.0 (k.wanted w))) (k.dialing ∙ parts.1)

abbrev agree : Bool → Bool → Bool
agree a b = (a && b) || (not a && not b)

agreed : (a b : Bool) → agree a b ≡ true → a ≡ b
agreed true true h = refl
agreed true false h = absurd cc
agreed false true h = absurd cc
agreed false false h = refl

-- by any change by which one that isn't up yet doesn't close
keeps_leaves : (x y : Connection) → Leaves x y → (is_opening x.phase && is_closing y.phase) ≡ false → Keeps x y
keeps_leaves x y k calm =
    let still : not (is_opening x.phase && is_closing y.phase) ≡ true = ap not calm in
    record {
      caller = ap (λ (l : Lasting). l.caller) k.lasts;
      sent = ap (λ (l : Lasting). l.sent) k.lasts;
      started = ap (λ (l : Lasting). l.started) k.lasts;
      dialing = agreed (is_dialing y.phase) (is_dialing x.phase)
          (going_by (λ p q. not (is_opening p && is_closing q)) (λ p q. agree (is_dialing q) (is_dialing p)) refl x.phase y.phase k.phase still);
      busy = agreed (is_busy y.phase) (is_busy x.phase)
          (going_by (λ p q. not (is_opening p && is_closing q)) (λ p q. agree (is_busy q) (is_busy p)) refl x.phase y.phase k.phase still);
      wanted = going_by (λ p q. is_wanted q) (λ p q. is_wanted p) refl x.phase y.phase k.phase;
    }

keeps_leaves_up : (x y : Connection) → Leaves x y → is_opening x.phase ≡ false → Keeps x y
keeps_leaves_up x y k up = keeps_leaves x y k (and_left (is_opening x.phase) (is_closing y.phase) up)

pub keeps_closing : (c : Connection) → is_opening c.phase ≡ false → Keeps c (closing c)
keeps_closing c up = keeps_leaves_up c (closing c) (leaves_closing c) up

pub keeps_without_exchange : (r : StreamNo) (c : Connection) → is_opening c.phase ≡ false → Keeps c (without_exchange r c)
keeps_without_exchange r c up = keeps_leaves_up c (without_exchange r c) (leaves_without_exchange r c) up

calm : (p : Phase) → (is_opening p && is_closing p) ≡ false
calm p = not-true (is_opening p && is_closing p) (each_phase (λ q. not (is_opening q && is_closing q)) refl p)

-- only one that drains closes where its live streams run out
calm_run_out : (now : Moment) (live : List StreamNo) (orders : List OrderMark) (c : Connection) →
    (is_opening c.phase && is_closing (idle_if_run_out now c (record c { live = live; orders = orders })).phase) ≡ false
unfolding idle_if_run_out idle_from
calm_run_out now live orders c =
    let less : Connection = record c { live = live; orders = orders } in
    let idle : Connection = record less { idle_since = now } in
    let still : Connection → Type 0 = λ x. (is_opening c.phase && is_closing x.phase) ≡ false in
    cond_both (has_run_out c less) (if is_draining c.phase then closing idle else idle) less still
    (λ t. cond_both (is_draining c.phase) (closing idle) idle still
    (λ d. and_left (is_opening c.phase) (is_closing (closing idle).phase) (excludes is_draining is_opening refl c.phase d)) (λ f. calm c.phase)) (λ f. calm c.phase)

pub keeps_without_start : (now : Moment) (r : StreamNo) (c : Connection) → Keeps c (without_start now r c)
unfolding without_start
keeps_without_start now r c =
    keeps_leaves c (without_start now r c) (leaves_without_start now r c) (calm_run_out now (other_streams r c.live) (filter (λ m. not (is_start_of r m)) c.orders) c)

calm_after_shutdown : (c : Connection) → (is_opening c.phase && is_closing (after_shutdown c).phase) ≡ false
unfolding after_shutdown
calm_after_shutdown c =
    let up : Connection = if is_open c.phase || is_draining c.phase then closing c else c in
    let still : Connection → Type 0 = λ x. (is_opening c.phase && is_closing x.phase) ≡ false in
    cond_both (is_wanted c.phase) (gone c) up still (λ w. and_right (is_opening c.phase) false refl)
    (λ f. cond_both (is_open c.phase || is_draining c.phase) (closing c) c still
    (λ t. and_left (is_opening c.phase) (is_closing (closing c).phase) (excludes (λ p. is_open p || is_draining p) is_opening refl c.phase t)) (λ g. calm c.phase))

pub keeps_after_shutdown : (c : Connection) → Keeps c (after_shutdown c)
keeps_after_shutdown c = keeps_leaves c (after_shutdown c) (leaves_after_shutdown c) (calm_after_shutdown c)

pub keeps_with_start : (last : ℕ) (e : ExchangeNo) (r : StreamNo) (c : Connection) → is_open c.phase ≡ true → Keeps c (with_start last e r c)
unfolding with_start
keeps_with_start last e r c opened =
    let P : Phase → Type 0 = λ p. (is_dialing p ≡ false) × (is_busy p ≡ true) × (is_wanted p ≡ false) in
    let before : P c.phase = (excludes is_open is_dialing refl c.phase opened, follows is_open is_busy refl c.phase opened, excludes is_open is_wanted refl c.phase opened) in
    let later : P (with_start last e r c).phase = cond_both (nat_lt last (stream_after r c)) Draining c.phase P (λ t. (refl, refl, refl)) (λ f. before) in
    record {
      caller = refl;
      sent = refl;
      started = refl;
      dialing = later.0 ∙ sym before.0;
      busy = later.1 ∙ sym before.1;
      wanted = λ w. absurd (both_ways (is_wanted (with_start last e r c).phase) later.2 w);
    }

-- ---- lists of connections

-- nobody has dialed a new one
pub new_untouched : (c : Connection) → IsNew c → (is_wanted c.phase ≡ true) × (c.sent ≡ 0) × (c.started ≡ [])
new_untouched c new = subst (λ (x : Connection). (is_wanted x.phase ≡ true) × (x.sent ≡ 0) × (x.started ≡ [])) (sym new.is_new) (refl, refl, refl)

abbrev pub KeptAt : Option Connection → Option Connection → Type 0
KeptAt None None = Unit {0}
KeptAt None (Some y) = IsNew y
KeptAt (Some x) None = ⊥
KeptAt (Some x) (Some y) = Keeps x y

pub kept_refl : (o : Option Connection) → KeptAt o o
kept_refl None = tt
kept_refl (Some c) = keeps_refl c

pub kept_adds : (o p : Option Connection) → AddsAt o p → KeptAt o p
kept_adds None None a = tt
kept_adds None (Some y) a = a
kept_adds (Some x) None a = a
kept_adds (Some x) (Some y) a = subst (Keeps x) (sym a) (keeps_refl x)

-- each connection is kept, and further ones are new
abbrev pub AreKept : List Connection → List Connection → Type 0
AreKept xs ys = (n : ℕ) → KeptAt (numbered n xs) (numbered n ys)

pub kept_same : (xs : List Connection) → AreKept xs xs
kept_same xs n = kept_refl (numbered n xs)

pub kept_edit : (number : ℕ) (f : Connection → Connection) (xs : List Connection) → ((c : Connection) → numbered number xs ≡ Some c → Keeps c (f c)) →
    AreKept xs (edit number f xs)
kept_edit number f xs keeps n = edit_at KeptAt number n f xs kept_refl keeps

pub kept_map : (f : Connection → Connection) (xs : List Connection) → ((c : Connection) → Keeps c (f c)) → AreKept xs (map f xs)
kept_map f xs keeps n = map_at KeptAt n f xs tt keeps
