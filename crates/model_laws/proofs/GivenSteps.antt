-- Each change of a connection keeps the streams that it was given in order.
use Rattle.std.proofs.Common.{[], ◌≡◌, ◌<◌, ◌≤◌, ℕ, List, ◌∷◌, ◌++◌, ◌⊎◌, Bool, true, false, inl, inr, refl, sym, subst, ◌∙◌, arith, filter, All, AllPairs, Contains, IsTrue}
use Rattle.std.specs.Prelude.{◌==◌, ◌&&◌, ◌||◌, not, nat_le}
use Rattle.std.proofs.lemmas.Bool.{cond_both, and_parts, both_ways, not-true, not_from_false, ne_eqb}
use Rattle.std.proofs.lemmas.List.Elements.{All-contains, Contains-append_left, Contains-append_right, Contains-append_cases}
use Rattle.std.proofs.lemmas.List.Kept.{AllPairs-filter}
use Rattle.net_base.specs.declared.numbers.ConnNo.{ConnNo}
use Rattle.net_base.specs.declared.numbers.Moment.{Moment}
use Rattle.net_base.specs.declared.numbers.StreamNo.{StreamNo}
use Rattle.net_base.specs.declared.origin.Origin.{Origin}
use Rattle.model_changes.specs.Connections.{is_stream, is_start, is_start_of, streams_started, closing, idle_from, has_run_out, idle_if_run_out, other_streams, without_stream, without_start, with_limit, excluding, is_unsent_stream, streams_left, draining, going_away, gone, with_sent}
use Rattle.model_laws.proofs.OrderLemmas.{kept_in, in_kept}
use Rattle.model_laws.proofs.RowLemmas.{pairs_none}
use Rattle.model_laws.proofs.StartSteps.{none_started}
use Rattle.model_laws.proofs.StreamLemmas.{all_each, all_fewer, pairs_front, pairs_back, pairs_across, pairs_append, starts_of_others, starts_of_none}
use Rattle.model_laws.specs.Sound.{streams_given, IsOdd, IsThrough, GivesStreamsInOrder}
use Rattle.model_authority.proofs.PhaseLemmas.{excludes}
use Rattle.model_authority.specs.Lists.{is_nil}
use Rattle.model_authority.specs.Statuses.{is_open, is_draining, is_closing, is_gone, speaks_h2}
use Rattle.model_values.specs.declared.config.Config.{Config}
use Rattle.model_values.specs.declared.order.OrderMark.{OrderMark}
use Rattle.model_values.specs.declared.order.OrderMark.TheVariants as mark
use Rattle.model_values.specs.declared.state.Connection.{Connection}
use Rattle.model_values.specs.declared.state.Exchange.{Exchange}
use Rattle.model_values.specs.declared.state.Phase.{Phase}
use Rattle.model_values.specs.declared.state.Phase.TheVariants.{Draining, Closing}

abbrev pub Rises : StreamNo → StreamNo → Type 0
Rises a b = a.0 < b.0

-- ---- fewer streams

-- the same were started, the others that it gives and those that are live are among those of before, those that are ordered to start
-- stay live, and those that are live stay given
pub record Lessens (x y : Connection) : Type 0 where
  pub speaks : speaks_h2 y ≡ speaks_h2 x
  pub next : y.next_stream ≡ x.next_stream
  pub started : y.started ≡ x.started
  pub opened : is_open y.phase ≡ true → is_open x.phase ≡ true
  pub through : IsThrough x → IsThrough y
  pub rising : AllPairs Rises (streams_started x.orders) → AllPairs Rises (streams_started y.orders)
  pub ordered : (r : StreamNo) → Contains (streams_started y.orders) r → Contains (streams_started x.orders) r × Contains y.live r
  pub live : (r : StreamNo) → Contains y.live r → Contains x.live r × ((¬ IsThrough y) → Contains (streams_given y) r)

given_lessens : (config : Config) (x y : Connection) → Lessens x y → GivesStreamsInOrder config x → GivesStreamsInOrder config y
given_lessens config x y k h =
    let os : List StreamNo = streams_started x.orders in
    let rest : List StreamNo = streams_started y.orders in
    let rising : AllPairs Rises (x.started ++ rest) =
    pairs_append Rises x.started rest (pairs_front Rises x.started os h.rising) (k.rising (pairs_back Rises x.started os h.rising))
    (λ a b first second. pairs_across Rises x.started os a b h.rising first (k.ordered b second).0) in
    record {
      rising = subst (λ (rs : List StreamNo). AllPairs Rises (rs ++ rest)) (sym k.started) rising;
      within = all_fewer (λ r. r.0 ≤ config.last_stream) (streams_given x) (streams_given y) fewer h.within;
      odd = λ t. all_fewer (λ r. IsOdd r.0) (streams_given x) (streams_given y) fewer (h.odd (sym k.speaks ∙ t));
      next = λ t o. subst IsOdd (sym k.next) (h.next (sym k.speaks ∙ t) (k.opened o));
      ordered = all_each (Contains y.live) rest (λ r has. (k.ordered r has).1);
      live = λ more. all_each (Contains (streams_given y)) y.live (λ r has. (k.live r has).1 more);
      last = λ f more.
          let behind : All (λ r. All (λ other. other.0 ≤ r.0) (streams_given x)) x.live = h.last (λ t. f (k.speaks ∙ t))
          (λ t. more (k.through t)) in
          all_each (λ r. All (λ other. other.0 ≤ r.0) (streams_given y)) y.live
          (λ r has.
          all_fewer (λ other. other.0 ≤ r.0) (streams_given x) (streams_given y) fewer
          (All-contains (λ u. All (λ other. other.0 ≤ u.0) (streams_given x)) x.live r behind (k.live r has).0));
    }
  where
    fewer : (r : StreamNo) → Contains (streams_given y) r → Contains (streams_given x) r
    fewer r has = elim (Contains-append_cases y.started (streams_started y.orders) r has) [
      | inl was ↦ Contains-append_left x.started (streams_started x.orders) r (subst (λ rs. Contains rs r) k.started was)
      | inr told ↦ Contains-append_right x.started (streams_started x.orders) r (k.ordered r told).0
    ]

-- ---- the end

closed_lessens : (c : Connection) → Lessens c (record c { phase = Closing; orders = mark.Close ∷ [] })
closed_lessens c = record {
  speaks = refl;
  next = refl;
  started = refl;
  opened = λ o. absurd cc;
  through = λ t. inl refl;
  rising = λ pairs. pairs_none Rises;
  ordered = λ r has. absurd (none_started r has);
  live = λ r has. (has, λ more. absurd (more (inl refl)));
}

pub given_closing : (config : Config) (c : Connection) → GivesStreamsInOrder config c → GivesStreamsInOrder config (closing c)
unfolding closing
given_closing config c h =
    let closed : Connection = record c { phase = Closing; orders = mark.Close ∷ [] } in
    cond_both (is_closing c.phase || is_gone c.phase) c closed (GivesStreamsInOrder config) (λ t. h) (λ f. given_lessens config c closed (closed_lessens c) h)

pub given_gone : (config : Config) (c : Connection) → GivesStreamsInOrder config c → GivesStreamsInOrder config (gone c)
given_gone config c h = given_lessens config c (gone c) (record {
  speaks = refl;
  next = refl;
  started = refl;
  opened = λ o. absurd cc;
  through = λ t. inr refl;
  rising = λ pairs. pairs;
  ordered = λ r has. (has, All-contains (Contains c.live) (streams_started c.orders) r h.ordered has);
  live = λ r has. (has, λ more. absurd (more (inr refl)));
}) h

-- one that is open isn't through
pub open_starts : (p : Phase) → is_open p ≡ true → IsTrue (is_closing p) ⊎ IsTrue (is_gone p) → ⊥
open_starts p opened (inl t) = both_ways (is_closing p) (excludes is_open is_closing refl p opened) t
open_starts p opened (inr t) = both_ways (is_gone p) (excludes is_open is_gone refl p opened) t

given_draining : (config : Config) (c : Connection) → GivesStreamsInOrder config c → GivesStreamsInOrder config (draining c)
given_draining config c h =
    let drained : Connection = record c { phase = Draining } in
    cond_both (is_open c.phase) drained c (GivesStreamsInOrder config)
    (λ opened. given_lessens config c drained (record {
      speaks = refl;
      next = refl;
      started = refl;
      opened = λ o. absurd cc;
      through = λ t. absurd (open_starts c.phase opened t);
      rising = λ pairs. pairs;
      ordered = λ r has. (has, All-contains (Contains c.live) (streams_started c.orders) r h.ordered has);
      live = λ r has. (has, λ more. All-contains (Contains (streams_given c)) c.live r (h.live (λ t. open_starts c.phase opened t)) has);
    }) h)
    (λ f. h)

-- ---- what says nothing of its streams

given_beside : (config : Config) (sent limit : ℕ) (now : Moment) (excluded : List Origin) (c : Connection) → GivesStreamsInOrder config c →
    GivesStreamsInOrder config (record c { sent = sent; peer_limit = limit; idle_since = now; excluded = excluded })
given_beside config sent limit now excluded c h = record { rising = h.rising; within = h.within; odd = h.odd; next = h.next; ordered = h.ordered; live = h.live; last = h.last }

pub given_sent : (config : Config) (sent : ℕ) (c : Connection) → GivesStreamsInOrder config c → GivesStreamsInOrder config (with_sent sent c)
given_sent config sent c = given_beside config sent c.peer_limit c.idle_since c.excluded c

pub given_limit : (config : Config) (limit : ℕ) (c : Connection) → GivesStreamsInOrder config c → GivesStreamsInOrder config (with_limit limit c)
given_limit config limit c = given_beside config c.sent limit c.idle_since c.excluded c

pub given_excluding : (config : Config) (origin : Origin) (c : Connection) → GivesStreamsInOrder config c → GivesStreamsInOrder config (excluding origin c)
given_excluding config origin c = given_beside config c.sent c.peer_limit c.idle_since (c.excluded ++ origin ∷ []) c

-- other orders that start the same streams
pub given_orders : (config : Config) (orders : List OrderMark) (c : Connection) → streams_started orders ≡ streams_started c.orders → GivesStreamsInOrder config c →
    GivesStreamsInOrder config (record c { orders = orders })
given_orders config orders c same h =
    let os : List StreamNo = streams_started c.orders in
    given_lessens config c (record c { orders = orders }) (record {
      speaks = refl;
      next = refl;
      started = refl;
      opened = λ o. o;
      through = λ t. t;
      rising = λ pairs. subst (AllPairs Rises) (sym same) pairs;
      ordered = λ r has. let was = subst (λ rs. Contains rs r) same has in (was, All-contains (Contains c.live) os r h.ordered was);
      live = λ r has. (
        has,
        λ more.
            subst (λ rs. Contains (c.started ++ rs) r) (sym same) (All-contains (Contains (streams_given c)) c.live r (h.live more) has),
      );
    }) h

given_idle : (config : Config) (now : Moment) (c : Connection) → GivesStreamsInOrder config c → GivesStreamsInOrder config (idle_from now c)
unfolding idle_from
given_idle config now c h =
    let idle : Connection = record c { idle_since = now } in
    let same : GivesStreamsInOrder config idle = given_beside config c.sent c.peer_limit now c.excluded c h in
    cond_both (is_draining c.phase) (closing idle) idle (GivesStreamsInOrder config) (λ t. given_closing config idle same) (λ f. same)

given_run_out : (config : Config) (now : Moment) (c less : Connection) → GivesStreamsInOrder config less → GivesStreamsInOrder config (idle_if_run_out now c less)
unfolding idle_if_run_out
given_run_out config now c less h = cond_both (has_run_out c less) (idle_from now less) less (GivesStreamsInOrder config) (λ t. given_idle config now less h) (λ f. h)

-- ---- streams that end

-- one that was started isn't ordered to start, since those rise
pub given_without_stream : (config : Config) (now : Moment) (r : StreamNo) (c : Connection) → Contains c.started r → GivesStreamsInOrder config c →
    GivesStreamsInOrder config (without_stream now r c)
unfolding without_stream
given_without_stream config now r c begun h =
    let less : Connection = record c { live = other_streams r c.live } in
    let test : StreamNo → Bool = λ t. not (is_stream r t) in
    given_run_out config now c less (given_lessens config c less (record {
      speaks = refl;
      next = refl;
      started = refl;
      opened = λ o. o;
      through = λ t. t;
      rising = λ pairs. pairs;
      ordered = λ t has.
          let before : r.0 < t.0 = pairs_across Rises c.started (streams_started c.orders) r t h.rising begun has in
          let other : not (r.0 == t.0) ≡ true = not_from_false (r.0 == t.0) (ne_eqb r.0 t.0 (λ e. absurd (omega arith))) in
          (has, in_kept test c.live t (All-contains (Contains c.live) (streams_started c.orders) t h.ordered has) other);
      live = λ t has.
          let was = kept_in test c.live t has in
          (was.0, λ more. All-contains (Contains (streams_given c)) c.live t (h.live more) was.0);
    }) h)

-- a start that is taken back takes its live stream with it
pub given_without_start : (config : Config) (now : Moment) (r : StreamNo) (c : Connection) → GivesStreamsInOrder config c →
    GivesStreamsInOrder config (without_start now r c)
unfolding without_start
given_without_start config now r c h =
    let less : Connection = record c { live = other_streams r c.live; orders = filter (λ m. not (is_start_of r m)) c.orders } in
    let test : StreamNo → Bool = λ t. not (is_stream r t) in
    let os : List StreamNo = streams_started c.orders in
    let left : streams_started (filter (λ m. not (is_start_of r m)) c.orders) ≡ other_streams r os = starts_of_others r c.orders in
    given_run_out config now c less (given_lessens config c less (record {
      speaks = refl;
      next = refl;
      started = refl;
      opened = λ o. o;
      through = λ t. t;
      rising = λ pairs. subst (AllPairs Rises) (sym left) (AllPairs-filter Rises test os pairs);
      ordered = λ t has.
          let was = kept_in test os t (subst (λ rs. Contains rs t) left has) in
          (was.0, in_kept test c.live t (All-contains (Contains c.live) os t h.ordered was.0) was.1);
      live = λ t has.
          let was = kept_in test c.live t has in
          let given : (¬ IsThrough c) → Contains (streams_given c) t = λ more. All-contains (Contains (streams_given c)) c.live t (h.live more) was.0 in (
            was.0,
            λ more. elim (Contains-append_cases c.started os t (given more)) [
              | inl begun ↦ Contains-append_left c.started (streams_started less.orders) t begun
              | inr told ↦ Contains-append_right c.started (streams_started less.orders) t (subst (λ rs. Contains rs t) (sym left) (in_kept test os t told was.1))
            ],
          );
    }) h)

-- RFC 9113, section 6.8: no start is left, and those streams that are ordered to start are none of those that stay live
pub given_going_away : (config : Config) (now : Moment) (conn : ConnNo) (es : List Exchange) (last : StreamNo) (c : Connection) →
    ((r : StreamNo) → Contains (streams_started c.orders) r → is_unsent_stream conn es r ≡ true) → GivesStreamsInOrder config c →
    GivesStreamsInOrder config (going_away now conn es last c)
unfolding going_away
given_going_away config now conn es last c unsent h =
    let less : Connection = record c { live = streams_left conn es last c.live; orders = filter (λ m. not (is_start m)) c.orders } in
    let left : Connection = idle_if_run_out now c less in
    let test : StreamNo → Bool = λ t. nat_le t.0 last.0 && not (is_unsent_stream conn es t) in
    let none : streams_started (filter (λ m. not (is_start m)) c.orders) ≡ [] = starts_of_none c.orders in
    let fewer : GivesStreamsInOrder config less = given_lessens config c less (record {
      speaks = refl;
      next = refl;
      started = refl;
      opened = λ o. o;
      through = λ t. t;
      rising = λ pairs. subst (AllPairs Rises) (sym none) (pairs_none Rises);
      ordered = λ t has. absurd (none_started t (subst (λ rs. Contains rs t) none has));
      live = λ t has.
          let was = kept_in test c.live t has in
          let given : (¬ IsThrough c) → Contains (streams_given c) t = λ more. All-contains (Contains (streams_given c)) c.live t (h.live more) was.0 in (
            was.0,
            λ more. elim (Contains-append_cases c.started (streams_started c.orders) t (given more)) [
              | inl begun ↦ Contains-append_left c.started (streams_started less.orders) t begun
              | inr told ↦
                  let is_sent : is_unsent_stream conn es t ≡ false =
                  not-true (is_unsent_stream conn es t) (and_parts (nat_le t.0 last.0) (not (is_unsent_stream conn es t)) was.1).1 in
                  absurd (both_ways (is_unsent_stream conn es t) is_sent (unsent t told))
            ],
          );
    }) h in
    let k : GivesStreamsInOrder config left = given_run_out config now c less fewer in
    cond_both (is_nil left.live) (closing left) (draining left) (GivesStreamsInOrder config)
    (λ t. given_closing config left k) (λ f. given_draining config left k)
