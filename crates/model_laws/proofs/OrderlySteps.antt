-- Each change of a connection keeps it orderly.
use Rattle.std.proofs.Common.{[], ◌≡◌, ◌<◌, ◌≤◌, ℕ, List, ◌∷◌, ◌++◌, Option, Some, Bool, true, false, refl, sym, ap, subst, ◌∙◌, arith, length, All, IsTrue}
use Rattle.std.specs.Prelude.{◌&&◌, not, nat_lt}
use Rattle.std.proofs.lemmas.Bool.{cond_both, both_ways}
use Rattle.std.proofs.lemmas.Grind.{flat_map-append}
use Rattle.std.proofs.lemmas.List.{length_push}
use Rattle.std.proofs.lemmas.List.Elements.{All-nil, All-cons, All-append, All-weaker}
use Rattle.net_base.specs.declared.identity.Identity.{Identity}
use Rattle.net_base.specs.declared.numbers.CallerNo.{CallerNo}
use Rattle.net_base.specs.declared.numbers.ExchangeNo.{ExchangeNo}
use Rattle.net_base.specs.declared.numbers.Moment.{Moment}
use Rattle.net_base.specs.declared.numbers.StreamNo.{StreamNo}
use Rattle.partition_keys.specs.declared.group.GroupKey.{GroupKey}
use Rattle.model_changes.specs.Connections.{started_by, streams_started, new_connection, dialing_by, suits, opened_with, refused_with, after_opened, stream_after, with_start, with_taken, gone, with_sent}
use Rattle.model_laws.proofs.AssignedLemmas.{place_parts}
use Rattle.model_laws.proofs.StayLemmas.{stream_rises}
use Rattle.model_laws.specs.LimitLaws.{HasPlace}
use Rattle.model_laws.specs.Sound.{HasNoStreams, HasStreamsInOrder}
use Rattle.model_histories.proofs.EffectLemmas.{Below, Lasting, Leaves, going_by, orders_none, leaves_closing}
use Rattle.model_authority.proofs.PhaseLemmas.{follows, excludes}
use Rattle.model_authority.specs.Statuses.{is_wanted, is_dialing, is_open, is_closing, is_opening, is_h2, shows, speaks_h2}
use Rattle.model_authority.specs.Ways.{has_capacity}
use Rattle.model_values.specs.declared.config.Config.{Config}
use Rattle.model_values.specs.declared.order.OrderMark.{OrderMark}
use Rattle.model_values.specs.declared.order.OrderMark.TheVariants as mark
use Rattle.model_values.specs.declared.state.Connection.{Connection}
use Rattle.model_values.specs.declared.state.Phase.{Phase}
use Rattle.model_values.specs.declared.state.Phase.TheVariants.{Draining}

-- ---- lists of streams

pub all_none : (P : StreamNo → Type 0) (rs : List StreamNo) → rs ≡ [] → All P rs
all_none P rs none = subst (All P) (sym none) (All-nil P)

none_left : (xs ys : List StreamNo) → length ys ≤ length xs → xs ≡ [] → ys ≡ []
none_left xs [] less none = refl
none_left xs (y ∷ ys) less none =
    let empty : length xs ≡ 0 = ap (λ (zs : List StreamNo). length zs) none in
    absurd (omega arith)

-- ---- one connection

-- by any change that neither dials, opens nor ends it, gives it a stream or takes its orders
pub orderly_leaves : (config : Config) (x y : Connection) → Leaves x y → HasStreamsInOrder config x → HasStreamsInOrder config y
orderly_leaves config x y k h =
    let next : y.next_stream ≡ x.next_stream = ap (λ (l : Lasting). l.next_stream) k.lasts in
    let started : y.started ≡ x.started = ap (λ (l : Lasting). l.started) k.lasts in
    let speaks : speaks_h2 y ≡ speaks_h2 x = ap (λ (l : Lasting). shows (λ id. is_h2 id.proto) l.identity) k.lasts in
    let live : length y.live ≤ length x.live = k.live in
    record {
      started = subst (λ n. All (Below n) y.started) (sym next) (subst (All (Below x.next_stream)) (sym started) h.started);
      ordered = subst (λ n. All (Below n) (streams_started y.orders)) (sym next) (k.ordered x.next_stream h.ordered);
      opening = λ o.
          let none = h.opening (going_by (λ p q. is_opening q) (λ p q. is_opening p) refl x.phase y.phase k.phase o) in
          record { started = started ∙ none.started; ordered = orders_none x.orders y.orders k.ordered none.ordered; live = none_left x.live y.live live none.live };
      closing = k.closing h.closing;
      streams = record {
        h2 = λ t. let few : length x.live ≤ config.streams = h.streams.h2 (sym speaks ∙ t) in omega arith;
        h1 = λ f. let few : length x.live ≤ 1 = h.streams.h1 (λ t. f (speaks ∙ t)) in omega arith;
      };
    }

pub orderly_sent : (config : Config) (sent : ℕ) (c : Connection) → HasStreamsInOrder config c → HasStreamsInOrder config (with_sent sent c)
orderly_sent config sent c h = record { started = h.started; ordered = h.ordered; opening = λ o. let none = h.opening o in record { started = none.started; ordered = none.ordered; live = none.live }; closing = h.closing; streams = record { h2 = h.streams.h2; h1 = h.streams.h1 } }

-- ---- the end

pub orderly_gone : (config : Config) (c : Connection) → HasStreamsInOrder config c → HasStreamsInOrder config (gone c)
orderly_gone config c h = record { started = h.started; ordered = h.ordered; opening = λ o. absurd cc; closing = λ t. absurd cc; streams = record { h2 = h.streams.h2; h1 = h.streams.h1 } }

-- ---- being wanted, dialed and opened

pub orderly_new : (config : Config) (g : GroupKey) (wanted_for : Option ExchangeNo) (now : Moment) → HasStreamsInOrder config (new_connection g wanted_for now)
orderly_new config g wanted_for now = record {
  started = All-nil (Below 1);
  ordered = All-nil (Below 1);
  opening = λ o. record { started = refl; ordered = refl; live = refl };
  closing = λ t. refl;
  streams = record {
    h2 = λ t. omega arith;
    h1 = λ f. omega arith;
  };
}

-- one that is wanted has no streams, and has none where it is dialed
pub orderly_dialing : (config : Config) (who : CallerNo) (c : Connection) → is_wanted c.phase ≡ true → HasStreamsInOrder config c → HasStreamsInOrder config (dialing_by who c)
orderly_dialing config who c wanted h = record {
  started = h.started;
  ordered = h.ordered;
  opening = λ o.
      let none = h.opening (follows is_wanted is_opening refl c.phase wanted) in
      record { started = none.started; ordered = none.ordered; live = none.live };
  closing = λ t. absurd cc;
  streams = record { h2 = h.streams.h2; h1 = h.streams.h1 };
}

-- one without streams may have any identity, and any next stream
orderly_opened_with : (config : Config) (now : Moment) (id : Identity) (c : Connection) → HasNoStreams c → HasStreamsInOrder config (opened_with now id c)
orderly_opened_with config now id c none =
    let empty : length c.live ≡ 0 = ap (λ (rs : List StreamNo). length rs) none.live in
    record {
      started = all_none (Below 1) c.started none.started;
      ordered = all_none (Below 1) (streams_started c.orders) none.ordered;
      opening = λ o. absurd cc;
      closing = λ t. absurd cc;
      streams = record {
        h2 = λ t. omega arith;
        h1 = λ f. omega arith;
      };
    }

orderly_refused_with : (config : Config) (id : Identity) (c : Connection) → HasNoStreams c → HasStreamsInOrder config c → HasStreamsInOrder config (refused_with id c)
orderly_refused_with config id c none h =
    let empty : length c.live ≡ 0 = ap (λ (rs : List StreamNo). length rs) none.live in
    orderly_leaves config (record c { identity = Some id }) (refused_with id c) (leaves_closing (record c { identity = Some id })) (record {
      started = h.started;
      ordered = h.ordered;
      opening = λ o. record { started = none.started; ordered = none.ordered; live = none.live };
      closing = h.closing;
      streams = record {
        h2 = λ t. omega arith;
        h1 = λ f. omega arith;
      };
    })

pub orderly_after_opened : (config : Config) (is_shut : Bool) (now : Moment) (id : Identity) (c : Connection) → is_dialing c.phase ≡ true → HasStreamsInOrder config c →
    HasStreamsInOrder config (after_opened is_shut now id c)
unfolding after_opened
orderly_after_opened config is_shut now id c dialing h =
    let none : HasNoStreams c = h.opening (follows is_dialing is_opening refl c.phase dialing) in
    cond_both (not is_shut && suits c.group id) (opened_with now id c) (refused_with id c) (HasStreamsInOrder config)
    (λ t. orderly_opened_with config now id c none) (λ f. orderly_refused_with config id c none h)

-- ---- starts

pub orderly_with_start : (config : Config) (last : ℕ) (e : ExchangeNo) (r : StreamNo) (c : Connection) → is_open c.phase ≡ true → IsTrue (has_capacity config c) → r.0 ≡ c.next_stream →
    HasStreamsInOrder config c → HasStreamsInOrder config (with_start last e r c)
unfolding with_start
orderly_with_start config last e r c opened capacity given h =
    let next : ℕ = stream_after r c in
    let rises : r.0 < next = stream_rises r c in
    let place : HasPlace config c = place_parts config c capacity in
    let ordered : All (Below next) (streams_started c.orders ++ r ∷ []) =
    All-append (Below next) (streams_started c.orders) (r ∷ []) (risen (streams_started c.orders) h.ordered) (All-cons (Below next) r [] rises (All-nil (Below next))) in
    record {
      started = risen c.started h.started;
      ordered = subst (All (Below next)) (sym (flat_map-append started_by c.orders (mark.Start e r ∷ []))) ordered;
      opening = λ o. absurd (both_ways _ (apart is_opening refl (excludes is_open is_opening refl c.phase opened)) o);
      closing = λ t. absurd (both_ways _ (apart is_closing refl (excludes is_open is_closing refl c.phase opened)) t);
      streams = record {
        h2 = λ t. let less : length c.live < config.streams = (place.h2 t).0 in omega (arith, length_push c.live r);
        h1 = λ f. let none : length c.live ≡ 0 = ap (λ (rs : List StreamNo). length rs) (place.h1 f) in omega (arith, length_push c.live r);
      };
    }
  where
    apart : (f : Phase → Bool) → f Draining ≡ false → f c.phase ≡ false → f (with_start last e r c).phase ≡ false
    apart f drained same = cond_both (nat_lt last (stream_after r c)) Draining c.phase (λ (p : Phase). f p ≡ false) (λ t. drained) (λ t. same)

    risen : (rs : List StreamNo) → All (Below c.next_stream) rs → All (Below (stream_after r c)) rs
    risen rs all = All-weaker (Below c.next_stream) (Below (stream_after r c)) (λ x below. let rises : r.0 < stream_after r c = stream_rises r c in omega arith) rs all

-- what is taken are the orders that it has
pub orderly_with_taken : (config : Config) (orders : List OrderMark) (c : Connection) → orders ≡ c.orders → HasStreamsInOrder config c → HasStreamsInOrder config (with_taken orders c)
orderly_with_taken config orders c are h =
    let same : streams_started orders ≡ streams_started c.orders = ap (λ (ms : List OrderMark). streams_started ms) are in
    record {
      started = All-append (Below c.next_stream) c.started (streams_started orders) h.started (subst (All (Below c.next_stream)) (sym same) h.ordered);
      ordered = All-nil (Below c.next_stream);
      opening = λ o.
          let none = h.opening o in
          let taken : streams_started orders ≡ [] = same ∙ none.ordered in
          record { started = ap (λ (rs : List StreamNo). rs ++ streams_started orders) none.started ∙ taken; ordered = refl; live = none.live };
      closing = λ t. refl;
      streams = record { h2 = h.streams.h2; h1 = h.streams.h1 };
    }
