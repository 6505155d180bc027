-- A connection that is opened, is given a stream or hands its orders keeps its streams in order.
use Rattle.std.proofs.Common.{[], ◌≡◌, ◌<◌, ◌≤◌, ◌+◌, ◌*◌, ℕ, List, ◌∷◌, ◌++◌, Option, Some, Bool, true, refl, sym, ap, subst, ◌∙◌, arith, append_assoc, append-nil, All, AllPairs, Contains, IsTrue}
use Rattle.std.specs.Prelude.{◌&&◌, not}
use Rattle.std.proofs.lemmas.Bool.{cond_both, cond-true, both_ways}
use Rattle.std.proofs.lemmas.Grind.{flat_map-append}
use Rattle.std.proofs.lemmas.List.Elements.{All-nil, All-push, All-weaker, All-append, Contains-append_left, Contains-push}
use Rattle.net_base.specs.declared.identity.Identity.{Identity}
use Rattle.net_base.specs.declared.numbers.CallerNo.{CallerNo}
use Rattle.net_base.specs.declared.numbers.ExchangeNo.{ExchangeNo}
use Rattle.net_base.specs.declared.numbers.Moment.{Moment}
use Rattle.net_base.specs.declared.numbers.StreamNo.{StreamNo}
use Rattle.partition_keys.specs.declared.group.GroupKey.{GroupKey}
use Rattle.model_changes.specs.Connections.{started_by, streams_started, new_connection, dialing_by, suits, opened_with, refused_with, after_opened, with_start, with_taken}
use Rattle.model_laws.proofs.AssignedLemmas.{place_parts}
use Rattle.model_laws.proofs.GivenSteps.{Rises, given_closing, open_starts}
use Rattle.model_laws.proofs.OrderlySteps.{all_none}
use Rattle.model_laws.proofs.RowLemmas.{pairs_none, pairs_push}
use Rattle.model_laws.specs.LimitLaws.{HasPlace}
use Rattle.model_laws.specs.Sound.{HasNoStreams, HasStreamsInOrder, streams_given, IsOdd, GivesStreamsInOrder}
use Rattle.model_histories.proofs.EffectLemmas.{Below}
use Rattle.model_authority.proofs.PhaseLemmas.{follows, excludes}
use Rattle.model_authority.specs.Statuses.{is_wanted, is_dialing, is_open, is_opening, speaks_h2}
use Rattle.model_authority.specs.Ways.{has_capacity}
use Rattle.model_values.specs.declared.config.Config.{Config}
use Rattle.model_values.specs.declared.order.OrderMark.{OrderMark}
use Rattle.model_values.specs.declared.order.OrderMark.TheVariants as mark
use Rattle.model_values.specs.declared.state.Connection.{Connection}

-- ---- being wanted, dialed and opened

-- one without streams, whose next one is odd where it may have one
given_none : (config : Config) (c : Connection) → HasNoStreams c → (IsTrue (is_open c.phase) → IsOdd c.next_stream) → GivesStreamsInOrder config c
given_none config c none next =
    let nothing : streams_given c ≡ [] = ap (λ (rs : List StreamNo). rs ++ streams_started c.orders) none.started ∙ none.ordered in
    record {
      rising = subst (AllPairs Rises) (sym nothing) (pairs_none Rises);
      within = all_none (λ r. r.0 ≤ config.last_stream) (streams_given c) nothing;
      odd = λ t. all_none (λ r. IsOdd r.0) (streams_given c) nothing;
      next = λ t. next;
      ordered = all_none (Contains c.live) (streams_started c.orders) none.ordered;
      live = λ more. all_none (Contains (streams_given c)) c.live none.live;
      last = λ f more. all_none (λ r. All (λ other. other.0 ≤ r.0) (streams_given c)) c.live none.live;
    }

pub given_new : (config : Config) (g : GroupKey) (wanted_for : Option ExchangeNo) (now : Moment) →
    GivesStreamsInOrder config (new_connection g wanted_for now)
given_new config g wanted_for now =
    given_none config (new_connection g wanted_for now) (record { started = refl; ordered = refl; live = refl }) (λ o. absurd cc)

pub given_dialing : (config : Config) (who : CallerNo) (c : Connection) → is_wanted c.phase ≡ true → HasStreamsInOrder config c →
    GivesStreamsInOrder config (dialing_by who c)
given_dialing config who c wanted orderly =
    let none = orderly.opening (follows is_wanted is_opening refl c.phase wanted) in
    given_none config (dialing_by who c) (record { started = none.started; ordered = none.ordered; live = none.live }) (λ o. absurd cc)

one_is_odd : IsOdd 1
one_is_odd = record { half = 0; is_odd = refl }

-- its first stream is stream 1, and one that is refused closes
pub given_after_opened : (config : Config) (is_shut : Bool) (now : Moment) (id : Identity) (c : Connection) → is_dialing c.phase ≡ true → HasStreamsInOrder config c →
    GivesStreamsInOrder config (after_opened is_shut now id c)
unfolding after_opened
given_after_opened config is_shut now id c dialing orderly =
    let none = orderly.opening (follows is_dialing is_opening refl c.phase dialing) in
    let shown : Connection = record c { identity = Some id } in
    let bare : HasNoStreams shown = record { started = none.started; ordered = none.ordered; live = none.live } in
    let later : GivesStreamsInOrder config shown =
    given_none config shown bare (λ o. absurd (both_ways (is_open c.phase) (excludes is_dialing is_open refl c.phase dialing) o)) in
    cond_both (not is_shut && suits c.group id) (opened_with now id c) (refused_with id c) (GivesStreamsInOrder config)
    (λ t. given_none config (opened_with now id c) (record { started = none.started; ordered = none.ordered; live = none.live }) (λ o. one_is_odd))
    (λ f. given_closing config shown later)

-- ---- starts

-- it is given its next stream, which is above all before
pub given_with_start : (config : Config) (e : ExchangeNo) (r : StreamNo) (c : Connection) → is_open c.phase ≡ true → IsTrue (has_capacity config c) →
    r.0 ≡ c.next_stream → HasStreamsInOrder config c → GivesStreamsInOrder config c → GivesStreamsInOrder config (with_start config.last_stream e r c)
unfolding with_start
given_with_start config e r c opened capacity given orderly h =
    let os : List StreamNo = streams_started c.orders in
    let before : List StreamNo = streams_given c in
    let place : HasPlace config c = place_parts config c capacity in
    let told : streams_started (c.orders ++ mark.Start e r ∷ []) ≡ os ++ r ∷ [] = flat_map-append started_by c.orders (mark.Start e r ∷ []) in
    let same : streams_given (with_start config.last_stream e r c) ≡ before ++ r ∷ [] =
    ap (λ (rs : List StreamNo). c.started ++ rs) told ∙ sym (append_assoc c.started os (r ∷ [])) in
    let below : All (Below c.next_stream) before = All-append (Below c.next_stream) c.started os orderly.started orderly.ordered in
    let number : c.next_stream ≤ config.last_stream = place.number in
    record {
      rising = subst (AllPairs Rises) (sym same)
          (pairs_push Rises before r (All-weaker (Below c.next_stream) (λ x. x.0 < r.0) (λ x less. omega arith) before below) h.rising);
      within = subst (All (λ x. x.0 ≤ config.last_stream)) (sym same) (All-push (λ x. x.0 ≤ config.last_stream) before r h.within (omega arith));
      odd = λ t. subst (All (λ x. IsOdd x.0)) (sym same) (All-push (λ x. IsOdd x.0) before r (h.odd t) (subst IsOdd (sym given) (h.next t opened)));
      next = λ t o. subst IsOdd (sym (cond-true (speaks_h2 c) (r.0 + 2) (r.0 + 1) t)) (odd_after r.0 (subst IsOdd (sym given) (h.next t opened)));
      ordered = subst (All (Contains (c.live ++ r ∷ []))) (sym told)
          (All-push (Contains (c.live ++ r ∷ [])) os r
          (All-weaker (Contains c.live) (Contains (c.live ++ r ∷ [])) (λ x has. Contains-append_left c.live (r ∷ []) x has) os h.ordered) (Contains-push c.live r));
      live = λ more. subst (λ rs. All (Contains rs) (c.live ++ r ∷ [])) (sym same)
          (All-push (Contains (before ++ r ∷ [])) c.live r
          (All-weaker (Contains before) (Contains (before ++ r ∷ [])) (λ x has. Contains-append_left before (r ∷ []) x has) c.live
          (h.live (λ t. open_starts c.phase opened t))) (Contains-push before r));
      last = λ f more. subst (λ rs. All (λ x. All (λ other. other.0 ≤ x.0) rs) (c.live ++ r ∷ [])) (sym same)
          (All-push (λ x. All (λ other. other.0 ≤ x.0) (before ++ r ∷ [])) c.live r (all_none (λ x. All (λ other. other.0 ≤ x.0) (before ++ r ∷ [])) c.live (place.h1 f))
          (All-push (λ other. other.0 ≤ r.0) before r (All-weaker (Below c.next_stream) (λ other. other.0 ≤ r.0) (λ x less. omega arith) before below) (omega arith)));
    }
  where
    odd_after : (n : ℕ) → IsOdd n → IsOdd (n + 2)
    odd_after n odd = let is_odd : n ≡ 2 * odd.half + 1 = odd.is_odd in record { half = odd.half + 1; is_odd = omega arith }

-- what it hands was ordered, so it was given the same
pub given_with_taken : (config : Config) (orders : List OrderMark) (c : Connection) → orders ≡ c.orders → GivesStreamsInOrder config c →
    GivesStreamsInOrder config (with_taken orders c)
given_with_taken config orders c are h =
    let same : streams_given (with_taken orders c) ≡ streams_given c =
    append-nil (c.started ++ streams_started orders) ∙ ap (λ (ms : List OrderMark). c.started ++ streams_started ms) are in
    record {
      rising = subst (AllPairs Rises) (sym same) h.rising;
      within = subst (All (λ r. r.0 ≤ config.last_stream)) (sym same) h.within;
      odd = λ t. subst (All (λ r. IsOdd r.0)) (sym same) (h.odd t);
      next = h.next;
      ordered = All-nil (Contains c.live);
      live = λ more. subst (λ rs. All (Contains rs) c.live) (sym same) (h.live more);
      last = λ f more. subst (λ rs. All (λ r. All (λ other. other.0 ≤ r.0) rs) c.live) (sym same) (h.last f more);
    }
