-- What stands where an Assign or a Want of a history stands.
use Rattle.std.proofs.Common.{◌≡◌, ◌<◌, ◌⊎◌, inl, inr, ℕ, List, [], ◌∷◌, Option, Some, None, Bool, true, false, min, refl, sym, ap, subst, ◌∙◌, arith, length, take, IsTrue, Contains, nat_lt, nat_le}
use Rattle.std.specs.Prelude.{◌==◌, ◌&&◌, ◌||◌, not}
use Rattle.std.specs.List.{list_any}
use Rattle.std.specs.Str.{bytes_eq}
use Rattle.std.proofs.lemmas.Bool.{and_parts, or_cases, not-true, cond-true, cond-false, false_from_ne_true, both_ways, ltb-true, leb-true, leb-false, eqb-true}
use Rattle.std.proofs.lemmas.List.Folds.{Any-from_list_any}
use Rattle.net_base.specs.Equality.{same_bool, same_origin, same_proto, same_target}
use Rattle.net_base.specs.declared.identity.Identity.{Identity}
use Rattle.net_base.specs.declared.numbers.ConnNo.{ConnNo}
use Rattle.net_base.specs.declared.numbers.ExchangeNo.{ExchangeNo}
use Rattle.net_base.specs.declared.numbers.Moment.{Moment}
use Rattle.net_base.specs.declared.numbers.StreamNo.{StreamNo}
use Rattle.net_base.specs.declared.origin.Scheme.{Scheme}
use Rattle.net_base.specs.declared.origin.Scheme.TheVariants.{Http, Https}
use Rattle.net_base.specs.declared.target.Proto.{Proto}
use Rattle.net_base.specs.declared.target.Proto.TheVariants.{H1, H2}
use Rattle.net_base.specs.declared.target.Target.{Target}
use Rattle.partition_keys.specs.Equality.{same_key}
use Rattle.partition_keys.specs.Freshness.{is_fresh}
use Rattle.partition_keys.specs.declared.alternative.Alternative.{Alternative}
use Rattle.peer_identity.proofs.CoverLemmas.{covers_is_covered}
use Rattle.peer_identity.specs.Covers.{is_covered}
use Rattle.model_laws.proofs.SameLemmas.{bools_are, protos_are, origins_are, targets_are, keys_are}
use Rattle.model_laws.specs.AlternativeLaws.{IsOpportune, MayShare, GoesToFreshAlternative, AlternativesAreFresh}
use Rattle.model_laws.specs.ApartLaws.{AnswersFor, IsKeptApart, KeepsApart}
use Rattle.model_laws.specs.Courses.{state_at, moment_at, Comes, OfExchange, OfConnection, OfBoth}
use Rattle.model_laws.specs.EndLaws.{OnlyOpenOnesAreAssigned}
use Rattle.model_laws.specs.LimitLaws.{IsBelowLimits, WantsStayBelowLimits, HasPlace, AssignsHavePlace}
use Rattle.model_histories.proofs.RunLemmas.{config-run, latest-run}
use Rattle.model_histories.specs.Histories.{MayStand}
use Rattle.model_histories.specs.Legal.{IsReply}
use Rattle.model_settling.specs.Counts.{count_total, count_in_group, openings_of}
use Rattle.model_settling.specs.Room.{is_eligible, has_numbers, has_open_h2, has_opening_for, openings_wanted, is_total_full, has_room_in, has_room_but_total, has_room}
use Rattle.model_settling.specs.Settling.{can_use, can_open, IsAssign, IsWant, IsDue}
use Rattle.model_steps.specs.After.{noted}
use Rattle.model_authority.proofs.NumberLemmas.{and_value, passing}
use Rattle.model_authority.specs.Lists.{numbered}
use Rattle.model_authority.proofs.PhaseLemmas.{same_phase}
use Rattle.model_authority.specs.Statuses.{stage_of, is_open, is_h2, shows, speaks_h2}
use Rattle.model_authority.specs.Ways.{is_https, origin_target, alternative_target, alternatives_of, is_opportune, group_of, is_secured_for, shares_partition, is_direct, is_strong_for, may_share_alternative, goes_over, is_alternative, addresses_of, may_serve, is_coalesced, may_go_directly, may_go_by_alternative, may_coalesce, has_way, IsFirstWay, has_free_place, has_capacity, is_usable}
use Rattle.model_values.specs.declared.config.Config.{Config}
use Rattle.model_values.specs.declared.entry.Act.{Act}
use Rattle.model_values.specs.declared.entry.Act.TheVariants.{Assign, Want}
use Rattle.model_values.specs.declared.entry.Entry.{Entry}
use Rattle.model_values.specs.declared.entry.Way.{Way}
use Rattle.model_values.specs.declared.entry.Way.TheVariants as way
use Rattle.model_values.specs.declared.state.AbstractPool.{AbstractPool}
use Rattle.model_values.specs.declared.state.Connection.{Connection}
use Rattle.model_values.specs.declared.state.Exchange.{Exchange}
use Rattle.model_values.specs.declared.state.Phase.TheVariants.{Open}

-- ---- what is due where an entry of the pool itself stands

-- an act that no call has is due where its entry may stand
due_here : (s : AbstractPool) (e : Entry) (act : Act) → e.act ≡ act → ((t : AbstractPool) → IsReply t e.who act → ⊥) → MayStand s e → IsDue s act
due_here s e act is no_call stands = elim stands.legal [
  | inl pools ↦ subst (IsDue s) is pools.due
  | inr calls ↦ absurd (no_call (noted s e.moment) (subst (IsReply (noted s e.moment) e.who) is calls.reply))
]

pub assigned : (config : Config) (h : List Entry) (n : ℕ) (e : Entry) (x : ExchangeNo) (c : ConnNo) (r : StreamNo) (by : Way) →
    Comes config h n e → e.act ≡ Assign x c r by → IsAssign (state_at config h n) x c r by
assigned config h n e x c r by comes is = due_here (state_at config h n) e (Assign x c r by) is (λ t k. k) (comes.history.each n e comes.is_entry)

wanted : (config : Config) (h : List Entry) (n : ℕ) (e : Entry) (x : ExchangeNo) (c : ConnNo) (t : Target) →
    Comes config h n e → e.act ≡ Want x c t → IsWant (state_at config h n) x c t
wanted config h n e x c t comes is = due_here (state_at config h n) e (Want x c t) is (λ s k. k) (comes.history.each n e comes.is_entry)

-- ---- the exchange and the connection of an Assign

of_connection : (s : AbstractPool) (x : ExchangeNo) (c : ConnNo) (r : StreamNo) (by : Way) (P : Connection → Type 0) (a : IsAssign s x c r by) → P a.connection → OfConnection s c P
of_connection s x c r by P a h = and_value (numbered c.0 s.connections) P a.connection a.is_connection h

of_both : (s : AbstractPool) (x : ExchangeNo) (c : ConnNo) (r : StreamNo) (by : Way) (P : Exchange → Connection → Type 0) (a : IsAssign s x c r by) →
    P a.exchange a.connection → OfBoth s x c P
of_both s x c r by P a h =
    and_value (numbered x.0 s.exchanges) (λ u. OfConnection s c (λ y. P u y)) a.exchange a.is_exchange (of_connection s x c r by (P a.exchange) a h)

-- the exchange may use the connection
usable : (s : AbstractPool) (x : ExchangeNo) (c : ConnNo) (r : StreamNo) (by : Way) (a : IsAssign s x c r by) → IsTrue (is_usable s a.exchange a.connection)
usable s x c r by a =
    let p = passing (can_use s a.exchange) s.connections c.0 a.lowest.passes in
    let found : numbered c.0 s.connections ≡ Some a.connection = a.is_connection in
    let same : p.0 ≡ a.connection = cc (p.1, found) in
    subst (λ y. IsTrue (is_usable s a.exchange y)) same p.2

-- what makes a connection usable
pub record IsUsable (s : AbstractPool) (x : Exchange) (y : Connection) : Type 0 where
  pub phase : IsTrue (is_open y.phase)
  pub capacity : IsTrue (has_capacity s.config y)

pub usable_parts : (s : AbstractPool) (x : Exchange) (y : Connection) → IsTrue (is_usable s x y) → IsUsable s x y
unfolding is_usable
usable_parts s x y h =
    let front = and_parts (is_open y.phase && has_capacity s.config y) (has_way s x y) h in
    let both = and_parts (is_open y.phase) (has_capacity s.config y) front.0 in
    record { phase = both.0; capacity = both.1 }

-- ---- the phase

pub only_open_ones_are_assigned : OnlyOpenOnesAreAssigned
only_open_ones_are_assigned config h n e x c r by comes is =
    let s = state_at config h n in
    let a = assigned config h n e x c r by comes is in
    let u = usable_parts s a.exchange a.connection (usable s x c r by a) in
    of_connection s x c r by (λ y. y.phase ≡ Open) a (same_phase a.connection.phase Open (eqb-true (stage_of a.connection.phase) 2 u.phase))

-- ---- a place for a stream

empty_list : {A : Type 0} (xs : List A) → length xs ≡ 0 → xs ≡ []
empty_list [] h = refl
empty_list (x ∷ xs) h = absurd (omega arith)

-- what has capacity has a place
pub place_parts : (config : Config) (y : Connection) → IsTrue (has_capacity config y) → HasPlace config y
unfolding has_capacity
place_parts config y h =
    let below : Bool = nat_lt (length y.live) (min config.streams y.peer_limit) in
    let none : Bool = length y.live == 0 in
    let parts = and_parts (nat_le y.next_stream config.last_stream) (has_free_place config y) h in
    record {
      h2 = λ speaks.
          let less : length y.live < min config.streams y.peer_limit =
          ltb-true (length y.live) (min config.streams y.peer_limit) (sym (cond-true (speaks_h2 y) below none speaks) ∙ parts.1) in
          (omega arith, omega arith);
      h1 = λ speaks_not.
          empty_list y.live (eqb-true (length y.live) 0 (sym (cond-false (speaks_h2 y) below none (false_from_ne_true (speaks_h2 y) speaks_not)) ∙ parts.1));
      number = leb-true y.next_stream config.last_stream parts.0;
    }

pub assigns_have_place : AssignsHavePlace
assigns_have_place config h n e x c r by comes is =
    let s = state_at config h n in
    let a = assigned config h n e x c r by comes is in
    let u = usable_parts s a.exchange a.connection (usable s x c r by a) in
    of_connection s x c r by (HasPlace config) a (subst (λ k. HasPlace k a.connection) (config-run config (take n h)) (place_parts s.config a.connection u.capacity))

-- ---- partition and authority

-- the connection shows an identity that passes the test
shown : (test : Identity → Bool) (o : Option Identity) → IsTrue (shows test o) → (id : Identity) × (o ≡ Some id) × IsTrue (test id)
shown test None h = absurd cc
shown test (Some id) h = (id, refl, h)

-- whoever is secured for the host answers for it
answers : (host : List ℕ) (o : Option Identity) (id : Identity) → o ≡ Some id → IsTrue (is_secured_for host id) → AnswersFor host o
unfolding is_secured_for
answers host o id is h =
    let both = and_parts id.secure (is_covered id host) h in
    record { identity = id; is_shown = is; secure = both.0; covers = (covers_is_covered id host).0 both.1 }

-- a connection to the origin itself
answers_directly : (x : Exchange) (y : Connection) → IsTrue (is_https x.ask.request.origin.scheme) → IsTrue (may_go_directly x y) → AnswersFor x.ask.request.origin.host y.identity
unfolding is_direct
answers_directly x y https h =
    let o = x.ask.request.origin in
    let direct = (and_parts (not x.ask.probe) (is_direct x y) h).1 in
    let either = (and_parts (same_target y.group.target (origin_target o)) (not (is_https o.scheme) || shows (is_secured_for o.host) y.identity) direct).1 in
    elim (or_cases (not (is_https o.scheme)) (shows (is_secured_for o.host) y.identity) either) [
      | inl f ↦ let http = not-true (is_https o.scheme) f in absurd cc
      | inr t ↦ let w = shown (is_secured_for o.host) y.identity t in answers o.host y.identity w.0 w.1 w.2
    ]

-- what goes over an alternative
record IsOver (now : Moment) (x : Exchange) (y : Connection) (a : Alternative) : Type 0 where
  fresh : IsTrue (is_fresh a now)
  target : y.group.target ≡ alternative_target a
  strong : IsTrue (shows (is_strong_for a x.ask.request.origin.host) y.identity)
  shares : IsTrue (may_share_alternative now x y a)

over_parts : (now : Moment) (x : Exchange) (y : Connection) (a : Alternative) → IsTrue (goes_over now x y a) → IsOver now x y a
over_parts now x y a h =
    let same = same_target y.group.target (alternative_target a) in
    let strong = shows (is_strong_for a x.ask.request.origin.host) y.identity in
    let front = and_parts (is_fresh a now && same && strong) (may_share_alternative now x y a) h in
    let middle = and_parts (is_fresh a now && same) strong front.0 in
    let both = and_parts (is_fresh a now) same middle.0 in
    record { fresh = both.0; target = targets_are y.group.target (alternative_target a) both.1; strong = middle.1; shares = front.1 }

-- there is one among the exchange's alternatives
over_one : (s : AbstractPool) (x : Exchange) (y : Connection) → IsTrue (may_go_by_alternative s x y) →
    (a : Alternative) × Contains (alternatives_of s x.ask.key x.ask.request.origin) a × IsOver s.latest x y a
unfolding is_alternative
over_one s x y h =
    let one = (and_parts (not x.direct_only) (is_alternative s x y) h).1 in
    let some = Any-from_list_any (goes_over s.latest x y) (alternatives_of s x.ask.key x.ask.request.origin) one in
    (some.1, (some.0, some.2, some.3), over_parts s.latest x y some.1 some.4)

-- who is strong for an alternative speaks its protocol and answers for the host
strong_over : (host : List ℕ) (o : Option Identity) (a : Alternative) → IsTrue (shows (is_strong_for a host) o) → (who : AnswersFor host o) × (who.identity.proto ≡ a.proto)
unfolding is_secured_for
strong_over host o a h =
    let w = shown (is_strong_for a host) o h in
    let parts = and_parts (same_proto w.0.proto a.proto) (is_secured_for host w.0) w.2 in
    let both = and_parts w.0.secure (is_covered w.0 host) parts.1 in
    (record { identity = w.0; is_shown = w.1; secure = both.0; covers = (covers_is_covered w.0 host).0 both.1 }, protos_are w.0.proto a.proto parts.0)

-- the alternative's other side is the authority for the origin's host, for http as for https
answers_over : (s : AbstractPool) (x : Exchange) (y : Connection) → IsTrue (may_go_by_alternative s x y) → AnswersFor x.ask.request.origin.host y.identity
answers_over s x y h =
    let one = over_one s x y h in (strong_over x.ask.request.origin.host y.identity one.0 one.2.strong).0

answers_coalesced : (s : AbstractPool) (x : Exchange) (y : Connection) → IsTrue (may_coalesce s x y) → AnswersFor x.ask.request.origin.host y.identity
unfolding is_coalesced
answers_coalesced s x y h =
    let o = x.ask.request.origin in
    let ports : Bool = is_https o.scheme && is_https y.group.origin.scheme && y.group.target.port == o.port in
    let serves : Bool = shows (may_serve s x) y.identity in
    let excluded : Bool = list_any (λ u. same_origin u o) y.excluded in
    let joined = (and_parts (not x.ask.probe && not x.direct_only) (is_coalesced s x y) h).1 in
    let front = and_parts (ports && serves) (not excluded) joined in
    let w = shown (may_serve s x) y.identity (and_parts ports serves front.0).1 in
    let at_address : Bool = list_any (λ u. bytes_eq u w.0.address) (addresses_of s x.ask.key o.host) in
    let strong = and_parts (is_h2 w.0.proto && is_secured_for o.host w.0) at_address w.2 in
    answers o.host y.identity w.0 w.1 (and_parts (is_h2 w.0.proto) (is_secured_for o.host w.0) strong.0).1

-- by whichever way
answers_by : (s : AbstractPool) (x : Exchange) (y : Connection) (by : Way) → IsFirstWay s x y by → IsTrue (is_https x.ask.request.origin.scheme) →
    AnswersFor x.ask.request.origin.host y.identity
answers_by s x y way.Direct first https = answers_directly x y https first
answers_by s x y way.Alternative first https = answers_over s x y first.1
answers_by s x y way.Coalesced first https = answers_coalesced s x y first.2

-- the way holds within the partition
apart : (s : AbstractPool) (x : Exchange) (y : Connection) (by : Way) → IsTrue (shares_partition x y) → IsFirstWay s x y by → IsKeptApart x y
unfolding shares_partition
apart s x y by shares first =
    let both = and_parts (same_key y.group.key x.ask.key) (same_bool y.group.credentials x.ask.credentials) shares in
    record {
      key = keys_are y.group.key x.ask.key both.0;
      credentials = bools_are y.group.credentials x.ask.credentials both.1;
      authority = λ https. answers_by s x y by first (ap is_https https);
    }

pub keeps_apart : KeepsApart
keeps_apart config h n e x c r by comes is =
    let s = state_at config h n in
    let a = assigned config h n e x c r by comes is in
    of_both s x c r by IsKeptApart a (apart s a.exchange a.connection by a.authority.shares a.authority.first)

-- ---- alternatives

pub h2_is : (p : Proto) → IsTrue (is_h2 p) → p ≡ H2
h2_is H1 h = absurd cc
h2_is H2 h = refl

opportune : (now : Moment) (x : Exchange) (a : Alternative) → IsTrue (is_opportune now x.ask.probe a) → IsOpportune now x a
opportune now x a h =
    let both = and_parts (is_h2 a.proto) (nat_lt now.0 a.proven_until.0 || x.ask.probe) h in
    record { h2 = h2_is a.proto both.0; proven = proven both.1 }
  where
    proven : IsTrue (nat_lt now.0 a.proven_until.0 || x.ask.probe) → (now.0 < a.proven_until.0) ⊎ (x.ask.probe ≡ true)
    proven k = elim (or_cases (nat_lt now.0 a.proven_until.0) x.ask.probe k) [ inl t ↦ inl (ltb-true now.0 a.proven_until.0 t) | inr t ↦ inr t ]

-- by which origins an alternative is shared, and for http it is opportune
record Sharing (now : Moment) (x : Exchange) (y : Connection) (a : Alternative) : Type 0 where
  shares : MayShare y.group.origin x.ask.request.origin
  opportune : x.ask.request.origin.scheme ≡ Http → IsOpportune now x a

https_only : (scheme : Scheme) → is_https scheme ≡ true → scheme ≡ Https
https_only Http h = absurd cc
https_only Https h = refl

http_only : (scheme : Scheme) → not (is_https scheme) ≡ true → scheme ≡ Http
http_only Http h = refl
http_only Https h = absurd cc

sharing_for : (now : Moment) (x : Exchange) (y : Connection) (a : Alternative) → IsTrue (may_share_alternative now x y a) → Sharing now x y a
sharing_for now x y a h =
    let o = x.ask.request.origin in
    let secured : Bool = is_https y.group.origin.scheme && is_https o.scheme in
    let plain : Bool = not (is_https o.scheme) in
    let same : Bool = plain && same_origin y.group.origin o in
    elim (or_cases secured (same && is_opportune now x.ask.probe a) h) [
      | inl t ↦
          let both = and_parts (is_https y.group.origin.scheme) (is_https o.scheme) t in
          record {
            shares = inl (https_only y.group.origin.scheme both.0, https_only o.scheme both.1);
            opportune = λ http. let no : is_https o.scheme ≡ false = ap is_https http in absurd (both_ways (is_https o.scheme) no both.1);
          }
      | inr t ↦
          let parts = and_parts same (is_opportune now x.ask.probe a) t in
          let both = and_parts plain (same_origin y.group.origin o) parts.0 in
          record {
            shares = inr (http_only o.scheme both.0, origins_are y.group.origin o both.1);
            opportune = λ http. opportune now x a parts.1;
          }
    ]

-- the state's latest moment is the greatest one so far
pub latest_is : (config : Config) (h : List Entry) (n : ℕ) → (state_at config h n).latest ≡ moment_at h n
latest_is config h n = let whole : ℕ → Moment = λ k. record { 0 = k } in ap whole (latest-run config (take n h))

pub alternatives_are_fresh : AlternativesAreFresh
alternatives_are_fresh config h n e x c r comes is =
    let s = state_at config h n in
    let a = assigned config h n e x c r way.Alternative comes is in
    let one = over_one s a.exchange a.connection a.authority.first.1 in
    let strong = strong_over a.exchange.ask.request.origin.host a.connection.identity one.0 one.2.strong in
    let sharing = sharing_for s.latest a.exchange a.connection one.0 one.2.shares in
    subst (λ now. OfBoth s x c (GoesToFreshAlternative s now)) (latest_is config h n)
    (of_both s x c r way.Alternative (GoesToFreshAlternative s s.latest) a (record {
      alternative = one.0;
      is_one = one.1;
      fresh = one.2.fresh;
      target = one.2.target;
      authority = strong.0;
      protocol = strong.1;
      shares = sharing.shares;
      opportune = sharing.opportune;
    }))

-- ---- the limits of connections

-- the exchange has room in its group
room_in_group : (s : AbstractPool) (number : ℕ) (x : Exchange) → IsTrue (has_room_but_total s number x) → count_in_group s (group_of s x) < s.config.per_group
unfolding has_room_but_total has_room_in
room_in_group s number x h =
    let g = group_of s x in
    let below : Bool = nat_lt (count_in_group s g) s.config.per_group in
    let alone : Bool = not (has_open_h2 s g) in
    let first : Bool = not (has_opening_for s number g) in
    let few : Bool = nat_lt (openings_of s g) (openings_wanted s g) in
    let room = (and_parts (has_numbers s) (has_room_in s number g) h).1 in
    let front = and_parts (below && alone && first) few room in
    let middle = and_parts (below && alone) first front.0 in
    ltb-true (count_in_group s g) s.config.per_group (and_parts below alone middle.0).0

below_limits : (s : AbstractPool) (number : ℕ) (x : Exchange) → IsTrue (has_room s number x) → IsBelowLimits s.config s x
unfolding has_room
below_limits s number x h =
    let both = and_parts (not (is_total_full s)) (has_room_but_total s number x) h in
    record {
      total = leb-false s.config.total (count_total s) (not-true (is_total_full s) both.0);
      group = room_in_group s number x both.1;
    }

pub wants_stay_below_limits : WantsStayBelowLimits
wants_stay_below_limits config h n e x c t comes is =
    let s = state_at config h n in
    let w = wanted config h n e x c t comes is in
    let p = passing (can_open s) s.exchanges x.0 w.least.passes in
    let room = (and_parts (is_eligible s p.0) (has_room s x.0 p.0) p.2).1 in
    subst (λ k. OfExchange s x (IsBelowLimits k s)) (config-run config (take n h))
    (and_value (numbered x.0 s.exchanges) (IsBelowLimits s.config s) p.0 p.1 (below_limits s x.0 p.0 room))
