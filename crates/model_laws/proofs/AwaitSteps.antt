-- What a change of a connection leaves of a start that is ordered: that it stays, or the connection closes; or that it is taken back.
use Rattle.std.proofs.Common.{◌≡◌, ◌⊎◌, ℕ, List, [], ◌∷◌, ◌++◌, Option, Some, None, Bool, true, false, inl, inr, refl, sym, ap, subst, ◌∙◌, filter}
use Rattle.std.specs.Prelude.{◌==◌, ◌&&◌, ◌||◌, not, Contains}
use Rattle.std.specs.List.{list_any}
use Rattle.std.proofs.lemmas.Bool.{cond_both, both_ways, not_from_true, not_from_false, ne_eqb, or_left, or_right, eq-eqb}
use Rattle.std.proofs.lemmas.List.Elements.{Contains-append_left, Contains-push_cases, Contains-append_cases}
use Rattle.net_base.specs.declared.identity.Identity.{Identity}
use Rattle.net_base.specs.declared.numbers.ConnNo.{ConnNo}
use Rattle.net_base.specs.declared.numbers.ExchangeNo.{ExchangeNo}
use Rattle.net_base.specs.declared.numbers.Moment.{Moment}
use Rattle.net_base.specs.declared.numbers.StreamNo.{StreamNo}
use Rattle.net_base.specs.declared.response.Response.{Response}
use Rattle.model_changes.specs.Connections.{is_start, is_start_of, is_reset_of, streams_started, closing, idle_from, has_run_out, idle_if_run_out, other_streams, without_stream, without_start, without_exchange, suits, opened_with, refused_with, after_opened, with_start, kept_open, without_reset, after_answer, excluding, after_large_answer, streams_left, draining, going_away, after_shutdown}
use Rattle.model_laws.proofs.OrderLemmas.{kept_in, in_kept}
use Rattle.model_laws.proofs.OrderlySteps.{orderly_leaves}
use Rattle.model_laws.proofs.PendingLemmas.{none_there}
use Rattle.model_laws.proofs.ShutLemmas.{down_after_shutdown}
use Rattle.model_laws.proofs.StartSteps.{none_started, start_there}
use Rattle.model_laws.proofs.StayLemmas.{is_down}
use Rattle.model_laws.specs.Sound.{HasStreamsInOrder}
use Rattle.model_histories.proofs.EffectLemmas.{leaves_after_shutdown}
use Rattle.model_steps.specs.Answered.{is_misdirected, answered_connection}
use Rattle.model_authority.proofs.PhaseLemmas.{excludes}
use Rattle.model_authority.specs.Lists.{is_nil}
use Rattle.model_authority.specs.Statuses.{is_open, is_draining, is_dialing, is_closing, is_gone, is_opening, speaks_h2}
use Rattle.model_values.specs.declared.config.Config.{Config}
use Rattle.model_values.specs.declared.order.OrderMark.{OrderMark}
use Rattle.model_values.specs.declared.order.OrderMark.TheVariants as mark
use Rattle.model_values.specs.declared.state.Connection.{Connection}
use Rattle.model_values.specs.declared.state.Exchange.{Exchange}
use Rattle.model_values.specs.declared.state.Phase.{Phase}
use Rattle.model_values.specs.declared.state.Phase.TheVariants.{Wanted, Dialing, Open, Draining, Closing, Gone}

-- ---- what is said of phase and orders

abbrev Of : (Phase → List OrderMark → Type 0) → Connection → Type 0
Of Q c = Q c.phase c.orders

-- and holds of each connection that was told to close
module _ (Q : Phase → List OrderMark → Type 0) (closed : Q Closing (mark.Close ∷ [])) where
  by_closing : (c : Connection) → Of Q c → Of Q (closing c)
  unfolding closing
  by_closing c h = cond_both (is_closing c.phase || is_gone c.phase) c (record c { phase = Closing; orders = mark.Close ∷ [] }) (Of Q) (λ t. h) (λ f. closed)

  by_idle : (now : Moment) (c : Connection) → Of Q c → Of Q (idle_from now c)
  unfolding idle_from
  by_idle now c h =
      let idle : Connection = record c { idle_since = now } in
      cond_both (is_draining c.phase) (closing idle) idle (Of Q) (λ t. by_closing idle h) (λ f. h)

  by_run_out : (now : Moment) (c less : Connection) → Of Q less → Of Q (idle_if_run_out now c less)
  unfolding idle_if_run_out
  by_run_out now c less h = cond_both (has_run_out c less) (idle_from now less) less (Of Q) (λ t. by_idle now less h) (λ f. h)

  by_without_stream : (now : Moment) (r : StreamNo) (c : Connection) → Of Q c → Of Q (without_stream now r c)
  unfolding without_stream
  by_without_stream now r c h = by_run_out now c (record c { live = other_streams r c.live }) h

  by_without_start : (now : Moment) (r : StreamNo) (c : Connection) → Q c.phase (filter (λ m. not (is_start_of r m)) c.orders) →
      Of Q (without_start now r c)
  unfolding without_start
  by_without_start now r c h = by_run_out now c (record c { live = other_streams r c.live; orders = filter (λ m. not (is_start_of r m)) c.orders }) h

  by_without_exchange : (r : StreamNo) (c : Connection) → Of Q c → Q c.phase (c.orders ++ mark.Reset r ∷ []) → Of Q (without_exchange r c)
  unfolding without_exchange
  by_without_exchange r c h told = cond_both (speaks_h2 c) (record c { orders = c.orders ++ mark.Reset r ∷ [] }) (closing c) (Of Q) (λ t. told) (λ f. by_closing c h)

  by_kept_open : (keep : Bool) (c : Connection) → Of Q c → Of Q (kept_open keep c)
  by_kept_open true c h = h
  by_kept_open false c h = by_closing c h

  by_answered_connection : (now : Moment) (r : StreamNo) (response : Response) (keep : Bool) (lease : Option Exchange) (c : Connection) →
      Q c.phase (filter (λ m. not (is_reset_of r m)) c.orders) → Of Q (answered_connection now r response keep lease c)
  unfolding after_answer
  by_answered_connection now r response keep None c h = by_kept_open keep (without_stream now r (without_reset r c)) (by_without_stream now r (without_reset r c) h)
  by_answered_connection now r response keep (Some e) c h =
      let without : Connection = excluding e.ask.request.origin c in
      cond_both (is_misdirected response e) without c (λ (z : Connection). Of Q (after_answer now r keep z))
      (λ t. by_kept_open keep (without_stream now r (without_reset r without)) (by_without_stream now r (without_reset r without) h))
      (λ f. by_kept_open keep (without_stream now r (without_reset r c)) (by_without_stream now r (without_reset r c) h))

  by_large_answer : (now : Moment) (r : StreamNo) (c : Connection) → Of Q c → Of Q (after_large_answer now r c)
  unfolding after_large_answer
  by_large_answer now r c h = by_kept_open (speaks_h2 c) (without_stream now r c) (by_without_stream now r c h)

  by_going_away : (now : Moment) (conn : ConnNo) (es : List Exchange) (last : StreamNo) (c : Connection) →
      ((p : Phase) (ms : List OrderMark) → is_open p ≡ true → Q p ms → Q Draining ms) →
      Q c.phase (filter (λ m. not (is_start m)) c.orders) → Of Q (going_away now conn es last c)
  unfolding going_away
  by_going_away now conn es last c drains h =
      let less : Connection = record c { live = streams_left conn es last c.live; orders = filter (λ m. not (is_start m)) c.orders } in
      let left : Connection = idle_if_run_out now c less in
      let k : Of Q left = by_run_out now c less h in
      cond_both (is_nil left.live) (closing left) (draining left) (Of Q) (λ t. by_closing left k)
      (λ f. cond_both (is_open left.phase) (record left { phase = Draining }) left (Of Q) (λ t. drains left.phase left.orders t k) (λ g. k))

-- ---- a start among orders

pub not_of_close : (e : ExchangeNo) (r : StreamNo) → Contains (mark.Close ∷ []) (mark.Start e r) → ⊥
not_of_close e r h = elim (Contains-push_cases [] mark.Close (mark.Start e r) h) [ inl none ↦ none_there (mark.Start e r) none | inr same ↦ absurd cc ]

-- the start is one of its stream
pub start_among : (ms : List OrderMark) (e : ExchangeNo) (r : StreamNo) → Contains ms (mark.Start e r) → list_any (is_start_of r) ms ≡ true
start_among [] e r h = absurd (none_there (mark.Start e r) h)
start_among (m ∷ ms) e r h = elim (Contains-append_cases (m ∷ []) ms (mark.Start e r) h) [
  | inl first ↦ elim (Contains-push_cases [] m (mark.Start e r) first) [
    | inl none ↦ absurd (none_there (mark.Start e r) none)
    | inr same ↦ or_left (is_start_of r m) (list_any (is_start_of r) ms) (ap (λ (k : OrderMark). is_start_of r k) same ∙ eq-eqb r.0 r.0 refl)
  ]
  | inr later ↦ or_right (is_start_of r m) (list_any (is_start_of r) ms) (start_among ms e r later)
]

-- ---- a start that stays ordered until its connection closes

abbrev pub Awaits : ExchangeNo → StreamNo → Phase → List OrderMark → Type 0
Awaits e r p ms = (is_closing p ≡ true) ⊎ Contains ms (mark.Start e r)

awaits_fewer : (e : ExchangeNo) (r : StreamNo) (test : OrderMark → Bool) (p : Phase) (ms : List OrderMark) → test (mark.Start e r) ≡ true →
    Awaits e r p ms → Awaits e r p (filter test ms)
awaits_fewer e r test p ms passes h = elim h [ inl closes ↦ inl closes | inr has ↦ inr (in_kept test ms (mark.Start e r) has passes) ]

-- the start is there where the connection doesn't close
pub awaits_there : (e : ExchangeNo) (r : StreamNo) (p : Phase) (ms : List OrderMark) → is_closing p ≡ false → Awaits e r p ms →
    Contains ms (mark.Start e r)
awaits_there e r p ms goes_on h = elim h [ inl closes ↦ absurd (both_ways (is_closing p) goes_on closes) | inr has ↦ has ]

pub awaits_closing : (e : ExchangeNo) (r : StreamNo) (c : Connection) → Awaits e r c.phase c.orders → Awaits e r (closing c).phase (closing c).orders
awaits_closing e r c h = by_closing (Awaits e r) (inl refl) c h

pub awaits_without_stream : (e : ExchangeNo) (r : StreamNo) (now : Moment) (t : StreamNo) (c : Connection) → Awaits e r c.phase c.orders →
    Awaits e r (without_stream now t c).phase (without_stream now t c).orders
awaits_without_stream e r now t c h = by_without_stream (Awaits e r) (inl refl) now t c h

-- the start of another stream is taken back
pub awaits_without_start : (e : ExchangeNo) (r : StreamNo) (now : Moment) (t : StreamNo) (c : Connection) → (t.0 ≡ r.0 → ⊥) →
    Awaits e r c.phase c.orders →
    Awaits e r (without_start now t c).phase (without_start now t c).orders
awaits_without_start e r now t c other h =
    by_without_start (Awaits e r) (inl refl) now t c
    (awaits_fewer e r (λ m. not (is_start_of t m)) c.phase c.orders (not_from_false (t.0 == r.0) (ne_eqb t.0 r.0 other)) h)

pub awaits_without_exchange : (e : ExchangeNo) (r : StreamNo) (t : StreamNo) (c : Connection) → Awaits e r c.phase c.orders →
    Awaits e r (without_exchange t c).phase (without_exchange t c).orders
awaits_without_exchange e r t c h =
    by_without_exchange (Awaits e r) (inl refl) t c h
    (elim h [ inl closes ↦ inl closes | inr has ↦ inr (Contains-append_left c.orders (mark.Reset t ∷ []) (mark.Start e r) has) ])

pub awaits_answered : (e : ExchangeNo) (r : StreamNo) (now : Moment) (t : StreamNo) (response : Response) (keep : Bool) (lease : Option Exchange) (c : Connection) →
    Awaits e r c.phase c.orders →
    Awaits e r (answered_connection now t response keep lease c).phase (answered_connection now t response keep lease c).orders
awaits_answered e r now t response keep lease c h =
    by_answered_connection (Awaits e r) (inl refl) now t response keep lease c (awaits_fewer e r (λ m. not (is_reset_of t m)) c.phase c.orders refl h)

pub awaits_large_answer : (e : ExchangeNo) (r : StreamNo) (now : Moment) (t : StreamNo) (c : Connection) → Awaits e r c.phase c.orders →
    Awaits e r (after_large_answer now t c).phase (after_large_answer now t c).orders
awaits_large_answer e r now t c h = by_large_answer (Awaits e r) (inl refl) now t c h

pub awaits_opened : (e : ExchangeNo) (r : StreamNo) (is_shut : Bool) (now : Moment) (id : Identity) (c : Connection) → is_dialing c.phase ≡ true →
    Awaits e r c.phase c.orders →
    Awaits e r (after_opened is_shut now id c).phase (after_opened is_shut now id c).orders
unfolding after_opened
awaits_opened e r is_shut now id c dialing h =
    cond_both (not is_shut && suits c.group id) (opened_with now id c) (refused_with id c) (λ (z : Connection). Awaits e r z.phase z.orders)
    (λ t. inr (awaits_there e r c.phase c.orders (excludes is_dialing is_closing refl c.phase dialing) h))
    (λ f. awaits_closing e r (record c { identity = Some id }) h)

pub awaits_with_start : (e : ExchangeNo) (r : StreamNo) (last : ℕ) (f : ExchangeNo) (t : StreamNo) (c : Connection) → is_open c.phase ≡ true →
    Awaits e r c.phase c.orders →
    Awaits e r (with_start last f t c).phase (with_start last f t c).orders
unfolding with_start
awaits_with_start e r last f t c opened h =
    let goes_on : is_closing c.phase ≡ false = excludes is_open is_closing refl c.phase opened in
    inr (Contains-append_left c.orders (mark.Start f t ∷ []) (mark.Start e r) (awaits_there e r c.phase c.orders goes_on h))

-- ---- a connection that is gone, or has no such start ordered

abbrev pub Lacks : ExchangeNo → StreamNo → Phase → List OrderMark → Type 0
Lacks e r p ms = (is_gone p ≡ true) ⊎ (Contains ms (mark.Start e r) → ⊥)

-- the start of the stream was taken back
pub lacks_without_start : (e : ExchangeNo) (r : StreamNo) (now : Moment) (c : Connection) →
    Lacks e r (without_start now r c).phase (without_start now r c).orders
lacks_without_start e r now c =
    let is_own : not (r.0 == r.0) ≡ false = not_from_true (r.0 == r.0) (eq-eqb r.0 r.0 refl) in
    by_without_start (Lacks e r) (inr (not_of_close e r)) now r c
    (inr (λ h. both_ways (not (r.0 == r.0)) is_own (kept_in (λ m. not (is_start_of r m)) c.orders (mark.Start e r) h).1))

pub lacks_going_away : (e : ExchangeNo) (r : StreamNo) (now : Moment) (conn : ConnNo) (es : List Exchange) (last : StreamNo) (c : Connection) →
    Lacks e r (going_away now conn es last c).phase (going_away now conn es last c).orders
lacks_going_away e r now conn es last c =
    by_going_away (Lacks e r) (inr (not_of_close e r)) now conn es last c
    (λ p ms opened h. elim h [ inl over ↦ absurd (both_ways (is_gone p) (excludes is_open is_gone refl p opened) over) | inr none ↦ inr none ])
    (inr (λ h. let never : false ≡ true = (kept_in (λ m. not (is_start m)) c.orders (mark.Start e r) h).1 in absurd cc))

-- one that is neither wanted, open nor draining, and has its streams in order
lacks_down : (e : ExchangeNo) (r : StreamNo) (config : Config) (c : Connection) → is_down c.phase ≡ true → HasStreamsInOrder config c →
    Lacks e r c.phase c.orders
lacks_down e r config c down k = by c.phase refl
  where
    none_started_there : streams_started c.orders ≡ [] → Contains c.orders (mark.Start e r) → ⊥
    none_started_there none h = none_started r (subst (λ (rs : List StreamNo). Contains rs r) none (start_there r c.orders (start_among c.orders e r h)))

    by : (p : Phase) → c.phase ≡ p → Lacks e r c.phase c.orders
    by Wanted is = let up : false ≡ true = sym (ap (λ (p : Phase). is_down p) is) ∙ down in absurd cc
    by Dialing is = inr (none_started_there (k.opening (ap (λ (p : Phase). is_opening p) is)).ordered)
    by Open is = let up : false ≡ true = sym (ap (λ (p : Phase). is_down p) is) ∙ down in absurd cc
    by Draining is = let up : false ≡ true = sym (ap (λ (p : Phase). is_down p) is) ∙ down in absurd cc
    by Closing is = inr (none_started_there (k.closing (ap (λ (p : Phase). is_closing p) is)))
    by Gone is = inl (ap (λ (p : Phase). is_gone p) is)

pub lacks_after_shutdown : (e : ExchangeNo) (r : StreamNo) (config : Config) (c : Connection) → HasStreamsInOrder config c →
    Lacks e r (after_shutdown c).phase (after_shutdown c).orders
lacks_after_shutdown e r config c k =
    lacks_down e r config (after_shutdown c) (down_after_shutdown c) (orderly_leaves config c (after_shutdown c) (leaves_after_shutdown c) k)
