-- What a report, a release or a shutdown leaves of the live streams and the orders of a connection, and where it closes by that.
use Rattle.std.proofs.Common.{[], ◌≡◌, ◌⊎◌, ℕ, List, ◌∷◌, ◌++◌, Option, Some, None, Bool, true, false, inl, inr, refl, sym, ap, subst, ◌∙◌, arith, Contains, filter, zero}
use Rattle.std.specs.Prelude.{◌&&◌, ◌||◌, not, nat_le, if◌then◌else◌}
use Rattle.std.proofs.lemmas.Bool.{cond_both, and_parts, both_ways, eqb-true, not_from_false}
use Rattle.std.proofs.lemmas.List.Elements.{Contains-push_cases}
use Rattle.net_base.specs.declared.numbers.ConnNo.{ConnNo}
use Rattle.net_base.specs.declared.numbers.Moment.{Moment}
use Rattle.net_base.specs.declared.numbers.StreamNo.{StreamNo}
use Rattle.net_base.specs.declared.response.Response.{Response}
use Rattle.model_changes.specs.Connections.{is_stream, is_start, is_start_of, is_reset_of, closing, idle_from, has_run_out, idle_if_run_out, other_streams, without_stream, without_start, without_exchange, kept_open, without_reset, after_answer, excluding, after_large_answer, is_unsent_stream, streams_left, draining, going_away, gone, after_shutdown}
use Rattle.model_laws.proofs.OrderLemmas.{kept_in, in_kept}
use Rattle.model_laws.proofs.PendingLemmas.{none_there}
use Rattle.model_steps.specs.Answered.{is_misdirected, excluding_misdirected, answered_connection}
use Rattle.model_authority.proofs.PhaseLemmas.{excludes}
use Rattle.model_authority.specs.Lists.{is_nil}
use Rattle.model_authority.specs.Statuses.{is_wanted, is_open, is_draining, is_closing, is_gone, speaks_h2}
use Rattle.model_values.specs.declared.order.OrderMark.{OrderMark}
use Rattle.model_values.specs.declared.order.OrderMark.TheVariants as mark
use Rattle.model_values.specs.declared.state.Connection.{Connection}
use Rattle.model_values.specs.declared.state.Exchange.{Exchange}
use Rattle.model_values.specs.declared.state.Phase.{Phase}
use Rattle.model_values.specs.declared.state.Phase.TheVariants.{Draining, Closing}

-- it closes, or is gone
abbrev pub is_through : Phase → Bool
is_through p = is_closing p || is_gone p

abbrev pub HasNoneLive : Connection → Type 0
HasNoneLive y = (t : StreamNo) → Contains y.live t → ⊥

pub nil_none : (rs : List StreamNo) → is_nil rs ≡ true → (t : StreamNo) → Contains rs t → ⊥
nil_none [] e t h = none_there t h
nil_none (r ∷ rs) e t h = absurd cc

-- only the streams that it drops are no longer live, and only those that it resets are to be reset; it closes where none is live, or it
-- shuts
pub record Treats (drops resets : StreamNo → Type 0) (shuts : Type 0) (x y : Connection) : Type 0 where
  pub identity : y.identity ≡ x.identity
  pub started : y.started ≡ x.started
  pub through : is_through x.phase ≡ true → is_through y.phase ≡ true
  pub live : (t : StreamNo) → Contains x.live t → Contains y.live t ⊎ drops t
  pub fewer : (t : StreamNo) → Contains y.live t → Contains x.live t
  pub reset : (t : StreamNo) → Contains y.orders (mark.Reset t) → Contains x.orders (mark.Reset t) ⊎ resets t
  pub close : Contains y.orders mark.Close → Contains x.orders mark.Close ⊎ (is_through y.phase ≡ true)
  pub closing : is_closing y.phase ≡ true → (is_closing x.phase ≡ true) ⊎ (HasNoneLive y ⊎ shuts)

module _ (drops resets : StreamNo → Type 0) (shuts : Type 0) where
  abbrev Treated : Connection → Connection → Type 0
  Treated x y = Treats drops resets shuts x y

  -- ---- at most its orders, its live streams and what is said here of it change

  treats_fewer : (x y : Connection) → y.identity ≡ x.identity → y.started ≡ x.started → y.phase ≡ x.phase →
      ((t : StreamNo) → Contains x.live t → Contains y.live t ⊎ drops t) →
      ((t : StreamNo) → Contains y.live t → Contains x.live t) → ((t : StreamNo) → Contains y.orders (mark.Reset t) → Contains x.orders (mark.Reset t) ⊎ resets t) →
      (Contains y.orders mark.Close → Contains x.orders mark.Close) → Treated x y
  treats_fewer x y identity started phase live fewer reset close = record {
    identity = identity;
    started = started;
    through = λ t. ap (λ (p : Phase). is_through p) phase ∙ t;
    live = live;
    fewer = fewer;
    reset = reset;
    close = λ h. inl (close h);
    closing = λ t. inl (ap (λ (p : Phase). is_closing p) (sym phase) ∙ t);
  }

  -- nothing of these changes
  pub treats_like : (x y : Connection) → y.identity ≡ x.identity → y.started ≡ x.started → y.phase ≡ x.phase → y.live ≡ x.live → y.orders ≡ x.orders → Treated x y
  treats_like x y identity started phase live orders =
      treats_fewer x y identity started phase (λ t h. inl (subst (λ rs. Contains rs t) (sym live) h)) (λ t h. subst (λ rs. Contains rs t) live h)
      (λ t h. inl (subst (λ ms. Contains ms (mark.Reset t)) orders h)) (λ h. subst (λ ms. Contains ms mark.Close) orders h)

  pub treats_same : (x : Connection) → Treated x x
  treats_same x = treats_like x x refl refl refl refl refl

  treats_trans : (x y z : Connection) → Treated x y → Treated y z → Treated x z
  treats_trans x y z k l = record {
    identity = l.identity ∙ k.identity;
    started = l.started ∙ k.started;
    through = λ t. l.through (k.through t);
    live = λ t h. elim (k.live t h) [ inl still ↦ l.live t still | inr dropped ↦ inr dropped ];
    fewer = λ t h. k.fewer t (l.fewer t h);
    reset = λ t h. elim (l.reset t h) [ inl before ↦ k.reset t before | inr told ↦ inr told ];
    close = λ h. elim (l.close h) [
      | inl before ↦ elim (k.close before) [ inl first ↦ inl first | inr t ↦ inr (l.through t) ]
      | inr t ↦ inr t
    ];
    closing = λ t. elim (l.closing t) [
      | inl before ↦ elim (k.closing before) [
        | inl first ↦ inl first
        | inr (inl none) ↦ inr (inl (λ r h. none r (l.fewer r h)))
        | inr (inr shut) ↦ inr (inr shut)
      ]
      | inr by ↦ inr by
    ];
  }

  -- ---- closing

  pub treats_closing : (x : Connection) → HasNoneLive x ⊎ shuts → Treated x (closing x)
  unfolding closing
  treats_closing x why =
      cond_both (is_through x.phase) x (record x { phase = Closing; orders = mark.Close ∷ [] }) (Treated x) (λ t. treats_same x)
      (λ f. record {
        identity = refl;
        started = refl;
        through = λ t. refl;
        live = λ t h. inl h;
        fewer = λ t h. h;
        reset = λ t h. elim (Contains-push_cases [] mark.Close (mark.Reset t) h) [ inl none ↦ absurd (none_there (mark.Reset t) none) | inr same ↦ absurd cc ];
        close = λ h. inr refl;
        closing = λ t. inr why;
      })

  treats_idle : (now : Moment) (x : Connection) → HasNoneLive x → Treated x (idle_from now x)
  unfolding idle_from
  treats_idle now x none =
      let idle : Connection = record x { idle_since = now } in
      let same : Treated x idle = treats_like x idle refl refl refl refl refl in
      cond_both (is_draining x.phase) (closing idle) idle (Treated x) (λ t. treats_trans x idle (closing idle) same (treats_closing idle (inl none))) (λ f. same)

  treats_run_out : (now : Moment) (x less : Connection) → Treated x less → Treated x (idle_if_run_out now x less)
  unfolding idle_if_run_out
  treats_run_out now x less k =
      cond_both (has_run_out x less) (idle_from now less) less (Treated x)
      (λ t. treats_trans x less (idle_from now less) k (treats_idle now less (nil_none less.live (and_parts (is_nil less.live) (not (is_nil x.live)) t).0))) (λ f. k)

  treats_kept_open : (keep : Bool) (x y : Connection) → (keep ≡ false → shuts) → Treated x y → Treated x (kept_open keep y)
  treats_kept_open true x y shut k = k
  treats_kept_open false x y shut k = treats_trans x y (closing y) k (treats_closing y (inr (shut refl)))

  -- ---- a stream that is no longer live

  stream_kept : (r : StreamNo) (rs : List StreamNo) → drops r → (t : StreamNo) → Contains rs t → Contains (other_streams r rs) t ⊎ drops t
  stream_kept r rs dropped t h = by (is_stream r t) refl
    where
      by : (b : Bool) → is_stream r t ≡ b → Contains (other_streams r rs) t ⊎ drops t
      by true same = let whole : ℕ → StreamNo = λ k. record { 0 = k } in inr (subst drops (ap whole (eqb-true r.0 t.0 same)) dropped)
      by false other = inl (in_kept (λ x. not (is_stream r x)) rs t h (not_from_false (is_stream r t) other))

  stream_was : (r : StreamNo) (rs : List StreamNo) (t : StreamNo) → Contains (other_streams r rs) t → Contains rs t
  stream_was r rs t h = (kept_in (λ x. not (is_stream r x)) rs t h).0

  pub treats_without_stream : (now : Moment) (r : StreamNo) (x : Connection) → drops r → Treated x (without_stream now r x)
  unfolding without_stream
  treats_without_stream now r x dropped =
      let less : Connection = record x { live = other_streams r x.live } in
      treats_run_out now x less (treats_fewer x less refl refl refl (stream_kept r x.live dropped) (stream_was r x.live) (λ t h. inl h) (λ h. h))

  order_was : (test : OrderMark → Bool) (ms : List OrderMark) (m : OrderMark) → Contains (filter test ms) m → Contains ms m
  order_was test ms m h = (kept_in test ms m h).0

  pub treats_without_start : (now : Moment) (r : StreamNo) (x : Connection) → drops r → Treated x (without_start now r x)
  unfolding without_start
  treats_without_start now r x dropped =
      let test : OrderMark → Bool = λ m. not (is_start_of r m) in
      let less : Connection = record x { live = other_streams r x.live; orders = filter test x.orders } in
      treats_run_out now x less
      (treats_fewer x less refl refl refl (stream_kept r x.live dropped) (stream_was r x.live)
      (λ t h. inl (order_was test x.orders (mark.Reset t) h)) (λ h. order_was test x.orders mark.Close h))

  pub treats_without_exchange : (r : StreamNo) (x : Connection) → (speaks_h2 x ≡ true → resets r) → (speaks_h2 x ≡ false → shuts) → Treated x (without_exchange r x)
  unfolding without_exchange
  treats_without_exchange r x told shut =
      let more : Connection = record x { orders = x.orders ++ mark.Reset r ∷ [] } in
      cond_both (speaks_h2 x) more (closing x) (Treated x)
      (λ h2. treats_fewer x more refl refl refl (λ t h. inl h) (λ t h. h)
      (λ t h. elim (Contains-push_cases x.orders (mark.Reset r) (mark.Reset t) h) [ inl before ↦ inl before | inr same ↦ let one : r ≡ t = cc in inr (subst resets one (told h2)) ])
      (λ h. elim (Contains-push_cases x.orders (mark.Reset r) mark.Close h) [ inl before ↦ before | inr same ↦ absurd cc ]))
      (λ h1. treats_closing x (inr (shut h1)))

  treats_excluding : (response : Response) (lease : Option Exchange) (x : Connection) → Treated x (excluding_misdirected response lease x)
  treats_excluding response None x = treats_same x
  treats_excluding response (Some e) x =
      let without : Connection = excluding e.ask.request.origin x in
      cond_both (is_misdirected response e) without x (Treated x) (λ t. treats_like x without refl refl refl refl refl) (λ f. treats_same x)

  treats_after_answer : (now : Moment) (r : StreamNo) (keep : Bool) (x : Connection) → drops r → (keep ≡ false → shuts) → Treated x (after_answer now r keep x)
  unfolding after_answer
  treats_after_answer now r keep x dropped shut =
      let test : OrderMark → Bool = λ m. not (is_reset_of r m) in
      let less : Connection = without_reset r x in
      let fewer : Treated x less =
      treats_fewer x less refl refl refl (λ t h. inl h) (λ t h. h) (λ t h. inl (order_was test x.orders (mark.Reset t) h)) (λ h. order_was test x.orders mark.Close h) in
      treats_kept_open keep x (without_stream now r less) shut (treats_trans x less (without_stream now r less) fewer (treats_without_stream now r less dropped))

  pub treats_answered : (now : Moment) (r : StreamNo) (response : Response) (keep : Bool) (lease : Option Exchange) (x : Connection) → drops r → (keep ≡ false → shuts) →
      Treated x (answered_connection now r response keep lease x)
  treats_answered now r response keep lease x dropped shut =
      let first : Connection = excluding_misdirected response lease x in
      treats_trans x first (after_answer now r keep first) (treats_excluding response lease x) (treats_after_answer now r keep first dropped shut)

  pub treats_large_answer : (now : Moment) (r : StreamNo) (x : Connection) → drops r → (speaks_h2 x ≡ false → shuts) → Treated x (after_large_answer now r x)
  unfolding after_large_answer
  treats_large_answer now r x dropped shut = treats_kept_open (speaks_h2 x) x (without_stream now r x) shut (treats_without_stream now r x dropped)

  -- ---- going away, and a shutdown

  treats_draining : (x : Connection) → Treated x (draining x)
  treats_draining x =
      cond_both (is_open x.phase) (record x { phase = Draining }) x (Treated x)
      (λ t. record {
        identity = refl;
        started = refl;
        through = λ h. absurd (both_ways (is_through x.phase) (excludes is_open is_through refl x.phase t) h);
        live = λ r h. inl h;
        fewer = λ r h. h;
        reset = λ r h. inl h;
        close = λ h. inl h;
        closing = λ h. absurd cc;
      })
      (λ f. treats_same x)

  -- a stream that it drops fails this test
  abbrev stays : ConnNo → List Exchange → StreamNo → StreamNo → Bool
  stays conn es last t = nat_le t.0 last.0 && not (is_unsent_stream conn es t)

  pub treats_going_away : (now : Moment) (conn : ConnNo) (es : List Exchange) (last : StreamNo) (x : Connection) →
      ((t : StreamNo) → stays conn es last t ≡ false → drops t) →
      Treated x (going_away now conn es last x)
  unfolding going_away
  treats_going_away now conn es last x dropped =
      let test : OrderMark → Bool = λ m. not (is_start m) in
      let less : Connection = record x { live = streams_left conn es last x.live; orders = filter test x.orders } in
      let left : Connection = idle_if_run_out now x less in
      let k : Treated x left = treats_run_out now x less
      (treats_fewer x less refl refl refl kept (λ t h. (kept_in (stays conn es last) x.live t h).0)
      (λ t h. inl (order_was test x.orders (mark.Reset t) h)) (λ h. order_was test x.orders mark.Close h)) in
      cond_both (is_nil left.live) (closing left) (draining left) (Treated x)
      (λ t. treats_trans x left (closing left) k (treats_closing left (inl (nil_none left.live t)))) (λ f. treats_trans x left (draining left) k (treats_draining left))
    where
      kept : (t : StreamNo) → Contains x.live t → Contains (streams_left conn es last x.live) t ⊎ drops t
      kept t h = by (stays conn es last t) refl
        where
          by : (b : Bool) → stays conn es last t ≡ b → Contains (streams_left conn es last x.live) t ⊎ drops t
          by true still = inl (in_kept (stays conn es last) x.live t h still)
          by false out = inr (dropped t out)

  pub treats_shutdown : (x : Connection) → shuts → Treated x (after_shutdown x)
  unfolding after_shutdown
  treats_shutdown x shut =
      let up : Connection = if is_open x.phase || is_draining x.phase then closing x else x in
      cond_both (is_wanted x.phase) (gone x) up (Treated x)
      (λ w. record { identity = refl; started = refl; through = λ h. refl; live = λ r h. inl h; fewer = λ r h. h; reset = λ r h. inl h; close = λ h. inl h; closing = λ h. absurd cc })
      (λ f. cond_both (is_open x.phase || is_draining x.phase) (closing x) x (Treated x) (λ t. treats_closing x (inr shut)) (λ g. treats_same x))

-- ---- where it closes

through_closing : (y : Connection) → is_through (closing y).phase ≡ true
unfolding closing
through_closing y =
    cond_both (is_through y.phase) y (record y { phase = Closing; orders = mark.Close ∷ [] }) (λ (z : Connection). is_through z.phase ≡ true) (λ t. t) (λ f. refl)

none_drained : (y : Connection) → HasNoneLive (draining y) → HasNoneLive y
none_drained y = cond_both (is_open y.phase) (record y { phase = Draining }) y (λ (z : Connection). HasNoneLive z → HasNoneLive y) (λ t none. none) (λ f none. none)

some_live : (rs : List StreamNo) → is_nil rs ≡ false → ((t : StreamNo) → Contains rs t → ⊥) → ⊥
some_live [] f none = absurd cc
some_live (r ∷ rs) f none = none r (zero, omega arith, refl)

-- one that is left without live streams as its peer goes away closes
pub going_through : (now : Moment) (conn : ConnNo) (es : List Exchange) (last : StreamNo) (x : Connection) → HasNoneLive (going_away now conn es last x) →
    is_through (going_away now conn es last x).phase ≡ true
unfolding going_away
going_through now conn es last x =
    let less : Connection = record x { live = streams_left conn es last x.live; orders = filter (λ m. not (is_start m)) x.orders } in
    let left : Connection = idle_if_run_out now x less in
    cond_both (is_nil left.live) (closing left) (draining left) (λ (y : Connection). HasNoneLive y → is_through y.phase ≡ true) (λ t none. through_closing left)
    (λ f none. absurd (some_live left.live f (none_drained left none)))
