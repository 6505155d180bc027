-- What an entry leaves of each connection: one record of what any change leaves of a connection that neither dials, opens nor
-- ends it, gives it a stream or takes its orders, and for each act what becomes of the connections.
use Rattle.std.proofs.Common.{[], ◌≡◌, ◌≤◌, ◌<◌, ℕ, List, ◌∷◌, ◌++◌, Option, Some, None, Bool, true, false, All, inl, inr, refl, sym, ap, subst, ◌∙◌, arith, length, filter, replicate, is_some}
use Rattle.std.specs.Prelude.{◌==◌, ◌&&◌, ◌||◌, not, if◌then◌else◌, Contains}
use Rattle.std.proofs.lemmas.Bool.{cases_eq, cond_both}
use Rattle.std.proofs.lemmas.Grind.{flat_map-append}
use Rattle.std.proofs.lemmas.List.Elements.{All-nil, All-cons, All-head, All-tail, All-append, All-filter, All-contains, All-contains_itself, Contains-push_cases}
use Rattle.std.proofs.lemmas.List.Sums.{length-filter, count_by-le-length}
use Rattle.net_base.specs.declared.end_cause.EndCause.{EndCause}
use Rattle.net_base.specs.declared.identity.Identity.{Identity}
use Rattle.net_base.specs.declared.numbers.CallerNo.{CallerNo}
use Rattle.net_base.specs.declared.numbers.ConnNo.{ConnNo}
use Rattle.net_base.specs.declared.numbers.ExchangeNo.{ExchangeNo}
use Rattle.net_base.specs.declared.numbers.Moment.{Moment}
use Rattle.net_base.specs.declared.numbers.StreamNo.{StreamNo}
use Rattle.net_base.specs.declared.target.Target.{Target}
use Rattle.net_base.specs.declared.target.Via.{Via}
use Rattle.net_base.specs.declared.target.Via.TheVariants as via
use Rattle.partition_keys.specs.declared.group.GroupKey.{GroupKey}
use Rattle.model_changes.specs.Connections.{is_start, is_start_of, is_reset_of, started_by, streams_started, closing, idle_from, has_run_out, idle_if_run_out, other_streams, without_stream, without_start, without_exchange, new_connection, dialing_by, after_opened, with_start, with_taken, with_limit, kept_open, without_reset, after_answer, excluding, after_large_answer, streams_left, draining, going_away, gone, after_shutdown, with_sent}
use Rattle.model_histories.proofs.CauseLemmas.{by_alt_seen, by_closed, by_want}
use Rattle.model_histories.proofs.EditLemmas.{edit_here, edit_none, edit_other, edit_at, map_at, append_at, each_replicate, each_one}
use Rattle.model_steps.specs.After.{after_submit, released_lease, released_by, released, after_cancel, after_reprioritise, after_preconnect, after_resolved, after_network, after_shut, after_dial, after_orders, after_report, after_expire, after_lapse, after_assign, wanted_connection, after_want, after_evict, sent_noted, after_act}
use Rattle.model_steps.specs.Answered.{is_misdirected, lease_at, excluding_misdirected, answered_connection, after_answered}
use Rattle.model_steps.specs.Lost.{after_lost, after_closed}
use Rattle.model_steps.specs.Opened.{after_useless, after_open_of, after_open}
use Rattle.model_authority.proofs.NumberLemmas.{option_cases}
use Rattle.model_authority.proofs.PhaseLemmas.{is_each, each_phase, implied, follows, or_else}
use Rattle.model_authority.specs.Lists.{numbered, edit, is_nil}
use Rattle.model_authority.specs.Statuses.{stage_of, is_wanted, is_open, is_draining, is_closing, is_gone, speaks_h2}
use Rattle.model_authority.specs.Ways.{group_for}
use Rattle.model_values.specs.declared.entry.Act.{Act}
use Rattle.model_values.specs.declared.entry.Act.TheVariants.{Submit, Cancel, Reprioritise, Preconnect, Resolved, Shutdown, Dial, Orders, Reported, Closed, Expire, Assign, Want, Evict}
use Rattle.model_values.specs.declared.order.OrderMark.{OrderMark}
use Rattle.model_values.specs.declared.order.OrderMark.TheVariants as mark
use Rattle.model_values.specs.declared.outcome.Outcome.{Outcome}
use Rattle.model_values.specs.declared.outcome.Outcome.TheVariants as outcome
use Rattle.model_values.specs.declared.reply.CancelReply.TheVariants as cancel
use Rattle.model_values.specs.declared.reply.ChangeReply.TheVariants as change
use Rattle.model_values.specs.declared.reply.PreconnectReply.TheVariants as preconnect
use Rattle.model_values.specs.declared.reply.ResolvedReply.TheVariants as resolved
use Rattle.model_values.specs.declared.reply.ShutReply.TheVariants as shut
use Rattle.model_values.specs.declared.reply.SubmitReply.TheVariants as submit
use Rattle.model_values.specs.declared.report.Report.{Report}
use Rattle.model_values.specs.declared.report.Report.TheVariants as report
use Rattle.net_base.specs.declared.response.Response.{Response}
use Rattle.model_values.specs.declared.state.AbstractPool.{AbstractPool}
use Rattle.model_values.specs.declared.state.Connection.{Connection}
use Rattle.model_values.specs.declared.state.Exchange.{Exchange}
use Rattle.model_values.specs.declared.state.Phase.{Phase}
use Rattle.model_values.specs.declared.state.Phase.TheVariants.{Draining, Closing, Gone}
use Rattle.model_values.specs.declared.state.Status.{Status}
use Rattle.model_values.specs.declared.state.Status.TheVariants.{Waiting, Leased, Ended}

-- ---- streams of orders

abbrev pub Below : ℕ → StreamNo → Type 0
Below n r = r.0 < n

-- what is ordered to start below a number stays below it
abbrev pub OrdersNoMore : List OrderMark → List OrderMark → Type 0
OrdersNoMore ms os = (n : ℕ) → All (Below n) (streams_started ms) → All (Below n) (streams_started os)

none_below : (rs : List StreamNo) → All (Below 0) rs → rs ≡ []
none_below [] h = refl
none_below (r ∷ rs) h = let below : r.0 < 0 = All-head (Below 0) r rs h in absurd (omega arith)

pub orders_none : (ms os : List OrderMark) → OrdersNoMore ms os → streams_started ms ≡ [] → streams_started os ≡ []
orders_none ms os fewer none = none_below (streams_started os) (fewer 0 (subst (All (Below 0)) (sym none) (All-nil (Below 0))))

-- fewer orders start no other streams
fewer_orders : (test : OrderMark → Bool) (ms : List OrderMark) → OrdersNoMore ms (filter test ms)
fewer_orders test [] n h = h
fewer_orders test (mark.Start e r ∷ ms) n h =
    let rest : All (Below n) (streams_started (filter test ms)) = fewer_orders test ms n (All-tail (Below n) r (streams_started ms) h) in
    cond_both (test (mark.Start e r)) (mark.Start e r ∷ filter test ms) (filter test ms) (λ (os : List OrderMark). All (Below n) (streams_started os))
    (λ t. All-cons (Below n) r (streams_started (filter test ms)) (All-head (Below n) r (streams_started ms) h) rest) (λ f. rest)
fewer_orders test (mark.Reset r ∷ ms) n h =
    let rest : All (Below n) (streams_started (filter test ms)) = fewer_orders test ms n h in
    cond_both (test (mark.Reset r)) (mark.Reset r ∷ filter test ms) (filter test ms) (λ (os : List OrderMark). All (Below n) (streams_started os)) (λ t. rest) (λ f. rest)
fewer_orders test (mark.Close ∷ ms) n h =
    let rest : All (Below n) (streams_started (filter test ms)) = fewer_orders test ms n h in
    cond_both (test mark.Close) (mark.Close ∷ filter test ms) (filter test ms) (λ (os : List OrderMark). All (Below n) (streams_started os)) (λ t. rest) (λ f. rest)

reset_orders : (r : StreamNo) (ms : List OrderMark) → OrdersNoMore ms (ms ++ mark.Reset r ∷ [])
reset_orders r ms n h = subst (All (Below n)) (sym (flat_map-append started_by ms (mark.Reset r ∷ []))) (All-append (Below n) (streams_started ms) [] h (All-nil (Below n)))

-- each start that is ordered was ordered before
abbrev pub StartsNoOther : List OrderMark → List OrderMark → Type 0
StartsNoOther ms os = (e : ExchangeNo) (r : StreamNo) → Contains os (mark.Start e r) → Contains ms (mark.Start e r)

fewer_starts : (test : OrderMark → Bool) (ms : List OrderMark) → StartsNoOther ms (filter test ms)
fewer_starts test ms e r h = All-contains (λ m. Contains ms m) (filter test ms) (mark.Start e r) (All-filter test (λ m. Contains ms m) ms (All-contains_itself ms)) h

reset_starts : (t : StreamNo) (ms : List OrderMark) → StartsNoOther ms (ms ++ mark.Reset t ∷ [])
reset_starts t ms e r h = elim (Contains-push_cases ms (mark.Reset t) (mark.Start e r) h) [ inl before ↦ before | inr same ↦ absurd cc ]

close_starts : (ms : List OrderMark) → StartsNoOther ms (mark.Close ∷ [])
close_starts ms e r h = elim (Contains-push_cases [] mark.Close (mark.Start e r) h) [ inl none ↦ absurd (omega (arith, none.1)) | inr same ↦ absurd cc ]

fewer_streams : (test : StreamNo → Bool) (rs : List StreamNo) → length (filter test rs) ≤ length rs
fewer_streams test rs = omega (arith, length-filter test rs, count_by-le-length test rs)

-- ---- phases

-- it stays in its phase, drains where it was open, closes, or is gone where nobody had dialed it
abbrev pub goes_on : Phase → Phase → Bool
goes_on p q = stage_of p == stage_of q || (is_open p && is_draining q) || (not (is_closing p || is_gone p) && is_closing q) || (is_wanted p && is_gone q)

-- what follows at each two phases of going on, follows of going on
pub going_on : (f : Phase → Phase → Bool) → is_each (λ p. is_each (λ q. not (goes_on p q) || f p q)) ≡ true → (p q : Phase) → goes_on p q ≡ true → f p q ≡ true
going_on f h p q goes = follows (goes_on p) (f p) (each_phase (λ r. is_each (λ t. not (goes_on r t) || f r t)) h p) q goes

-- and with what is known of the two
pub going_by : (f g : Phase → Phase → Bool) → is_each (λ p. is_each (λ q. not (goes_on p q) || (not (f p q) || g p q))) ≡ true → (p q : Phase) → goes_on p q ≡ true → f p q ≡ true →
    g p q ≡ true
going_by f g h p q goes known = implied (f p q) (g p q) (going_on (λ a b. not (f a b) || g a b) h p q goes) known

goes_same : (p q : Phase) → q ≡ p → goes_on p q ≡ true
goes_same p q same = subst (λ r. goes_on p r ≡ true) (sym same) (each_phase (λ r. goes_on r r) refl p)

goes_trans : (p q r : Phase) → goes_on p q ≡ true → goes_on q r ≡ true → goes_on p r ≡ true
goes_trans p q r first second =
    follows (goes_on q) (goes_on p) (going_on (λ a b. is_each (λ c. not (goes_on b c) || goes_on a c)) refl p q first) r second

-- ---- one connection

-- what it keeps
pub record Lasting : Type 0 where
  pub group : GroupKey
  pub caller : CallerNo
  pub identity : Option Identity
  pub next_stream : ℕ
  pub started : List StreamNo
  pub sent : ℕ

abbrev pub lasting : Connection → Lasting
lasting c = record { group = c.group; caller = c.caller; identity = c.identity; next_stream = c.next_stream; started = c.started; sent = c.sent }

-- its phase goes on, it has no more live streams and orders no others, and one that closes starts nothing
pub record Leaves (x y : Connection) : Type 0 where
  pub lasts : lasting y ≡ lasting x
  pub phase : goes_on x.phase y.phase ≡ true
  pub live : length y.live ≤ length x.live
  pub ordered : OrdersNoMore x.orders y.orders
  pub starts : StartsNoOther x.orders y.orders
  pub closing : (is_closing x.phase ≡ true → streams_started x.orders ≡ []) → is_closing y.phase ≡ true → streams_started y.orders ≡ []

leaves_fewer : (x y : Connection) → lasting y ≡ lasting x → y.phase ≡ x.phase → length y.live ≤ length x.live → OrdersNoMore x.orders y.orders → StartsNoOther x.orders y.orders → Leaves x y
leaves_fewer x y lasts phase live ordered starts = record {
  lasts = lasts;
  phase = goes_same x.phase y.phase phase;
  live = live;
  ordered = ordered;
  starts = starts;
  closing = λ none t. orders_none x.orders y.orders ordered (none (ap (λ (p : Phase). is_closing p) (sym phase) ∙ t));
}

pub leaves_same : (c : Connection) → Leaves c c
leaves_same c = leaves_fewer c c refl refl (omega arith) (λ n h. h) (λ e r h. h)

leaves_trans : (x y z : Connection) → Leaves x y → Leaves y z → Leaves x z
leaves_trans x y z k l =
    let first : length y.live ≤ length x.live = k.live in
    let second : length z.live ≤ length y.live = l.live in
    record {
      lasts = l.lasts ∙ k.lasts;
      phase = goes_trans x.phase y.phase z.phase k.phase l.phase;
      live = omega arith;
      ordered = λ n h. l.ordered n (k.ordered n h);
      starts = λ e r h. k.starts e r (l.starts e r h);
      closing = λ none. l.closing (k.closing none);
    }

pub leaves_closing : (c : Connection) → Leaves c (closing c)
unfolding closing
leaves_closing c =
    let closed : Connection = record c { phase = Closing; orders = mark.Close ∷ [] } in
    cond_both (is_closing c.phase || is_gone c.phase) c closed (Leaves c) (λ t. leaves_same c)
    (λ f. record {
      lasts = refl;
      phase = or_else (λ p. false) (λ p. is_closing p || is_gone p) (λ p. goes_on p Closing) refl c.phase refl f;
      live = omega arith;
      ordered = λ n h. All-nil (Below n);
      starts = close_starts c.orders;
      closing = λ none t. refl;
    })

leaves_idle : (now : Moment) (c : Connection) → Leaves c (idle_from now c)
unfolding idle_from
leaves_idle now c =
    let idle : Connection = record c { idle_since = now } in
    let same : Leaves c idle = leaves_fewer c idle refl refl (omega arith) (λ n h. h) (λ e r h. h) in
    cond_both (is_draining c.phase) (closing idle) idle (Leaves c) (λ t. leaves_trans c idle (closing idle) same (leaves_closing idle)) (λ f. same)

-- from one with the same phase on, whose live streams may have run out
leaves_run_out : (now : Moment) (c less : Connection) → Leaves c less → Leaves c (idle_if_run_out now c less)
unfolding idle_if_run_out
leaves_run_out now c less k = cond_both (has_run_out c less) (idle_from now less) less (Leaves c) (λ t. leaves_trans c less (idle_from now less) k (leaves_idle now less)) (λ f. k)

leaves_without_stream : (now : Moment) (r : StreamNo) (c : Connection) → Leaves c (without_stream now r c)
unfolding without_stream
leaves_without_stream now r c =
    let less : Connection = record c { live = other_streams r c.live } in
    leaves_run_out now c less (leaves_fewer c less refl refl (fewer_streams _ c.live) (λ n h. h) (λ e r h. h))

pub leaves_without_start : (now : Moment) (r : StreamNo) (c : Connection) → Leaves c (without_start now r c)
unfolding without_start
leaves_without_start now r c =
    let less : Connection = record c { live = other_streams r c.live; orders = filter (λ m. not (is_start_of r m)) c.orders } in
    leaves_run_out now c less (leaves_fewer c less refl refl (fewer_streams _ c.live) (fewer_orders (λ m. not (is_start_of r m)) c.orders) (fewer_starts (λ m. not (is_start_of r m)) c.orders))

pub leaves_without_exchange : (r : StreamNo) (c : Connection) → Leaves c (without_exchange r c)
unfolding without_exchange
leaves_without_exchange r c =
    let told : Connection = record c { orders = c.orders ++ mark.Reset r ∷ [] } in
    cond_both (speaks_h2 c) told (closing c) (Leaves c) (λ t. leaves_fewer c told refl refl (omega arith) (reset_orders r c.orders) (reset_starts r c.orders)) (λ f. leaves_closing c)

leaves_kept_open : (keep : Bool) (c left : Connection) → Leaves c left → Leaves c (kept_open keep left)
leaves_kept_open true c left k = k
leaves_kept_open false c left k = leaves_trans c left (closing left) k (leaves_closing left)

leaves_after_answer : (now : Moment) (r : StreamNo) (keep : Bool) (c : Connection) → Leaves c (after_answer now r keep c)
unfolding after_answer
leaves_after_answer now r keep c =
    let less : Connection = without_reset r c in
    let fewer : Leaves c less = leaves_fewer c less refl refl (omega arith) (fewer_orders (λ m. not (is_reset_of r m)) c.orders) (fewer_starts (λ m. not (is_reset_of r m)) c.orders) in
    leaves_kept_open keep c (without_stream now r less) (leaves_trans c less (without_stream now r less) fewer (leaves_without_stream now r less))

leaves_excluding : (response : Response) (lease : Option Exchange) (c : Connection) → Leaves c (excluding_misdirected response lease c)
leaves_excluding response None c = leaves_same c
leaves_excluding response (Some e) c =
    let without : Connection = excluding e.ask.request.origin c in
    cond_both (is_misdirected response e) without c (Leaves c) (λ t. leaves_fewer c without refl refl (omega arith) (λ n h. h) (λ e r h. h)) (λ f. leaves_same c)

leaves_answered : (now : Moment) (r : StreamNo) (response : Response) (keep : Bool) (lease : Option Exchange) (c : Connection) →
    Leaves c (answered_connection now r response keep lease c)
leaves_answered now r response keep lease c =
    let first : Connection = excluding_misdirected response lease c in
    leaves_trans c first (after_answer now r keep first) (leaves_excluding response lease c) (leaves_after_answer now r keep first)

leaves_large_answer : (now : Moment) (r : StreamNo) (c : Connection) → Leaves c (after_large_answer now r c)
unfolding after_large_answer
leaves_large_answer now r c = leaves_kept_open (speaks_h2 c) c (without_stream now r c) (leaves_without_stream now r c)

leaves_draining : (c : Connection) → Leaves c (draining c)
leaves_draining c =
    cond_both (is_open c.phase) (record c { phase = Draining }) c (Leaves c)
    (λ t. record {
      lasts = refl;
      phase = follows is_open (λ p. goes_on p Draining) refl c.phase t;
      live = omega arith;
      ordered = λ n h. h;
      starts = λ e r h. h;
      closing = λ none t. absurd cc;
    })
    (λ f. leaves_same c)

leaves_going_away : (now : Moment) (conn : ConnNo) (es : List Exchange) (last : StreamNo) (c : Connection) → Leaves c (going_away now conn es last c)
unfolding going_away
leaves_going_away now conn es last c =
    let less : Connection = record c { live = streams_left conn es last c.live; orders = filter (λ m. not (is_start m)) c.orders } in
    let left : Connection = idle_if_run_out now c less in
    let k : Leaves c left = leaves_run_out now c less (leaves_fewer c less refl refl (fewer_streams _ c.live) (fewer_orders (λ m. not (is_start m)) c.orders) (fewer_starts (λ m. not (is_start m)) c.orders)) in
    cond_both (is_nil left.live) (closing left) (draining left) (Leaves c)
    (λ t. leaves_trans c left (closing left) k (leaves_closing left)) (λ f. leaves_trans c left (draining left) k (leaves_draining left))

pub leaves_after_shutdown : (c : Connection) → Leaves c (after_shutdown c)
unfolding after_shutdown
leaves_after_shutdown c =
    let up : Connection = if is_open c.phase || is_draining c.phase then closing c else c in
    cond_both (is_wanted c.phase) (gone c) up (Leaves c)
    (λ w. record {
      lasts = refl;
      phase = follows is_wanted (λ p. goes_on p Gone) refl c.phase w;
      live = omega arith;
      ordered = λ n h. h;
      starts = λ e r h. h;
      closing = λ none t. absurd cc;
    })
    (λ f. cond_both (is_open c.phase || is_draining c.phase) (closing c) c (Leaves c) (λ t. leaves_closing c) (λ g. leaves_same c))

-- ---- lists of connections

-- no connection is added, and of each so much is left
abbrev pub LeavesAt : Option Connection → Option Connection → Type 0
LeavesAt None None = Unit {0}
LeavesAt None (Some y) = ⊥
LeavesAt (Some x) None = ⊥
LeavesAt (Some x) (Some y) = Leaves x y

abbrev pub EachLeaves : List Connection → List Connection → Type 0
EachLeaves xs ys = (n : ℕ) → LeavesAt (numbered n xs) (numbered n ys)

at_same : (o : Option Connection) → LeavesAt o o
at_same None = tt
at_same (Some c) = leaves_same c

each_same : (xs : List Connection) → EachLeaves xs xs
each_same xs n = at_same (numbered n xs)

each_edit : (number : ℕ) (f : Connection → Connection) (xs : List Connection) → ((c : Connection) → Leaves c (f c)) → EachLeaves xs (edit number f xs)
each_edit number f xs leaves n = edit_at LeavesAt number n f xs at_same (λ c is_item. leaves c)

-- each connection is as it was, and further ones are wanted
pub record IsNew (c : Connection) : Type 0 where
  pub group : GroupKey
  pub wanted_for : Option ExchangeNo
  pub now : Moment
  pub is_new : c ≡ new_connection group wanted_for now

abbrev pub AddsAt : Option Connection → Option Connection → Type 0
AddsAt None None = Unit {0}
AddsAt None (Some y) = IsNew y
AddsAt (Some x) None = ⊥
AddsAt (Some x) (Some y) = y ≡ x

abbrev pub Adds : List Connection → List Connection → Type 0
Adds xs ys = (n : ℕ) → AddsAt (numbered n xs) (numbered n ys)

adds_none : (o : Option Connection) → AddsAt o o
adds_none None = tt
adds_none (Some c) = refl

adds_same : (xs : List Connection) → Adds xs xs
adds_same xs n = adds_none (numbered n xs)

new_one : (g : GroupKey) (wanted_for : Option ExchangeNo) (now : Moment) → IsNew (new_connection g wanted_for now)
new_one g wanted_for now = record { group = g; wanted_for = wanted_for; now = now; is_new = refl }

-- the connection of this number becomes one that is so related to it, and each other stays
pub record OneBecomes (R : Connection → Connection → Type 0) (number : ℕ) (xs ys : List Connection) : Type 0 where
  pub others : (n : ℕ) → (n ≡ number → ⊥) → numbered n ys ≡ numbered n xs
  pub none : numbered number xs ≡ None → numbered number ys ≡ None
  pub changed : (x : Connection) → numbered number xs ≡ Some x → (y : Connection) × (numbered number ys ≡ Some y) × R x y

one_edit : (R : Connection → Connection → Type 0) (number : ℕ) (f : Connection → Connection) (xs : List Connection) → ((x : Connection) → R x (f x)) → OneBecomes R number xs (edit number f xs)
one_edit R number f xs r = record {
  others = λ n other. edit_other number n f xs other;
  none = λ e. ap (numbered number) (edit_none number f xs e) ∙ e;
  changed = λ x e. (f x, edit_here number f xs x e, r x);
}

one_same : (number : ℕ) (xs : List Connection) → OneBecomes Leaves number xs xs
one_same number xs = record { others = λ n other. refl; none = λ e. e; changed = λ x e. (x, e, leaves_same x) }

one_none : (R : Connection → Connection → Type 0) (number : ℕ) (xs : List Connection) → numbered number xs ≡ None → OneBecomes R number xs xs
one_none R number xs none = record { others = λ n other. refl; none = λ e. e; changed = λ x e. absurd cc }

-- behind an edit of the same connection
one_after : (R : Connection → Connection → Type 0) (number : ℕ) (f : Connection → Connection) (xs ys : List Connection) → OneBecomes R number (edit number f xs) ys →
    OneBecomes (λ a b. R (f a) b) number xs ys
one_after R number f xs ys one = record {
  others = λ n other. one.others n other ∙ edit_other number n f xs other;
  none = λ e. one.none (ap (numbered number) (edit_none number f xs e) ∙ e);
  changed = λ x e. one.changed (f x) (edit_here number f xs x e);
}

-- what holds of none, of each that stays, and of the one before and after, holds at each number
pub one_at : (P : ℕ → Option Connection → Option Connection → Type 0) (R : Connection → Connection → Type 0) (number : ℕ) (xs ys : List Connection) → OneBecomes R number xs ys →
    ((n : ℕ) (o : Option Connection) → (n ≡ number → ⊥) → P n o o) → (numbered number xs ≡ None → P number None None) →
    ((x y : Connection) → numbered number xs ≡ Some x → R x y → P number (Some x) (Some y)) → (n : ℕ) → P n (numbered n xs) (numbered n ys)
one_at P R number xs ys one same none here n = elim (cases_eq n number) [
  | inl e ↦ subst (λ i. P i (numbered i xs) (numbered i ys)) (sym e) at
  | inr e ↦ subst (P n (numbered n xs)) (sym (one.others n e)) (same n (numbered n xs) e)
]
  where
    at : P number (numbered number xs) (numbered number ys)
    at = elim (option_cases (numbered number xs)) [
      | inl e ↦ subst (λ o. P number o (numbered number ys)) (sym e) (subst (P number None) (sym (one.none e)) (none e))
      | inr e ↦
          let c = one.changed e.0 e.1 in
          subst (λ o. P number o (numbered number ys)) (sym e.1) (subst (P number (Some e.0)) (sym c.1) (here e.0 c.0 e.1 c.2))
    ]

-- ---- any act

-- what a report makes of the connection
abbrev pub IsReported : AbstractPool → Report → Connection → Connection → Type 0
IsReported s (report.Opened id) x y = y ≡ after_opened (is_some s.shutdown) s.latest id x
IsReported s _ x y = Leaves x y

-- the number of the connection that the act is about, and 0 where it is about none
abbrev pub conn_of : Act → ℕ
conn_of (Dial c target) = c.0
conn_of (Orders c sent orders) = c.0
conn_of (Reported c sent r) = c.0
conn_of (Closed c sent cause heard) = c.0
conn_of (Assign e c r by) = c.0
conn_of (Evict c) = c.0
conn_of _ = 0

-- what the act makes of that connection
abbrev pub Changes : AbstractPool → CallerNo → Act → Connection → Connection → Type 0
Changes s who (Dial c target) x y = y ≡ dialing_by who x
Changes s who (Orders c sent orders) x y = y ≡ with_taken orders (with_sent sent x)
Changes s who (Reported c sent r) x y = IsReported s r (with_sent sent x) y
Changes s who (Closed c sent cause heard) x y = y ≡ gone (with_sent sent x)
Changes s who (Assign e c r by) x y = y ≡ with_start s.config.last_stream e r x
Changes s who _ x y = Leaves x y

abbrev pub IsAdding : Act → Type 0
IsAdding (Preconnect key credentials origin count (preconnect.Opening k)) = Unit {0}
IsAdding (Want e c target) = Unit {0}
IsAdding _ = ⊥

abbrev pub OneChanges : AbstractPool → CallerNo → Act → List Connection → Type 0
OneChanges s who act ys = OneBecomes (Changes s who act) (conn_of act) s.connections ys

abbrev pub Effect : AbstractPool → CallerNo → Act → List Connection → Type 0
Effect s who (Preconnect key credentials origin count (preconnect.Opening k)) ys = Adds s.connections ys
Effect s who (Want e c target) ys = Adds s.connections ys
Effect s who (Dial c target) ys = OneChanges s who (Dial c target) ys
Effect s who (Orders c sent orders) ys = OneChanges s who (Orders c sent orders) ys
Effect s who (Reported c sent r) ys = OneChanges s who (Reported c sent r) ys
Effect s who (Closed c sent cause heard) ys = OneChanges s who (Closed c sent cause heard) ys
Effect s who (Assign e c r by) ys = OneChanges s who (Assign e c r by) ys
Effect s who (Evict c) ys = OneChanges s who (Evict c) ys
Effect s who _ ys = EachLeaves s.connections ys

each_lease : (now : Moment) (xs : List Connection) (status : Status) → EachLeaves xs (released_lease now status xs)
each_lease now xs Waiting = each_same xs
each_lease now xs (Leased c r by false) = each_edit c.0 (without_start now r) xs (leaves_without_start now r)
each_lease now xs (Leased c r by true) = each_edit c.0 (without_exchange r) xs (leaves_without_exchange r)
each_lease now xs (Ended how) = each_same xs

each_released : (s : AbstractPool) (e : ExchangeNo) → EachLeaves s.connections (released s e)
unfolding released
each_released s e = by (numbered e.0 s.exchanges)
  where
    by : (o : Option Exchange) → EachLeaves s.connections (released_by s.latest o s.connections)
    by None = each_same s.connections
    by (Some x) = each_lease s.latest s.connections x.status

adds_want : (s : AbstractPool) (e : ExchangeNo) (t : Target) → Adds s.connections (after_want s e t).connections
adds_want s e t =
    by_want (λ u. Adds s.connections u.connections) s e t
    (λ x n.
    let new : Connection = wanted_connection x e t s.latest in
    append_at AddsAt n s.connections (new ∷ []) adds_none (each_one IsNew new (new_one new.group (Some e) s.latest)))
    (adds_same s.connections)

one_open : (s : AbstractPool) (c : ConnNo) (id : Identity) → OneBecomes (IsReported s (report.Opened id)) c.0 s.connections (after_open s c id).connections
unfolding after_open
one_open s c id = by (numbered c.0 s.connections) refl
  where
    by : (o : Option Connection) → numbered c.0 s.connections ≡ o → OneBecomes (IsReported s (report.Opened id)) c.0 s.connections (after_open_of s c id o).connections
    by None none = one_none (IsReported s (report.Opened id)) c.0 s.connections none
    by (Some x) is_item = one_edit (IsReported s (report.Opened id)) c.0 (after_opened (is_some s.shutdown) s.latest id) s.connections (λ y. refl)

one_reported : (s : AbstractPool) (c : ConnNo) (r : Report) → OneBecomes (IsReported s r) c.0 s.connections (after_report s c r).connections
unfolding after_answered
one_reported s c (report.Opened id) = one_open s c id
one_reported s c (report.Limit n) = one_edit Leaves c.0 (with_limit n) s.connections (λ x. leaves_fewer x (with_limit n x) refl refl (omega arith) (λ m h. h) (λ e r h. h))
one_reported s c (report.Answered r response keep alt proof) =
    one_edit Leaves c.0 (answered_connection s.latest r response keep (lease_at s c r)) s.connections (leaves_answered s.latest r response keep (lease_at s c r))
one_reported s c (report.Refused r) = one_edit Leaves c.0 (without_stream s.latest r) s.connections (leaves_without_stream s.latest r)
one_reported s c (report.Reset r code) = one_edit Leaves c.0 (without_stream s.latest r) s.connections (leaves_without_stream s.latest r)
one_reported s c (report.TooLarge r) = one_edit Leaves c.0 (after_large_answer s.latest r) s.connections (leaves_large_answer s.latest r)
one_reported s c (report.StreamClosed r) = one_edit Leaves c.0 (without_stream s.latest r) s.connections (leaves_without_stream s.latest r)
one_reported s c (report.Goaway last) = one_edit Leaves c.0 (going_away s.latest c s.exchanges last) s.connections (leaves_going_away s.latest c s.exchanges last)
one_reported s c (report.AltSeen origin alt) =
    by_alt_seen (λ t. OneBecomes Leaves c.0 s.connections t.connections) s c origin alt (λ x. one_same c.0 s.connections) (one_same c.0 s.connections)

-- the octets that are noted first are none of what a report tells
reported_noted : (s : AbstractPool) (c : ConnNo) (sent : ℕ) (r : Report) →
    OneBecomes (IsReported s r) c.0 (sent_noted s c sent).connections (after_report (sent_noted s c sent) c r).connections
reported_noted s c sent (report.Opened id) = one_reported (sent_noted s c sent) c (report.Opened id)
reported_noted s c sent r = one_reported (sent_noted s c sent) c r

abbrev IsEnded : Connection → Connection → Type 0
IsEnded x y = y ≡ gone x

-- a dial that is of no use changes no connection
ended_useless : (xs : List Connection) (number : ℕ) (s : AbstractPool) (g : GroupKey) (wanted_for : Option ExchangeNo) (how : Outcome) (v : Via) →
    OneBecomes IsEnded number xs s.connections → OneBecomes IsEnded number xs (after_useless s g wanted_for how v).connections
ended_useless xs number s g wanted_for how via.Direct h = h
ended_useless xs number s g wanted_for how (via.Alternative p) h = h

one_closed : (s : AbstractPool) (c : ConnNo) (end : EndCause) (heard : List StreamNo) → OneBecomes IsEnded c.0 s.connections (after_closed s c end heard).connections
one_closed s c end heard =
    let left : AbstractPool = after_lost s c end heard in
    let ended : OneBecomes IsEnded c.0 s.connections left.connections = one_edit IsEnded c.0 gone s.connections (λ x. refl) in
    by_closed (λ t. OneBecomes IsEnded c.0 s.connections t.connections) s c end heard
    (λ x. ended_useless s.connections c.0 left x.group x.wanted_for (outcome.DialFault c) x.group.target.via ended) ended

pub effect_act : (s : AbstractPool) (who : CallerNo) (act : Act) → Effect s who act (after_act s who act).connections
unfolding after_submit after_cancel after_reprioritise after_preconnect after_resolved after_network after_shut after_dial after_orders after_expire after_lapse after_assign after_evict
effect_act s who (Submit ask (submit.Accepted e)) = each_same s.connections
effect_act s who (Cancel e cancel.Cancelled) = each_released s e
effect_act s who (Reprioritise e urgency change.Changed) = each_same s.connections
effect_act s who (Preconnect key credentials origin count (preconnect.Opening k)) =
    let g : GroupKey = group_for s key credentials origin in
    let new : Connection = new_connection g None s.latest in
    λ n. append_at AddsAt n s.connections (replicate k new) adds_none (each_replicate IsNew k new (new_one g None s.latest))
effect_act s who (Resolved key host addresses resolved.Noted) = each_same s.connections
effect_act s who (Shutdown shut.Noted) = λ n. map_at LeavesAt n after_shutdown s.connections tt leaves_after_shutdown
effect_act s who (Dial c target) = one_edit (λ x y. y ≡ dialing_by who x) c.0 (dialing_by who) s.connections (λ x. refl)
effect_act s who (Orders c sent orders) =
    let t : AbstractPool = sent_noted s c sent in
    let R : Connection → Connection → Type 0 = λ x y. y ≡ with_taken orders x in
    one_after R c.0 (with_sent sent) s.connections (edit c.0 (with_taken orders) t.connections) (one_edit R c.0 (with_taken orders) t.connections (λ x. refl))
effect_act s who (Reported c sent r) =
    let t : AbstractPool = sent_noted s c sent in
    one_after (IsReported s r) c.0 (with_sent sent) s.connections (after_report t c r).connections (reported_noted s c sent r)
effect_act s who (Closed c sent end heard) =
    let t : AbstractPool = sent_noted s c sent in
    one_after IsEnded c.0 (with_sent sent) s.connections (after_closed t c end heard).connections (one_closed t c end heard)
effect_act s who (Expire e) = each_released s e
effect_act s who (Assign e c r by) = one_edit (λ x y. y ≡ with_start s.config.last_stream e r x) c.0 (with_start s.config.last_stream e r) s.connections (λ x. refl)
effect_act s who (Want e c t) = adds_want s e t
effect_act s who (Evict c) = one_edit Leaves c.0 closing s.connections leaves_closing
effect_act s who _ = each_same s.connections

-- so what holds of none, by a change that leaves so much, of a new connection and by the act's own change holds at each number
pub effect_at : (R : ℕ → Option Connection → Option Connection → Type 0) (s : AbstractPool) (who : CallerNo) (act : Act) → ((n : ℕ) → R n None None) →
    ((n : ℕ) (x y : Connection) → Leaves x y → R n (Some x) (Some y)) → (IsAdding act → (n : ℕ) (y : Connection) → IsNew y → R n None (Some y)) →
    ((x y : Connection) → numbered (conn_of act) s.connections ≡ Some x → Changes s who act x y → R (conn_of act) (Some x) (Some y)) →
    (n : ℕ) → R n (numbered n s.connections) (numbered n (after_act s who act).connections)
effect_at R s who act none leaves new changes = by act new changes (effect_act s who act)
  where
    same : (n : ℕ) (o : Option Connection) → R n o o
    same n None = none n
    same n (Some c) = leaves n c c (leaves_same c)

    left : (n : ℕ) (o p : Option Connection) → LeavesAt o p → R n o p
    left n None None k = none n
    left n None (Some y) k = absurd k
    left n (Some x) None k = absurd k
    left n (Some x) (Some y) k = leaves n x y k

    added : (n : ℕ) → ((y : Connection) → IsNew y → R n None (Some y)) → (o p : Option Connection) → AddsAt o p → R n o p
    added n further None None k = none n
    added n further None (Some y) k = further y k
    added n further (Some x) None k = absurd k
    added n further (Some x) (Some y) k = subst (λ z. R n (Some x) (Some z)) (sym k) (same n (Some x))

    Goal : List Connection → Type 0
    Goal ys = (n : ℕ) → R n (numbered n s.connections) (numbered n ys)

    one : (a : Act) → ((x y : Connection) → numbered (conn_of a) s.connections ≡ Some x → Changes s who a x y → R (conn_of a) (Some x) (Some y)) →
        OneChanges s who a (after_act s who act).connections → Goal (after_act s who act).connections
    one a change e = one_at R (Changes s who a) (conn_of a) s.connections (after_act s who act).connections e (λ n o other. same n o) (λ e. none (conn_of a)) change

    by : (a : Act) → (IsAdding a → (n : ℕ) (y : Connection) → IsNew y → R n None (Some y)) →
        ((x y : Connection) → numbered (conn_of a) s.connections ≡ Some x → Changes s who a x y → R (conn_of a) (Some x) (Some y)) → Effect s who a (after_act s who act).connections →
        Goal (after_act s who act).connections
    by (Preconnect key credentials origin count (preconnect.Opening k)) further change e n = added n (further tt n) (numbered n s.connections) (numbered n (after_act s who act).connections) (e n)
    by (Want x c target) further change e n = added n (further tt n) (numbered n s.connections) (numbered n (after_act s who act).connections) (e n)
    by (Dial c target) further change e n = one (Dial c target) change e n
    by (Orders c sent orders) further change e n = one (Orders c sent orders) change e n
    by (Reported c sent r) further change e n = one (Reported c sent r) change e n
    by (Closed c sent cause heard) further change e n = one (Closed c sent cause heard) change e n
    by (Assign x c r way) further change e n = one (Assign x c r way) change e n
    by (Evict c) further change e n = one (Evict c) change e n
    by _ further change e n = left n (numbered n s.connections) (numbered n (after_act s who act).connections) (e n)
