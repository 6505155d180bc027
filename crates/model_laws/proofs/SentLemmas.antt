-- A stream that was started has no lease whose start isn't handed yet, and one whose start was handed was started.
use Rattle.std.proofs.Common.{◌≡◌, ◌<◌, ◌≤◌, ◌+◌, ℕ, List, Option, Some, true, false, inl, inr, sym, ap, subst, arith, IsTrue, Contains}
use Rattle.std.specs.Prelude.{◌&&◌, ◌==◌, not}
use Rattle.std.specs.List.{list_any}
use Rattle.std.proofs.lemmas.Bool.{cond_both, and_parts, and_from, both_ways, eqb-true}
use Rattle.std.proofs.lemmas.List.Elements.{All-contains, Contains-append_right}
use Rattle.net_base.specs.declared.numbers.CallerNo.{CallerNo}
use Rattle.net_base.specs.declared.numbers.ConnNo.{ConnNo}
use Rattle.net_base.specs.declared.numbers.Moment.{Moment}
use Rattle.net_base.specs.declared.numbers.StreamNo.{StreamNo}
use Rattle.model_changes.specs.Connections.{is_start_of, streams_started, with_taken, with_sent}
use Rattle.model_laws.proofs.CarriedLemmas.{given_fit}
use Rattle.model_laws.proofs.CourseLemmas.{IsKept, state_later, state_after}
use Rattle.model_laws.proofs.FitLemmas.{same_item, Gives, IsFit, fit_stand}
use Rattle.model_laws.proofs.OrderlyLemmas.{AreOrderly}
use Rattle.model_laws.proofs.ReleaseLemmas.{HasUnsent, IsGiven, releases_act}
use Rattle.model_laws.proofs.StartLemmas.{HasStarted, starts_act}
use Rattle.model_laws.proofs.StartSteps.{start_there}
use Rattle.model_laws.proofs.TurnLemmas.{no_claim}
use Rattle.model_laws.specs.Courses.{state_at, OfConnection}
use Rattle.model_laws.specs.MoveLaws.{WasHanded}
use Rattle.model_laws.specs.Sound.{StartedAreSent}
use Rattle.model_histories.proofs.EditLemmas.{none_numbered, edit_here, map_at}
use Rattle.model_histories.specs.Histories.{opening, MayStand, IsHistory}
use Rattle.model_histories.specs.Legal.{IsWorkersEntry, MayTake, MayTakeAt, IsReply}
use Rattle.model_histories.specs.Reading.{hands_by}
use Rattle.model_settling.specs.Settling.{IsDue}
use Rattle.model_steps.specs.After.{noted, after_orders, sent_noted, after_act, after}
use Rattle.model_steps.specs.Exchanges.{handed_lease, handed_by}
use Rattle.model_authority.proofs.NumberLemmas.{value_and, and_value, place_of}
use Rattle.model_authority.specs.Lists.{numbered, edit}
use Rattle.model_authority.specs.Statuses.{is_unsent_at}
use Rattle.model_values.specs.declared.config.Config.{Config}
use Rattle.model_values.specs.declared.entry.Act.{Act}
use Rattle.model_values.specs.declared.entry.Act.TheVariants.{Orders}
use Rattle.model_values.specs.declared.entry.Entry.{Entry}
use Rattle.model_values.specs.declared.order.OrderMark.{OrderMark}
use Rattle.model_values.specs.declared.state.AbstractPool.{AbstractPool}
use Rattle.model_values.specs.declared.state.Connection.{Connection}
use Rattle.model_values.specs.declared.state.Exchange.{Exchange}
use Rattle.model_values.specs.declared.state.Status.{Status}
use Rattle.model_values.specs.declared.state.Status.TheVariants.{Waiting, Leased, Ended}

-- ---- by the numbers of exchange and connection

abbrev AreSent : AbstractPool → Type 0
AreSent s = (n : ℕ) (c : ConnNo) (r : StreamNo) → HasUnsent c r (numbered n s.exchanges) → HasStarted r (numbered c.0 s.connections) → ⊥

sent_from : (s : AbstractPool) → StartedAreSent s → AreSent s
sent_from s sent n c r h k =
    let v = value_and (numbered n s.exchanges) (λ x. IsTrue (is_unsent_at c r x.status)) h in
    let w = value_and (numbered c.0 s.connections) (λ y. Contains y.started r) k in
    sent n v.0 c r w.0 v.1 v.2 w.1 w.2

sent_to : (s : AbstractPool) → AreSent s → StartedAreSent s
sent_to s sent n x c r y is_x unsent is_y started =
    sent n c r (and_value (numbered n s.exchanges) (λ z. IsTrue (is_unsent_at c r z.status)) x is_x unsent)
    (and_value (numbered c.0 s.connections) (λ z. Contains z.started r) y is_y started)

-- ---- an act that hands a start

-- the act takes orders of this connection, with a start of the stream
pub record Hands (act : Act) (c : ConnNo) (r : StreamNo) : Type 0 where
  pub sent : ℕ
  pub orders : List OrderMark
  pub is_orders : act ≡ Orders c sent orders
  pub starts : list_any (is_start_of r) orders ≡ true

pub hands : (act : Act) (c : ConnNo) (r : StreamNo) → hands_by c r act ≡ true → Hands act c r
hands (Orders conn sent orders) c r h =
    let parts = and_parts (conn.0 == c.0) (list_any (is_start_of r) orders) h in
    let whole : ℕ → ConnNo = λ k. record { 0 = k } in
    let same : conn ≡ c = ap whole (eqb-true conn.0 c.0 parts.0) in
    record { sent = sent; orders = orders; is_orders = ap (λ (d : ConnNo). Orders d sent orders) same; starts = parts.1 }
hands _ c r h = absurd cc

-- behind it no lease on the stream is one whose start isn't handed
handed_now : (c : ConnNo) (orders : List OrderMark) (r : StreamNo) (status : Status) → list_any (is_start_of r) orders ≡ true →
    is_unsent_at c r (handed_lease c orders status) ≡ true → ⊥
handed_now c orders r Waiting starts h = absurd cc
handed_now c orders r (Leased d t way handed) starts h =
    cond_both (d.0 == c.0 && list_any (is_start_of t) orders) (Leased d t way true) (Leased d t way handed) (λ (x : Status). is_unsent_at c r x ≡ true → ⊥)
    (λ k i. let never : false ≡ true = (and_parts (d.0 == c.0 && t.0 == r.0) false i).1 in absurd cc) other h
  where
    other : (d.0 == c.0 && list_any (is_start_of t) orders) ≡ false → is_unsent_at c r (Leased d t way handed) ≡ true → ⊥
    other k i =
        let here = and_parts (d.0 == c.0) (t.0 == r.0) (and_parts (d.0 == c.0 && t.0 == r.0) (not handed) i).0 in
        let whole : ℕ → StreamNo = λ m. record { 0 = m } in
        let same : r ≡ t = sym (ap whole (eqb-true t.0 r.0 here.1)) in
        let among : list_any (is_start_of t) orders ≡ true = subst (λ (u : StreamNo). list_any (is_start_of u) orders ≡ true) same starts in
        both_ways (d.0 == c.0 && list_any (is_start_of t) orders) k (and_from (d.0 == c.0) (list_any (is_start_of t) orders) here.0 among)
handed_now c orders r (Ended how) starts h = absurd cc

none_unsent : (s : AbstractPool) (c : ConnNo) (sent : ℕ) (orders : List OrderMark) (r : StreamNo) (n : ℕ) → list_any (is_start_of r) orders ≡ true →
    HasUnsent c r (numbered n (after_orders (sent_noted s c sent) c orders).exchanges) → ⊥
unfolding after_orders
none_unsent s c sent orders r n starts h =
    map_at (λ (o p : Option Exchange). HasUnsent c r p → ⊥) n (handed_by c orders) s.exchanges (λ k. k) (λ x k. handed_now c orders r x.status starts k) h

-- and the stream was started
now_started : (s : AbstractPool) (who : CallerNo) (c : ConnNo) (sent : ℕ) (orders : List OrderMark) (r : StreamNo) → MayTakeAt s who c sent orders →
    list_any (is_start_of r) orders ≡ true → HasStarted r (numbered c.0 (after_orders (sent_noted s c sent) c orders).connections)
unfolding after_orders
now_started s who c sent orders r may starts =
    let v = value_and (numbered c.0 s.connections) (λ x. IsWorkersEntry x who sent × MayTake x orders) may in
    let x : Connection = with_sent sent v.0 in
    let left : List Connection = edit c.0 (with_sent sent) s.connections in
    let first : numbered c.0 left ≡ Some x = edit_here c.0 (with_sent sent) s.connections v.0 v.1 in
    and_value (numbered c.0 (edit c.0 (with_taken orders) left)) (λ y. Contains y.started r) (with_taken orders x) (edit_here c.0 (with_taken orders) left x first)
    (Contains-append_right x.started (streams_started orders) r (start_there r orders starts))

-- ---- by any act

-- the stream that the act gives wasn't started
new_stream : (s : AbstractPool) (act : Act) (n : ℕ) (c : ConnNo) (r : StreamNo) → IsFit s act → AreOrderly s → IsGiven act n c r → HasStarted r (numbered c.0 s.connections) → ⊥
new_stream s act n c r fit orderly g h =
    let gives : Gives s g.conn g.stream = given_fit s act n c r fit g in
    let v = value_and (numbered c.0 s.connections) (λ y. Contains y.started r) h in
    let there : numbered c.0 s.connections ≡ Some gives.connection = subst (λ i. numbered i s.connections ≡ Some gives.connection) (sym g.is_conn) gives.is_connection in
    let same : v.0.next_stream ≡ gives.connection.next_stream =
    ap (λ (y : Connection). y.next_stream) (same_item (numbered c.0 s.connections) v.0 gives.connection v.1 there) in
    let below : r.0 < v.0.next_stream = All-contains (λ (t : StreamNo). t.0 < v.0.next_stream) v.0.started r (orderly c.0 v.0 v.1).started v.2 in
    let next : g.stream.0 ≡ gives.connection.next_stream = gives.next in
    let is_stream : r.0 ≡ g.stream.0 = g.is_stream in
    absurd (omega arith)

sent_act : (s : AbstractPool) (who : CallerNo) (act : Act) → IsFit s act → AreOrderly s → AreSent s → AreSent (after_act s who act)
sent_act s who act fit orderly sent n c r h k =
    elim ((starts_act s who act c).came r k) [
      | inl was ↦ elim ((releases_act false s who act (no_claim s) fit n).unsent c r h) [
        | inl unsent ↦ sent n c r unsent was
        | inr given ↦ new_stream s act n c r fit orderly given was
      ]
      | inr handing ↦
          let o : Hands act c r = hands act c r handing in
          none_unsent s c o.sent o.orders r n o.starts (subst (λ (a : Act). HasUnsent c r (numbered n (after_act s who a).exchanges)) o.is_orders h)
    ]

-- ---- by any entry that may stand

orderly_noted : (s : AbstractPool) (m : Moment) → AreOrderly s → AreOrderly (noted s m)
unfolding noted
orderly_noted s m orderly = orderly

are_noted : (s : AbstractPool) (m : Moment) → AreSent s → AreSent (noted s m)
unfolding noted
are_noted s m sent = sent

pub sent_after : (s : AbstractPool) (e : Entry) → MayStand s e → AreOrderly s → StartedAreSent s → StartedAreSent (after s e)
unfolding after
sent_after s e stand orderly sent =
    let t : AbstractPool = noted s e.moment in
    sent_to (after_act t e.who e.act) (sent_act t e.who e.act (fit_stand s e stand) (orderly_noted s e.moment orderly) (are_noted s e.moment (sent_from s sent)))

pub sent_opening : (config : Config) → StartedAreSent (opening config)
sent_opening config = sent_to (opening config) (λ n c r h k. absurd (none_leased n c r h))
  where
    none_leased : (n : ℕ) (c : ConnNo) (r : StreamNo) → HasUnsent c r (numbered n (opening config).exchanges) → ⊥
    none_leased n c r h = subst (HasUnsent c r) (none_numbered Exchange n) h

-- ---- streams whose start was handed

may_order : (s : AbstractPool) (e : Entry) (c : ConnNo) (r : StreamNo) (o : Hands e.act c r) → MayStand s e → MayTakeAt (noted s e.moment) e.who c o.sent o.orders
may_order s e c r o stand = elim stand.legal [
  | inl pools ↦ let never : IsDue s (Orders c o.sent o.orders) = subst (IsDue s) o.is_orders pools.due in absurd never
  | inr calls ↦ subst (IsReply (noted s e.moment) e.who) o.is_orders calls.reply
]

handing_starts : (s : AbstractPool) (e : Entry) (c : ConnNo) (r : StreamNo) → MayStand s e → hands_by c r e.act ≡ true → OfConnection (after s e) c (λ y. Contains y.started r)
unfolding after
handing_starts s e c r stand handing =
    let t : AbstractPool = noted s e.moment in
    let o : Hands e.act c r = hands e.act c r handing in
    subst (λ (a : Act). HasStarted r (numbered c.0 (after_act t e.who a).connections)) (sym o.is_orders)
    (now_started t e.who c o.sent o.orders r (may_order s e c r o stand) o.starts)

started_kept : (c : ConnNo) (r : StreamNo) → IsKept (λ s. OfConnection s c (λ y. Contains y.started r))
unfolding after noted
started_kept c r s e stand h = (starts_act (noted s e.moment) e.who e.act c).kept r h

-- a stream whose start was handed is one of those that were started
pub started_by : (config : Config) (h : List Entry) (n : ℕ) (c : ConnNo) (r : StreamNo) → IsHistory config h → WasHanded h n c r →
    OfConnection (state_at config h n) c (λ y. Contains y.started r)
started_by config h n c r history handed =
    let e : Entry = handed.2.0 in
    let at = place_of h handed.0 e handed.2.1 in
    let k : ℕ = at.0 in
    let later : k + 1 ≤ n = omega (arith, handed.1, at.1) in
    let started : OfConnection (state_at config h (k + 1)) c (λ y. Contains y.started r) =
    subst (λ t. OfConnection t c (λ y. Contains y.started r)) (sym (state_after config h k e at.2))
    (handing_starts (state_at config h k) e c r (history.each k e at.2) handed.2.2) in
    state_later config h (k + 1) n (λ s. OfConnection s c (λ y. Contains y.started r)) history (started_kept c r) later started
