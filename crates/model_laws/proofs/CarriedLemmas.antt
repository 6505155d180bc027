-- Each lease is on a stream of a connection that carries it, and no stream is leased twice.
use Rattle.std.proofs.Common.{◌≡◌, ◌<◌, ◌≤◌, ℕ, Option, Some, None, Bool, false, inl, inr, sym, ap, subst, ◌∙◌, arith, IsTrue, IsSomeAnd}
use Rattle.net_base.specs.declared.numbers.CallerNo.{CallerNo}
use Rattle.net_base.specs.declared.numbers.ConnNo.{ConnNo}
use Rattle.net_base.specs.declared.numbers.ExchangeNo.{ExchangeNo}
use Rattle.net_base.specs.declared.numbers.Moment.{Moment}
use Rattle.net_base.specs.declared.numbers.StreamNo.{StreamNo}
use Rattle.model_changes.specs.Connections.{with_start}
use Rattle.model_laws.proofs.FitLemmas.{closes, same_item, Gives, IsFit, fit_stand}
use Rattle.model_laws.proofs.ReleaseLemmas.{HasLease, IsGiven, releases_act}
use Rattle.model_laws.proofs.StayLemmas.{TurnsAt, busy_with_start, next_with_start}
use Rattle.model_laws.proofs.TurnLemmas.{no_claim, turned_act}
use Rattle.model_laws.specs.Sound.{Carries, LeasesAreCarried, LeasesAreApart}
use Rattle.model_histories.proofs.EditLemmas.{none_numbered, edit_here}
use Rattle.model_histories.specs.Histories.{opening, MayStand}
use Rattle.model_steps.specs.After.{noted, after_assign, after_act, after}
use Rattle.model_authority.proofs.NumberLemmas.{value_and, and_value}
use Rattle.model_authority.specs.Lists.{numbered}
use Rattle.model_authority.specs.Statuses.{is_at}
use Rattle.model_values.specs.declared.config.Config.{Config}
use Rattle.model_values.specs.declared.entry.Act.{Act}
use Rattle.model_values.specs.declared.entry.Act.TheVariants.{Assign}
use Rattle.model_values.specs.declared.entry.Entry.{Entry}
use Rattle.model_values.specs.declared.entry.Way.{Way}
use Rattle.model_values.specs.declared.state.AbstractPool.{AbstractPool}
use Rattle.model_values.specs.declared.state.Connection.{Connection}
use Rattle.model_values.specs.declared.state.Exchange.{Exchange}

-- ---- by the numbers of exchange and connection

abbrev IsCarriedAt : ConnNo → StreamNo → AbstractPool → Type 0
IsCarriedAt c r s = IsSomeAnd (numbered c.0 s.connections) (λ y. Carries y r)

abbrev AreCarried : AbstractPool → Type 0
AreCarried s = (n : ℕ) (c : ConnNo) (r : StreamNo) → HasLease c r (numbered n s.exchanges) → IsCarriedAt c r s

abbrev AreApart : AbstractPool → Type 0
AreApart s = (n m : ℕ) (c : ConnNo) (r : StreamNo) → HasLease c r (numbered n s.exchanges) → HasLease c r (numbered m s.exchanges) → n ≡ m

carried_from : (s : AbstractPool) → LeasesAreCarried s → AreCarried s
carried_from s carried n c r h =
    let v = value_and (numbered n s.exchanges) (λ x. IsTrue (is_at c r x.status)) h in
    carried n v.0 c r v.1 v.2

carried_to : (s : AbstractPool) → AreCarried s → LeasesAreCarried s
carried_to s carried n x c r is_item h = carried n c r (and_value (numbered n s.exchanges) (λ y. IsTrue (is_at c r y.status)) x is_item h)

apart_from : (s : AbstractPool) → LeasesAreApart s → AreApart s
apart_from s apart n m c r h k =
    let v = value_and (numbered n s.exchanges) (λ x. IsTrue (is_at c r x.status)) h in
    let w = value_and (numbered m s.exchanges) (λ x. IsTrue (is_at c r x.status)) k in
    apart n m v.0 w.0 c r v.1 w.1 v.2 w.2

apart_to : (s : AbstractPool) → AreApart s → LeasesAreApart s
apart_to s apart n m x y c r is_x is_y h k =
    apart n m c r (and_value (numbered n s.exchanges) (λ z. IsTrue (is_at c r z.status)) x is_x h) (and_value (numbered m s.exchanges) (λ z. IsTrue (is_at c r z.status)) y is_y k)

-- ---- by an act

-- a connection that doesn't end carries what it carried
still_carried : (ends : Bool) (r : StreamNo) (o p : Option Connection) → ends ≡ false → TurnsAt false ends o p → IsSomeAnd o (λ y. Carries y r) → IsSomeAnd p (λ y. Carries y r)
still_carried ends r None p f k h = absurd h
still_carried ends r (Some x) None f k h = absurd k
still_carried ends r (Some x) (Some y) f k h =
    let given : r.0 < x.next_stream = h.given in
    let rises : x.next_stream ≤ y.next_stream = k.next f h.busy in
    record { busy = k.busy f h.busy; given = omega arith }

-- the connection of a new lease carries it
assigned_carried : (s : AbstractPool) (e : ExchangeNo) (conn : ConnNo) (stream : StreamNo) (by : Way) (c : ConnNo) (r : StreamNo) → Gives s conn stream → c.0 ≡ conn.0 → r.0 ≡ stream.0 →
    IsCarriedAt c r (after_assign s e conn stream by)
unfolding after_assign
assigned_carried s e conn stream by c r gives is_conn is_stream =
    let f : Connection → Connection = with_start s.config.last_stream e stream in
    let y : Connection = gives.connection in
    let there : numbered conn.0 (after_assign s e conn stream by).connections ≡ Some (f y) = edit_here conn.0 f s.connections y gives.is_connection in
    let here : numbered c.0 (after_assign s e conn stream by).connections ≡ Some (f y) =
    subst (λ i. numbered i (after_assign s e conn stream by).connections ≡ Some (f y)) (sym is_conn) there in
    let rises : stream.0 < (f y).next_stream = next_with_start s.config.last_stream e stream y in
    and_value (numbered c.0 (after_assign s e conn stream by).connections) (λ z. Carries z r) (f y) here
    (record { busy = busy_with_start s.config.last_stream e stream y gives.opened; given = omega arith })

pub given_fit : (s : AbstractPool) (act : Act) (n : ℕ) (c : ConnNo) (r : StreamNo) → IsFit s act → (g : IsGiven act n c r) → Gives s g.conn g.stream
given_fit s act n c r fit g = let h : IsFit s (Assign g.exchange g.conn g.stream g.by) = subst (IsFit s) g.is_assign fit in h.1

carried_act : (s : AbstractPool) (who : CallerNo) (act : Act) → IsFit s act → AreCarried s → AreCarried (after_act s who act)
carried_act s who act fit carried n c r h =
    elim ((releases_act false s who act (no_claim s) fit n).leases c r h) [
      | inl was ↦
          still_carried (closes act c.0) r (numbered c.0 s.connections) (numbered c.0 (after_act s who act).connections) was.1 (turned_act false s who act (no_claim s) fit c.0) (carried n c r was.0)
      | inr g ↦
          subst (λ a. IsCarriedAt c r (after_act s who a)) (sym g.is_assign)
          (assigned_carried s g.exchange g.conn g.stream g.by c r (given_fit s act n c r fit g) g.is_conn g.is_stream)
    ]

-- no lease was on the stream that the act gives
new_lease : (s : AbstractPool) (act : Act) (n m : ℕ) (c : ConnNo) (r : StreamNo) → IsFit s act → AreCarried s → HasLease c r (numbered n s.exchanges) → IsGiven act m c r → ⊥
new_lease s act n m c r fit carried h g =
    let gives : Gives s g.conn g.stream = given_fit s act m c r fit g in
    let v = value_and (numbered c.0 s.connections) (λ y. Carries y r) (carried n c r h) in
    let there : numbered c.0 s.connections ≡ Some gives.connection = subst (λ i. numbered i s.connections ≡ Some gives.connection) (sym g.is_conn) gives.is_connection in
    let same : v.0.next_stream ≡ gives.connection.next_stream =
    ap (λ (y : Connection). y.next_stream) (same_item (numbered c.0 s.connections) v.0 gives.connection v.1 there) in
    let below : r.0 < v.0.next_stream = v.2.given in
    let next : g.stream.0 ≡ gives.connection.next_stream = gives.next in
    let is_stream : r.0 ≡ g.stream.0 = g.is_stream in
    absurd (omega arith)

same_exchange : (act : Act) (n m : ℕ) (c : ConnNo) (r : StreamNo) → IsGiven act n c r → IsGiven act m c r → n ≡ m
same_exchange act n m c r g k =
    let same : g.exchange ≡ k.exchange = assigned g.exchange k.exchange g.conn k.conn g.stream k.stream g.by k.by (sym g.is_assign ∙ k.is_assign) in
    g.is_exchange ∙ ap (λ (x : ExchangeNo). x.0) same ∙ sym k.is_exchange
  where
    assigned : (d e : ExchangeNo) (a b : ConnNo) (t u : StreamNo) (v w : Way) → Assign d a t v ≡ Assign e b u w → d ≡ e
    assigned d e a b t u v w h = cc

apart_act : (s : AbstractPool) (who : CallerNo) (act : Act) → IsFit s act → AreCarried s → AreApart s → AreApart (after_act s who act)
apart_act s who act fit carried apart n m c r h k =
    elim ((releases_act false s who act (no_claim s) fit n).leases c r h) [
      | inl was ↦ elim ((releases_act false s who act (no_claim s) fit m).leases c r k) [
        | inl too ↦ apart n m c r was.0 too.0
        | inr given ↦ absurd (new_lease s act n m c r fit carried was.0 given)
      ]
      | inr first ↦ elim ((releases_act false s who act (no_claim s) fit m).leases c r k) [
        | inl too ↦ absurd (new_lease s act m n c r fit carried too.0 first)
        | inr given ↦ same_exchange act n m c r first given
      ]
    ]

-- ---- by any entry that may stand

carried_noted : (s : AbstractPool) (m : Moment) → AreCarried s → AreCarried (noted s m)
unfolding noted
carried_noted s m carried = carried

apart_noted : (s : AbstractPool) (m : Moment) → AreApart s → AreApart (noted s m)
unfolding noted
apart_noted s m apart = apart

pub carried_after : (s : AbstractPool) (e : Entry) → MayStand s e → LeasesAreCarried s → LeasesAreCarried (after s e)
unfolding after
carried_after s e stand carried =
    let t : AbstractPool = noted s e.moment in
    carried_to (after_act t e.who e.act) (carried_act t e.who e.act (fit_stand s e stand) (carried_noted s e.moment (carried_from s carried)))

pub apart_after : (s : AbstractPool) (e : Entry) → MayStand s e → LeasesAreCarried s → LeasesAreApart s → LeasesAreApart (after s e)
unfolding after
apart_after s e stand carried apart =
    let t : AbstractPool = noted s e.moment in
    apart_to (after_act t e.who e.act)
    (apart_act t e.who e.act (fit_stand s e stand) (carried_noted s e.moment (carried_from s carried)) (apart_noted s e.moment (apart_from s apart)))

none_leased : (config : Config) (n : ℕ) (c : ConnNo) (r : StreamNo) → HasLease c r (numbered n (opening config).exchanges) → ⊥
none_leased config n c r h = subst (HasLease c r) (none_numbered Exchange n) h

pub carried_opening : (config : Config) → LeasesAreCarried (opening config)
carried_opening config = carried_to (opening config) (λ n c r h. absurd (none_leased config n c r h))

pub apart_opening : (config : Config) → LeasesAreApart (opening config)
apart_opening config = apart_to (opening config) (λ n m c r h k. absurd (none_leased config n c r h))
