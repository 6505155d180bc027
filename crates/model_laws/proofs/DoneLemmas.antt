-- A stream that its connection has given out, and on which no exchange has a lease, stays so.
use Rattle.std.proofs.Common.{◌≡◌, ◌⊎◌, ◌<◌, ℕ, Some, true, false, inl, inr, refl, sym, ap, subst, arith, IsTrue, IsSomeAnd}
use Rattle.std.specs.Prelude.{not, nat_lt}
use Rattle.std.proofs.lemmas.Bool.{cond_both, both_ways, not-true}
use Rattle.net_base.specs.declared.numbers.CallerNo.{CallerNo}
use Rattle.net_base.specs.declared.numbers.ConnNo.{ConnNo}
use Rattle.net_base.specs.declared.numbers.ExchangeNo.{ExchangeNo}
use Rattle.net_base.specs.declared.numbers.StreamNo.{StreamNo}
use Rattle.model_changes.specs.Connections.{stream_after, with_start, with_sent}
use Rattle.model_laws.proofs.CarriedLemmas.{given_fit}
use Rattle.model_laws.proofs.FitLemmas.{same_item, Gives, IsFit, fit_stand}
use Rattle.model_laws.proofs.FreeLemmas.{AreFree}
use Rattle.model_laws.proofs.ReleaseLemmas.{HasLease, IsGiven, releases_act}
use Rattle.model_laws.proofs.StayLemmas.{stream_rises}
use Rattle.model_laws.proofs.TurnLemmas.{no_claim, at_item}
use Rattle.model_laws.specs.Courses.{OfConnection}
use Rattle.model_laws.specs.Sound.{Carries, LeasesAreCarried, LeasesAreApart}
use Rattle.model_histories.proofs.EffectLemmas.{Lasting, Leaves, going_by, IsReported, conn_of, Changes, effect_at}
use Rattle.model_histories.specs.Histories.{MayStand}
use Rattle.model_histories.specs.Legal.{MayReport}
use Rattle.model_steps.specs.After.{noted, after_act, after}
use Rattle.model_authority.proofs.NumberLemmas.{value_and, and_value}
use Rattle.model_authority.proofs.PhaseLemmas.{follows}
use Rattle.model_authority.specs.Lists.{numbered}
use Rattle.model_authority.specs.Statuses.{is_wanted, is_dialing, is_busy, is_opening, is_at}
use Rattle.model_values.specs.declared.entry.Act.{Act}
use Rattle.model_values.specs.declared.entry.Act.TheVariants.{Dial, Orders, Reported, Closed, Assign}
use Rattle.model_values.specs.declared.entry.Entry.{Entry}
use Rattle.model_values.specs.declared.report.Report.{Report}
use Rattle.model_values.specs.declared.report.Report.TheVariants as report
use Rattle.model_values.specs.declared.state.AbstractPool.{AbstractPool}
use Rattle.model_values.specs.declared.state.Connection.{Connection}
use Rattle.model_values.specs.declared.state.Exchange.{Exchange}
use Rattle.model_values.specs.declared.state.Phase.{Phase}
use Rattle.model_values.specs.declared.state.Phase.TheVariants.{Draining}

-- ---- streams that were given out

-- the connection was opened, and the stream's number is below the next one
pub record IsPast (r : StreamNo) (y : Connection) : Type 0 where
  pub up : not (is_opening y.phase) ≡ true
  pub below : r.0 < y.next_stream

past_leaves : (r : StreamNo) (x y : Connection) → Leaves x y → IsPast r x → IsPast r y
past_leaves r x y k past = record {
  up = going_by (λ p q. not (is_opening p)) (λ p q. not (is_opening q)) refl x.phase y.phase k.phase past.up;
  below = subst (λ n. r.0 < n) (sym (ap (λ (l : Lasting). l.next_stream) k.lasts)) past.below;
}

past_reported : (s : AbstractPool) (sent : ℕ) (r : StreamNo) (told : Report) (x y : Connection) → MayReport x told → IsReported s told (with_sent sent x) y →
    IsPast r x → IsPast r y
past_reported s sent r (report.Opened id) x y may is past =
    absurd (both_ways (is_opening x.phase) (not-true (is_opening x.phase) past.up) (follows is_dialing is_opening refl x.phase may))
past_reported s sent r told x y may is past = past_leaves r (with_sent sent x) y is (record { up = past.up; below = past.below })

past_with_start : (last : ℕ) (r : StreamNo) (e : ExchangeNo) (t : StreamNo) (x : Connection) → t.0 ≡ x.next_stream → IsPast r x → IsPast r (with_start last e t x)
unfolding with_start
past_with_start last r e t x next past =
    let rises : t.0 < stream_after t x = stream_rises t x in
    let below : r.0 < x.next_stream = past.below in
    record {
      up = cond_both (nat_lt last (stream_after t x)) Draining x.phase (λ (p : Phase). not (is_opening p) ≡ true) (λ k. refl) (λ k. past.up);
      below = omega arith;
    }

past_change : (r : StreamNo) (s : AbstractPool) (who : CallerNo) (act : Act) → IsFit s act →
    (x y : Connection) → numbered (conn_of act) s.connections ≡ Some x → Changes s who act x y → IsPast r x → IsPast r y
past_change r s who (Dial c target) fit x y is_item is past =
    let wanted : IsTrue (is_wanted x.phase) = at_item (λ z. IsTrue (is_wanted z.phase)) (numbered c.0 s.connections) x fit is_item in
    absurd (both_ways (is_opening x.phase) (not-true (is_opening x.phase) past.up) (follows is_wanted is_opening refl x.phase wanted))
past_change r s who (Orders c sent orders) fit x y is_item is past = subst (IsPast r) (sym is) (record { up = past.up; below = past.below })
past_change r s who (Reported c sent told) fit x y is_item is past =
    past_reported s sent r told x y (at_item (λ z. MayReport z told) (numbered c.0 s.connections) x fit is_item) is past
past_change r s who (Closed c sent cause heard) fit x y is_item is past = subst (IsPast r) (sym is) (record { up = refl; below = past.below })
past_change r s who (Assign e c t by) fit x y is_item is past =
    let gives : Gives s c t = fit.1 in
    let same : gives.connection ≡ x = same_item (numbered c.0 s.connections) gives.connection x gives.is_connection is_item in
    subst (IsPast r) (sym is) (past_with_start s.config.last_stream r e t x (subst (λ (z : Connection). t.0 ≡ z.next_stream) same gives.next) past)
past_change r s who act fit x y is_item is past = past_leaves r x y is past

-- ---- streams on which no exchange has a lease any more

pub record IsDone (c : ConnNo) (r : StreamNo) (s : AbstractPool) : Type 0 where
  pub past : OfConnection s c (IsPast r)
  pub free : AreFree c r s.exchanges

-- the stream that the act gives wasn't given out before
pub given_past : (s : AbstractPool) (act : Act) (n : ℕ) (c : ConnNo) (r : StreamNo) → IsFit s act → IsGiven act n c r → OfConnection s c (IsPast r) → ⊥
given_past s act n c r fit g past =
    let gives : Gives s g.conn g.stream = given_fit s act n c r fit g in
    let v = value_and (numbered c.0 s.connections) (IsPast r) past in
    let there : numbered c.0 s.connections ≡ Some gives.connection = subst (λ i. numbered i s.connections ≡ Some gives.connection) (sym g.is_conn) gives.is_connection in
    let same : v.0.next_stream ≡ gives.connection.next_stream =
    ap (λ (y : Connection). y.next_stream) (same_item (numbered c.0 s.connections) v.0 gives.connection v.1 there) in
    let below : r.0 < v.0.next_stream = v.2.below in
    let next : g.stream.0 ≡ gives.connection.next_stream = gives.next in
    let is_stream : r.0 ≡ g.stream.0 = g.is_stream in
    absurd (omega arith)

pub past_act : (s : AbstractPool) (who : CallerNo) (act : Act) (c : ConnNo) (r : StreamNo) → IsFit s act → OfConnection s c (IsPast r) →
    OfConnection (after_act s who act) c (IsPast r)
past_act s who act c r fit =
    effect_at (λ n o p. IsSomeAnd o (IsPast r) → IsSomeAnd p (IsPast r)) s who act (λ n h. h) (λ n x y k h. past_leaves r x y k h) (λ adds n y new h. absurd h)
    (λ x y is_item is h. past_change r s who act fit x y is_item is h) c.0

-- a lease behind an entry that may stand was there before, or the entry gives it
pub leases_after : (s : AbstractPool) (e : Entry) (n : ℕ) (c : ConnNo) (r : StreamNo) → MayStand s e → HasLease c r (numbered n (after s e).exchanges) →
    HasLease c r (numbered n s.exchanges) ⊎ IsGiven e.act n c r
unfolding after noted
leases_after s e n c r stand h = elim ((releases_act false (noted s e.moment) e.who e.act (no_claim (noted s e.moment)) (fit_stand s e stand) n).leases c r h) [
  | inl was ↦ inl was.0
  | inr g ↦ inr g
]

pub done_act : (s : AbstractPool) (who : CallerNo) (act : Act) (c : ConnNo) (r : StreamNo) → IsFit s act → IsDone c r s → IsDone c r (after_act s who act)
done_act s who act c r fit done = record {
  past = past_act s who act c r fit done.past;
  free = λ n h. elim ((releases_act false s who act (no_claim s) fit n).leases c r h) [
    | inl was ↦ done.free n was.0
    | inr g ↦ given_past s act n c r fit g done.past
  ];
}

pub done_noted : (s : AbstractPool) (e : Entry) (c : ConnNo) (r : StreamNo) → IsDone c r s → IsDone c r (noted s e.moment)
unfolding noted
done_noted s e c r done = record { past = done.past; free = done.free }

pub done_after : (c : ConnNo) (r : StreamNo) (s : AbstractPool) (e : Entry) → MayStand s e → IsDone c r s → IsDone c r (after s e)
unfolding after
done_after c r s e stand done = done_act (noted s e.moment) e.who e.act c r (fit_stand s e stand) (done_noted s e c r done)

-- the stream of a lease was given out
pub leased_past : (s : AbstractPool) (n : ℕ) (c : ConnNo) (r : StreamNo) → LeasesAreCarried s → HasLease c r (numbered n s.exchanges) → OfConnection s c (IsPast r)
leased_past s n c r carried h =
    let v = value_and (numbered n s.exchanges) (λ (x : Exchange). IsTrue (is_at c r x.status)) h in
    let w = value_and (numbered c.0 s.connections) (λ y. Carries y r) (carried n v.0 c r v.1 v.2) in
    and_value (numbered c.0 s.connections) (IsPast r) w.0 w.1 (record { up = follows is_busy (λ p. not (is_opening p)) refl w.0.phase w.2.busy; below = w.2.given })

-- behind an entry that ends the only lease on a stream, the stream is done
pub done_behind : (s : AbstractPool) (e : Entry) (n : ℕ) (c : ConnNo) (r : StreamNo) → MayStand s e → LeasesAreCarried s → LeasesAreApart s →
    HasLease c r (numbered n s.exchanges) →
    (HasLease c r (numbered n (after s e).exchanges) → ⊥) → IsDone c r (after s e)
unfolding after noted
done_behind s e n c r stand carried apart leased over =
    let t : AbstractPool = noted s e.moment in
    let past : OfConnection t c (IsPast r) = leased_past s n c r carried leased in
    record {
      past = past_act t e.who e.act c r (fit_stand s e stand) past;
      free = λ m h. elim (leases_after s e m c r stand h) [
        | inl was ↦
            let v = value_and (numbered m s.exchanges) (λ (x : Exchange). IsTrue (is_at c r x.status)) was in
            let w = value_and (numbered n s.exchanges) (λ (x : Exchange). IsTrue (is_at c r x.status)) leased in
            over (subst (λ k. HasLease c r (numbered k (after s e).exchanges)) (apart m n v.0 w.0 c r v.1 w.1 v.2 w.2) h)
        | inr g ↦ given_past t e.act m c r (fit_stand s e stand) g past
      ];
    }
