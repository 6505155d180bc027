-- The lease of an exchange that waits again ends by the entry that ends its stream, where the worker of its connection keeps its word.
use Rattle.std.proofs.Common.{◌≡◌, ◌<◌, ◌≤◌, ◌+◌, ℕ, zero, suc, List, Some, true, false, inl, inr, refl, sym, ap, subst, ◌∙◌, arith, slice_get, IsTrue, Contains}
use Rattle.std.specs.Prelude.{◌==◌, ◌&&◌, ◌||◌, not, nat_lt}
use Rattle.std.proofs.lemmas.Bool.{both_ways, and_parts, and_from, or_cases, eq-eqb, eqb-true, cases_lt, false_from_ne_true}
use Rattle.std.proofs.lemmas.Option.{slice_get_cases}
use Rattle.net_base.specs.declared.numbers.ConnNo.{ConnNo}
use Rattle.net_base.specs.declared.numbers.ExchangeNo.{ExchangeNo}
use Rattle.net_base.specs.declared.numbers.StreamNo.{StreamNo}
use Rattle.model_laws.proofs.CourseLemmas.{state_later, state_after}
use Rattle.model_laws.proofs.DoneLemmas.{IsDone, done_after, done_behind}
use Rattle.model_laws.proofs.MoveLemmas.{moves_are_lawful}
use Rattle.model_laws.proofs.OverLemmas.{unleased_behind, assigned_first}
use Rattle.model_laws.proofs.OverSteps.{has_start}
use Rattle.model_laws.proofs.ReleaseLemmas.{HasLease}
use Rattle.model_laws.proofs.SentLemmas.{Hands, hands, started_by}
use Rattle.model_laws.proofs.SoundLemmas.{reached_is_sound}
use Rattle.model_laws.proofs.WorkerLemmas.{may_order}
use Rattle.model_laws.proofs.YieldLemmas.{unsent_leased}
use Rattle.model_laws.specs.Courses.{state_at, OfExchange}
use Rattle.model_laws.specs.MoveLaws.{may_move}
use Rattle.model_laws.specs.OverLaws.{IsFair, MovedLeasesEndAtTheirOver}
use Rattle.model_laws.specs.Sound.{IsSound}
use Rattle.model_histories.specs.Histories.{IsHistory}
use Rattle.model_histories.specs.Legal.{IsWorkersEntry, MayTake}
use Rattle.model_histories.specs.Reading.{IsLeasedAfter, IsLeaseOf, IsHandingOf, is_over_by, IsOverOf}
use Rattle.model_steps.specs.After.{after}
use Rattle.model_steps.specs.Goaway.{is_left_out}
use Rattle.model_steps.specs.Lost.{may_be_sent}
use Rattle.model_authority.proofs.NumberLemmas.{value_and, and_value, place_of, numbered_at}
use Rattle.model_authority.proofs.PhaseLemmas.{excludes}
use Rattle.model_authority.specs.Lists.{numbered}
use Rattle.model_authority.specs.Statuses.{is_waiting, is_leased, is_on, is_at, is_unsent_at, is_leased_elsewhere, is_busy, is_gone}
use Rattle.model_values.specs.declared.config.Config.{Config}
use Rattle.model_values.specs.declared.entry.Act.{Act}
use Rattle.model_values.specs.declared.entry.Act.TheVariants.{Orders, Reported, Closed}
use Rattle.model_values.specs.declared.entry.Entry.{Entry}
use Rattle.model_values.specs.declared.order.OrderMark.TheVariants as mark
use Rattle.model_values.specs.declared.report.Report.TheVariants as report
use Rattle.model_values.specs.declared.state.AbstractPool.{AbstractPool}
use Rattle.model_values.specs.declared.state.Exchange.{Exchange}
use Rattle.model_values.specs.declared.state.Status.{Status}
use Rattle.model_values.specs.declared.state.Status.TheVariants.{Waiting, Leased, Ended}

-- ---- statuses

-- an exchange has one lease at most
pub one_lease : (c d : ConnNo) (r t : StreamNo) (status : Status) → is_at c r status ≡ true → is_at d t status ≡ true → (d.0 ≡ c.0) × (t.0 ≡ r.0)
one_lease c d r t Waiting h k = absurd cc
one_lease c d r t (Leased conn stream by handed) h k =
    let first = and_parts (conn.0 == c.0) (stream.0 == r.0) h in
    let second = and_parts (conn.0 == d.0) (stream.0 == t.0) k in
    (sym (eqb-true conn.0 d.0 second.0) ∙ eqb-true conn.0 c.0 first.0, sym (eqb-true stream.0 t.0 second.1) ∙ eqb-true stream.0 r.0 first.1)
one_lease c d r t (Ended how) h k = absurd cc

on_at : (c d : ConnNo) (r : StreamNo) (status : Status) → is_at c r status ≡ true → is_on d status ≡ true → d.0 ≡ c.0
on_at c d r Waiting h k = absurd cc
on_at c d r (Leased conn stream by handed) h k = sym (eqb-true conn.0 d.0 k) ∙ eqb-true conn.0 c.0 (and_parts (conn.0 == c.0) (stream.0 == r.0) h).0
on_at c d r (Ended how) h k = absurd cc

-- a lease whose start was handed is left out where it is above the last stream
out_at : (c d : ConnNo) (r last : StreamNo) (status : Status) → is_at c r status ≡ true → is_unsent_at c r status ≡ false → is_left_out d last status ≡ true →
    (d.0 ≡ c.0) × (nat_lt last.0 r.0 ≡ true)
out_at c d r last Waiting h sent k = absurd cc
out_at c d r last (Leased conn stream by handed) h sent k =
    let first = and_parts (conn.0 == c.0) (stream.0 == r.0) h in
    let second = and_parts (conn.0 == d.0) (not handed || nat_lt last.0 stream.0) k in (
      sym (eqb-true conn.0 d.0 second.0) ∙ eqb-true conn.0 c.0 first.0,
      elim (or_cases (not handed) (nat_lt last.0 stream.0) second.1) [
        | inl unsent ↦ absurd (both_ways (is_unsent_at c r (Leased conn stream by handed)) sent (and_from (conn.0 == c.0 && stream.0 == r.0) (not handed) h unsent))
        | inr above ↦ subst (λ n. nat_lt last.0 n ≡ true) (eqb-true stream.0 r.0 first.1) above
      ],
    )
out_at c d r last (Ended how) h sent k = absurd cc

-- an exchange whose start was handed moves only by an act that ends its stream
move_is_over : (x : Exchange) (act : Act) (c : ConnNo) (r : StreamNo) → is_at c r x.status ≡ true → is_unsent_at c r x.status ≡ false →
    may_move x act ≡ true → is_over_by c r act ≡ true
move_is_over x (Reported conn sent (report.Answered t response keep alt proof)) c r h handed may =
    let front = and_parts (is_at conn t x.status && response.status == 421) (is_leased_elsewhere x.status) may in
    let both = one_lease c conn r t x.status h (and_parts (is_at conn t x.status) (response.status == 421) front.0).0 in
    and_from (conn.0 == c.0) (r.0 == t.0) (eq-eqb conn.0 c.0 both.0) (eq-eqb r.0 t.0 (sym both.1))
move_is_over x (Reported conn sent (report.Refused t)) c r h handed may =
    let both = one_lease c conn r t x.status h may in
    and_from (conn.0 == c.0) (r.0 == t.0) (eq-eqb conn.0 c.0 both.0) (eq-eqb r.0 t.0 (sym both.1))
move_is_over x (Reported conn sent (report.Goaway last)) c r h handed may =
    let out = out_at c conn r last x.status h handed may in
    and_from (conn.0 == c.0) (nat_lt last.0 r.0) (eq-eqb conn.0 c.0 out.0) out.1
move_is_over x (Closed conn sent cause heard) c r h handed may =
    eq-eqb conn.0 c.0 (on_at c conn r x.status h (and_parts (is_on conn x.status) (may_be_sent x heard x.status) may).0)
move_is_over x _ c r h handed may = absurd cc

-- and no act that hands a start moves anything
hands_no_move : (x : Exchange) (act : Act) (c : ConnNo) (r : StreamNo) → Hands act c r → may_move x act ≡ true → ⊥
hands_no_move x act c r o may = let moves : may_move x (Orders c o.sent o.orders) ≡ true = subst (λ a. may_move x a ≡ true) o.is_orders may in absurd cc

-- ---- where the lease ends

-- no start of a stream that is done is handed
pub done_unhanded : (config : Config) (h : List Entry) (j : ℕ) (y : Entry) (c : ConnNo) (r : StreamNo) → IsHistory config h → slice_get h j ≡ Some y →
    Hands y.act c r → IsDone c r (state_at config h j) → ⊥
done_unhanded config h j y c r history is_entry o done =
    let s : AbstractPool = state_at config h j in
    let may = (may_order s y c o.sent o.orders o.is_orders (history.each j y is_entry).legal).1 in
    let v = value_and (numbered c.0 s.connections) (λ x. IsWorkersEntry x y.who o.sent × MayTake x o.orders) may in
    let start = has_start r o.orders o.starts in
    let has : Contains v.0.orders (mark.Start start.0 r) = subst (λ ms. Contains ms (mark.Start start.0 r)) v.2.1.1 start.1 in
    let up : is_gone v.0.phase ≡ false = excludes is_busy is_gone refl v.0.phase v.2.1.0 in
    let leased = (reached_is_sound config h j history).pending c v.0 start.0 r v.1 (λ t. both_ways (is_gone v.0.phase) up t) has in
    let u = value_and (numbered start.0.0 s.exchanges) (λ (x : Exchange). IsTrue (is_unsent_at c r x.status)) leased in
    done.free start.0.0 (and_value (numbered start.0.0 s.exchanges) (λ (x : Exchange). IsTrue (is_at c r x.status)) u.0 u.1 (unsent_leased c r u.0.status u.2))

module _ (config : Config) (h : List Entry) (e : ExchangeNo) (c : ConnNo) (r : StreamNo) (place handing k : ℕ) (x : Entry) (fair : IsFair config h c)
    (lease : IsLeaseOf config h e c r place (Some (suc k)))
    (hands_it : IsHandingOf h c r handing) (is_entry : slice_get h k ≡ Some x)
    (waits : OfExchange (state_at config h (suc k)) e (λ exchange. exchange.status ≡ Waiting)) where
  abbrev s : AbstractPool
  s = state_at config h k

  next : k + 1 ≡ suc k
  next = omega arith

  leased : IsLeasedAfter config h e c r k
  leased = let before = lease.lasts.1 in lease.lasts.0 k (omega arith) (omega arith)

  has_lease : HasLease c r (numbered e.0 s.exchanges)
  has_lease = and_value (numbered e.0 s.exchanges) (λ (z : Exchange). IsTrue (is_at c r z.status)) leased.0 leased.1 leased.2

  -- the entry moves the exchange
  moves : may_move leased.0 x.act ≡ true
  moves =
      let v = value_and (numbered e.0 (state_at config h (suc k)).exchanges) (λ (z : Exchange). z.status ≡ Waiting) waits in
      let behind : numbered e.0 (state_at config h (k + 1)).exchanges ≡ Some v.0 = subst (λ n. numbered e.0 (state_at config h n).exchanges ≡ Some v.0) (sym next) v.1 in
      moves_are_lawful config h k x e.0 leased.0 v.0 (record { history = fair.history; is_entry = is_entry }) leased.1 (at_leased leased.0.status leased.2) behind
      (ap (λ (z : Status). is_waiting z) v.2)
    where
      at_leased : (status : Status) → is_at c r status ≡ true → is_leased status ≡ true
      at_leased Waiting l = absurd cc
      at_leased (Leased conn stream by handed) l = refl
      at_leased (Ended how) l = absurd cc

  -- behind it the stream is done
  done : IsDone c r (state_at config h (suc k))
  done =
      let sound : IsSound config s = reached_is_sound config h k fair.history in
      let is : state_at config h (suc k) ≡ after s x = ap (state_at config h) (sym next) ∙ state_after config h k x is_entry in
      subst (IsDone c r) (sym is)
      (done_behind s x e.0 c r (fair.history.each k x is_entry) sound.carried sound.apart has_lease
      (λ again.
      let v = value_and (numbered e.0 (after s x).exchanges) (λ (z : Exchange). IsTrue (is_at c r z.status)) again in
      lease.lasts.3 (v.0, ap (λ (t : AbstractPool). numbered e.0 t.exchanges) is ∙ v.1, v.2)))

  -- its start was handed before
  handed_before : handing < suc k
  handed_before = elim (cases_lt handing (suc k)) [
    | inl before ↦ before
    | inr behind ↦ absurd (late behind)
  ]
    where
      late : suc k ≤ handing → ⊥
      late behind =
          let at = place_of h handing hands_it.0 hands_it.1 in
          let o : Hands hands_it.0.act c r = hands hands_it.0.act c r hands_it.2 in
          elim (cases_lt k at.0) [
            | inl later ↦
                done_unhanded config h at.0 hands_it.0 c r fair.history at.2 o
                (state_later config h (suc k) at.0 (IsDone c r) fair.history (done_after c r) (omega arith) done)
            | inr same ↦
                let here : at.0 ≡ k = omega (arith, at.1) in
                let found : slice_get h k ≡ Some hands_it.0 = ap (slice_get h) (sym here) ∙ at.2 in
                let one : hands_it.0 ≡ x = cc (found, is_entry) in
                hands_no_move leased.0 x.act c r (subst (λ (z : Entry). Hands z.act c r) one o) moves
          ]

  over_here : IsOverOf h c r (suc k)
  over_here = record {
    handing = handing;
    is_handing = hands_it;
    behind = handed_before;
    entry = x;
    is_entry = numbered_at h k ∙ is_entry;
    over = move_is_over leased.0 x.act c r leased.2 sent moves;
    first = λ other y after_it before is_y over.
        let begun : place ≤ handing = assigned_first config h e c r place handing (Some (suc k)) fair.history lease hands_it in
        unleased_behind config h e c r other y fair is_y over (lease.lasts.0 other (omega arith) before);
  }
    where
      sent : is_unsent_at c r leased.0.status ≡ false
      sent =
          let before = handed_before in
          let v = value_and (numbered c.0 s.connections) (λ y. Contains y.started r) (started_by config h k c r fair.history (handing, omega arith, hands_it)) in
          false_from_ne_true (is_unsent_at c r leased.0.status) (λ unsent. (reached_is_sound config h k fair.history).sent e.0 leased.0 c r v.0 leased.1 unsent v.1 v.2)

pub moved_leases_end_at_their_over : MovedLeasesEndAtTheirOver
moved_leases_end_at_their_over config h e c r place handing zero fair lease hands_it waits = let before = lease.lasts.1 in absurd (omega arith)
moved_leases_end_at_their_over config h e c r place handing (suc k) fair lease hands_it waits =
    let within = lease.lasts.2 in
    elim (slice_get_cases h k).1 [
      | inl is ↦ over_here config h e c r place handing k is.0 fair lease hands_it is.2 waits
      | inr past ↦ absurd (omega (arith, past.0))
    ]
