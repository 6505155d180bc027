-- Behind an entry that ends a stream no exchange has a lease on it, where the worker of its connection keeps its word.
use Rattle.std.proofs.Common.{◌≡◌, ℕ, List, Bool, true, inl, inr, refl, sym, subst, Contains}
use Rattle.std.specs.Prelude.{◌==◌, ◌||◌, nat_lt}
use Rattle.std.specs.List.{list_any}
use Rattle.std.proofs.lemmas.Bool.{both_ways, and_parts, or_cases, eq-eqb, eqb-true}
use Rattle.std.proofs.lemmas.List.Folds.{Any-from_list_any}
use Rattle.net_base.specs.declared.numbers.CallerNo.{CallerNo}
use Rattle.net_base.specs.declared.numbers.ConnNo.{ConnNo}
use Rattle.net_base.specs.declared.numbers.ExchangeNo.{ExchangeNo}
use Rattle.net_base.specs.declared.numbers.StreamNo.{StreamNo}
use Rattle.model_changes.specs.Connections.{is_reset_of, is_start_of}
use Rattle.model_laws.proofs.DialedLemmas.{conn_is}
use Rattle.model_laws.proofs.FairActs.{IsFairAt, asked_stand, fair_noted}
use Rattle.model_laws.proofs.FairLemmas.{Holds, HoldsAt, Says, Goes, goes_act}
use Rattle.model_laws.proofs.FairReports.{busy_through}
use Rattle.model_laws.proofs.FairSteps.{Acts, closed_free}
use Rattle.model_laws.proofs.FitLemmas.{fit_stand}
use Rattle.model_laws.proofs.FreeLemmas.{AreFree, free_answered, free_refused, free_ended_at, IsLeft, left_by_goaway}
use Rattle.model_laws.proofs.StartSteps.{same_stream}
use Rattle.model_histories.specs.Histories.{MayStand}
use Rattle.model_histories.specs.Reading.{Own, is_close, is_over_by_report, is_over_by}
use Rattle.model_steps.specs.After.{noted, after_act, after}
use Rattle.model_steps.specs.Answered.{after_answered}
use Rattle.model_authority.proofs.NumberLemmas.{value_and}
use Rattle.model_authority.specs.Lists.{numbered}
use Rattle.model_authority.specs.Statuses.{is_busy}
use Rattle.model_values.specs.declared.entry.Act.{Act}
use Rattle.model_values.specs.declared.entry.Act.TheVariants.{Orders, Reported, Closed}
use Rattle.model_values.specs.declared.entry.Entry.{Entry}
use Rattle.model_values.specs.declared.order.OrderMark.{OrderMark}
use Rattle.model_values.specs.declared.order.OrderMark.TheVariants as mark
use Rattle.model_values.specs.declared.outcome.Outcome.TheVariants as outcome
use Rattle.model_values.specs.declared.report.Report.{Report}
use Rattle.model_values.specs.declared.report.Report.TheVariants as report
use Rattle.model_values.specs.declared.state.AbstractPool.{AbstractPool}
use Rattle.model_values.specs.declared.state.Connection.{Connection}

-- ---- marks that pass a test

any_mark : (p : OrderMark → Bool) (ms : List OrderMark) → list_any p ms ≡ true → (m : OrderMark) × Contains ms m × (p m ≡ true)
any_mark p ms some = let a = Any-from_list_any p ms some in (a.1, (a.0, a.2, a.3), a.4)

has_reset : (r : StreamNo) (ms : List OrderMark) → list_any (is_reset_of r) ms ≡ true → Contains ms (mark.Reset r)
has_reset r ms some = let a = any_mark (is_reset_of r) ms some in by a.0 a.1 a.2
  where
    by : (m : OrderMark) → Contains ms m → is_reset_of r m ≡ true → Contains ms (mark.Reset r)
    by (mark.Start e t) has is = absurd cc
    by (mark.Reset t) has is = subst (λ u. Contains ms (mark.Reset u)) (same_stream r t (eqb-true r.0 t.0 is)) has
    by mark.Close has is = absurd cc

has_close : (ms : List OrderMark) → list_any is_close ms ≡ true → Contains ms mark.Close
has_close ms some = let a = any_mark is_close ms some in by a.0 a.1 a.2
  where
    by : (m : OrderMark) → Contains ms m → is_close m ≡ true → Contains ms mark.Close
    by (mark.Start e t) has is = absurd cc
    by (mark.Reset t) has is = absurd cc
    by mark.Close has is = has

pub has_start : (r : StreamNo) (ms : List OrderMark) → list_any (is_start_of r) ms ≡ true → (e : ExchangeNo) × Contains ms (mark.Start e r)
has_start r ms some = let a = any_mark (is_start_of r) ms some in by a.0 a.1 a.2
  where
    by : (m : OrderMark) → Contains ms m → is_start_of r m ≡ true → (e : ExchangeNo) × Contains ms (mark.Start e r)
    by (mark.Start e t) has is = (e, subst (λ u. Contains ms (mark.Start e u)) (same_stream r t (eqb-true r.0 t.0 is)) has)
    by (mark.Reset t) has is = absurd cc
    by mark.Close has is = absurd cc

-- ---- acts

module _ (s : AbstractPool) (who : CallerNo) (c : ConnNo) (own next : List Own) (fair : IsFairAt c own s) (r : StreamNo) where
  abbrev Frees : Act → Type 0
  Frees act = AreFree c r (after_act s who act).exchanges

  over_orders : (sent : ℕ) (orders : List OrderMark) → Acts s c own next (Orders c sent orders) →
      (list_any (is_reset_of r) orders || list_any is_close orders) ≡ true → Frees (Orders c sent orders)
  over_orders sent orders acts over n h =
      let goes : Goes c own next s (after_act s who (Orders c sent orders)) = goes_act s who (Orders c sent orders) c own next acts.0 refl acts.2 in
      let v = value_and (numbered c.0 s.connections) (λ x. (is_busy x.phase ≡ true) × (orders ≡ x.orders)) acts.1 in
      let x : Connection = v.0 in
      let holds : Holds c own s x = subst (HoldsAt c own s) v.1 fair.holds in
      let among : (m : OrderMark) → Contains orders m → Contains x.orders m = λ m has. subst (λ ms. Contains ms m) v.2.1 has in
      elim (or_cases (list_any (is_reset_of r) orders) (list_any is_close orders) over) [
        | inl reset ↦ (holds.reset r (among (mark.Reset r) (has_reset r orders reset))).free n (goes.leases n r h)
        | inr close ↦ holds.closing (busy_through x.phase v.2.0 (holds.close (among mark.Close (has_close orders close)))) r n (goes.leases n r h)
      ]

  over_report : (sent : ℕ) (told : Report) → Acts s c own next (Reported c sent told) → is_over_by_report r told ≡ true → Frees (Reported c sent told)
  unfolding after_answered
  over_report sent (report.Opened id) acts over = absurd cc
  over_report sent (report.Limit m) acts over = absurd cc
  over_report sent (report.Answered t response keep alt proof) acts over =
      subst (λ u. AreFree c u (after_act s who (Reported c sent (report.Answered t response keep alt proof))).exchanges) (same_stream r t (eqb-true r.0 t.0 over))
      (free_answered c t response s.exchanges)
  over_report sent (report.Refused t) acts over =
      subst (λ u. AreFree c u (after_act s who (Reported c sent (report.Refused t))).exchanges) (same_stream r t (eqb-true r.0 t.0 over)) (free_refused c t s.exchanges)
  over_report sent (report.Reset t code) acts over =
      subst (λ u. AreFree c u (after_act s who (Reported c sent (report.Reset t code))).exchanges) (same_stream r t (eqb-true r.0 t.0 over))
      (free_ended_at c t (outcome.Reset code) s.exchanges)
  over_report sent (report.TooLarge t) acts over =
      subst (λ u. AreFree c u (after_act s who (Reported c sent (report.TooLarge t))).exchanges) (same_stream r t (eqb-true r.0 t.0 over))
      (free_ended_at c t outcome.TooLarge s.exchanges)
  over_report sent (report.StreamClosed t) acts over =
      let w = acts.2.word (eq-eqb c.0 c.0 refl) in
      subst (λ u. AreFree c u s.exchanges) (same_stream r t (eqb-true r.0 t.0 over)) (fair.said t (w.3.closed sent t w.1)).free
  over_report sent (report.Goaway last) acts over =
      λ n h.
      let v = value_and (numbered n s.exchanges) (IsLeft c last r) (left_by_goaway c last r s.exchanges n h) in
      both_ways (nat_lt last.0 r.0) v.2.within over
  over_report sent (report.AltSeen origin alt) acts over = absurd cc

  -- an act about this connection
  over_at : (act : ConnNo → Act) (conn : ConnNo) → (conn.0 == c.0) ≡ true → (Acts s c own next (act c) → Frees (act c)) → Acts s c own next (act conn) → Frees (act conn)
  over_at act conn here free = subst (λ (d : ConnNo). Acts s c own next (act d) → Frees (act d)) (sym (conn_is conn c (eqb-true conn.0 c.0 here))) free

  pub over_act : (act : Act) → Acts s c own next act → is_over_by c r act ≡ true → Frees act
  over_act (Orders conn sent orders) acts over =
      let parts = and_parts (conn.0 == c.0) (list_any (is_reset_of r) orders || list_any is_close orders) over in
      over_at (λ d. Orders d sent orders) conn parts.0 (λ here. over_orders sent orders here parts.1) acts
  over_act (Reported conn sent told) acts over =
      let parts = and_parts (conn.0 == c.0) (is_over_by_report r told) over in
      over_at (λ d. Reported d sent told) conn parts.0 (λ here. over_report sent told here parts.1) acts
  over_act (Closed conn sent cause heard) acts over = over_at (λ d. Closed d sent cause heard) conn over (λ here. closed_free s who c sent cause heard here.0 r) acts
  over_act _ acts over = absurd cc

-- ---- any entry that may stand

pub over_after : (s : AbstractPool) (e : Entry) (c : ConnNo) (own next : List Own) (r : StreamNo) → MayStand s e → Says c own next e.act → IsFairAt c own s →
    is_over_by c r e.act ≡ true →
    AreFree c r (after s e).exchanges
unfolding after
over_after s e c own next r stand says fair over =
    over_act (noted s e.moment) e.who c own next (fair_noted c own s e fair) r e.act (fit_stand s e stand, asked_stand s e stand, says) over
