-- A stream of a connection stays live behind any act, but for one that ends it, or where its start isn't handed yet.
use Rattle.std.proofs.Common.{[], ◌≡◌, ◌⊎◌, ◌∷◌, ℕ, List, Option, Some, None, Bool, true, false, inl, inr, refl, sym, ap, subst, is_some, IsTrue, IsSomeAnd, Contains}
use Rattle.std.specs.Prelude.{◌==◌, ◌&&◌, not, nat_le}
use Rattle.std.proofs.lemmas.Bool.{cases_eq, cond_both, and_cases, and_from, eq-eqb, leb-false, lt-ltb, not-false}
use Rattle.std.proofs.lemmas.List.Elements.{Contains-append_left}
use Rattle.net_base.specs.declared.identity.Identity.{Identity}
use Rattle.net_base.specs.declared.numbers.CallerNo.{CallerNo}
use Rattle.net_base.specs.declared.numbers.ConnNo.{ConnNo}
use Rattle.net_base.specs.declared.numbers.ExchangeNo.{ExchangeNo}
use Rattle.net_base.specs.declared.numbers.Moment.{Moment}
use Rattle.net_base.specs.declared.numbers.StreamNo.{StreamNo}
use Rattle.model_changes.specs.Connections.{closing, suits, opened_with, refused_with, after_opened, with_start, with_limit, without_start, without_exchange, without_stream, after_large_answer, is_unsent_stream, going_away, after_shutdown, with_sent}
use Rattle.model_laws.proofs.DialedLemmas.{conn_is}
use Rattle.model_laws.proofs.FairReports.{any_numbered}
use Rattle.model_laws.proofs.ReleaseLemmas.{HasUnsent}
use Rattle.model_laws.proofs.TreatLemmas.{Treats, treats_closing, treats_without_stream, treats_without_start, treats_without_exchange, treats_answered, treats_large_answer, treats_going_away, treats_shutdown}
use Rattle.model_histories.proofs.CauseLemmas.{by_alt_seen}
use Rattle.model_histories.proofs.EditLemmas.{edit_other, edit_at, map_at}
use Rattle.model_histories.proofs.EffectLemmas.{AddsAt, Adds, one_at, conn_of, Changes, OneChanges, effect_act}
use Rattle.model_histories.specs.Reading.{is_over_by_report, is_over_by}
use Rattle.model_steps.specs.After.{after_submit, released_lease, released_by, released, after_cancel, after_reprioritise, after_preconnect, after_resolved, after_network, after_shut, after_expire, after_lapse, after_evict, sent_noted, noted, after_act, after}
use Rattle.model_steps.specs.Answered.{lease_at, answered_connection, after_answered}
use Rattle.model_authority.proofs.NumberLemmas.{and_value}
use Rattle.model_authority.specs.Lists.{numbered, edit}
use Rattle.model_authority.specs.Statuses.{is_unsent_at}
use Rattle.model_values.specs.declared.entry.Act.{Act}
use Rattle.model_values.specs.declared.entry.Act.TheVariants.{Submit, Cancel, Reprioritise, Preconnect, Resolved, Shutdown, Dial, Orders, Reported, Closed, Expire, Assign, Want, Evict}
use Rattle.model_values.specs.declared.entry.Entry.{Entry}
use Rattle.model_values.specs.declared.order.OrderMark.{OrderMark}
use Rattle.model_values.specs.declared.reply.CancelReply.TheVariants as cancel
use Rattle.model_values.specs.declared.reply.ChangeReply.TheVariants as change
use Rattle.model_values.specs.declared.reply.PreconnectReply.TheVariants as preconnect
use Rattle.model_values.specs.declared.reply.ResolvedReply.TheVariants as resolved
use Rattle.model_values.specs.declared.reply.ShutReply.TheVariants as shut
use Rattle.model_values.specs.declared.reply.SubmitReply.TheVariants as submit
use Rattle.model_values.specs.declared.report.Report.{Report}
use Rattle.model_values.specs.declared.report.Report.TheVariants as report
use Rattle.model_values.specs.declared.state.AbstractPool.{AbstractPool}
use Rattle.model_values.specs.declared.state.Connection.{Connection}
use Rattle.model_values.specs.declared.state.Exchange.{Exchange}
use Rattle.model_values.specs.declared.state.Status.{Status}
use Rattle.model_values.specs.declared.state.Status.TheVariants.{Waiting, Leased, Ended}

-- the act ends the stream, or an exchange has a lease on it whose start isn't handed yet
abbrev pub Drops : AbstractPool → Act → ConnNo → StreamNo → Type 0
Drops s act c r = IsTrue (is_over_by c r act) ⊎ ((n : ℕ) × HasUnsent c r (numbered n s.exchanges))

abbrev pub IsLiveIn : StreamNo → Option Connection → Type 0
IsLiveIn r o = IsSomeAnd o (λ y. Contains y.live r)

module _ (s : AbstractPool) (who : CallerNo) (c : ConnNo) where
  -- what is live stays so, but for what the act drops
  abbrev Keeps : Act → Option Connection → Option Connection → Type 0
  Keeps act o p = (r : StreamNo) → IsLiveIn r o → IsLiveIn r p ⊎ Drops s act c r

  abbrev pub IsTreated : Act → Connection → Connection → Type 0
  IsTreated act x y = Treats (Drops s act c) (λ r. Unit {0}) (Unit {0}) x y

  same : (act : Act) (o : Option Connection) → Keeps act o o
  same act o r h = inl h

  like : (act : Act) (x y : Connection) → y.live ≡ x.live → Keeps act (Some x) (Some y)
  like act x y live r h = inl (subst (λ rs. Contains rs r) (sym live) h)

  edited : (act : Act) (number : ℕ) (f : Connection → Connection) (xs : List Connection) → (c.0 ≡ number → (x : Connection) → Keeps act (Some x) (Some (f x))) →
      Keeps act (numbered c.0 xs) (numbered c.0 (edit number f xs))
  edited act number f xs keeps = elim (cases_eq c.0 number) [
    | inl here ↦ edit_at (Keeps act) number c.0 f xs (same act) (λ x is_item. keeps here x)
    | inr apart ↦ subst (Keeps act (numbered c.0 xs)) (sym (edit_other number c.0 f xs apart)) (same act (numbered c.0 xs))
  ]

  -- a connection changes by the effect of the act
  changed : (act : Act) → OneChanges s who act (after_act s who act).connections → ((x y : Connection) → Changes s who act x y → Keeps act (Some x) (Some y)) →
      Keeps act (numbered c.0 s.connections) (numbered c.0 (after_act s who act).connections)
  changed act one keeps =
      one_at (λ n. Keeps act) (Changes s who act) (conn_of act) s.connections (after_act s who act).connections one (λ n o other. same act o) (λ none. same act None)
      (λ x y is_item is. keeps x y is) c.0

  added : (act : Act) (o p : Option Connection) → AddsAt o p → Keeps act o p
  added act None p adds r h = absurd h
  added act (Some x) None adds r h = absurd adds
  added act (Some x) (Some y) adds r h = inl (subst (λ (z : Connection). Contains z.live r) (sym adds) h)

  -- ---- releases

  unsent_here : (e : ExchangeNo) (u : Exchange) (d : ConnNo) (q : StreamNo) → numbered e.0 s.exchanges ≡ Some u → is_unsent_at d q u.status ≡ true → c.0 ≡ d.0 →
      (n : ℕ) × HasUnsent c q (numbered n s.exchanges)
  unsent_here e u d q is_u unsent here =
      (e.0, and_value (numbered e.0 s.exchanges) (λ (x : Exchange). IsTrue (is_unsent_at c q x.status)) u is_u (subst (λ (b : ConnNo). is_unsent_at b q u.status ≡ true) (sym (conn_is c d here)) unsent))

  lease_kept : (act : Act) (e : ExchangeNo) (u : Exchange) → numbered e.0 s.exchanges ≡ Some u → (status : Status) → u.status ≡ status →
      Keeps act (numbered c.0 s.connections) (numbered c.0 (released_lease s.latest status s.connections))
  lease_kept act e u is_u Waiting is = same act (numbered c.0 s.connections)
  lease_kept act e u is_u (Leased d q by false) is =
      edited act d.0 (without_start s.latest q) s.connections
      (λ here x.
      let unsent : is_unsent_at d q u.status ≡ true = subst (λ (z : Status). is_unsent_at d q z ≡ true) (sym is)
      (and_from (d.0 == d.0 && q.0 == q.0) true (and_from (d.0 == d.0) (q.0 == q.0) (eq-eqb d.0 d.0 refl) (eq-eqb q.0 q.0 refl)) refl) in
      let k : IsTreated act x (without_start s.latest q x) =
      treats_without_start (Drops s act c) (λ r. Unit {0}) (Unit {0}) s.latest q x (inr (unsent_here e u d q is_u unsent here)) in
      k.live)
  lease_kept act e u is_u (Leased d q by true) is =
      edited act d.0 (without_exchange q) s.connections
      (λ here x. let k : IsTreated act x (without_exchange q x) = treats_without_exchange (Drops s act c) (λ r. Unit {0}) (Unit {0}) q x (λ h2. tt) (λ h1. tt) in k.live)
  lease_kept act e u is_u (Ended how) is = same act (numbered c.0 s.connections)

  released_kept : (act : Act) (e : ExchangeNo) → Keeps act (numbered c.0 s.connections) (numbered c.0 (released s e))
  unfolding released
  released_kept act e = by (numbered e.0 s.exchanges) refl
    where
      by : (o : Option Exchange) → numbered e.0 s.exchanges ≡ o → Keeps act (numbered c.0 s.connections) (numbered c.0 (released_by s.latest o s.connections))
      by None none = same act (numbered c.0 s.connections)
      by (Some u) is_u = lease_kept act e u is_u u.status refl

  -- ---- reports

  -- a report that ends the stream drops it
  over_report : (d : ConnNo) (sent : ℕ) (told : Report) (t : StreamNo) → c.0 ≡ d.0 → is_over_by_report t told ≡ true → Drops s (Reported d sent told) c t
  over_report d sent told t here over = inl (and_from (d.0 == c.0) (is_over_by_report t told) (eq-eqb d.0 c.0 (sym here)) over)

  over_goaway : (d : ConnNo) (sent : ℕ) (last t : StreamNo) → c.0 ≡ d.0 → (nat_le t.0 last.0 && not (is_unsent_stream d s.exchanges t)) ≡ false →
      Drops s (Reported d sent (report.Goaway last)) c t
  over_goaway d sent last t here out = elim (and_cases (nat_le t.0 last.0) (not (is_unsent_stream d s.exchanges t)) out) [
    | inl above ↦ over_report d sent (report.Goaway last) t here (lt-ltb last.0 t.0 (leb-false t.0 last.0 above))
    | inr some ↦
        let a = any_numbered (λ x. is_unsent_at d t x.status) s.exchanges (not-false (is_unsent_stream d s.exchanges t) some) in
        inr (unsent_here (record { 0 = a.0 }) a.1 d t a.2 a.3 here)
  ]

  opened_kept : (act : Act) (is_shut : Bool) (now : Moment) (id : Identity) (x : Connection) → Keeps act (Some x) (Some (after_opened is_shut now id x))
  unfolding after_opened
  opened_kept act is_shut now id x =
      let shown : Connection = record x { identity = Some id } in
      let k : IsTreated act shown (closing shown) = treats_closing (Drops s act c) (λ r. Unit {0}) (Unit {0}) shown (inr tt) in
      cond_both (not is_shut && suits x.group id) (opened_with now id x) (refused_with id x) (λ (y : Connection). Keeps act (Some x) (Some y)) (λ t r h. inl h) (λ f. k.live)

  -- the octets that are noted first change no stream
  noted_kept : (act : Act) (d : ConnNo) (sent : ℕ) (p : Option Connection) → Keeps act (numbered c.0 (edit d.0 (with_sent sent) s.connections)) p →
      Keeps act (numbered c.0 s.connections) p
  noted_kept act d sent p keeps r h = elim (edited act d.0 (with_sent sent) s.connections (λ here x t k. inl k) r h) [ inl still ↦ keeps r still | inr dropped ↦ inr dropped ]

  ended_kept : (d : ConnNo) (sent : ℕ) (told : Report) (t : StreamNo) → is_over_by_report t told ≡ true →
      Keeps (Reported d sent told) (numbered c.0 s.connections) (numbered c.0 (edit d.0 (without_stream s.latest t) (edit d.0 (with_sent sent) s.connections)))
  ended_kept d sent told t over =
      noted_kept (Reported d sent told) d sent _
      (edited (Reported d sent told) d.0 (without_stream s.latest t) (edit d.0 (with_sent sent) s.connections)
      (λ here x.
      let k : IsTreated (Reported d sent told) x (without_stream s.latest t x) =
      treats_without_stream (Drops s (Reported d sent told) c) (λ r. Unit {0}) (Unit {0}) s.latest t x (over_report d sent told t here over) in
      k.live))

  report_kept : (d : ConnNo) (sent : ℕ) (told : Report) →
      Keeps (Reported d sent told) (numbered c.0 s.connections) (numbered c.0 (after_act s who (Reported d sent told)).connections)
  unfolding after_answered
  report_kept d sent (report.Opened id) =
      let act : Act = Reported d sent (report.Opened id) in
      changed act (effect_act s who act)
      (λ x y is. subst (λ (z : Connection). Keeps act (Some x) (Some z)) (sym is) (opened_kept act (is_some s.shutdown) s.latest id (with_sent sent x)))
  report_kept d sent (report.Limit n) =
      let act : Act = Reported d sent (report.Limit n) in
      noted_kept act d sent _ (edited act d.0 (with_limit n) (edit d.0 (with_sent sent) s.connections) (λ here x r h. inl h))
  report_kept d sent (report.Answered t response keep alt proof) =
      let told : Report = report.Answered t response keep alt proof in
      let lease : Option Exchange = lease_at (sent_noted s d sent) d t in
      noted_kept (Reported d sent told) d sent _
      (edited (Reported d sent told) d.0 (answered_connection s.latest t response keep lease) (edit d.0 (with_sent sent) s.connections)
      (λ here x.
      let k : IsTreated (Reported d sent told) x (answered_connection s.latest t response keep lease x) =
      treats_answered (Drops s (Reported d sent told) c) (λ r. Unit {0}) (Unit {0}) s.latest t response keep lease x (over_report d sent told t here (eq-eqb t.0 t.0 refl)) (λ f. tt) in
      k.live))
  report_kept d sent (report.Refused t) = ended_kept d sent (report.Refused t) t (eq-eqb t.0 t.0 refl)
  report_kept d sent (report.Reset t code) = ended_kept d sent (report.Reset t code) t (eq-eqb t.0 t.0 refl)
  report_kept d sent (report.TooLarge t) =
      let told : Report = report.TooLarge t in
      noted_kept (Reported d sent told) d sent _
      (edited (Reported d sent told) d.0 (after_large_answer s.latest t) (edit d.0 (with_sent sent) s.connections)
      (λ here x.
      let k : IsTreated (Reported d sent told) x (after_large_answer s.latest t x) =
      treats_large_answer (Drops s (Reported d sent told) c) (λ r. Unit {0}) (Unit {0}) s.latest t x (over_report d sent told t here (eq-eqb t.0 t.0 refl)) (λ f. tt) in
      k.live))
  report_kept d sent (report.StreamClosed t) = ended_kept d sent (report.StreamClosed t) t (eq-eqb t.0 t.0 refl)
  report_kept d sent (report.Goaway last) =
      let told : Report = report.Goaway last in
      noted_kept (Reported d sent told) d sent _
      (edited (Reported d sent told) d.0 (going_away s.latest d s.exchanges last) (edit d.0 (with_sent sent) s.connections)
      (λ here x.
      let k : IsTreated (Reported d sent told) x (going_away s.latest d s.exchanges last x) =
      treats_going_away (Drops s (Reported d sent told) c) (λ r. Unit {0}) (Unit {0}) s.latest d s.exchanges last x (λ t out. over_goaway d sent last t here out) in
      k.live))
  report_kept d sent (report.AltSeen origin alt) =
      let act : Act = Reported d sent (report.AltSeen origin alt) in
      let t : AbstractPool = sent_noted s d sent in
      noted_kept act d sent _
      (by_alt_seen (λ u. Keeps act (numbered c.0 t.connections) (numbered c.0 u.connections)) t d origin alt (λ x. same act (numbered c.0 t.connections)) (same act (numbered c.0 t.connections)))

  -- ---- any act

  pub live_act : (act : Act) (r : StreamNo) → IsLiveIn r (numbered c.0 s.connections) → IsLiveIn r (numbered c.0 (after_act s who act).connections) ⊎ Drops s act c r
  unfolding after_submit after_cancel after_reprioritise after_preconnect after_resolved after_network after_shut after_expire after_lapse after_evict with_start
  live_act (Submit ask (submit.Accepted e)) = same (Submit ask (submit.Accepted e)) (numbered c.0 s.connections)
  live_act (Cancel e cancel.Cancelled) = released_kept (Cancel e cancel.Cancelled) e
  live_act (Reprioritise e urgency change.Changed) = same (Reprioritise e urgency change.Changed) (numbered c.0 s.connections)
  live_act (Preconnect key credentials origin count (preconnect.Opening k)) =
      let act : Act = Preconnect key credentials origin count (preconnect.Opening k) in
      let adds : Adds s.connections (after_act s who act).connections = effect_act s who act in
      added act (numbered c.0 s.connections) (numbered c.0 (after_act s who act).connections) (adds c.0)
  live_act (Resolved key host addresses resolved.Noted) = same (Resolved key host addresses resolved.Noted) (numbered c.0 s.connections)
  live_act (Shutdown shut.Noted) =
      let act : Act = Shutdown shut.Noted in
      map_at (Keeps act) c.0 after_shutdown s.connections (same act None)
      (λ x. let k : IsTreated act x (after_shutdown x) = treats_shutdown (Drops s act c) (λ r. Unit {0}) (Unit {0}) x tt in k.live)
  live_act (Dial d target) =
      changed (Dial d target) (effect_act s who (Dial d target)) (λ x y is. like (Dial d target) x y (ap (λ (z : Connection). z.live) is))
  live_act (Orders d sent orders) =
      changed (Orders d sent orders) (effect_act s who (Orders d sent orders)) (λ x y is. like (Orders d sent orders) x y (ap (λ (z : Connection). z.live) is))
  live_act (Reported d sent told) = report_kept d sent told
  live_act (Closed d sent cause heard) =
      changed (Closed d sent cause heard) (effect_act s who (Closed d sent cause heard)) (λ x y is. like (Closed d sent cause heard) x y (ap (λ (z : Connection). z.live) is))
  live_act (Expire e) = released_kept (Expire e) e
  live_act (Assign e d t by) =
      changed (Assign e d t by) (effect_act s who (Assign e d t by))
      (λ x y is r h. inl (subst (λ (z : Connection). Contains z.live r) (sym is) (Contains-append_left x.live (t ∷ []) r h)))
  live_act (Want e d t) =
      let adds : Adds s.connections (after_act s who (Want e d t)).connections = effect_act s who (Want e d t) in
      added (Want e d t) (numbered c.0 s.connections) (numbered c.0 (after_act s who (Want e d t)).connections) (adds c.0)
  live_act (Evict d) =
      edited (Evict d) d.0 closing s.connections
      (λ here x. let k : IsTreated (Evict d) x (closing x) = treats_closing (Drops s (Evict d) c) (λ r. Unit {0}) (Unit {0}) x (inr tt) in k.live)
  live_act act = same act (numbered c.0 s.connections)

-- ---- any entry

-- orders that are taken end no stream
pub live_taken : (s : AbstractPool) (e : Entry) (c : ConnNo) (r : StreamNo) (sent : ℕ) (orders : List OrderMark) (y : Connection) → e.act ≡ Orders c sent orders →
    numbered c.0 s.connections ≡ Some y → Contains y.live r → IsLiveIn r (numbered c.0 (after s e).connections)
unfolding after noted
live_taken s e c r sent orders y is is_item live =
    let t : AbstractPool = noted s e.moment in
    let act : Act = Orders c sent orders in
    let effect : OneChanges t e.who act (after_act t e.who act).connections = effect_act t e.who act in
    let left = effect.changed y is_item in
    subst (λ (a : Act). IsLiveIn r (numbered c.0 (after_act t e.who a).connections)) (sym is)
    (and_value (numbered c.0 (after_act t e.who act).connections) (λ z. Contains z.live r) left.0 left.1 (subst (λ (z : Connection). Contains z.live r) (sym left.2) live))

pub live_after : (s : AbstractPool) (e : Entry) (c : ConnNo) (r : StreamNo) → IsLiveIn r (numbered c.0 s.connections) →
    IsLiveIn r (numbered c.0 (after s e).connections) ⊎ Drops s e.act c r
unfolding after noted
live_after s e c r live = live_act (noted s e.moment) e.who c e.act r live
