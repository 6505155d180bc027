-- What a worker's report leaves of what holds of its connection, where the worker keeps its word.
use Rattle.std.proofs.Common.{[], ◌≡◌, ◌≤◌, ◌∷◌, ℕ, zero, suc, List, Some, Bool, true, false, inl, inr, refl, sym, ap, subst, ◌∙◌, arith, is_some, IsTrue, Contains, length, map}
use Rattle.std.specs.Prelude.{◌==◌, ◌&&◌, not, nat_le}
use Rattle.std.specs.List.{list_any}
use Rattle.std.proofs.lemmas.Bool.{both_ways, and_from, and_cases, cond_both, eq-eqb, ltb-false, le-leb, not-false}
use Rattle.std.proofs.lemmas.List.Elements.{All-contains}
use Rattle.std.proofs.lemmas.List.Folds.{Any-from_list_any}
use Rattle.std.proofs.lemmas.Option.{slice_get-get_or}
use Rattle.net_base.specs.declared.identity.Identity.{Identity}
use Rattle.net_base.specs.declared.numbers.CallerNo.{CallerNo}
use Rattle.net_base.specs.declared.numbers.ConnNo.{ConnNo}
use Rattle.net_base.specs.declared.numbers.StreamNo.{StreamNo}
use Rattle.net_base.specs.declared.response.Response.{Response}
use Rattle.net_base.specs.declared.target.Proto.TheVariants.{H2}
use Rattle.partition_keys.specs.declared.alternative.AltUpdate.{AltUpdate}
use Rattle.partition_keys.specs.declared.alternative.Proof.{Proof}
use Rattle.model_changes.specs.Connections.{closing, is_unsent_stream, without_stream, suits, opened_with, refused_with, after_opened, with_limit, after_large_answer, going_away, with_sent}
use Rattle.model_laws.proofs.AssignedLemmas.{h2_is}
use Rattle.model_laws.proofs.FairLemmas.{WasReported, Holds, HoldsAt, Said, Rests, Says, Goes, goes_act, one_live, holds_treated, holds_kept, holds_fresh, unopened_free, unopened_reset, unopened_close}
use Rattle.model_laws.proofs.FitLemmas.{IsFit}
use Rattle.model_laws.proofs.FreeLemmas.{AreFree, free_answered, free_refused, free_ended_at, IsLeft, left_by_goaway}
use Rattle.model_laws.proofs.PendingLemmas.{none_there}
use Rattle.model_laws.proofs.ReleaseLemmas.{HasLease}
use Rattle.model_laws.proofs.TreatLemmas.{is_through, HasNoneLive, Treats, treats_like, treats_closing, treats_without_stream, treats_answered, treats_large_answer, treats_going_away, going_through}
use Rattle.model_laws.proofs.TurnLemmas.{at_item}
use Rattle.model_laws.proofs.YieldLemmas.{unsent_leased}
use Rattle.model_laws.specs.OverLaws.{is_end_of, reports_end, KeepsItsWord}
use Rattle.model_laws.specs.Sound.{HasNoStreams}
use Rattle.model_laws.specs.StartLaws.{IsOpenedWith}
use Rattle.model_histories.proofs.CauseLemmas.{by_alt_seen}
use Rattle.model_histories.proofs.EditLemmas.{edit_here}
use Rattle.model_histories.proofs.EffectLemmas.{OneBecomes, Changes, effect_act}
use Rattle.model_histories.specs.Legal.{MayReport}
use Rattle.model_histories.specs.Reading.{Own}
use Rattle.model_steps.specs.After.{after_act, sent_noted}
use Rattle.model_steps.specs.Answered.{lease_at, answered_connection, after_answered}
use Rattle.model_steps.specs.Goaway.{left_out}
use Rattle.model_authority.proofs.NumberLemmas.{value_and, numbered_at}
use Rattle.model_authority.proofs.PhaseLemmas.{follows}
use Rattle.model_authority.specs.Lists.{numbered, edit}
use Rattle.model_authority.specs.Statuses.{is_dialing, is_opening, is_busy, is_closing, is_unsent_at, is_h2, shows, speaks_h2}
use Rattle.model_values.specs.declared.config.Config.{Config}
use Rattle.model_values.specs.declared.entry.Act.{Act}
use Rattle.model_values.specs.declared.entry.Act.TheVariants.{Reported}
use Rattle.model_values.specs.declared.order.OrderMark.TheVariants as mark
use Rattle.model_values.specs.declared.outcome.Outcome.TheVariants as outcome
use Rattle.model_values.specs.declared.report.Report.{Report}
use Rattle.model_values.specs.declared.report.Report.TheVariants as report
use Rattle.model_values.specs.declared.state.AbstractPool.{AbstractPool}
use Rattle.model_values.specs.declared.state.Connection.{Connection}
use Rattle.model_values.specs.declared.state.Exchange.{Exchange}
use Rattle.model_values.specs.declared.state.Phase.{Phase}

-- the octets that are noted are none of what holds
pub holds_sent : (c : ConnNo) (own : List Own) (s : AbstractPool) (sent : ℕ) (x : Connection) → Holds c own s x → Holds c own s (with_sent sent x)
holds_sent c own s sent x h = record { live = h.live; reset = h.reset; closing = h.closing; close = h.close; speaks = h.speaks; ran_out = h.ran_out }

-- the exchange that passes a test
pub any_numbered : (p : Exchange → Bool) (es : List Exchange) → list_any p es ≡ true → (n : ℕ) × (x : Exchange) × (numbered n es ≡ Some x) × (p x ≡ true)
any_numbered p es some =
    let a = Any-from_list_any p es some in
    (suc a.0, a.1, numbered_at es a.0 ∙ slice_get-get_or es a.0 a.1 a.2 ∙ ap (λ (x : Exchange). Some x) a.3, a.4)

-- what was opened and is through closes
pub busy_through : (p : Phase) → is_busy p ≡ true → is_through p ≡ true → is_closing p ≡ true
busy_through p busy through = follows (λ q. is_busy q && is_through q) is_closing refl p (and_from (is_busy p) (is_through p) busy through)

module _ (config : Config) (s : AbstractPool) (who : CallerNo) (c : ConnNo) (own next : List Own) (sent : ℕ) (x : Connection)
    (is_item : numbered c.0 s.connections ≡ Some x)
    (rests : Rests config s) (said : Said c own s) (holds : Holds c own s x) where
  abbrev here : Connection
  here = with_sent sent x

  abbrev behind : Report → AbstractPool
  behind told = after_act s who (Reported c sent told)

  abbrev Telling : Report → Type 0
  Telling told = IsFit s (Reported c sent told) × Says c own next (Reported c sent told)

  going : (told : Report) → Telling told → Goes c own next s (behind told)
  going told telling = goes_act s who (Reported c sent told) c own next telling.0 refl telling.1

  -- the entry keeps its word
  word : (told : Report) → Telling told → (o : Own) × (o.entry.act ≡ Reported c sent told) × Contains next o × KeepsItsWord c own o
  word told telling = telling.1.word (eq-eqb c.0 c.0 refl)

  edited : (f : Connection → Connection) (t : AbstractPool) → Holds c next t (f here) →
      HoldsAt c next t (numbered c.0 (edit c.0 f (edit c.0 (with_sent sent) s.connections)))
  edited f t h =
      subst (HoldsAt c next t) (sym (edit_here c.0 f (edit c.0 (with_sent sent) s.connections) here (edit_here c.0 (with_sent sent) s.connections x is_item))) h

  -- ---- a report that ends a stream

  ends_by : (r : StreamNo) (told : Report) (act : Act) → act ≡ Reported c sent told → is_end_of r told ≡ true → IsTrue (reports_end c r act)
  ends_by r told act is ends = subst (λ a. IsTrue (reports_end c r a)) (sym is) (and_from (c.0 == c.0) (is_end_of r told) (eq-eqb c.0 c.0 refl) ends)

  reported : (r : StreamNo) (told : Report) → Telling told → is_end_of r told ≡ true → WasReported c r next
  reported r told telling ends = let w = word told telling in record { entry = w.0; is_entry = w.2; ends = ends_by r told w.0.entry.act w.1 ends }

  -- the stream that it ends, and no other, is no longer live
  dropped_ends : (r : StreamNo) (told : Report) → Telling told → is_end_of r told ≡ true → (t : StreamNo) → t ≡ r → WasReported c t next
  dropped_ends r told telling ends t same = subst (λ u. WasReported c u next) (sym same) (reported r told telling ends)

  holds_ended : (r : StreamNo) (told : Report) → Telling told → is_end_of r told ≡ true → AreFree c r (behind told).exchanges →
      Holds c next (behind told) (without_stream s.latest r here)
  holds_ended r told telling ends free =
      holds_treated (λ t. t ≡ r) (λ t. ⊥) ⊥ c own next s (behind told) here (without_stream s.latest r here) (going told telling)
      (treats_without_stream (λ t. t ≡ r) (λ t. ⊥) ⊥ s.latest r here refl)
      (λ t same. subst (λ u. AreFree c u (behind told).exchanges) (sym same) free) (λ t d. absurd d) (λ d. absurd d)
      (λ t h1 up started live same. inr (dropped_ends r told telling ends t same)) (holds_sent c own s sent x holds)

  -- on HTTP/1.1 no exchange has a lease but on the stream that ends
  alone : (r : StreamNo) (told : Report) → Telling told → is_end_of r told ≡ true → is_busy x.phase ≡ true → Contains x.started r → AreFree c r (behind told).exchanges →
      speaks_h2 x ≡ false → (t : StreamNo) → AreFree c t (behind told).exchanges
  alone r told telling ends busy started free h1 t n h = by (is_through x.phase) refl
    where
      before : HasLease c t (numbered n s.exchanges)
      before = (going told telling).leases n t h

      by : (b : Bool) → is_through x.phase ≡ b → ⊥
      by true through = holds.closing (busy_through x.phase busy through) t n before
      by false up = elim (holds.ran_out h1 up r started) [
        | inl live ↦
            let few : length x.live ≤ 1 = (rests.orderly c.0 x is_item).streams.h1 (λ h2. both_ways (speaks_h2 x) h1 h2) in
            free n (subst (λ u. HasLease c u (numbered n (behind told).exchanges)) (one_live x.live r t few live (holds.live n t before)) h)
        | inr was ↦
            let w = word told telling in
            All-contains (λ (o : Own). ¬ IsTrue (reports_end c r o.entry.act)) own was.entry (w.3.once r (ends_by r told w.0.entry.act w.1 ends)) was.is_entry was.ends
      ]

  holds_answered : (r : StreamNo) (response : Response) (keep : Bool) (alt : AltUpdate) (proof : Proof) → let told : Report = report.Answered r response keep alt proof in
      Telling told → AreFree c r (behind told).exchanges → Holds c next (behind told)
      (answered_connection s.latest r response keep (lease_at (sent_noted s c sent) c r) here)
  holds_answered r response keep alt proof telling free =
      let told : Report = report.Answered r response keep alt proof in
      let may : MayReport x told = at_item (λ z. MayReport z told) (numbered c.0 s.connections) x telling.0 is_item in
      let y : Connection = answered_connection s.latest r response keep (lease_at (sent_noted s c sent) c r) here in
      holds_treated (λ t. t ≡ r) (λ t. ⊥) (keep ≡ false) c own next s (behind told) here y (going told telling)
      (treats_answered (λ t. t ≡ r) (λ t. ⊥) (keep ≡ false) s.latest r response keep (lease_at (sent_noted s c sent) c r) here refl (λ f. f))
      (λ t same. subst (λ u. AreFree c u (behind told).exchanges) (sym same) free) (λ t d. absurd d) (λ f. shut may f (speaks_h2 x) refl)
      (λ t h1 up started live same. inr (dropped_ends r told telling (eq-eqb r.0 r.0 refl) t same)) (holds_sent c own s sent x holds)
    where
      shut : MayReport x (report.Answered r response keep alt proof) → keep ≡ false → (b : Bool) → speaks_h2 x ≡ b → (t : StreamNo) →
          AreFree c t (behind (report.Answered r response keep alt proof)).exchanges
      shut may f true h2 =
          let w = word (report.Answered r response keep alt proof) telling in
          absurd (both_ways keep f (w.3.kept sent r response keep alt proof w.1 (holds.speaks h2)))
      shut may f false h1 = alone r (report.Answered r response keep alt proof) telling (eq-eqb r.0 r.0 refl) may.0 may.1 free h1

  holds_large : (r : StreamNo) → Telling (report.TooLarge r) → AreFree c r (behind (report.TooLarge r)).exchanges →
      Holds c next (behind (report.TooLarge r)) (after_large_answer s.latest r here)
  holds_large r telling free =
      let told : Report = report.TooLarge r in
      let may : MayReport x told = at_item (λ z. MayReport z told) (numbered c.0 s.connections) x telling.0 is_item in
      holds_treated (λ t. t ≡ r) (λ t. ⊥) (speaks_h2 x ≡ false) c own next s (behind told) here (after_large_answer s.latest r here) (going told telling)
      (treats_large_answer (λ t. t ≡ r) (λ t. ⊥) (speaks_h2 x ≡ false) s.latest r here refl (λ f. f))
      (λ t same. subst (λ u. AreFree c u (behind told).exchanges) (sym same) free) (λ t d. absurd d)
      (λ f. alone r told telling (eq-eqb r.0 r.0 refl) may.0 may.1 free f)
      (λ t h1 up started live same. inr (dropped_ends r told telling (eq-eqb r.0 r.0 refl) t same)) (holds_sent c own s sent x holds)

  -- ---- the peer goes away

  -- a stream above the last one, or whose start isn't handed
  abbrev is_out : StreamNo → StreamNo → Type 0
  is_out last t = (nat_le t.0 last.0 && not (is_unsent_stream c s.exchanges t)) ≡ false

  out_free : (last t : StreamNo) → is_out last t → AreFree c t (map (left_out c last) s.exchanges)
  out_free last t out n h =
      let v = value_and (numbered n s.exchanges) (IsLeft c last t) (left_by_goaway c last t s.exchanges n h) in
      let within : t.0 ≤ last.0 = ltb-false last.0 t.0 v.2.within in
      elim (and_cases (nat_le t.0 last.0) (not (is_unsent_stream c s.exchanges t)) out) [
        | inl above ↦ both_ways (nat_le t.0 last.0) above (le-leb t.0 last.0 within)
        | inr some ↦
            let a = any_numbered (λ e. is_unsent_at c t e.status) s.exchanges (not-false (is_unsent_stream c s.exchanges t) some) in
            let same : n ≡ a.0 = rests.apart n a.0 v.0 a.1 c t v.1 a.2 v.2.lease (unsent_leased c t a.1.status a.3) in
            let there : numbered n s.exchanges ≡ Some a.1 = ap (λ k. numbered k s.exchanges) same ∙ a.2 in
            let one : v.0 ≡ a.1 = let first = v.1 in cc in
            both_ways (is_unsent_at c t v.0.status) v.2.sent (subst (λ (z : Exchange). is_unsent_at c t z.status ≡ true) (sym one) a.3)
      ]

  -- where one of at most one live stream stays live, it is the one
  left_live : (y : Connection) (t : StreamNo) → length x.live ≤ 1 → Contains x.live t → ((u : StreamNo) → Contains y.live u → Contains x.live u) →
      (HasNoneLive y → ⊥) → Contains y.live t
  left_live y t few live fewer some = by y.live refl
    where
      by : (rs : List StreamNo) → y.live ≡ rs → Contains y.live t
      by [] none = absurd (some (λ u h. none_there u (subst (λ us. Contains us u) none h)))
      by (u ∷ us) is =
          let first : Contains y.live u = subst (λ vs. Contains vs u) (sym is) (zero, omega arith, refl) in
          subst (Contains y.live) (one_live x.live t u few live (fewer u first)) first

  holds_goaway : (last : StreamNo) → Telling (report.Goaway last) → Holds c next (behind (report.Goaway last)) (going_away s.latest c s.exchanges last here)
  holds_goaway last telling =
      let told : Report = report.Goaway last in
      let y : Connection = going_away s.latest c s.exchanges last here in
      let k : Treats (is_out last) (λ t. ⊥) ⊥ here y = treats_going_away (is_out last) (λ t. ⊥) ⊥ s.latest c s.exchanges last here (λ t d. d) in
      holds_treated (is_out last) (λ t. ⊥) ⊥ c own next s (behind told) here y (going told telling) k (out_free last) (λ t d. absurd d) (λ d. absurd d)
      (λ t h1 up started live d.
      let few : length x.live ≤ 1 = (rests.orderly c.0 x is_item).streams.h1 (λ h2. both_ways (speaks_h2 x) h1 h2) in
      inl (left_live y t few live k.fewer (λ none. both_ways (is_through y.phase) up (going_through s.latest c s.exchanges last here none)))) (holds_sent c own s sent x holds)

  -- ---- the connection comes up

  holds_opened : (id : Identity) → Telling (report.Opened id) → (y : Connection) → y ≡ after_opened (is_some s.shutdown) s.latest id here →
      Holds c next (behind (report.Opened id)) y
  unfolding after_opened
  holds_opened id telling y is =
      let shown : Connection = record here { identity = Some id } in
      let k : Treats (λ t. ⊥) (λ t. ⊥) (Unit {0}) shown (closing shown) = treats_closing (λ t. ⊥) (λ t. ⊥) (Unit {0}) shown (inr tt) in
      subst (Holds c next (behind told)) (sym is)
      (cond_both (not (is_some s.shutdown) && suits here.group id) (opened_with s.latest id here) (refused_with id here) (Holds c next (behind told))
      (λ t. holds_fresh c next (behind told) (opened_with s.latest id here) free none_reset (λ h. absurd (none_closes h)) speaks none.started)
      (λ f. holds_fresh c next (behind told) (closing shown) free
      (λ r h. elim (k.reset r h) [ inl before ↦ none_reset r before | inr d ↦ absurd d ]) (λ h. elim (k.close h) [ inl before ↦ absurd (none_closes before) | inr t ↦ t ])
      (λ h. speaks (ap (shows (λ i. is_h2 i.proto)) (sym k.identity) ∙ h)) (k.started ∙ none.started)))
    where
      told : Report
      told = report.Opened id

      dialing : is_dialing x.phase ≡ true
      dialing = at_item (λ z. MayReport z told) (numbered c.0 s.connections) x telling.0 is_item

      opening : is_opening x.phase ≡ true
      opening = follows is_dialing is_opening refl x.phase dialing

      none : HasNoStreams x
      none = (rests.orderly c.0 x is_item).opening opening

      free : (r : StreamNo) → AreFree c r (behind told).exchanges
      free r n h = unopened_free c s x is_item rests.carried opening r n ((going told telling).leases n r h)

      none_reset : (r : StreamNo) → Contains x.orders (mark.Reset r) → ⊥
      none_reset r h = unopened_reset c own s x is_item holds opening r h

      none_closes : Contains x.orders mark.Close → ⊥
      none_closes h = unopened_close c own s x holds opening h

      speaks : is_h2 id.proto ≡ true → IsOpenedWith c H2 next
      speaks h = let w = word told telling in record { entry = w.0; is_entry = w.2; sent = sent; identity = id; opens = w.1; speaks = h2_is id.proto h }

  -- ---- any report

  pub holds_report : (told : Report) → Telling told → HoldsAt c next (behind told) (numbered c.0 (behind told).connections)
  unfolding after_answered
  holds_report (report.Opened id) telling =
      let one : OneBecomes (Changes s who (Reported c sent (report.Opened id))) c.0 s.connections (behind (report.Opened id)).connections =
      effect_act s who (Reported c sent (report.Opened id)) in
      let y = one.changed x is_item in
      subst (HoldsAt c next (behind (report.Opened id))) (sym y.1) (holds_opened id telling y.0 y.2)
  holds_report (report.Limit n) telling =
      let told : Report = report.Limit n in
      let k : Treats (λ r. ⊥) (λ r. ⊥) ⊥ here (with_limit n here) = treats_like (λ r. ⊥) (λ r. ⊥) ⊥ here (with_limit n here) refl refl refl refl refl in
      edited (with_limit n) (behind told) (holds_kept c own next s (behind told) here (with_limit n here) (going told telling) k (holds_sent c own s sent x holds))
  holds_report (report.Answered r response keep alt proof) telling =
      edited (answered_connection s.latest r response keep (lease_at (sent_noted s c sent) c r)) (behind (report.Answered r response keep alt proof))
      (holds_answered r response keep alt proof telling (free_answered c r response s.exchanges))
  holds_report (report.Refused r) telling =
      edited (without_stream s.latest r) (behind (report.Refused r)) (holds_ended r (report.Refused r) telling (eq-eqb r.0 r.0 refl) (free_refused c r s.exchanges))
  holds_report (report.Reset r code) telling =
      edited (without_stream s.latest r) (behind (report.Reset r code))
      (holds_ended r (report.Reset r code) telling (eq-eqb r.0 r.0 refl) (free_ended_at c r (outcome.Reset code) s.exchanges))
  holds_report (report.TooLarge r) telling =
      edited (after_large_answer s.latest r) (behind (report.TooLarge r)) (holds_large r telling (free_ended_at c r outcome.TooLarge s.exchanges))
  holds_report (report.StreamClosed r) telling =
      let told : Report = report.StreamClosed r in
      let w = word told telling in
      edited (without_stream s.latest r) (behind told) (holds_ended r told telling (eq-eqb r.0 r.0 refl) (said r (w.3.closed sent r w.1)).free)
  holds_report (report.Goaway last) telling = edited (going_away s.latest c s.exchanges last) (behind (report.Goaway last)) (holds_goaway last telling)
  holds_report (report.AltSeen origin alt) telling =
      let P : AbstractPool → Type 0 = λ t. Goes c own next s t → HoldsAt c next t (numbered c.0 t.connections) in
      let same : (t : AbstractPool) → t.connections ≡ (sent_noted s c sent).connections → P t = λ t is goes.
      subst (λ (ys : List Connection). HoldsAt c next t (numbered c.0 ys)) (sym is)
      (subst (HoldsAt c next t) (sym (edit_here c.0 (with_sent sent) s.connections x is_item))
      (holds_kept c own next s t here here goes (treats_like (λ r. ⊥) (λ r. ⊥) ⊥ here here refl refl refl refl refl) (holds_sent c own s sent x holds))) in
      by_alt_seen P (sent_noted s c sent) c origin alt (λ z. same _ refl) (same (sent_noted s c sent) refl) (going (report.AltSeen origin alt) telling)
