-- What any entry leaves of what holds of a connection whose worker keeps its word.
use Rattle.std.proofs.Common.{[], ◌≡◌, ◌∷◌, ◌++◌, ℕ, List, Option, Some, None, Bool, true, false, inl, inr, refl, sym, ap, subst, ◌∙◌, IsTrue, IsSomeAnd, Contains}
use Rattle.std.specs.Prelude.{◌==◌, nat_lt}
use Rattle.std.proofs.lemmas.Bool.{cases_eq, both_ways, cond_both, eq-eqb}
use Rattle.std.proofs.lemmas.List.Elements.{All-contains, Contains-append_left, Contains-append_cases, Contains-push, Contains-push_cases}
use Rattle.net_base.specs.declared.end_cause.EndCause.{EndCause}
use Rattle.net_base.specs.declared.numbers.CallerNo.{CallerNo}
use Rattle.net_base.specs.declared.numbers.ConnNo.{ConnNo}
use Rattle.net_base.specs.declared.numbers.ExchangeNo.{ExchangeNo}
use Rattle.net_base.specs.declared.numbers.Moment.{Moment}
use Rattle.net_base.specs.declared.numbers.StreamNo.{StreamNo}
use Rattle.net_base.specs.declared.target.Target.{Target}
use Rattle.model_changes.specs.Connections.{streams_started, closing, dialing_by, stream_after, with_start, with_taken, gone, with_sent}
use Rattle.model_laws.proofs.DialedLemmas.{conn_is}
use Rattle.model_laws.proofs.DoneLemmas.{IsDone, done_act}
use Rattle.model_laws.proofs.FairLemmas.{Holds, HoldsAt, Rests, Says, Goes, gives_on, goes_act, opened_more, reported_more, holds_kept, holds_fresh, unopened_free, unopened_reset, unopened_close}
use Rattle.model_laws.proofs.FitLemmas.{same_item, Gives, IsFit}
use Rattle.model_laws.proofs.FreeLemmas.{AreFree}
use Rattle.model_laws.proofs.PendingLemmas.{none_there}
use Rattle.model_laws.proofs.ReleaseLemmas.{IsGiven, releases_act}
use Rattle.model_laws.proofs.TreatLemmas.{is_through, treats_same, treats_closing, nil_none}
use Rattle.model_laws.proofs.TurnLemmas.{no_claim, at_item}
use Rattle.model_laws.specs.Sound.{HasNoStreams}
use Rattle.model_histories.proofs.EditLemmas.{edit_here, edit_none}
use Rattle.model_histories.proofs.EffectLemmas.{OneBecomes, conn_of, Changes, OneChanges, effect_act}
use Rattle.model_histories.specs.Reading.{Own}
use Rattle.model_settling.specs.Settling.{has_passed}
use Rattle.model_steps.specs.After.{after_evict, after_act}
use Rattle.model_authority.proofs.NumberLemmas.{option_cases}
use Rattle.model_authority.proofs.PhaseLemmas.{follows, excludes}
use Rattle.model_authority.specs.Lists.{numbered, is_nil}
use Rattle.model_authority.specs.Statuses.{is_wanted, is_open, is_opening, is_busy, is_closing}
use Rattle.model_values.specs.declared.config.Config.{Config}
use Rattle.model_values.specs.declared.entry.Act.{Act}
use Rattle.model_values.specs.declared.entry.Act.TheVariants.{Dial, Orders, Closed, Expire, Assign, Evict}
use Rattle.model_values.specs.declared.entry.Way.{Way}
use Rattle.model_values.specs.declared.order.OrderMark.{OrderMark}
use Rattle.model_values.specs.declared.order.OrderMark.TheVariants as mark
use Rattle.model_values.specs.declared.state.AbstractPool.{AbstractPool}
use Rattle.model_values.specs.declared.state.Connection.{Connection}
use Rattle.model_values.specs.declared.state.Phase.{Phase}
use Rattle.model_values.specs.declared.state.Phase.TheVariants.{Draining}

-- what is used here of an act beside its fit: all its connection's orders are taken, a connection that is evicted carries nothing, and
-- an exchange expires by a deadline that has passed
abbrev pub IsAsked : AbstractPool → Act → Type 0
IsAsked s (Orders c sent orders) = IsSomeAnd (numbered c.0 s.connections) (λ x. (is_busy x.phase ≡ true) × (orders ≡ x.orders))
IsAsked s (Evict c) = IsSomeAnd (numbered c.0 s.connections) (λ x. is_nil x.live ≡ true)
IsAsked s (Expire e) = (now : Moment) × IsSomeAnd (numbered e.0 s.exchanges) (λ x. has_passed now x.ask.deadline ≡ true)
IsAsked s _ = Unit {0}

abbrev pub Acts : AbstractPool → ConnNo → List Own → List Own → Act → Type 0
Acts s c own next act = IsFit s act × IsAsked s act × Says c own next act

-- the act leaves of the connection what holds of it
abbrev pub Stands : AbstractPool → CallerNo → ConnNo → List Own → Act → Type 0
Stands s who c next act = HoldsAt c next (after_act s who act) (numbered c.0 (after_act s who act).connections)

-- behind the end of a connection no exchange has a lease on it
pub closed_free : (s : AbstractPool) (who : CallerNo) (c : ConnNo) (sent : ℕ) (cause : EndCause) (heard : List StreamNo) → IsFit s (Closed c sent cause heard) →
    (r : StreamNo) → AreFree c r (after_act s who (Closed c sent cause heard)).exchanges
closed_free s who c sent cause heard fit r n h = elim ((releases_act false s who (Closed c sent cause heard) (no_claim s) fit n).leases c r h) [
  | inl was ↦ both_ways (c.0 == c.0) was.1 (eq-eqb c.0 c.0 refl)
  | inr g ↦ let never : Closed c sent cause heard ≡ Assign g.exchange g.conn g.stream g.by = g.is_assign in absurd cc
]

module _ (config : Config) (s : AbstractPool) (who : CallerNo) (c : ConnNo) (own next : List Own) (rests : Rests config s)
    (holds : HoldsAt c own s (numbered c.0 s.connections)) where
  pub going : (act : Act) → gives_on c act ≡ false → Acts s c own next act → Goes c own next s (after_act s who act)
  going act none acts = goes_act s who act c own next acts.0 none acts.2

  pub holds_of : (x : Connection) → numbered c.0 s.connections ≡ Some x → Holds c own s x
  holds_of x is_item = subst (HoldsAt c own s) is_item holds

  -- ---- the connection stays as it is

  pub stands_same : (act : Act) → gives_on c act ≡ false → Acts s c own next act →
      numbered c.0 (after_act s who act).connections ≡ numbered c.0 s.connections → Stands s who c next act
  stands_same act none acts same = subst (HoldsAt c next t) (sym same) (by (numbered c.0 s.connections) holds)
    where
      t : AbstractPool
      t = after_act s who act

      by : (o : Option Connection) → HoldsAt c own s o → HoldsAt c next t o
      by None h = tt
      by (Some x) h = holds_kept c own next s t x x (going act none acts) (treats_same (λ r. ⊥) (λ r. ⊥) ⊥ x) h

  -- ---- an act about the connection

  -- what it makes of it
  stands_changed : (act : Act) → OneBecomes (Changes s who act) c.0 s.connections (after_act s who act).connections →
      ((x y : Connection) → numbered c.0 s.connections ≡ Some x → Holds c own s x → Changes s who act x y → Holds c next (after_act s who act) y) → Stands s who c next act
  stands_changed act one here = elim (option_cases (numbered c.0 s.connections)) [
    | inl none ↦ subst (HoldsAt c next (after_act s who act)) (sym (one.none none)) tt
    | inr some ↦
        let y = one.changed some.0 some.1 in
        subst (HoldsAt c next (after_act s who act)) (sym y.1) (here some.0 y.0 some.1 (holds_of some.0 some.1) y.2)
  ]

  -- an act about this connection, or about another
  pub stands_on : (act : ConnNo → Act) (conn : ConnNo) → (Acts s c own next (act c) → Stands s who c next (act c)) →
      ((c.0 ≡ conn.0 → ⊥) → Acts s c own next (act conn) → Stands s who c next (act conn)) → Acts s c own next (act conn) → Stands s who c next (act conn)
  stands_on act conn here other = elim (cases_eq c.0 conn.0) [
    | inl same ↦ subst (λ (d : ConnNo). Acts s c own next (act d) → Stands s who c next (act d)) (conn_is c conn same) here
    | inr apart ↦ other apart
  ]

  pub elsewhere : (act : Act) → gives_on c act ≡ false → OneChanges s who act (after_act s who act).connections → (c.0 ≡ conn_of act → ⊥) →
      Acts s c own next act → Stands s who c next act
  elsewhere act none one apart acts = stands_same act none acts (one.others c.0 apart)

  pub stands_dial : (target : Target) → Acts s c own next (Dial c target) → Stands s who c next (Dial c target)
  stands_dial target acts = stands_changed (Dial c target) (effect_act s who (Dial c target)) dialed
    where
      t : AbstractPool
      t = after_act s who (Dial c target)

      dialed : (x y : Connection) → numbered c.0 s.connections ≡ Some x → Holds c own s x → y ≡ dialing_by who x → Holds c next t y
      dialed x y is_item h is =
          let wanted : IsTrue (is_wanted x.phase) = at_item (λ z. IsTrue (is_wanted z.phase)) (numbered c.0 s.connections) x acts.0 is_item in
          let opening : is_opening x.phase ≡ true = follows is_wanted is_opening refl x.phase wanted in
          let goes : Goes c own next s t = going (Dial c target) refl acts in
          let none : HasNoStreams x = (rests.orderly c.0 x is_item).opening opening in
          subst (Holds c next t) (sym is)
          (holds_fresh c next t (dialing_by who x) (λ r n k. unopened_free c s x is_item rests.carried opening r n (goes.leases n r k)) (unopened_reset c own s x is_item h opening)
          (λ k. absurd (unopened_close c own s x h opening k)) (λ k. opened_more c own next goes.more (h.speaks k)) none.started)

  pub stands_orders : (sent : ℕ) (orders : List OrderMark) → Acts s c own next (Orders c sent orders) → Stands s who c next (Orders c sent orders)
  stands_orders sent orders acts = stands_changed act (effect_act s who act) taken
    where
      act : Act
      act = Orders c sent orders

      taken : (x y : Connection) → numbered c.0 s.connections ≡ Some x → Holds c own s x → y ≡ with_taken orders (with_sent sent x) → Holds c next (after_act s who act) y
      taken x y is_item h is =
          let goes : Goes c own next s (after_act s who act) = going act refl acts in
          let are : orders ≡ x.orders = (at_item (λ z. (is_busy z.phase ≡ true) × (orders ≡ z.orders)) (numbered c.0 s.connections) x acts.1 is_item).1 in
          subst (Holds c next (after_act s who act)) (sym is) (record {
            live = λ n r k. h.live n r (goes.leases n r k);
            reset = λ r k. absurd (none_there (mark.Reset r) k);
            closing = λ t r n k. h.closing t r n (goes.leases n r k);
            close = λ k. absurd (none_there mark.Close k);
            speaks = λ k. opened_more c own next goes.more (h.speaks k);
            ran_out = λ h1 up r k. elim (Contains-append_cases x.started (streams_started orders) r k) [
              | inl was ↦ elim (h.ran_out h1 up r was) [ inl live ↦ inl live | inr ended ↦ inr (reported_more c r own next goes.more ended) ]
              | inr new ↦
                  inl (All-contains (λ t. Contains x.live t) (streams_started x.orders) r (rests.given c.0 x is_item).ordered
                  (subst (λ (ms : List OrderMark). Contains (streams_started ms) r) are new))
            ];
          })

  pub stands_closed : (sent : ℕ) (cause : EndCause) (heard : List StreamNo) → Acts s c own next (Closed c sent cause heard) →
      Stands s who c next (Closed c sent cause heard)
  stands_closed sent cause heard acts = stands_changed act (effect_act s who act) ended
    where
      act : Act
      act = Closed c sent cause heard

      free : (r : StreamNo) → AreFree c r (after_act s who act).exchanges
      free = closed_free s who c sent cause heard acts.0

      ended : (x y : Connection) → numbered c.0 s.connections ≡ Some x → Holds c own s x → y ≡ gone (with_sent sent x) → Holds c next (after_act s who act) y
      ended x y is_item h is =
          let goes : Goes c own next s (after_act s who act) = going act refl acts in
          subst (Holds c next (after_act s who act)) (sym is) (record {
            live = λ n r k. absurd (free r n k);
            reset = λ r k. goes.done r (h.reset r k);
            closing = λ t. free;
            close = λ k. refl;
            speaks = λ k. opened_more c own next goes.more (h.speaks k);
            ran_out = λ h1 up r k. absurd cc;
          })

  pub stands_assign : (e : ExchangeNo) (r : StreamNo) (by : Way) → Acts s c own next (Assign e c r by) → Stands s who c next (Assign e c r by)
  unfolding with_start
  stands_assign e r by acts = stands_changed act (effect_act s who act) given
    where
      act : Act
      act = Assign e c r by

      f : Connection → Connection
      f = with_start s.config.last_stream e r

      apart : (test : Phase → Bool) (x : Connection) → test Draining ≡ false → test x.phase ≡ false → test (f x).phase ≡ false
      apart test x drained same = cond_both (nat_lt s.config.last_stream (stream_after r x)) Draining x.phase (λ (p : Phase). test p ≡ false) (λ t. drained) (λ t. same)

      given : (x y : Connection) → numbered c.0 s.connections ≡ Some x → Holds c own s x → y ≡ with_start s.config.last_stream e r x → Holds c next (after_act s who act) y
      given x y is_item h is =
          let gives : Gives s c r = acts.0.1 in
          let same : gives.connection ≡ x = same_item (numbered c.0 s.connections) gives.connection x gives.is_connection is_item in
          let opened : is_open x.phase ≡ true = subst (λ (z : Connection). is_open z.phase ≡ true) same gives.opened in
          let done : (t : StreamNo) → IsDone c t s → IsDone c t (after_act s who act) = λ t d. done_act s who act c t acts.0 d in
          let more = acts.2.more in
          subst (Holds c next (after_act s who act)) (sym is) (record {
            live = λ n t k. elim ((releases_act false s who act (no_claim s) acts.0 n).leases c t k) [
              | inl was ↦ Contains-append_left x.live (r ∷ []) t (h.live n t was.0)
              | inr g ↦ new n x.live t g
            ];
            reset = λ t k. elim (Contains-push_cases x.orders (mark.Start e r) (mark.Reset t) k) [ inl before ↦ done t (h.reset t before) | inr other ↦ absurd cc ];
            closing = λ t. absurd (both_ways (is_closing (f x).phase) (apart is_closing x refl (excludes is_open is_closing refl x.phase opened)) t);
            close = λ k. elim (Contains-push_cases x.orders (mark.Start e r) mark.Close k) [
              | inl before ↦ absurd (both_ways (is_through x.phase) (excludes is_open is_through refl x.phase opened) (h.close before))
              | inr other ↦ absurd cc
            ];
            speaks = λ k. opened_more c own next more (h.speaks k);
            ran_out = λ h1 up t k. elim (h.ran_out h1 (excludes is_open is_through refl x.phase opened) t k) [
              | inl live ↦ inl (Contains-append_left x.live (r ∷ []) t live)
              | inr ended ↦ inr (reported_more c t own next more ended)
            ];
          })
        where
          new : (n : ℕ) (rs : List StreamNo) (t : StreamNo) → IsGiven act n c t → Contains (rs ++ r ∷ []) t
          new n rs t g =
              let is_act : Assign e c r by ≡ Assign g.exchange g.conn g.stream g.by = g.is_assign in
              let stream : g.stream ≡ r = cc in
              let whole : ℕ → StreamNo = λ k. record { 0 = k } in
              let one : r ≡ t = sym stream ∙ ap whole (sym g.is_stream) in
              subst (Contains (rs ++ r ∷ [])) one (Contains-push rs r)

  pub stands_evict : Acts s c own next (Evict c) → Stands s who c next (Evict c)
  unfolding after_evict
  stands_evict acts = elim (option_cases (numbered c.0 s.connections)) [
    | inl none ↦ subst (HoldsAt c next t) (sym (ap (numbered c.0) (edit_none c.0 closing s.connections none) ∙ none)) tt
    | inr some ↦
        let x : Connection = some.0 in
        let idle : is_nil x.live ≡ true = at_item (λ z. is_nil z.live ≡ true) (numbered c.0 s.connections) x acts.1 some.1 in
        subst (HoldsAt c next t) (sym (edit_here c.0 closing s.connections x some.1))
        (holds_kept c own next s t x (closing x) (going (Evict c) refl acts) (treats_closing (λ r. ⊥) (λ r. ⊥) ⊥ x (inl (nil_none x.live idle))) (holds_of x some.1))
  ]
    where
      t : AbstractPool
      t = after_act s who (Evict c)
