-- What the end of an exchange, and a shutdown, leave of what holds of a connection whose worker keeps its word.
use Rattle.std.proofs.Common.{◌≡◌, ◌≤◌, ℕ, List, Some, true, false, inl, inr, refl, sym, ap, subst, ◌∙◌, IsTrue, Contains, length}
use Rattle.std.specs.Prelude.{◌==◌, ◌&&◌}
use Rattle.std.proofs.lemmas.Bool.{cases_eq, both_ways, and_from, eq-eqb}
use Rattle.net_base.specs.declared.numbers.CallerNo.{CallerNo}
use Rattle.net_base.specs.declared.numbers.ConnNo.{ConnNo}
use Rattle.net_base.specs.declared.numbers.ExchangeNo.{ExchangeNo}
use Rattle.net_base.specs.declared.numbers.StreamNo.{StreamNo}
use Rattle.model_changes.specs.Connections.{without_start, without_exchange, after_shutdown}
use Rattle.model_laws.proofs.DoneLemmas.{IsDone, past_act, leased_past}
use Rattle.model_laws.proofs.FairLemmas.{Holds, HoldsAt, Rests, Goes, gives_on, one_live, holds_treated}
use Rattle.model_laws.proofs.FairSteps.{Acts, Stands, going, holds_of, stands_same}
use Rattle.model_laws.proofs.FreeLemmas.{AreFree, free_shut, free_edit}
use Rattle.model_laws.proofs.ReleaseLemmas.{HasLease}
use Rattle.model_laws.proofs.TreatLemmas.{treats_without_start, treats_without_exchange, treats_shutdown}
use Rattle.model_histories.proofs.EditLemmas.{edit_here, edit_none, edit_other, map_at}
use Rattle.model_histories.specs.Reading.{Own}
use Rattle.model_steps.specs.After.{released_lease, after_shut, after_act}
use Rattle.model_authority.proofs.NumberLemmas.{option_cases, value_and, and_value}
use Rattle.model_authority.specs.Lists.{numbered, edit}
use Rattle.model_authority.specs.Statuses.{is_at, is_unsent_at, speaks_h2}
use Rattle.model_values.specs.declared.config.Config.{Config}
use Rattle.model_values.specs.declared.entry.Act.{Act}
use Rattle.model_values.specs.declared.entry.Act.TheVariants.{Shutdown}
use Rattle.model_values.specs.declared.outcome.Outcome.TheVariants as outcome
use Rattle.model_values.specs.declared.reply.ShutReply.TheVariants as shut
use Rattle.model_values.specs.declared.state.AbstractPool.{AbstractPool}
use Rattle.model_values.specs.declared.state.Connection.{Connection}
use Rattle.model_values.specs.declared.state.Exchange.{Exchange}
use Rattle.model_values.specs.declared.state.Status.{Status}
use Rattle.model_values.specs.declared.state.Status.TheVariants.{Waiting, Leased, Ended}

module _ (config : Config) (s : AbstractPool) (who : CallerNo) (c : ConnNo) (own next : List Own) (rests : Rests config s)
    (holds : HoldsAt c own s (numbered c.0 s.connections)) where
  goes : (act : Act) → gives_on c act ≡ false → Acts s c own next act → Goes c own next s (after_act s who act)
  goes = going config s who c own next rests holds

  held : (x : Connection) → numbered c.0 s.connections ≡ Some x → Holds c own s x
  held = holds_of config s who c own next rests holds

  same_here : (act : Act) → gives_on c act ≡ false → Acts s c own next act → numbered c.0 (after_act s who act).connections ≡ numbered c.0 s.connections →
      Stands s who c next act
  same_here = stands_same config s who c own next rests holds

  pub stands_shut : Acts s c own next (Shutdown shut.Noted) → Stands s who c next (Shutdown shut.Noted)
  unfolding after_shut
  stands_shut acts = map_at (λ o p. HoldsAt c own s o → HoldsAt c next t p) c.0 after_shutdown s.connections (λ h. tt) left holds
    where
      t : AbstractPool
      t = after_act s who (Shutdown shut.Noted)

      left : (x : Connection) → Holds c own s x → Holds c next t (after_shutdown x)
      left x h =
          holds_treated (λ r. ⊥) (λ r. ⊥) (Unit {0}) c own next s t x (after_shutdown x) (goes (Shutdown shut.Noted) refl acts)
          (treats_shutdown (λ r. ⊥) (λ r. ⊥) (Unit {0}) x tt)
          (λ r d. absurd d) (λ r d. absurd d) (λ u r. free_shut c r outcome.PoolClosed s.exchanges) (λ r h1 up started live d. absurd d) h

  -- the exchange of this number ends, which had this lease
  module _ (act : Act) (acts : Acts s c own next act) (none : gives_on c act ≡ false) (e : ExchangeNo) (f : Exchange → Exchange)
      (left : (after_act s who act).exchanges ≡ edit e.0 f s.exchanges)
      (u : Exchange) (is_u : numbered e.0 s.exchanges ≡ Some u) (ends : (r : StreamNo) → is_at c r (f u).status ≡ true → ⊥) where
    freed : (q : StreamNo) → is_at c q u.status ≡ true → AreFree c q (after_act s who act).exchanges
    freed q leased = subst (AreFree c q) (sym left) (free_edit c q e.0 f s.exchanges u is_u (ends q) alone)
      where
        alone : (n : ℕ) → HasLease c q (numbered n s.exchanges) → n ≡ e.0
        alone n h =
            let v = value_and (numbered n s.exchanges) (λ (z : Exchange). IsTrue (is_at c q z.status)) h in
            rests.apart n e.0 v.0 u c q v.1 is_u v.2 leased

    without_unsent : (q : StreamNo) (x : Connection) → numbered c.0 s.connections ≡ Some x → is_at c q u.status ≡ true → is_unsent_at c q u.status ≡ true →
        Holds c next (after_act s who act) (without_start s.latest q x)
    without_unsent q x is_item leased unsent =
        let t : AbstractPool = after_act s who act in
        holds_treated (λ r. r ≡ q) (λ r. ⊥) ⊥ c own next s t x (without_start s.latest q x) (goes act none acts)
        (treats_without_start (λ r. r ≡ q) (λ r. ⊥) ⊥ s.latest q x refl)
        (λ r same. subst (λ z. AreFree c z t.exchanges) (sym same) (freed q leased)) (λ r d. absurd d) (λ d. absurd d)
        (λ r h1 up started live same. absurd (rests.sent e.0 u c q x is_u unsent is_item (subst (Contains x.started) same started))) (held x is_item)

    without_handed : (q : StreamNo) (x : Connection) → numbered c.0 s.connections ≡ Some x → is_at c q u.status ≡ true →
        Holds c next (after_act s who act) (without_exchange q x)
    without_handed q x is_item leased =
        let t : AbstractPool = after_act s who act in
        let lease : HasLease c q (numbered e.0 s.exchanges) = and_value (numbered e.0 s.exchanges) (λ (z : Exchange). IsTrue (is_at c q z.status)) u is_u leased in
        let went : Goes c own next s t = goes act none acts in
        let done : IsDone c q t = record { past = past_act s who act c q acts.0 (leased_past s e.0 c q rests.carried lease); free = freed q leased } in
        holds_treated (λ r. ⊥) (λ r. r ≡ q) (speaks_h2 x ≡ false) c own next s t x (without_exchange q x) went
        (treats_without_exchange (λ r. ⊥) (λ r. r ≡ q) (speaks_h2 x ≡ false) q x (λ h2. refl) (λ h1. h1))
        (λ r d. absurd d) (λ r same. subst (λ z. IsDone c z t) (sym same) done)
        (λ h1 r n h.
        let few : length x.live ≤ 1 = (rests.orderly c.0 x is_item).streams.h1 (λ h2. both_ways (speaks_h2 x) h1 h2) in
        let h_before = (held x is_item).live in
        let one : r ≡ q = one_live x.live q r few (h_before e.0 q lease) (h_before n r (went.leases n r h)) in
        freed q leased n (subst (λ z. HasLease c z (numbered n t.exchanges)) one h)) (λ r h1 up started live d. absurd d) (held x is_item)

    -- by an edit of its connection
    stands_edit : (conn : ConnNo) (g : Connection → Connection) → (after_act s who act).connections ≡ edit conn.0 g s.connections →
        (c.0 ≡ conn.0 → (x : Connection) → numbered c.0 s.connections ≡ Some x → Holds c next (after_act s who act) (g x)) → Stands s who c next act
    stands_edit conn g is here = elim (cases_eq c.0 conn.0) [
      | inl same ↦ subst (λ ys. HoldsAt c next t (numbered c.0 ys)) (sym is) (subst (λ k. HoldsAt c next t (numbered c.0 (edit k g s.connections))) same (by same))
      | inr apart ↦ same_here act none acts (ap (numbered c.0) is ∙ edit_other conn.0 c.0 g s.connections apart)
    ]
      where
        t : AbstractPool
        t = after_act s who act

        by : c.0 ≡ conn.0 → HoldsAt c next t (numbered c.0 (edit c.0 g s.connections))
        by same = elim (option_cases (numbered c.0 s.connections)) [
          | inl nothing ↦ subst (HoldsAt c next t) (sym (ap (numbered c.0) (edit_none c.0 g s.connections nothing) ∙ nothing)) tt
          | inr some ↦ subst (HoldsAt c next t) (sym (edit_here c.0 g s.connections some.0 some.1)) (here same some.0 some.1)
        ]

    pub stands_lease : (status : Status) → u.status ≡ status → (after_act s who act).connections ≡ released_lease s.latest status s.connections → Stands s who c next act
    stands_lease Waiting is same = same_here act none acts (ap (numbered c.0) same)
    stands_lease (Ended how) is same = same_here act none acts (ap (numbered c.0) same)
    stands_lease (Leased d q by false) is same =
        stands_edit d (without_start s.latest q) same
        (λ here x is_item. without_unsent q x is_item (subst (λ z. is_at c q z ≡ true) (sym is) (leased_here d q here)) (subst (λ z. is_unsent_at c q z ≡ true) (sym is)
        (and_from (d.0 == c.0 && q.0 == q.0) true (leased_here d q here) refl)))
      where
        leased_here : (d : ConnNo) (q : StreamNo) → c.0 ≡ d.0 → (d.0 == c.0 && q.0 == q.0) ≡ true
        leased_here d q here = and_from (d.0 == c.0) (q.0 == q.0) (eq-eqb d.0 c.0 (sym here)) (eq-eqb q.0 q.0 refl)
    stands_lease (Leased d q by true) is same =
        stands_edit d (without_exchange q) same
        (λ here x is_item. without_handed q x is_item (subst (λ z. is_at c q z ≡ true) (sym is) (and_from (d.0 == c.0) (q.0 == q.0) (eq-eqb d.0 c.0 (sym here)) (eq-eqb q.0 q.0 refl))))
