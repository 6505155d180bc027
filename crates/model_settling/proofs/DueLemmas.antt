-- What is computed to be due is due, it is all that is due, and where nothing is computed nothing is due.
use Rattle.std.proofs.Common.{◌≡◌, ◌↔◌, ◌⊎◌, Option, Some, None, false, inl, inr, refl, sym, ap, subst, ◌∙◌, is_some, IsSome, MatchOption}
use Rattle.net_base.specs.declared.numbers.ConnNo.{ConnNo}
use Rattle.net_base.specs.declared.numbers.ExchangeNo.{ExchangeNo}
use Rattle.net_base.specs.declared.numbers.StreamNo.{StreamNo}
use Rattle.net_base.specs.declared.target.Target.{Target}
use Rattle.model_settling.proofs.AssignLemmas.{assign_is, assign_back, assign_none, no_assign_due}
use Rattle.model_settling.proofs.EvictLemmas.{evict_is, evict_back}
use Rattle.model_settling.proofs.KindLemmas.{NoExpire, NoLapse, NoAssign, NoWant, expire_is, expire_back, expire_none, no_expire_due, lapse_is, lapse_back, lapse_none, no_lapse_due, want_is, want_back, want_none, no_want_due}
use Rattle.model_authority.proofs.NumberLemmas.{option_cases}
use Rattle.model_settling.specs.Due.{or_else, expire_due, lapse_due, assign_due, want_due, evict_due, due_of, want_act, act_of, IsNext}
use Rattle.model_authority.specs.Lists.{numbered}
use Rattle.model_settling.specs.Settling.{IsExpire, IsLapse, IsAssign, IsWant, IsEvict, IsDue, IsSettled, IsLate}
use Rattle.model_authority.specs.Ways.{target_of}
use Rattle.model_settling.specs.declared.kinds.Due.{Due}
use Rattle.model_settling.specs.declared.kinds.Due.TheVariants as due
use Rattle.model_values.specs.declared.entry.Act.{Act}
use Rattle.model_values.specs.declared.entry.Act.TheVariants.{Submit, Cancel, Reprioritise, Preconnect, Resolved, Network, Tick, Shutdown, Dial, Orders, Reported, Closed, Expire, Lapse, Assign, Want, Evict}
use Rattle.model_values.specs.declared.entry.Way.{Way}
use Rattle.model_values.specs.declared.state.AbstractPool.{AbstractPool}
use Rattle.model_values.specs.declared.state.Exchange.{Exchange}

-- ---- the first kind that applies

-- this kind applies, and none before it does
abbrev pub IsDueAs : AbstractPool → Due → Type 0
IsDueAs s (due.Expire e) = IsExpire s e
IsDueAs s (due.Lapse e) = IsLapse s e
IsDueAs s (due.Assign e c r by) = IsAssign s e c r by
IsDueAs s (due.Want e c) = (exchange : Exchange) × (numbered e.0 s.exchanges ≡ Some exchange) × IsWant s e c (target_of s exchange)
IsDueAs s (due.Evict c) = IsEvict s c

first_or_next : (a b : Option Due) (d : Due) → or_else a b ≡ Some d → (a ≡ Some d) ⊎ ((a ≡ None) × (b ≡ Some d))
first_or_next None b d h = inr (refl, h)
first_or_next (Some x) b d h = inl h

first_is : (a b : Option Due) (d : Due) → a ≡ Some d → or_else a b ≡ Some d
first_is a b d h = ap (λ o. or_else o b) h

next_is : (a b : Option Due) (d : Due) → a ≡ None → b ≡ Some d → or_else a b ≡ Some d
next_is a b d h k = ap (λ o. or_else o b) h ∙ k

pub due_as : (s : AbstractPool) (d : Due) → due_of s ≡ Some d → IsDueAs s d
unfolding due_of
due_as s d h = elim (first_or_next (expire_due s) (or_else (lapse_due s) (or_else (assign_due s) (or_else (want_due s) (evict_due s)))) d h) [
  | inl k ↦ let r = expire_is s d k in subst (IsDueAs s) (sym r.1) r.2
  | inr k ↦ past_expire (expire_none s k.0) k.1
]
  where
    past_want : NoExpire s → NoLapse s → NoAssign s → NoWant s → evict_due s ≡ Some d → IsDueAs s d
    past_want no_expire no_lapse no_assign no_want h =
        let r = evict_is s d no_expire no_lapse no_assign no_want h in subst (IsDueAs s) (sym r.1) r.2

    past_assign : NoExpire s → NoLapse s → NoAssign s → or_else (want_due s) (evict_due s) ≡ Some d → IsDueAs s d
    past_assign no_expire no_lapse no_assign h = elim (first_or_next (want_due s) (evict_due s) d h) [
      | inl k ↦ let r = want_is s d no_expire no_lapse no_assign k in subst (IsDueAs s) (sym r.3) (r.2, r.4, r.5)
      | inr k ↦ past_want no_expire no_lapse no_assign (want_none s k.0) k.1
    ]

    past_lapse : NoExpire s → NoLapse s → or_else (assign_due s) (or_else (want_due s) (evict_due s)) ≡ Some d → IsDueAs s d
    past_lapse no_expire no_lapse h = elim (first_or_next (assign_due s) (or_else (want_due s) (evict_due s)) d h) [
      | inl k ↦ let r = assign_is s d no_expire no_lapse k in subst (IsDueAs s) (sym r.4) r.5
      | inr k ↦ past_assign no_expire no_lapse (assign_none s k.0) k.1
    ]

    past_expire : NoExpire s → or_else (lapse_due s) (or_else (assign_due s) (or_else (want_due s) (evict_due s))) ≡ Some d → IsDueAs s d
    past_expire no_expire h = elim (first_or_next (lapse_due s) (or_else (assign_due s) (or_else (want_due s) (evict_due s))) d h) [
      | inl k ↦ let r = lapse_is s d no_expire k in subst (IsDueAs s) (sym r.1) r.2
      | inr k ↦ past_lapse no_expire (lapse_none s k.0) k.1
    ]

-- ---- the other way round

expire_is_due : (s : AbstractPool) (e : ExchangeNo) → IsExpire s e → due_of s ≡ Some (due.Expire e)
unfolding due_of
expire_is_due s e h = first_is (expire_due s) _ _ (expire_back s e h)

lapse_is_due : (s : AbstractPool) (e : ExchangeNo) → IsLapse s e → due_of s ≡ Some (due.Lapse e)
unfolding due_of
lapse_is_due s e h = next_is (expire_due s) _ _ (no_expire_due s h.no_expire) (first_is (lapse_due s) _ _ (lapse_back s e h))

assign_is_due : (s : AbstractPool) (e : ExchangeNo) (c : ConnNo) (r : StreamNo) (by : Way) → IsAssign s e c r by → due_of s ≡ Some (due.Assign e c r by)
unfolding due_of
assign_is_due s e c r by h =
    next_is (expire_due s) _ _ (no_expire_due s h.no_expire)
    (next_is (lapse_due s) _ _ (no_lapse_due s h.no_expire h.no_lapse) (first_is (assign_due s) _ _ (assign_back s e c r by h)))

want_is_due : (s : AbstractPool) (e : ExchangeNo) (c : ConnNo) (t : Target) → IsWant s e c t → due_of s ≡ Some (due.Want e c)
unfolding due_of
want_is_due s e c t h =
    next_is (expire_due s) _ _ (no_expire_due s h.no_expire)
    (next_is (lapse_due s) _ _ (no_lapse_due s h.no_expire h.no_lapse)
    (next_is (assign_due s) _ _ (no_assign_due s h.no_expire h.no_lapse h.no_assign) (first_is (want_due s) _ _ (want_back s e c t h))))

evict_is_due : (s : AbstractPool) (c : ConnNo) → IsEvict s c → due_of s ≡ Some (due.Evict c)
unfolding due_of
evict_is_due s c h =
    next_is (expire_due s) _ _ (no_expire_due s h.no_expire)
    (next_is (lapse_due s) _ _ (no_lapse_due s h.no_expire h.no_lapse)
    (next_is (assign_due s) _ _ (no_assign_due s h.no_expire h.no_lapse h.no_assign)
    (next_is (want_due s) _ _ (no_want_due s h.no_expire h.no_lapse h.no_assign h.no_want) (evict_back s c h))))

-- ---- the theorem

-- what is computed to be due is due
pub due_is : (s : AbstractPool) (d : Due) (act : Act) → due_of s ≡ Some d → act_of s d ≡ Some act → IsDue s act
due_is s d act h k = by d (due_as s d h) k
  where
    by : (d : Due) → IsDueAs s d → act_of s d ≡ Some act → IsDue s act
    by (due.Expire e) p k = let q : Expire e ≡ act = cc in subst (IsDue s) q p
    by (due.Lapse e) p k = let q : Lapse e ≡ act = cc in subst (IsDue s) q p
    by (due.Assign e c r way) p k = let q : Assign e c r way ≡ act = cc in subst (IsDue s) q p
    by (due.Want e c) p k =
        let w : want_act s e c (numbered e.0 s.exchanges) ≡ Some (Want e c (target_of s p.0)) = ap (want_act s e c) p.1 in
        let q : Want e c (target_of s p.0) ≡ act = cc in
        subst (IsDue s) q p.2
    by (due.Evict c) p k = let q : Evict c ≡ act = cc in subst (IsDue s) q p

-- the history has an act for it
pub due_has : (s : AbstractPool) (d : Due) → due_of s ≡ Some d → IsSome (act_of s d)
due_has s d h = by d (due_as s d h)
  where
    by : (d : Due) → IsDueAs s d → IsSome (act_of s d)
    by (due.Expire e) p = refl
    by (due.Lapse e) p = refl
    by (due.Assign e c r way) p = refl
    by (due.Want e c) p = ap (λ (o : Option Exchange). is_some (want_act s e c o)) p.1
    by (due.Evict c) p = refl

-- and it is all that is due
pub due_unique : (s : AbstractPool) (act : Act) → IsDue s act → (d : Due) × (due_of s ≡ Some d) × (act_of s d ≡ Some act)
due_unique s (Submit ask reply) h = absurd h
due_unique s (Cancel exchange reply) h = absurd h
due_unique s (Reprioritise exchange urgency reply) h = absurd h
due_unique s (Preconnect key credentials origin count reply) h = absurd h
due_unique s (Resolved key host addresses reply) h = absurd h
due_unique s Network h = absurd h
due_unique s Tick h = absurd h
due_unique s (Shutdown reply) h = absurd h
due_unique s (Dial conn target) h = absurd h
due_unique s (Orders conn sent orders) h = absurd h
due_unique s (Reported conn sent report) h = absurd h
due_unique s (Closed conn sent cause heard) h = absurd h
due_unique s (Expire e) h = (due.Expire e, expire_is_due s e h, refl)
due_unique s (Lapse e) h = (due.Lapse e, lapse_is_due s e h, refl)
due_unique s (Assign e c r by) h = (due.Assign e c r by, assign_is_due s e c r by h, refl)
due_unique s (Want e c t) h =
    (due.Want e c, want_is_due s e c t h, ap (want_act s e c) h.is_exchange ∙ ap (λ (x : Target). Some (Want e c x)) (sym h.is_target))
due_unique s (Evict c) h = (due.Evict c, evict_is_due s c h, refl)

-- what is computed to be due is all that is due
pub due_iff : (s : AbstractPool) (d : Due) → due_of s ≡ Some d → (act : Act) → IsDue s act ↔ (act_of s d ≡ Some act)
due_iff s d h act = (there, due_is s d act h)
  where
    there : IsDue s act → act_of s d ≡ Some act
    there k = let r = due_unique s act k in let e = r.1 in let same : d ≡ r.0 = cc in ap (act_of s) same ∙ r.2

-- where something is computed the pool has something to do by itself
pub due_late : (s : AbstractPool) (d : Due) → due_of s ≡ Some d → IsLate s
due_late s d h = elim (option_cases (act_of s d)) [
  | inl e ↦ let some = due_has s d h in let f : is_some (act_of s d) ≡ false = ap (λ (o : Option Act). is_some o) e in absurd cc
  | inr e ↦ (e.0, due_is s d e.0 h e.1)
]

-- where nothing is computed the pool has nothing to do by itself
pub settled_none : (s : AbstractPool) → due_of s ≡ None → IsSettled s
settled_none s h act k = let r = due_unique s act k in absurd (cc (h, r.1))

-- and the other way round
pub none_settled : (s : AbstractPool) → IsSettled s → due_of s ≡ None
none_settled s h = elim (option_cases (due_of s)) [ inl k ↦ k | inr k ↦ let t = due_late s k.0 k.1 in absurd (h t.0 t.1) ]

-- what is computed to be due is what the pool is to do next
pub due_next : (s : AbstractPool) → MatchOption (due_of s) (IsSettled s) (IsNext s)
due_next s = by (due_of s) refl
  where
    by : (o : Option Due) → due_of s ≡ o → MatchOption o (IsSettled s) (IsNext s)
    by None h = settled_none s h
    by (Some d) h = record { late = due_late s d h; only = due_iff s d h }
