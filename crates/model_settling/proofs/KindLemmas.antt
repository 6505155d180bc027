-- The kinds that need no search over two lists: Expire, Lapse and Want are computed as they are defined.
use Rattle.std.proofs.Common.{◌≡◌, ◌+◌, ℕ, Option, Some, None, inl, inr, refl, sym, ap, ◌∙◌, length}
use Rattle.net_base.specs.declared.numbers.ConnNo.{ConnNo}
use Rattle.net_base.specs.declared.numbers.ExchangeNo.{ExchangeNo}
use Rattle.net_base.specs.declared.numbers.StreamNo.{StreamNo}
use Rattle.net_base.specs.declared.target.Target.{Target}
use Rattle.model_settling.proofs.LeastLemmas.{least_is, least_item, least_back}
use Rattle.model_settling.proofs.LowestLemmas.{lowest_is, lowest_back}
use Rattle.model_authority.proofs.NumberLemmas.{option_cases}
use Rattle.model_settling.specs.Due.{lowest_of, least_of, expire_of, lapse_of, want_best, expire_due, lapse_due, want_due}
use Rattle.model_authority.specs.Lists.{numbered}
use Rattle.model_settling.specs.Settling.{has_expired, has_lapsed, can_open, urgency_of, IsExpire, IsLapse, IsAssign, IsWant}
use Rattle.model_authority.specs.Ways.{target_of}
use Rattle.model_settling.specs.declared.kinds.Best.{Best}
use Rattle.model_settling.specs.declared.kinds.Due.{Due}
use Rattle.model_settling.specs.declared.kinds.Due.TheVariants as due
use Rattle.model_values.specs.declared.entry.Way.{Way}
use Rattle.model_values.specs.declared.state.AbstractPool.{AbstractPool}
use Rattle.model_values.specs.declared.state.Exchange.{Exchange}

-- no entry of this kind is due
abbrev pub NoExpire : AbstractPool → Type 0
NoExpire s = (e : ExchangeNo) → ¬ IsExpire s e

abbrev pub NoLapse : AbstractPool → Type 0
NoLapse s = (e : ExchangeNo) → ¬ IsLapse s e

abbrev pub NoAssign : AbstractPool → Type 0
NoAssign s = (e : ExchangeNo) (c : ConnNo) (r : StreamNo) (by : Way) → ¬ IsAssign s e c r by

abbrev pub NoWant : AbstractPool → Type 0
NoWant s = (e : ExchangeNo) (c : ConnNo) (t : Target) → ¬ IsWant s e c t

-- ---- Expire

pub expire_is : (s : AbstractPool) (d : Due) → expire_due s ≡ Some d → (e : ExchangeNo) × (d ≡ due.Expire e) × IsExpire s e
unfolding expire_due
expire_is s d h = from (lowest_of (has_expired s) s.exchanges) refl h
  where
    from : (o : Option ℕ) → lowest_of (has_expired s) s.exchanges ≡ o → expire_of o ≡ Some d → (e : ExchangeNo) × (d ≡ due.Expire e) × IsExpire s e
    from None e h = absurd cc
    from (Some n) e h = let k : d ≡ due.Expire (record { 0 = n }) = cc in (record { 0 = n }, k, lowest_is (has_expired s) s.exchanges n e)

pub expire_back : (s : AbstractPool) (e : ExchangeNo) → IsExpire s e → expire_due s ≡ Some (due.Expire e)
unfolding expire_due
expire_back s e h = ap expire_of (lowest_back (has_expired s) s.exchanges e.0 h)

pub expire_none : (s : AbstractPool) → expire_due s ≡ None → NoExpire s
expire_none s h e k = let b = expire_back s e k in absurd cc

pub no_expire_due : (s : AbstractPool) → NoExpire s → expire_due s ≡ None
no_expire_due s h = elim (option_cases (expire_due s)) [ inl k ↦ k | inr k ↦ let r = expire_is s k.0 k.1 in absurd (h r.0 r.2) ]

-- ---- Lapse

pub lapse_is : (s : AbstractPool) (d : Due) → NoExpire s → lapse_due s ≡ Some d → (e : ExchangeNo) × (d ≡ due.Lapse e) × IsLapse s e
unfolding lapse_due
lapse_is s d none h = from (lowest_of (has_lapsed s) s.exchanges) refl h
  where
    from : (o : Option ℕ) → lowest_of (has_lapsed s) s.exchanges ≡ o → lapse_of o ≡ Some d → (e : ExchangeNo) × (d ≡ due.Lapse e) × IsLapse s e
    from None e h = absurd cc
    from (Some n) e h =
        let k : d ≡ due.Lapse (record { 0 = n }) = cc in
        (record { 0 = n }, k, record { no_expire = none; lowest = lowest_is (has_lapsed s) s.exchanges n e })

pub lapse_back : (s : AbstractPool) (e : ExchangeNo) → IsLapse s e → lapse_due s ≡ Some (due.Lapse e)
unfolding lapse_due
lapse_back s e h = ap lapse_of (lowest_back (has_lapsed s) s.exchanges e.0 h.lowest)

pub lapse_none : (s : AbstractPool) → lapse_due s ≡ None → NoLapse s
lapse_none s h e k = let b = lapse_back s e k in absurd cc

pub no_lapse_due : (s : AbstractPool) → NoExpire s → NoLapse s → lapse_due s ≡ None
no_lapse_due s a h = elim (option_cases (lapse_due s)) [ inl k ↦ k | inr k ↦ let r = lapse_is s k.0 a k.1 in absurd (h r.0 r.2) ]

-- ---- Want

pub want_is : (s : AbstractPool) (d : Due) → NoExpire s → NoLapse s → NoAssign s → want_due s ≡ Some d →
    (e : ExchangeNo) × (c : ConnNo) × (exchange : Exchange) × (d ≡ due.Want e c) × (numbered e.0 s.exchanges ≡ Some exchange) × IsWant s e c (target_of s exchange)
unfolding want_due
want_is s d no_expire no_lapse no_assign h = from (least_of (can_open s) urgency_of s.exchanges) refl h
  where
    from : (o : Option Best) → least_of (can_open s) urgency_of s.exchanges ≡ o → want_best s o ≡ Some d →
        (e : ExchangeNo) × (c : ConnNo) × (exchange : Exchange) × (d ≡ due.Want e c) × (numbered e.0 s.exchanges ≡ Some exchange) × IsWant s e c (target_of s exchange)
    from None e h = absurd cc
    from (Some b) e h =
        let i = least_item (can_open s) urgency_of s.exchanges b e in (
          record { 0 = b.number },
          record { 0 = length s.connections + 1 },
          i.0,
          cc,
          i.1,
          record {
            no_expire = no_expire;
            no_lapse = no_lapse;
            no_assign = no_assign;
            least = least_is (can_open s) urgency_of s.exchanges b e;
            exchange = i.0;
            is_exchange = i.1;
            is_new = refl;
            is_target = refl;
          },
        )

pub want_back : (s : AbstractPool) (e : ExchangeNo) (c : ConnNo) (t : Target) → IsWant s e c t → want_due s ≡ Some (due.Want e c)
unfolding want_due
want_back s e c t h =
    let b = least_back (can_open s) urgency_of s.exchanges e.0 h.least in
    ap (want_best s) b.1
    ∙ ap (λ i. Some (due.Want (record { 0 = i }) (record { 0 = length s.connections + 1 }))) b.2
    ∙ ap (λ i. Some (due.Want e (record { 0 = i }))) (sym h.is_new)

pub want_none : (s : AbstractPool) → want_due s ≡ None → NoWant s
want_none s h e c t k = let b = want_back s e c t k in absurd cc

pub no_want_due : (s : AbstractPool) → NoExpire s → NoLapse s → NoAssign s → NoWant s → want_due s ≡ None
no_want_due s a b f h = elim (option_cases (want_due s)) [ inl k ↦ k | inr k ↦ let r = want_is s k.0 a b f k.1 in absurd (h r.0 r.1 (target_of s r.2) r.5) ]
