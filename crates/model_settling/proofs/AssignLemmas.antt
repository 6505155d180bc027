-- An Assign is computed as it is defined, and wherever an exchange can start.
use Rattle.std.proofs.Common.{◌≡◌, ℕ, Option, Some, None, true, false, inl, inr, refl, sym, ap, ◌∙◌, is_some, IsSome}
use Rattle.std.specs.Prelude.{◌&&◌}
use Rattle.std.specs.List.{list_any}
use Rattle.std.proofs.lemmas.Bool.{and_parts}
use Rattle.net_base.specs.declared.numbers.ConnNo.{ConnNo}
use Rattle.net_base.specs.declared.numbers.ExchangeNo.{ExchangeNo}
use Rattle.net_base.specs.declared.numbers.StreamNo.{StreamNo}
use Rattle.model_settling.proofs.KindLemmas.{NoExpire, NoLapse, NoAssign}
use Rattle.model_settling.proofs.LeastLemmas.{least_is, least_item, least_back}
use Rattle.model_settling.proofs.LowestLemmas.{lowest_is, lowest_back, lowest_any}
use Rattle.model_authority.proofs.NumberLemmas.{option_cases, passing}
use Rattle.model_authority.proofs.WayLemmas.{way_of_is, way_of_back, has_way_is}
use Rattle.model_settling.specs.Due.{lowest_of, least_of, assign_by, assign_to, assign_over, assign_of, assign_best, assign_due}
use Rattle.model_authority.specs.Lists.{numbered}
use Rattle.model_settling.specs.Room.{is_eligible}
use Rattle.model_settling.specs.Settling.{can_use, can_start, urgency_of, IsAssign}
use Rattle.model_authority.specs.Statuses.{is_open}
use Rattle.model_authority.specs.Ways.{is_usable, has_capacity, has_way, way_of}
use Rattle.model_settling.specs.declared.kinds.Best.{Best}
use Rattle.model_settling.specs.declared.kinds.Due.{Due}
use Rattle.model_settling.specs.declared.kinds.Due.TheVariants as due
use Rattle.model_values.specs.declared.entry.Way.{Way}
use Rattle.model_values.specs.declared.state.AbstractPool.{AbstractPool}
use Rattle.model_values.specs.declared.state.Connection.{Connection}
use Rattle.model_values.specs.declared.state.Exchange.{Exchange}

-- an exchange with a usable connection has a lowest-numbered one
pub usable_lowest : (s : AbstractPool) (e : Exchange) → list_any (is_usable s e) s.connections ≡ true → (n : ℕ) × (lowest_of (can_use s e) s.connections ≡ Some n)
usable_lowest s e h =
    let k : is_some (lowest_of (can_use s e) s.connections) ≡ true = sym (lowest_any (is_usable s e) 1 s.connections) ∙ h in
    elim (option_cases (lowest_of (can_use s e) s.connections)) [
      | inl r ↦ let f : is_some (lowest_of (can_use s e) s.connections) ≡ false = ap (λ (o : Option ℕ). is_some o) r in absurd cc
      | inr r ↦ r
    ]

-- over a usable connection there is a way
pub usable_way : (s : AbstractPool) (e : Exchange) (c : Connection) → is_usable s e c ≡ true → (by : Way) × (way_of s e c ≡ Some by)
unfolding is_usable
usable_way s e c h =
    let k : has_way s e c ≡ true = (and_parts (is_open c.phase && has_capacity s.config c) (has_way s e c) h).1 in
    elim (option_cases (way_of s e c)) [
      | inl r ↦ let f : is_some (way_of s e c) ≡ false = ap (λ (o : Option Way). is_some o) r in let g = has_way_is s e c in absurd cc
      | inr r ↦ r
    ]

-- the parts of an Assign, as they are computed
pub record IsAssigning (s : AbstractPool) (b : Best) (d : Due) : Type 0 where
  pub exchange : Exchange
  pub is_exchange : numbered b.number s.exchanges ≡ Some exchange
  pub c : ℕ
  pub lowest : lowest_of (can_use s exchange) s.connections ≡ Some c
  pub connection : Connection
  pub is_connection : numbered c s.connections ≡ Some connection
  pub by : Way
  pub is_way : way_of s exchange connection ≡ Some by
  pub is : d ≡ due.Assign (record { 0 = b.number }) (record { 0 = c }) (record { 0 = connection.next_stream }) by

assigning_over : (s : AbstractPool) (b : Best) (d : Due) (e : Exchange) (o : Option ℕ) → numbered b.number s.exchanges ≡ Some e → lowest_of (can_use s e) s.connections ≡ o →
    assign_over s b.number e o ≡ Some d → IsAssigning s b d
assigning_over s b d e None ie io h = absurd cc
assigning_over s b d e (Some c) ie io h = to (numbered c s.connections) refl h
  where
    by : (x : Connection) → numbered c s.connections ≡ Some x → (w : Option Way) → way_of s e x ≡ w → assign_by b.number c x w ≡ Some d → IsAssigning s b d
    by x ix None iw h = absurd cc
    by x ix (Some w) iw h = record { exchange = e; is_exchange = ie; c = c; lowest = io; connection = x; is_connection = ix; by = w; is_way = iw; is = cc }

    to : (x : Option Connection) → numbered c s.connections ≡ x → assign_to s b.number e c x ≡ Some d → IsAssigning s b d
    to None ix h = absurd cc
    to (Some x) ix h = by x ix (way_of s e x) refl h

assigning_of : (s : AbstractPool) (b : Best) (d : Due) (e : Option Exchange) → numbered b.number s.exchanges ≡ e → assign_of s b.number e ≡ Some d → IsAssigning s b d
unfolding assign_of
assigning_of s b d None ie h = absurd cc
assigning_of s b d (Some e) ie h = assigning_over s b d e (lowest_of (can_use s e) s.connections) ie refl h

pub assigning : (s : AbstractPool) (d : Due) → assign_due s ≡ Some d → (b : Best) × (least_of (can_start s) urgency_of s.exchanges ≡ Some b) × IsAssigning s b d
unfolding assign_due
assigning s d h = best (least_of (can_start s) urgency_of s.exchanges) refl h
  where
    best : (o : Option Best) → least_of (can_start s) urgency_of s.exchanges ≡ o → assign_best s o ≡ Some d →
        (b : Best) × (least_of (can_start s) urgency_of s.exchanges ≡ Some b) × IsAssigning s b d
    best None io h = absurd cc
    best (Some b) io h = (b, io, assigning_of s b d (numbered b.number s.exchanges) refl h)

pub assign_is : (s : AbstractPool) (d : Due) → NoExpire s → NoLapse s → assign_due s ≡ Some d →
    (e : ExchangeNo) × (c : ConnNo) × (r : StreamNo) × (by : Way) × (d ≡ due.Assign e c r by) × IsAssign s e c r by
assign_is s d no_expire no_lapse h =
    let a = assigning s d h in
    let t = a.2 in (
      record { 0 = a.0.number },
      record { 0 = t.c },
      record { 0 = t.connection.next_stream },
      t.by,
      t.is,
      record {
        no_expire = no_expire;
        no_lapse = no_lapse;
        least = least_is (can_start s) urgency_of s.exchanges a.0 a.1;
        exchange = t.exchange;
        is_exchange = t.is_exchange;
        lowest = lowest_is (can_use s t.exchange) s.connections t.c t.lowest;
        connection = t.connection;
        is_connection = t.is_connection;
        authority = way_of_is s t.exchange t.connection t.by t.is_way;
        next = refl;
      },
    )

-- from the parts back to what is computed
assign_from : (s : AbstractPool) (b : Best) (n c : ℕ) (e : Exchange) (x : Connection) (by : Way) → least_of (can_start s) urgency_of s.exchanges ≡ Some b → b.number ≡ n →
    numbered n s.exchanges ≡ Some e → lowest_of (can_use s e) s.connections ≡ Some c → numbered c s.connections ≡ Some x → way_of s e x ≡ Some by →
    assign_due s ≡ Some (due.Assign (record { 0 = n }) (record { 0 = c }) (record { 0 = x.next_stream }) by)
unfolding assign_due assign_of
assign_from s b n c e x by hb hn he hc hx hw =
    ap (assign_best s) hb
    ∙ ap (λ i. assign_of s i (numbered i s.exchanges)) hn
    ∙ ap (assign_of s n) he
    ∙ ap (assign_over s n e) hc
    ∙ ap (assign_to s n e c) hx
    ∙ ap (assign_by n c x) hw

pub assign_back : (s : AbstractPool) (e : ExchangeNo) (c : ConnNo) (r : StreamNo) (by : Way) → IsAssign s e c r by → assign_due s ≡ Some (due.Assign e c r by)
assign_back s e c r by h =
    let b = least_back (can_start s) urgency_of s.exchanges e.0 h.least in
    let low = lowest_back (can_use s h.exchange) s.connections c.0 h.lowest in
    let w = way_of_back s h.exchange h.connection by h.authority in
    let a = assign_from s b.0 e.0 c.0 h.exchange h.connection by b.1 b.2 h.is_exchange low h.is_connection w in
    a ∙ ap (λ i. Some (due.Assign e c (record { 0 = i }) by)) (sym h.next)

pub assign_none : (s : AbstractPool) → assign_due s ≡ None → NoAssign s
assign_none s h e c r by k = let b = assign_back s e c r by k in absurd cc

-- where an exchange can start, an Assign is computed
pub assign_some : (s : AbstractPool) (b : Best) → least_of (can_start s) urgency_of s.exchanges ≡ Some b → IsSome (assign_due s)
assign_some s b h =
    let i = least_item (can_start s) urgency_of s.exchanges b h in
    let u = (and_parts (is_eligible s i.0) (list_any (is_usable s i.0) s.connections) i.2).1 in
    let n = usable_lowest s i.0 u in
    let x = passing (can_use s i.0) s.connections n.0 (lowest_is (can_use s i.0) s.connections n.0 n.1).passes in
    let w = usable_way s i.0 x.0 x.2 in
    ap (λ (o : Option Due). is_some o) (assign_from s b b.number n.0 i.0 x.0 w.0 h refl i.1 n.1 x.1 w.1)

pub no_assign_due : (s : AbstractPool) → NoExpire s → NoLapse s → NoAssign s → assign_due s ≡ None
no_assign_due s a b h = elim (option_cases (assign_due s)) [ inl k ↦ k | inr k ↦ let r = assign_is s k.0 a b k.1 in absurd (h r.0 r.1 r.2 r.3 r.5) ]
