-- What each entry of the pool itself brings down: what is left to do.
use Rattle.std.proofs.Common.{inl, inr, IsTrue, filter, nat_lt, ◌≡◌, ◌≤◌, ◌<◌, ◌+◌, ◌-◌, ℕ, zero, suc, List, [], ◌∷◌, ◌++◌, Option, Some, None, Bool, true, false, cond, refl, sym, ap, subst, ◌∙◌, arith, length, slice_get, slice_set, ◌==◌}
use Rattle.std.specs.Prelude.{◌&&◌, ◌||◌, not}
use Rattle.std.specs.List.{count_by, list_any}
use Rattle.std.proofs.lemmas.Bool.{and_parts, not-true, cond_both, cond-true, cond-false, leb-false, ne_eqb}
use Rattle.std.proofs.lemmas.List.Sums.{sum_by-cons, sum_by_push}
use Rattle.net_base.specs.declared.numbers.ConnNo.{ConnNo}
use Rattle.net_base.specs.declared.numbers.ExchangeNo.{ExchangeNo}
use Rattle.net_base.specs.declared.numbers.Moment.{Moment}
use Rattle.net_base.specs.declared.numbers.StreamNo.{StreamNo}
use Rattle.net_base.specs.declared.target.Target.{Target}
use Rattle.model_changes.specs.Connections.{closing, idle_from, has_run_out, idle_if_run_out, other_streams, is_start_of, without_start, without_exchange, stream_after, with_start}
use Rattle.model_histories.proofs.EditLemmas.{edit_none}
use Rattle.model_histories.specs.Histories.{run_from}
use Rattle.model_histories.specs.Legal.{IsPoolsEntry}
use Rattle.model_laws.specs.SettlingLaws.{is_unended, waits, is_present, is_up, left_to_do, SettlingFalls, SettlingIsBounded}
use Rattle.model_settling.specs.Counts.{count_total}
use Rattle.model_settling.specs.Room.{may_background_start, is_eligible, is_total_full, has_room_but_total, has_room}
use Rattle.model_settling.specs.Settling.{has_passed, has_expired, has_lapsed, can_use, can_start, can_open, is_idle, is_fresh_h2, IsExpire, IsLapse, IsAssign, IsWant, IsEvict, IsDue}
use Rattle.model_steps.specs.After.{noted, released_lease, released_by, released, after_expire, after_lapse, after_assign, wanted_connection, after_want_of, after_want, after_evict, after}
use Rattle.model_steps.specs.Exchanges.{with_status, ended_by, timed_out_at, timed_out}
use Rattle.model_values.specs.declared.entry.Act.{Act}
use Rattle.model_values.specs.declared.entry.Act.TheVariants.{Expire, Lapse, Assign, Want, Evict}
use Rattle.model_values.specs.declared.entry.Entry.{Entry}
use Rattle.model_values.specs.declared.entry.Way.{Way}
use Rattle.model_values.specs.declared.order.OrderMark.TheVariants as mark
use Rattle.model_values.specs.declared.outcome.Outcome.TheVariants as outcome
use Rattle.model_values.specs.declared.state.AbstractPool.{AbstractPool}
use Rattle.model_values.specs.declared.state.Connection.{Connection}
use Rattle.model_values.specs.declared.state.Exchange.{Exchange}
use Rattle.model_values.specs.declared.state.Phase.{Phase}
use Rattle.model_values.specs.declared.state.Phase.TheVariants.{Closing, Draining}
use Rattle.model_values.specs.declared.state.Status.{Status}
use Rattle.model_values.specs.declared.state.Status.TheVariants.{Waiting, Leased, Ended}
use Rattle.model_authority.proofs.NumberLemmas.{option_cases, numbered_at, passing}
use Rattle.model_authority.proofs.PhaseLemmas.{follows, excludes, or_else}
use Rattle.model_authority.specs.Lists.{numbered, with_item, edit, is_nil}
use Rattle.model_authority.specs.Statuses.{is_waiting, has_ended, is_open, is_draining, is_closing, is_gone, speaks_h2}
use Rattle.model_authority.specs.Ways.{alternatives_of, has_capacity, has_way, is_usable}

-- ---- counts after one change

abbrev one_if : Bool → ℕ
one_if b = cond b 1 0

count_set : {A : Type 0} (p : A → Bool) (xs : List A) (k : ℕ) (x y : A) → slice_get xs k ≡ Some x →
    count_by p (slice_set xs k y) + one_if (p x) ≡ count_by p xs + one_if (p y)
count_set p [] k x y h = absurd cc
count_set {A} p (z ∷ xs) zero x y h =
    let same : z ≡ x = cc in
    let e : one_if (p z) ≡ one_if (p x) = ap (λ (a : A). one_if (p a)) same in
    omega (arith, e, sum_by-cons (λ (a : A). one_if (p a)) y xs, sum_by-cons (λ (a : A). one_if (p a)) z xs)
count_set {A} p (z ∷ xs) (suc k) x y h =
    omega (arith, count_set p xs k x y h, sum_by-cons (λ (a : A). one_if (p a)) z (slice_set xs k y), sum_by-cons (λ (a : A). one_if (p a)) z xs)

edited : {A : Type 0} (number : ℕ) (f : A → A) (xs : List A) (x : A) → numbered number xs ≡ Some x →
    (k : ℕ) × (slice_get xs k ≡ Some x) × (edit number f xs ≡ slice_set xs k (f x))
unfolding numbered edit
edited zero f xs x h = absurd cc
edited (suc k) f xs x h =
    let at : slice_get xs k ≡ Some x = sym (numbered_at xs k) ∙ h in
    let not_first : (suc k == 0) ≡ false = ne_eqb (suc k) 0 (λ e. absurd (omega arith)) in
    let e : suc k - 1 ≡ k = omega arith in
    (k, at, ap (λ b. cond b xs (with_item xs (suc k - 1) f (slice_get xs (suc k - 1)))) not_first ∙ ap (λ i. with_item xs i f (slice_get xs i)) e ∙ ap (with_item xs k f) at)

count_edit : {A : Type 0} (p : A → Bool) (number : ℕ) (f : A → A) (xs : List A) (x : A) → numbered number xs ≡ Some x →
    count_by p (edit number f xs) + one_if (p x) ≡ count_by p xs + one_if (p (f x))
count_edit p number f xs x h =
    let e = edited number f xs x h in
    subst (λ ys. count_by p ys + one_if (p x) ≡ count_by p xs + one_if (p (f x))) (sym e.2) (count_set p xs e.0 x (f x) e.1)

-- no item passes that didn't pass
count_no_more : {A : Type 0} (p : A → Bool) (number : ℕ) (f : A → A) (xs : List A) → ((x : A) → p (f x) ≡ true → p x ≡ true) → count_by p (edit number f xs) ≤ count_by p xs
count_no_more {A} p number f xs only = elim (option_cases (numbered number xs)) [
  | inl none ↦ let same : count_by p (edit number f xs) ≡ count_by p xs = ap (λ ys. count_by p ys) (edit_none number f xs none) in omega (arith, same)
  | inr some ↦ omega (arith, count_edit p number f xs some.0 some.1, less (p (f some.0)) (p some.0) (only some.0))
]
  where
    less : (a b : Bool) → (a ≡ true → b ≡ true) → one_if a ≤ one_if b
    less true b h = let e : one_if b ≡ 1 = cond-true {A = ℕ} b 1 0 (h refl) in omega (arith, e)
    less false b h = omega arith

-- an item that passed passes no longer
count_less : {A : Type 0} (p : A → Bool) (number : ℕ) (f : A → A) (xs : List A) (x : A) → numbered number xs ≡ Some x → p x ≡ true → p (f x) ≡ false →
    count_by p (edit number f xs) < count_by p xs
count_less p number f xs x h before later =
    let e = count_edit p number f xs x h in
    let a : one_if (p x) ≡ 1 = cond-true {A = ℕ} (p x) 1 0 before in
    let b : one_if (p (f x)) ≡ 0 = cond-false {A = ℕ} (p (f x)) 1 0 later in
    omega (arith, e, a, b)

-- each item passes as before
count_kept : {A : Type 0} (p : A → Bool) (number : ℕ) (f : A → A) (xs : List A) → ((x : A) → numbered number xs ≡ Some x → p (f x) ≡ p x) → count_by p (edit number f xs) ≡ count_by p xs
count_kept p number f xs same = elim (option_cases (numbered number xs)) [
  | inl none ↦ ap (λ ys. count_by p ys) (edit_none number f xs none)
  | inr some ↦
      let a : one_if (p (f some.0)) ≡ one_if (p some.0) = ap (λ b. one_if b) (same some.0 some.1) in
      omega (arith, count_edit p number f xs some.0 some.1, a)
]

count_push : {A : Type 0} (p : A → Bool) (xs : List A) (x : A) → count_by p (xs ++ x ∷ []) ≡ count_by p xs + one_if (p x)
count_push {A} p xs x = sum_by_push (λ (a : A). one_if (p a)) xs x

-- ---- statuses and phases

waiting_is_unended : (status : Status) → is_waiting status ≡ true → not (has_ended status) ≡ true
waiting_is_unended Waiting h = refl
waiting_is_unended (Leased c r by handed) h = absurd cc
waiting_is_unended (Ended how) h = absurd cc

-- it ends where its deadline has passed
passed_ends : (now : Moment) (deadline : Option Moment) (x : Exchange) → has_passed now deadline ≡ true → is_unended (timed_out_at deadline x) ≡ false
passed_ends now None x h = absurd cc
passed_ends now (Some d) x h = refl

-- and waits only where it waited
timed_out_waits : (deadline : Option Moment) (x : Exchange) → waits (timed_out_at deadline x) ≡ true → waits x ≡ true
timed_out_waits None x h = h
timed_out_waits (Some d) x h = absurd cc

-- it is there as before, and is open only where it was
record Stays (c d : Connection) : Type 0 where
  present : is_present d ≡ is_present c
  up : is_up d ≡ true → is_up c ≡ true

stays_same : (c d : Connection) → d.phase ≡ c.phase → Stays c d
stays_same c d same = record {
  present = ap (λ (p : Phase). not (is_gone p)) same;
  up = λ h. ap (λ (p : Phase). is_open p) (sym same) ∙ h;
}

stays_trans : (c d e : Connection) → Stays c d → Stays d e → Stays c e
stays_trans c d e k l = record { present = l.present ∙ k.present; up = λ h. k.up (l.up h) }

stays_closing : (c : Connection) → Stays c (closing c)
unfolding closing
stays_closing c =
    let closed : Connection = record c { phase = Closing; orders = mark.Close ∷ [] } in
    cond_both (is_closing c.phase || is_gone c.phase) c closed (Stays c) (λ t. stays_same c c refl)
    (λ f. record {
      present = sym (or_else (λ p. false) (λ p. is_closing p || is_gone p) (λ p. not (is_gone p)) refl c.phase refl f);
      up = λ h. absurd cc;
    })

stays_idle : (now : Moment) (c : Connection) → Stays c (idle_from now c)
unfolding idle_from
stays_idle now c =
    let idle : Connection = record c { idle_since = now } in
    cond_both (is_draining c.phase) (closing idle) idle (Stays c) (λ t. stays_trans c idle (closing idle) (stays_same c idle refl) (stays_closing idle)) (λ f. stays_same c idle refl)

stays_without_start : (now : Moment) (r : StreamNo) (c : Connection) → Stays c (without_start now r c)
unfolding without_start idle_if_run_out
stays_without_start now r c =
    let less : Connection = record c { live = other_streams r c.live; orders = filter (λ m. not (is_start_of r m)) c.orders } in
    let same : Stays c less = stays_same c less refl in
    cond_both (has_run_out c less) (idle_from now less) less (Stays c) (λ t. stays_trans c less (idle_from now less) same (stays_idle now less)) (λ f. same)

stays_without_exchange : (r : StreamNo) (c : Connection) → Stays c (without_exchange r c)
unfolding without_exchange
stays_without_exchange r c =
    let told : Connection = record c { orders = c.orders ++ mark.Reset r ∷ [] } in
    cond_both (speaks_h2 c) told (closing c) (Stays c) (λ t. stays_same c told refl) (λ f. stays_closing c)

-- an open one gets a stream
started_present : (last : ℕ) (e : ExchangeNo) (r : StreamNo) (c : Connection) → is_open c.phase ≡ true → is_present (with_start last e r c) ≡ is_present c
unfolding with_start
started_present last e r c opened =
    let there : is_present c ≡ true = follows is_open (λ p. not (is_gone p)) refl c.phase opened in
    let full : Bool = nat_lt last (stream_after r c) in
    cond_both full Draining c.phase (λ p. not (is_gone p) ≡ is_present c) (λ t. sym there) (λ f. refl)

started_up : (last : ℕ) (e : ExchangeNo) (r : StreamNo) (c : Connection) → is_up (with_start last e r c) ≡ true → is_up c ≡ true
unfolding with_start
started_up last e r c =
    cond_both (nat_lt last (stream_after r c)) Draining c.phase (λ p. is_open p ≡ true → is_up c ≡ true) (λ t h. absurd cc) (λ f h. h)

-- ---- connections without a lease

-- as many are there, and no more are open
record StayAll (xs ys : List Connection) : Type 0 where
  present : count_by is_present ys ≡ count_by is_present xs
  up : count_by is_up ys ≤ count_by is_up xs

stay_all_same : (xs : List Connection) → StayAll xs xs
stay_all_same xs = record { present = refl; up = omega arith }

stay_edit : (number : ℕ) (f : Connection → Connection) (xs : List Connection) → ((c : Connection) → Stays c (f c)) → StayAll xs (edit number f xs)
stay_edit number f xs stays = record {
  present = count_kept is_present number f xs (λ c is. (stays c).present);
  up = count_no_more is_up number f xs (λ c. (stays c).up);
}

stay_lease : (now : Moment) (status : Status) (xs : List Connection) → StayAll xs (released_lease now status xs)
stay_lease now Waiting xs = stay_all_same xs
stay_lease now (Leased c r by false) xs = stay_edit c.0 (without_start now r) xs (stays_without_start now r)
stay_lease now (Leased c r by true) xs = stay_edit c.0 (without_exchange r) xs (stays_without_exchange r)
stay_lease now (Ended how) xs = stay_all_same xs

stay_by : (now : Moment) (o : Option Exchange) (xs : List Connection) → StayAll xs (released_by now o xs)
stay_by now None xs = stay_all_same xs
stay_by now (Some x) xs = stay_lease now x.status xs

stay_released : (s : AbstractPool) (e : ExchangeNo) → StayAll s.connections (released s e)
unfolding released
stay_released s e = stay_by s.latest (numbered e.0 s.exchanges) s.connections

-- ---- each kind

-- the entry of the pool itself with this act
abbrev own_entry : AbstractPool → Act → Entry
own_entry s act = record { who = record { 0 = 0 }; moment = s.latest; act = act }

-- what is left to do is less behind this act of the pool itself
abbrev Falls : AbstractPool → Act → Type 0
Falls s act = left_to_do (after s (own_entry s act)) < left_to_do s

-- the room doesn't rise where as many connections are there
room_kept : (total n m : ℕ) → n ≡ m → total - n ≡ total - m
room_kept total n m same = ap (λ i. total - i) same

falls_expire : (s : AbstractPool) (e : ExchangeNo) → IsExpire s e → Falls s (Expire e)
unfolding after after_expire noted
falls_expire s e h =
    let p = passing (has_expired s) s.exchanges e.0 h.passes in
    let parts = and_parts (not (has_ended p.0.status)) (has_passed s.latest p.0.ask.deadline) p.2 in
    let n : AbstractPool = noted s s.latest in
    let stays = stay_released n e in
    let less = count_less is_unended e.0 timed_out s.exchanges p.0 p.1 parts.0 (passed_ends s.latest p.0.ask.deadline p.0 parts.1) in
    let waiting = count_no_more waits e.0 timed_out s.exchanges (λ x. timed_out_waits x.ask.deadline x) in
    let room = room_kept s.config.total (count_by is_present (released n e)) (count_by is_present s.connections) stays.present in
    omega (arith, less, waiting, room, stays.up)

falls_lapse : (s : AbstractPool) (e : ExchangeNo) → IsLapse s e → Falls s (Lapse e)
unfolding after after_lapse noted
falls_lapse s e h =
    let p = passing (has_lapsed s) s.exchanges e.0 h.lowest.passes in
    let stale : Bool = not (list_any (is_fresh_h2 s.latest) (alternatives_of s p.0.ask.key p.0.ask.request.origin)) in
    let parts = and_parts (is_waiting p.0.status) p.0.ask.probe (and_parts (is_waiting p.0.status && p.0.ask.probe) stale p.2).0 in
    let less = count_less is_unended e.0 (ended_by outcome.NoAlternative) s.exchanges p.0 p.1 (waiting_is_unended p.0.status parts.0) refl in
    let waiting = count_no_more waits e.0 (ended_by outcome.NoAlternative) s.exchanges (λ x t. absurd cc) in
    omega (arith, less, waiting)

eligible_waits : (s : AbstractPool) (x : Exchange) → is_eligible s x ≡ true → waits x ≡ true
unfolding is_eligible
eligible_waits s x h = (and_parts (is_waiting x.status) (not x.ask.background || may_background_start s) h).0

usable_open : (s : AbstractPool) (e : Exchange) (c : Connection) → IsTrue (is_usable s e c) → is_open c.phase ≡ true
unfolding is_usable
usable_open s e c h = (and_parts (is_open c.phase) (has_capacity s.config c) (and_parts (is_open c.phase && has_capacity s.config c) (has_way s e c) h).0).0

falls_assign : (s : AbstractPool) (e : ExchangeNo) (c : ConnNo) (r : StreamNo) (by : Way) → IsAssign s e c r by → Falls s (Assign e c r by)
unfolding after after_assign noted
falls_assign s e c r by h =
    let p = passing (can_start s) s.exchanges e.0 h.least.passes in
    let waiting = eligible_waits s p.0 (and_parts (is_eligible s p.0) (list_any (is_usable s p.0) s.connections) p.2).0 in
    let leased : Exchange → Exchange = with_status (Leased c r by false) in
    let unended = count_kept is_unended e.0 leased s.exchanges (λ x is. same_end p.0 x is p.1 waiting) in
    let less = count_less waits e.0 leased s.exchanges p.0 p.1 waiting refl in
    let u = passing (can_use s h.exchange) s.connections c.0 h.lowest.passes in
    let start : Connection → Connection = with_start s.config.last_stream e r in
    let opened : is_open u.0.phase ≡ true = usable_open s h.exchange u.0 u.2 in
    let present = count_kept is_present c.0 start s.connections (λ y is. started_present s.config.last_stream e r y (same_open u.0 y is u.1 opened)) in
    let room = room_kept s.config.total (count_by is_present (edit c.0 start s.connections)) (count_by is_present s.connections) present in
    let up = count_no_more is_up c.0 start s.connections (started_up s.config.last_stream e r) in
    omega (arith, unended, less, room, up)
  where
    same_end : (x y : Exchange) → numbered e.0 s.exchanges ≡ Some y → numbered e.0 s.exchanges ≡ Some x → waits x ≡ true → true ≡ is_unended y
    same_end x y is was w = let same : x ≡ y = cc in subst (λ (z : Exchange). true ≡ is_unended z) same (sym (waiting_is_unended x.status w))

    same_open : (x y : Connection) → numbered c.0 s.connections ≡ Some y → numbered c.0 s.connections ≡ Some x → is_open x.phase ≡ true → is_open y.phase ≡ true
    same_open x y is was w = let same : x ≡ y = cc in subst (λ (z : Connection). is_open z.phase ≡ true) same w

-- where there is room the connections are below the total
room_below : (s : AbstractPool) (number : ℕ) (x : Exchange) → has_room s number x ≡ true → count_total s < s.config.total
unfolding has_room
room_below s number x h =
    leb-false s.config.total (count_total s) (not-true (is_total_full s) (and_parts (not (is_total_full s)) (has_room_but_total s number x) h).0)

falls_want : (s : AbstractPool) (e : ExchangeNo) (c : ConnNo) (t : Target) → IsWant s e c t → Falls s (Want e c t)
unfolding after after_want noted count_total
falls_want s e c t h =
    let p = passing (can_open s) s.exchanges e.0 h.least.passes in
    let below = room_below s e.0 p.0 (and_parts (is_eligible s p.0) (has_room s e.0 p.0) p.2).1 in
    let n : AbstractPool = noted s s.latest in
    let new : Connection = wanted_connection p.0 e t n.latest in
    let is : after_want_of n e t (numbered e.0 s.exchanges) ≡ after_want_of n e t (Some p.0) = ap (after_want_of n e t) p.1 in
    let more : count_by is_present (s.connections ++ new ∷ []) ≡ count_by is_present s.connections + 1 = count_push is_present s.connections new in
    let up : count_by is_up (s.connections ++ new ∷ []) ≡ count_by is_up s.connections + 0 = count_push is_up s.connections new in
    let falls : left_to_do (after_want_of n e t (Some p.0)) < left_to_do s = omega (arith, more, up, below) in
    subst (λ u. left_to_do u < left_to_do s) (sym is) falls

closed_up : (x : Connection) → is_open x.phase ≡ true → is_up (closing x) ≡ false
unfolding closing
closed_up x opened =
    let f : (is_closing x.phase || is_gone x.phase) ≡ false = excludes is_open (λ q. is_closing q || is_gone q) refl x.phase opened in
    ap is_up (cond-false (is_closing x.phase || is_gone x.phase) x (record x { phase = Closing; orders = mark.Close ∷ [] }) f)

falls_evict : (s : AbstractPool) (c : ConnNo) → IsEvict s c → Falls s (Evict c)
unfolding after after_evict noted
falls_evict s c h =
    let p = passing is_idle s.connections c.0 h.least.passes in
    let opened = (and_parts (is_open p.0.phase) (is_nil p.0.live) p.2).0 in
    let stays = stay_edit c.0 closing s.connections stays_closing in
    let less = count_less is_up c.0 closing s.connections p.0 p.1 opened (closed_up p.0 opened) in
    let room = room_kept s.config.total (count_by is_present (edit c.0 closing s.connections)) (count_by is_present s.connections) stays.present in
    omega (arith, less, room)

-- whatever is due leaves less to do
pub falls_due : (s : AbstractPool) (act : Act) → IsDue s act → Falls s act
falls_due s (Expire e) h = falls_expire s e h
falls_due s (Lapse e) h = falls_lapse s e h
falls_due s (Assign e c r by) h = falls_assign s e c r by h
falls_due s (Want e c t) h = falls_want s e c t h
falls_due s (Evict c) h = falls_evict s c h
falls_due s _ h = absurd h

pub settling_falls : SettlingFalls
settling_falls s x own = subst (λ (y : Entry). left_to_do (after s y) < left_to_do s) (is_own own) (falls_due s x.act own.due)
  where
    is_own : IsPoolsEntry s x → own_entry s x.act ≡ x
    is_own p =
        ap (λ (i : ℕ). record { who = record { 0 = i }; moment = s.latest; act = x.act }) (sym p.caller)
        ∙ ap (λ (m : Moment). record { who = x.who; moment = m; act = x.act }) (sym p.moment)

pub settling_is_bounded : SettlingIsBounded
unfolding run_from
settling_is_bounded s [] own = omega arith
settling_is_bounded s (x ∷ xs) own =
    let first : left_to_do (after s x) < left_to_do s = settling_falls s x own.0 in
    let rest : length xs + left_to_do (run_from (after s x) xs) ≤ left_to_do (after s x) = settling_is_bounded (after s x) xs own.1 in
    omega (arith, first, rest)
