-- What the pool does by itself is determined, comes to an end, and leaves nobody waiting for what is there.
use Rattle.std.proofs.Common.{◌≡◌, ◌<◌, ℕ, zero, suc, List, [], ◌∷◌, Option, Some, None, Bool, true, false, inl, inr, refl, sym, ap, ◌∙◌, arith, is_some, slice_get}
use Rattle.std.specs.List.{list_any}
use Rattle.std.proofs.lemmas.Bool.{and_from, or_left, or_right}
use Rattle.net_base.specs.declared.numbers.Moment.{Moment}
use Rattle.model_laws.proofs.SettlingFalls.{falls_due}
use Rattle.model_laws.specs.SettlingLaws.{left_to_do, SettlingIsDetermined, Settles, SettlingEnds, NoneWaits}
use Rattle.model_histories.specs.Histories.{run_from}
use Rattle.model_histories.specs.Legal.{IsPoolsEntry}
use Rattle.model_settling.proofs.AssignLemmas.{assign_some}
use Rattle.model_settling.proofs.DueLemmas.{due_unique, due_late, settled_none, none_settled}
use Rattle.model_settling.proofs.LeastLemmas.{least_none}
use Rattle.model_settling.specs.Due.{least_of, or_else, expire_due, lapse_due, assign_due, want_best, want_due, evict_due, due_of, act_of}
use Rattle.model_settling.specs.Room.{is_eligible, has_room}
use Rattle.model_settling.specs.Settling.{can_start, can_open, urgency_of, IsSettled}
use Rattle.model_settling.specs.declared.kinds.Best.{Best}
use Rattle.model_settling.specs.declared.kinds.Due.{Due}
use Rattle.model_steps.specs.After.{after}
use Rattle.model_values.specs.declared.entry.Act.{Act}
use Rattle.model_values.specs.declared.entry.Entry.{Entry}
use Rattle.model_values.specs.declared.state.AbstractPool.{AbstractPool}
use Rattle.model_authority.proofs.NumberLemmas.{option_cases, place_of, passes}
use Rattle.model_authority.specs.Ways.{is_usable}

-- ---- at most one entry of the pool itself

abbrev entry_of : ℕ → Moment → Act → Entry
entry_of who moment act = record { who = record { 0 = who }; moment = moment; act = act }

entry_same : (e f : Entry) → e.who.0 ≡ f.who.0 → e.moment ≡ f.moment → e.act ≡ f.act → e ≡ f
entry_same e f who moment act =
    ap (λ (i : ℕ). entry_of i e.moment e.act) who
    ∙ ap (λ (m : Moment). entry_of f.who.0 m e.act) moment
    ∙ ap (λ (a : Act). entry_of f.who.0 f.moment a) act

pub settling_is_determined : SettlingIsDetermined
settling_is_determined s e f p q =
    let a = due_unique s e.act p.due in
    let b = due_unique s f.act q.due in
    let ea = a.1 in
    let eb = b.1 in
    let same : a.0 ≡ b.0 = cc in
    let acts : act_of s a.0 ≡ act_of s b.0 = ap (act_of s) same in
    let ka = a.2 in
    let kb = b.2 in
    let act : e.act ≡ f.act = cc in
    entry_same e f (p.caller ∙ sym q.caller) (p.moment ∙ sym q.moment) act

-- ---- nobody waits for what is there

both_none : (a b : Option Due) → or_else a b ≡ None → (a ≡ None) × (b ≡ None)
both_none None b h = (refl, h)
both_none (Some d) b h = absurd cc

-- where nothing is due, no Assign and no Want is computed
no_assign_no_want : (s : AbstractPool) → due_of s ≡ None → (assign_due s ≡ None) × (want_due s ≡ None)
unfolding due_of
no_assign_no_want s h =
    let a = both_none (expire_due s) (or_else (lapse_due s) (or_else (assign_due s) (or_else (want_due s) (evict_due s)))) h in
    let b = both_none (lapse_due s) (or_else (assign_due s) (or_else (want_due s) (evict_due s))) a.1 in
    let c = both_none (assign_due s) (or_else (want_due s) (evict_due s)) b.1 in
    let d = both_none (want_due s) (evict_due s) c.1 in
    (c.0, d.0)

none_best : (s : AbstractPool) (o : Option Best) → want_best s o ≡ None → o ≡ None
none_best s None h = refl
none_best s (Some b) h = absurd cc

-- no exchange can start
none_starts : (s : AbstractPool) → assign_due s ≡ None → least_of (can_start s) urgency_of s.exchanges ≡ None
none_starts s h = elim (option_cases (least_of (can_start s) urgency_of s.exchanges)) [
  | inl e ↦ e
  | inr k ↦ let some = assign_some s k.0 k.1 in let f : is_some (assign_due s) ≡ false = ap (λ (o : Option Due). is_some o) h in absurd cc
]

-- no exchange may have a new connection
none_opens : (s : AbstractPool) → want_due s ≡ None → least_of (can_open s) urgency_of s.exchanges ≡ None
unfolding want_due
none_opens s h = none_best s (least_of (can_open s) urgency_of s.exchanges) h

-- an item of this number that passes is among those that pass
any_numbered : {A : Type 0} (p : A → Bool) (xs : List A) (k : ℕ) (x : A) → slice_get xs k ≡ Some x → p x ≡ true → list_any p xs ≡ true
any_numbered p [] k x e t = absurd cc
any_numbered p (y ∷ xs) zero x e t = let same : y ≡ x = cc in or_left (p y) (list_any p xs) (ap p same ∙ t)
any_numbered p (y ∷ xs) (suc k) x e t = or_right (p y) (list_any p xs) (any_numbered p xs k x e t)

pub none_waits : NoneWaits
none_waits s number x settled is_exchange eligible =
    let none = no_assign_no_want s (none_settled s settled) in
    record {
      no_connection = λ c y is_connection usable.
          let place = place_of s.connections c y is_connection in
          let any = any_numbered (is_usable s x) s.connections place.0 y place.2 usable in
          least_none (can_start s) urgency_of s.exchanges (none_starts s none.0) number
          (passes (can_start s) s.exchanges number x is_exchange (and_from (is_eligible s x) (list_any (is_usable s x) s.connections) eligible any));
      no_room = λ room.
          least_none (can_open s) urgency_of s.exchanges (none_opens s none.1) number
          (passes (can_open s) s.exchanges number x is_exchange (and_from (is_eligible s x) (has_room s number x) eligible room));
    }

-- ---- settling ends

-- entries of the pool itself that lead from here to a settled state
abbrev Ends : AbstractPool → Type 0
Ends s = (es : List Entry) × Settles s es

-- one entry of the pool itself, and then those that lead on
ends_after : (s : AbstractPool) (e : Entry) → IsPoolsEntry s e → Ends (after s e) → Ends s
unfolding run_from
ends_after s e own rest = (e ∷ rest.0, record { own = (own, rest.1.own); settled = rest.1.settled })

ends_here : (s : AbstractPool) → IsSettled s → Ends s
unfolding run_from
ends_here s settled = ([], record { own = tt; settled = settled })

-- settling ends here where it ends at each state with less to do
step : (s : AbstractPool) → ((t : AbstractPool) → left_to_do t < left_to_do s → Ends t) → Ends s
step s below = elim (option_cases (due_of s)) [
  | inl none ↦ ends_here s (settled_none s none)
  | inr some ↦
      let late = due_late s some.0 some.1 in
      let e : Entry = entry_of 0 s.latest late.0 in
      ends_after s e (record { caller = refl; moment = refl; due = late.1 }) (below (after s e) (falls_due s late.0 late.1))
]

ends_below : (n : ℕ) (s : AbstractPool) → left_to_do s < n → Ends s
ends_below zero s h = absurd (omega (arith, h))
ends_below (suc n) s h = step s (λ t less. ends_below n t (omega (arith, less, h)))

pub settling_ends : SettlingEnds
settling_ends s = ends_below (suc (left_to_do s)) s (omega arith)
