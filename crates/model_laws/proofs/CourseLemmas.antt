-- What each entry that may stand keeps holds on from each state of a history.
use Rattle.std.proofs.Common.{◌≡◌, ◌≤◌, ◌+◌, ◌-◌, ℕ, zero, suc, List, [], ◌∷◌, ◌++◌, Some, inl, inr, sym, ap, subst, ◌∙◌, arith, take, slice_get}
use Rattle.std.proofs.lemmas.List.{take_all, take_more}
use Rattle.std.proofs.lemmas.Option.{slice_get_cases, slice_get_within, get_or_from_slice_get}
use Rattle.model_laws.specs.Courses.{state_at}
use Rattle.model_histories.proofs.HistoryLemmas.{AreStanding}
use Rattle.model_histories.proofs.RunLemmas.{run_none, run_at}
use Rattle.model_histories.specs.Histories.{opening, run_from, run, MayStand, IsHistory}
use Rattle.model_steps.specs.After.{after}
use Rattle.model_values.specs.declared.config.Config.{Config}
use Rattle.model_values.specs.declared.entry.Entry.{Entry}
use Rattle.model_values.specs.declared.state.AbstractPool.{AbstractPool}

-- one entry more
pub take_entry : {A : Type 0} (h : List A) (n : ℕ) (e : A) → slice_get h n ≡ Some e → take (n + 1) h ≡ take n h ++ e ∷ []
take_entry h n e is_entry = take_more h n e (slice_get_within h n e is_entry) ∙ ap (λ x. take n h ++ x ∷ []) (get_or_from_slice_get h n e e is_entry)

-- each entry that may stand keeps it
abbrev pub IsKept : (AbstractPool → Type 0) → Type 0
IsKept P = (s : AbstractPool) (e : Entry) → MayStand s e → P s → P (after s e)

-- behind the last entry the state stays as it is
state_next : (config : Config) (h : List Entry) (n : ℕ) (P : AbstractPool → Type 0) → IsHistory config h → IsKept P → P (state_at config h n) → P (state_at config h (n + 1))
state_next config h n P history kept here =
    elim (slice_get_cases h n).1 [
      | inl is ↦ subst P (sym (run_at config h n is.0 is.2)) (kept (run config (take n h)) is.0 (history.each n is.0 is.2) here)
      | inr past ↦
          let end : take n h ≡ h = take_all n h past.0 in
          let later : take (n + 1) h ≡ h = take_all (n + 1) h (omega arith) in
          subst P (ap (run config) (end ∙ sym later)) here
    ]

state_behind : (config : Config) (h : List Entry) (n k : ℕ) (P : AbstractPool → Type 0) → IsHistory config h → IsKept P → P (state_at config h n) → P (state_at config h (n + k))
state_behind config h n zero P history kept here =
    let e : n ≡ n + 0 = omega arith in
    subst (λ i. P (state_at config h i)) e here
state_behind config h n (suc k) P history kept here =
    let e : n + k + 1 ≡ n + suc k = omega arith in
    subst (λ i. P (state_at config h i)) e (state_next config h (n + k) P history kept (state_behind config h n k P history kept here))

-- what holds at a state holds at each later one
pub state_later : (config : Config) (h : List Entry) (n m : ℕ) (P : AbstractPool → Type 0) → IsHistory config h → IsKept P → n ≤ m →
    P (state_at config h n) → P (state_at config h m)
state_later config h n m P history kept later here =
    let e : n + (m - n) ≡ m = omega arith in
    subst (λ i. P (state_at config h i)) e (state_behind config h n (m - n) P history kept here)

-- what holds at the opening holds at each state
pub state_each : (config : Config) (h : List Entry) (n : ℕ) (P : AbstractPool → Type 0) → IsHistory config h → IsKept P → P (opening config) → P (state_at config h n)
state_each config h n P history kept here = state_later config h 0 n P history kept (omega arith) (subst P (sym (run_none config)) here)

-- the state behind an entry of a history
pub state_after : (config : Config) (h : List Entry) (n : ℕ) (e : Entry) → slice_get h n ≡ Some e → state_at config h (n + 1) ≡ after (state_at config h n) e
state_after config h n e is_entry = run_at config h n e is_entry

-- what holds of no entries, and of one more that may stand where it holds of those before, holds of the first n
pub each_beginning : (config : Config) (h : List Entry) (P : List Entry → Type 0) → IsHistory config h → P [] →
    ((es : List Entry) (e : Entry) → MayStand (run config es) e → P es → P (es ++ e ∷ [])) → (n : ℕ) → P (take n h)
each_beginning config h P history none more zero = none
each_beginning config h P history none more (suc n) =
    let before : P (take n h) = each_beginning config h P history none more n in
    let next : n + 1 ≡ suc n = omega arith in
    elim (slice_get_cases h n).1 [
      | inl is ↦ subst (λ k. P (take k h)) next (subst P (sym (take_entry h n is.0 is.2)) (more (take n h) is.0 (history.each n is.0 is.2) before))
      | inr past ↦ subst P (take_all n h past.0 ∙ sym (take_all (suc n) h (omega arith))) before
    ]

-- what holds at a state holds behind entries that may stand
pub kept_from : (P : AbstractPool → Type 0) → IsKept P → (s : AbstractPool) (h : List Entry) → AreStanding s h → P s → P (run_from s h)
unfolding run_from
kept_from P kept s [] stand here = here
kept_from P kept s (x ∷ h) stand here = kept_from P kept (after s x) h stand.1 (kept s x stand.0 here)
