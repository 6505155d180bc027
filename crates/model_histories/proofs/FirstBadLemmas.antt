-- What a look through a list of entries finds out: that it is a history, or the first place that keeps it from being one.
use Rattle.std.proofs.Common.{◌≡◌, ◌<◌, ◌+◌, ℕ, List, Some, inl, inr, refl, sym, ap, subst, ◌∙◌, arith, length, take, slice_get}
use Rattle.std.proofs.lemmas.Bool.{cases_order}
use Rattle.std.proofs.lemmas.Option.{slice_get_within}
use Rattle.model_histories.specs.Histories.{run, MayStand, IsHistory, IsFirstBad}
use Rattle.model_settling.specs.Settling.{IsSettled}
use Rattle.model_values.specs.declared.config.Config.{Config}
use Rattle.model_values.specs.declared.entry.Entry.{Entry}

-- each of the first k entries may stand where it stands
abbrev pub StandBefore : Config → List Entry → ℕ → Type 0
StandBefore config h k = (i : ℕ) (e : Entry) → i < k → slice_get h i ≡ Some e → MayStand (run config (take i h)) e

pub before_none : (config : Config) (h : List Entry) → StandBefore config h 0
before_none config h i e less is_entry = absurd (omega (arith, less))

pub before_more : (config : Config) (h : List Entry) (k : ℕ) (x : Entry) → slice_get h k ≡ Some x → MayStand (run config (take k h)) x → StandBefore config h k → StandBefore config h (k + 1)
before_more config h k x is_x stands before i e less is_entry = elim (cases_order i k) [
  | inl here ↦
      let at_k : slice_get h k ≡ Some e = ap (λ (j : ℕ). slice_get h j) (sym here) ∙ is_entry in
      let same : x ≡ e = cc in
      subst (λ (j : ℕ). MayStand (run config (take j h)) e) (sym here) (subst (MayStand (run config (take k h))) same stands)
  | inr (inl earlier) ↦ before i e earlier is_entry
  | inr (inr later) ↦ absurd (omega (arith, less, later))
]

pub bad_at : (config : Config) (h : List Entry) (k : ℕ) (x : Entry) → slice_get h k ≡ Some x → (¬ MayStand (run config (take k h)) x) → StandBefore config h k → IsFirstBad config h (k + 1)
bad_at config h k x is_x bad before = record {
  before = λ i e less is_entry. before i e (omega (arith, less)) is_entry;
  bad = inl (record { index = k; is_place = refl; entry = x; is_entry = is_x; bad = bad });
}

-- the list is a history, where the pool has nothing to do by itself at its end
pub history_is : (config : Config) (h : List Entry) → StandBefore config h (length h) → IsSettled (run config h) → IsHistory config h
history_is config h before settled = record { each = λ i e is_entry. before i e (slice_get_within h i e is_entry) is_entry; settled = settled }

pub unsettled_at : (config : Config) (h : List Entry) → StandBefore config h (length h) → (¬ IsSettled (run config h)) → IsFirstBad config h (length h + 1)
unsettled_at config h before unsettled = record {
  before = λ i e less is_entry. before i e (slice_get_within h i e is_entry) is_entry;
  bad = inr (record { is_place = refl; unsettled = unsettled });
}
