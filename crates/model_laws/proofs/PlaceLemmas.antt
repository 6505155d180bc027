-- A list of entries is a history exactly where no place of it is bad, and there is at most one first bad place.
use Rattle.std.proofs.Common.{◌≡◌, ◌<◌, ◌+◌, ◌⊎◌, ℕ, zero, suc, List, [], ◌∷◌, Some, inl, inr, refl, sym, ap, subst, ◌∙◌, arith, length, take, slice_get}
use Rattle.std.proofs.lemmas.Bool.{cases_order}
use Rattle.std.proofs.lemmas.Option.{slice_get_within}
use Rattle.model_laws.proofs.StandStable.{stable_stand}
use Rattle.model_laws.specs.PlaceLaws.{HistoriesHaveNoBadPlace, HistoriesHaveNoFirstBadPlace, FirstBadPlaceIsOne, BeginningsAreHistories}
use Rattle.model_histories.proofs.FirstBadLemmas.{StandBefore, before_none, before_more, bad_at, history_is, unsettled_at}
use Rattle.model_histories.specs.Histories.{run, MayStand, IsHistory, IsBadAt, IsUnsettledAt, IsFirstBad}
use Rattle.model_authority.proofs.NumberLemmas.{option_cases}
use Rattle.model_values.specs.declared.config.Config.{Config}
use Rattle.model_values.specs.declared.entry.Entry.{Entry}

-- ---- beginnings

-- the beginning of a beginning, and an entry of it
begins_at : {A : Type 0} (n i : ℕ) (xs : List A) (x : A) → slice_get (take n xs) i ≡ Some x → (slice_get xs i ≡ Some x) × (take i (take n xs) ≡ take i xs)
begins_at zero i xs x h = absurd cc
begins_at (suc n) i [] x h = absurd cc
begins_at (suc n) zero (y ∷ xs) x h = (h, refl)
begins_at {A} (suc n) (suc i) (y ∷ xs) x h = let r = begins_at n i xs x h in (r.0, ap (λ (ys : List A). y ∷ ys) r.1)

pub beginnings_are_histories : BeginningsAreHistories
beginnings_are_histories config h n history settled = record {
  each = λ i e is_entry.
      let b = begins_at n i h e is_entry in
      subst (λ (es : List Entry). MayStand (run config es) e) (sym b.1) (history.each i e b.0);
  settled = settled;
}

-- ---- at most one

-- no place behind a first bad one is a first bad one
not_later : (config : Config) (h : List Entry) (p q : ℕ) → IsFirstBad config h p → IsFirstBad config h q → p < q → ⊥
not_later config h p q first later less = elim first.bad [ inl bad ↦ stands bad | inr end ↦ behind end later.bad ]
  where
    stands : IsBadAt config h p → ⊥
    stands bad = bad.bad (later.before bad.index bad.entry (omega (arith, bad.is_place, less)) bad.is_entry)

    behind : IsUnsettledAt config h p → IsBadAt config h q ⊎ IsUnsettledAt config h q → ⊥
    behind end (inl bad) = let within = slice_get_within h bad.index bad.entry bad.is_entry in absurd (omega (arith, within, bad.is_place, end.is_place, less))
    behind end (inr other) = absurd (omega (arith, other.is_place, end.is_place, less))

pub first_bad_place_is_one : FirstBadPlaceIsOne
first_bad_place_is_one config h p q first other = elim (cases_order p q) [
  | inl same ↦ same
  | inr (inl less) ↦ absurd (not_later config h p q first other less)
  | inr (inr more) ↦ absurd (not_later config h q p other first more)
]

-- ---- none exactly at a history

history_has_none : (config : Config) (h : List Entry) → IsHistory config h → (place : ℕ) → ¬ IsFirstBad config h place
history_has_none config h history place first = elim first.bad [
  | inl bad ↦ bad.bad (history.each bad.index bad.entry bad.is_entry)
  | inr end ↦ end.unsettled history.settled
]

-- where no place is the first bad one, the next entry may stand too
stands_next : (config : Config) (h : List Entry) → ((place : ℕ) → ¬ IsFirstBad config h place) → (k : ℕ) → StandBefore config h k → StandBefore config h (k + 1)
stands_next config h none k before = elim (option_cases (slice_get h k)) [
  | inl past ↦ λ i e less is_entry. elim (cases_order i k) [
    | inl here ↦ let at_k : slice_get h k ≡ Some e = ap (λ (j : ℕ). slice_get h j) (sym here) ∙ is_entry in absurd (cc (at_k, past))
    | inr (inl earlier) ↦ before i e earlier is_entry
    | inr (inr later) ↦ absurd (omega (arith, less, later))
  ]
  | inr some ↦
      let stands = stable_stand (run config (take k h)) some.0 (λ bad. none (k + 1) (bad_at config h k some.0 some.1 bad before)) in
      before_more config h k some.0 some.1 stands before
]

all_stand : (config : Config) (h : List Entry) → ((place : ℕ) → ¬ IsFirstBad config h place) → (k : ℕ) → StandBefore config h k
all_stand config h none zero = before_none config h
all_stand config h none (suc k) =
    let next = stands_next config h none k (all_stand config h none k) in
    λ i e less is_entry. next i e (omega (arith, less)) is_entry

pub histories_have_no_first_bad_place : HistoriesHaveNoFirstBadPlace
histories_have_no_first_bad_place config h = (history_has_none config h, back)
  where
    back : ((place : ℕ) → ¬ IsFirstBad config h place) → IsHistory config h
    back none =
        let before = all_stand config h none (length h) in
        history_is config h before (λ act due. none (length h + 1) (unsettled_at config h before (λ settled. settled act due)))

-- a first bad place is a bad one
first_is_bad : (config : Config) (h : List Entry) → ((place : ℕ) → (¬ IsBadAt config h place) × (¬ IsUnsettledAt config h place)) → (place : ℕ) → ¬ IsFirstBad config h place
first_is_bad config h none place first = elim first.bad [ inl bad ↦ (none place).0 bad | inr end ↦ (none place).1 end ]

pub histories_have_no_bad_place : HistoriesHaveNoBadPlace
histories_have_no_bad_place config h = (each, λ none. (histories_have_no_first_bad_place config h).1 (first_is_bad config h none))
  where
    each : IsHistory config h → (place : ℕ) → (¬ IsBadAt config h place) × (¬ IsUnsettledAt config h place)
    each history place = (λ bad. bad.bad (history.each bad.index bad.entry bad.is_entry), λ end. end.unsettled history.settled)
