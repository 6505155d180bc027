-- Histories, entry by entry.
use Rattle.std.proofs.Common.{◌≡◌, ℕ, zero, suc, List, [], ◌∷◌, Some, refl, take, slice_get}
use Rattle.model_steps.specs.After.{after}
use Rattle.model_histories.specs.Histories.{run_from, MayStand}
use Rattle.model_values.specs.declared.entry.Entry.{Entry}
use Rattle.model_values.specs.declared.state.AbstractPool.{AbstractPool}

-- from this state on, each entry may stand where it stands
abbrev pub AreStanding : AbstractPool → List Entry → Type 0
AreStanding s [] = Unit {0}
AreStanding s (e ∷ es) = MayStand s e × AreStanding (after s e) es

pub each_standing : (s : AbstractPool) (h : List Entry) → ((i : ℕ) (e : Entry) → slice_get h i ≡ Some e → MayStand (run_from s (take i h)) e) → AreStanding s h
unfolding run_from
each_standing s [] each = tt
each_standing s (x ∷ h) each = (each zero x refl, each_standing (after s x) h (λ i e is_entry. each (suc i) e is_entry))
