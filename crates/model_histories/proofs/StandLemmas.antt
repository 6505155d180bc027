-- Which entry may stand at a state, by what the pool is to do there.
use Rattle.std.proofs.Common.{◌↔◌, inl, inr}
use Rattle.model_settling.specs.Due.{IsNext}
use Rattle.model_histories.specs.Histories.{MayStand}
use Rattle.model_histories.specs.Legal.{IsPoolsEntry, IsCallsEntry}
use Rattle.model_settling.specs.Settling.{IsSettled}
use Rattle.model_settling.specs.declared.kinds.Due.{Due}
use Rattle.model_values.specs.declared.entry.Entry.{Entry}
use Rattle.model_values.specs.declared.state.AbstractPool.{AbstractPool}

-- where something is due only the pool's own entry may stand
pub stand_due : (s : AbstractPool) (e : Entry) (d : Due) → IsNext s d → MayStand s e ↔ IsPoolsEntry s e
stand_due s e d next = (there, λ p. record { legal = inl p; settled = λ not_pool. absurd (not_pool p.caller) })
  where
    there : MayStand s e → IsPoolsEntry s e
    there m = elim m.legal [ inl p ↦ p | inr c ↦ absurd (m.settled c.caller next.late.0 next.late.1) ]

-- where nothing is due only a call's entry may stand
pub stand_none : (s : AbstractPool) (e : Entry) → IsSettled s → MayStand s e ↔ IsCallsEntry s e
stand_none s e none = (there, λ c. record { legal = inr c; settled = λ caller. none })
  where
    there : MayStand s e → IsCallsEntry s e
    there m = elim m.legal [ inl p ↦ absurd (none e.act p.due) | inr c ↦ c ]
