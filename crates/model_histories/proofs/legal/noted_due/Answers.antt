use Rattle.model_histories.proofs.StandLemmas.{stand_due}
use Rattle.model_histories.proofs.legal.noted_due.Goals as goal

pub returns-clause-stands : goal.returns-clause-stands
returns-clause-stands c =
    let i = stand_due c.args.s.now c.args.e.now c.args.d c.requires.due in
    ((λ t. i.1 (c.is_pools_entry-stands.ensures.0 t)), (λ m. c.is_pools_entry-stands.ensures.1 (i.0 m)))
