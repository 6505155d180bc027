use Rattle.model_histories.proofs.legal.is_due.Goals as goal

pub returns : goal.returns
returns c =
    let i = c.requires.only c.args.act.now in
    ((λ t. i.1 (c.is_act.ensures.0 t)), (λ d. c.is_act.ensures.1 (i.0 d)))
