use Rattle.std.proofs.Common.{refl, ap, ◌∙◌, Ok}
use Rattle.pool_run.specs.declared.conversation.Wrote.TheVariants as wrote
use Rattle.pool_run.proofs.Talking.{turned, wrote_rest}
use Rattle.pool_run.proofs.conversation.take_turn.Goals as goal

pub returns-in-Took : goal.returns-in-Took
returns-in-Took g c =
    let w = wrote_rest _ _ c.args.text.now c.args.progress.now.sent _ (Ok (wrote.Took c.in-Took.taken)) (c.in_ok-taken.was ∙ ap Ok c.in-Took.is) c.write_some.ensures in
    turned _ _ _ _ c.args.progress.now c.in-Took.taken _ _ _ c.requires.sent w refl c.take_in.ensures
