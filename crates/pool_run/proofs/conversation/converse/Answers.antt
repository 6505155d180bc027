use Rattle.std.proofs.Common.{ap, ◌∙◌, Ok}
use Rattle.pool_run.specs.declared.conversation.Heard.TheVariants as heard
use Rattle.pool_run.proofs.Talking.{heard_is, talks_later}
use Rattle.pool_run.proofs.conversation.converse.Goals as goal

pub returns : goal.returns
returns g c =
    let h = heard_is _ _ _ (Ok heard.Quiet) (c.in_ok-listen.was ∙ ap Ok c.in-Quiet.is) c.listen.ensures.heard in
    talks_later _ _ _ _ _ h c.say.ensures
