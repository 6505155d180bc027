use Rattle.std.proofs.Common.{true, false, subst}
use Rattle.origin_core.specs.declared.scripted_origin.Step.{Step}
use Rattle.origin_core.specs.ScriptedOrigin.{StepIs}
use Rattle.origin_core.proofs.Origins.{puts_from}
use Rattle.origin_core.proofs.scripted_origin.ScriptedOrigin.answer.Goals as goal

pub returns-in-Unfinished-clause-puts : goal.returns-in-Unfinished-clause-puts
returns-in-Unfinished-clause-puts c =
    let P : Step → Type 0 = StepIs c.args.input.now c.loop.self c.step.new.self in
    puts_from c.args.peer.now c.args.input.now c.step.new.self false c.step.ensures.at (subst P c.in-Unfinished.is c.in_ok-step.ensures.step)

pub returns-in-Unreadable-clause-puts : goal.returns-in-Unreadable-clause-puts
returns-in-Unreadable-clause-puts c =
    let P : Step → Type 0 = StepIs c.args.input.now c.loop.self c.step.new.self in
    puts_from c.args.peer.now c.args.input.now c.step.new.self true c.step.ensures.at (subst P c.in-Unreadable.is c.in_ok-step.ensures.step)
