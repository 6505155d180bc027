use Rattle.std.proofs.Common.{◌≡◌, Some}
use Rattle.model_authority.specs.Lists.{numbered}
use Rattle.dispatch_core.proofs.StepLemmas.{dial_target}
use Rattle.dispatch_core.proofs.answers.dialed.Goals as goal

pub returns-in_ok-copy-in-Some : goal.returns-in_ok-copy-in-Some
returns-in_ok-copy-in-Some c =
    let found : numbered c.args.number c.args.s.now.connections ≡ Some c.in-Some.c.now = cc (c.in-Some.ensures, c.numbered.ensures) in
    dial_target c.args.s.now c.args.number c.in-Some.c.now _ c.requires.next found c.in_ok-copy-in-Some.ensures
