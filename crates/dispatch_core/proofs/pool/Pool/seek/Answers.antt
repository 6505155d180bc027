use Rattle.std.proofs.Common.{◌≡◌, ◌∙◌, Some, ap}
use Rattle.model_histories.specs.Replies.{dial_of}
use Rattle.dispatch_core.proofs.StepLemmas.{dial_noted}
use Rattle.dispatch_core.proofs.pool.Pool.seek.Goals as goal

pub dial-requires-clause-next : goal.dial-requires-clause-next
dial-requires-clause-next c =
    let here : dial_of c.in_ok-s.s ≡ Some c.in-Some.number = cc (c.in-Some.ensures, c.next_dial.ensures) in
    ap dial_of c.note.ensures ∙ dial_noted c.in_ok-s.s c.args.moment ∙ here
