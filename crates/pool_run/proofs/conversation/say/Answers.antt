use Rattle.std.proofs.Common.{inl, refl, ap, ◌∙◌, arith, Ok, Err}
use Rattle.pool_run.specs.declared.conversation.Turn.TheVariants as turn
use Rattle.pool_run.specs.declared.conversation.Next.TheVariants as next
use Rattle.pool_run.proofs.Talking.{turn_is, next_is, speaks_first, speaks_within, speaks_going, talks_err, talks_none, talks_ended, talks_octets, talks_quiet, talks_settled}
use Rattle.pool_run.proofs.conversation.say.Goals as goal

pub returns-in_err-take_turn : goal.returns-in_err-take_turn
returns-in_err-take_turn g c =
    let t = turn_is _ _ _ _ _ _ (Err c.in_err-take_turn.field-0.0) c.in_err-take_turn.was c.take_turn.ensures in
    talks_err _ _ _ _ c.from_residual.ensures.0 (talks_none _ _ _ _ _ c.take_turn.new.progress _ c.loop-round.invariant.0 t)

pub returns-in_err-judge-in-Going : goal.returns-in_err-judge-in-Going
returns-in_err-judge-in-Going g c =
    let s = speaks_going _ _ _ _ _ _ _ c.loop-round.invariant.0 c.take_turn.ensures (c.in_ok-take_turn.was ∙ ap Ok c.in-Going.is) in
    talks_err _ _ _ _ c.from_residual-in_err-judge-in-Going.ensures.0 (s.put, c.take_turn.new.progress.received, s.spoke)

pub returns-in-Answered : goal.returns-in-Answered
returns-in-Answered g c =
    let s = speaks_going _ _ _ _ _ _ _ c.loop-round.invariant.0 c.take_turn.ensures (c.in_ok-take_turn.was ∙ ap Ok c.in-Going.is) in
    let j = next_is _ _ _ (Ok (next.Answered c.in-Answered.response)) (c.in_ok-judge-in-Going.was ∙ ap Ok c.in-Answered.is) c.judge.ensures in
    talks_settled _ _ _ _ c.take_turn.new.progress c.loop-round.round _ _ s j.0 j.1 (omega arith) (omega arith) c.settle.ensures

pub returns-in-Octets : goal.returns-in-Octets
returns-in-Octets g c =
    let s = speaks_going _ _ _ _ _ _ _ c.loop-round.invariant.0 c.take_turn.ensures (c.in_ok-take_turn.was ∙ ap Ok c.in-Going.is) in
    let j = next_is _ _ _ (Ok next.Octets) (c.in_ok-judge-in-Going.was ∙ ap Ok c.in-Octets.is) c.judge.ensures in
    talks_octets _ _ _ _ s j

pub returns-in-Quiet : goal.returns-in-Quiet
returns-in-Quiet g c =
    let s = speaks_going _ _ _ _ _ _ _ c.loop-round.invariant.0 c.take_turn.ensures (c.in_ok-take_turn.was ∙ ap Ok c.in-Going.is) in
    let j = next_is _ _ _ (Ok next.Quiet) (c.in_ok-judge-in-Going.was ∙ ap Ok c.in-Quiet.is) c.judge.ensures in
    talks_quiet _ _ _ _ s j.0 j.1 j.2

pub returns-in-Fault : goal.returns-in-Fault
returns-in-Fault g c =
    let s = c.loop-round.invariant.0 in
    let t = turn_is _ _ _ _ _ _ (Ok turn.Fault) (c.in_ok-take_turn.was ∙ ap Ok c.in-Fault.is) c.take_turn.ensures in
    talks_ended (λ v. v.counts.faults) _ _ _ _ _ s c.loop-round.invariant.2 s.spoke.did.keeps.counts.faults t

pub returns-in-End : goal.returns-in-End
returns-in-End g c =
    let s = c.loop-round.invariant.0 in
    let t = turn_is _ _ _ _ _ _ (Ok turn.End) (c.in_ok-take_turn.was ∙ ap Ok c.in-End.is) c.take_turn.ensures in
    talks_ended (λ v. v.counts.ends) _ _ _ _ _ s c.loop-round.invariant.2 s.spoke.did.keeps.counts.ends t

pub loop-round-init : goal.loop-round-init
loop-round-init g c = (speaks_first _ _ _ refl c.new.ensures refl, omega arith, inl c.new.ensures)

pub loop-round-preserved : goal.loop-round-preserved
loop-round-preserved g c =
    let s = speaks_going _ _ _ _ _ _ _ c.loop-round.invariant.0 c.take_turn.ensures (c.in_ok-take_turn.was ∙ ap Ok c.in-Going.is) in
    let j = next_is _ _ _ (Ok next.Go) (c.in_ok-judge-in-Going.was ∙ ap Ok c.in-Go.is) c.judge.ensures in
    (s, j.0, j.1)

pub returns : goal.returns
returns g c = let s = c.loop-round.invariant.0 in (s.put, c.loop-round.progress.received, s.spoke)

pub take_turn-requires : goal.take_turn-requires
take_turn-requires g c = record { sent = speaks_within _ _ _ _ c.loop-round.invariant.0; idle = c.loop-round.invariant.1 }
