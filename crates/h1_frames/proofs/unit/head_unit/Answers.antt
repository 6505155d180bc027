use Rattle.std.proofs.Common.{◌∙◌, sym, get_or}
use Rattle.h1_frames.proofs.UnitLemmas.{step_is, end_here, end_nowhere}
use Rattle.h1_frames.proofs.unit.head_unit.Goals as goal

pub returns-in-None : goal.returns-in-None
returns-in-None c =
    let is = step_is c.loop-i.place (get_or c.args.bytes.now c.loop-i.i 0) c.step.result
    c.step.ensures.blank c.step.ensures.blank_return c.step.ensures.within c.step.ensures.behind c.step.ensures.behind_return in
    end_here c.loop-i.place c.args.bytes.now c.loop-i.i 0 c.loop-i-test.true (sym is ∙ c.in-None.is) c.loop-i.invariant

pub returns : goal.returns
returns c = end_nowhere c.loop-i.place c.args.bytes.now c.loop-i.i c.loop-i-test.false c.loop-i.invariant
