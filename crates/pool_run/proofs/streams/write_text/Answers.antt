use Rattle.plain_values.proofs.Fronts.{piece_fits}
use Rattle.pool_run.proofs.StreamSteps.{put_more, front_refused, front_failed, front_kept}
use Rattle.pool_run.proofs.streams.write_text.Goals as goal

pub returns-in-Took-eq0 : goal.returns-in-Took-eq0
returns-in-Took-eq0 g c = front_refused _ _ _ c.args.text.now c.loop-at.at _ c.loop-at-test.true c.loop-at.invariant.1 c.in-Took-eq0.ensures c.in-Took-eq0.field-0-test

pub loop-at-preserved : goal.loop-at-preserved
loop-at-preserved g c =
    let took = c.in-Took.ensures in
    (piece_fits _ _ _ c.loop-at.invariant.0 took.fits, put_more _ _ _ c.args.text.now c.loop-at.at _ c.loop-at.invariant.1 took)

pub returns-in-Failed : goal.returns-in-Failed
returns-in-Failed g c = front_failed _ _ _ c.args.text.now c.loop-at.at c.loop-at-test.true c.loop-at.invariant.1 c.in-Failed.ensures

pub returns-in-NoMem : goal.returns-in-NoMem
returns-in-NoMem g c = front_kept _ _ _ c.args.text.now c.loop-at.at c.loop-at-test.true c.loop-at.invariant.1 c.in-NoMem.ensures
