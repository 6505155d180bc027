use Rattle.std.proofs.Common.{arith}
use Rattle.edge_traits.proofs.Steps.{rose_later}
use Rattle.pool_run.proofs.Writings.{said_none, said_fits, said_more, some_left, said_nothing, said_same, said_unchanged}
use Rattle.pool_run.proofs.conversation.write_some.Goals as goal

pub loop-init : goal.loop-init
loop-init g c = said_none _ _

pub loop-preserved : goal.loop-preserved
loop-preserved g c =
    let i = c.loop.invariant in
    said_more _ _ _ c.args.output.now _ _ c.loop.sent c.in-Took.n c.loop.counter i.1 i.2 i.3 c.in-Took.n-test.1 c.in-Took.ensures.keeps c.in-Took.ensures.answer

pub returns : goal.returns
returns g c = let i = c.loop.invariant in (i.0, i.1, i.2, λ z some. absurd (omega (arith, i.3, z)))

pub returns-then-sent-output : goal.returns-then-sent-output
returns-then-sent-output g c = let i = c.loop.invariant in (i.0, i.1, i.2, λ z some. absurd (omega (arith, z, some)))

pub slice_bounds-write-count : goal.slice_bounds-write-count
slice_bounds-write-count g c = let i = c.loop.invariant in said_fits _ _ _ _ _ _ i.1 i.2

pub write-requires : goal.write-requires
write-requires g c = let i = c.loop.invariant in some_left _ _ (said_fits _ _ _ _ _ _ i.1 i.2) c.if-sent-output.false

pub returns-in-Took-eq0 : goal.returns-in-Took-eq0
returns-in-Took-eq0 g c = said_nothing _ _ _ _ _ _ _ _ c.loop.invariant.1 c.in-Took-eq0.ensures.keeps c.in-Took-eq0.ensures.answer (omega arith)

pub returns-in-Quiet : goal.returns-in-Quiet
returns-in-Quiet g c =
    let i = c.loop.invariant in
    let e = c.in-Quiet.ensures in
    (i.0, said_same _ _ _ _ _ _ i.1 e.keeps e.answer.1, i.2, λ z some. rose_later _ _ _ i.1.did.keeps.counts.write_quiets e.answer.0)

pub returns-in-Failed : goal.returns-in-Failed
returns-in-Failed g c =
    let i = c.loop.invariant in
    let e = c.in-Failed.ensures in
    (i.0, said_same _ _ _ _ _ _ i.1 e.keeps e.answer.1, rose_later _ _ _ i.1.did.keeps.counts.faults e.answer.0)

pub returns-in-NoMem : goal.returns-in-NoMem
returns-in-NoMem g c = said_unchanged _ _ _ _ _ c.loop.invariant.0 c.loop.invariant.1 c.in-NoMem.ensures.answer
