use Rattle.std.proofs.Common.{◌≡◌, ◌≢◌, codes, refl, rules}
use Rattle.journal_replay.proofs.Lines.{read_more, read_pair, read_all}
use Rattle.journal_replay.proofs.pairs.parts_of.Goals as goal

pub returns-then-eq : goal.returns-then-eq
returns-then-eq c =
    let same : c.in-Some.cut.line.now ≡ codes "--" = search rules in
    read_pair _ _ _ _ _ c.loop-cut.invariant c.in-Some.ensures.0 same

pub loop-cut-preserved : goal.loop-cut-preserved
loop-cut-preserved c =
    let other : c.in-Some.cut.line.now ≢ codes "--" = search rules in
    read_more _ _ _ _ _ _ c.loop-cut.invariant c.in-Some.ensures.0 c.in-Some.ensures.1 other refl

pub returns : goal.returns
returns c = read_all _ _ _ c.loop-cut.invariant c.in_default.ensures
