use Rattle.std.proofs.Common.{length}
use Rattle.journal_replay.proofs.Lines.{HasRead}
use Rattle.journal_replay.proofs.pairs.parts_of.Given as goal

abbrev pub invariant-loop-cut : goal.invariant-loop-cut
invariant-loop-cut l = HasRead l.bytes l.read l.rest

abbrev pub decreases-loop-cut : goal.decreases-loop-cut
decreases-loop-cut l = length l.rest
