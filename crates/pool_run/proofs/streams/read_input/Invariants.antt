use Rattle.std.proofs.Common.{◌+◌, ◌-◌, length}
use Rattle.pool_run.specs.declared.streams.TheConstants.{MOST_INPUT}
use Rattle.pool_run.proofs.StreamSteps.{HasGiven}
use Rattle.pool_run.proofs.streams.read_input.Given as goal

abbrev pub invariant-loop-alloc : goal.invariant-loop-alloc
invariant-loop-alloc g l = HasGiven (g.S.Source.seen l.initial.source) (g.S.Source.seen l.source) l.octets

abbrev pub decreases-loop-alloc : goal.decreases-loop-alloc
decreases-loop-alloc g l = MOST_INPUT + 1 - length l.octets
