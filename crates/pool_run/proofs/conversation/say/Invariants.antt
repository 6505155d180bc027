use Rattle.std.proofs.Common.{◌<◌}
use Rattle.pool_run.specs.Conversation.{IsOpen}
use Rattle.pool_run.proofs.Talking.{Speaks}
use Rattle.pool_run.proofs.conversation.say.Given as goal

abbrev pub invariant-loop-round : goal.invariant-loop-round
invariant-loop-round g l = Speaks (g.L.Link.seen l.initial.link) (g.L.Link.seen l.link) l.text l.progress × (l.progress.idle < 10000) × IsOpen l.progress.received
