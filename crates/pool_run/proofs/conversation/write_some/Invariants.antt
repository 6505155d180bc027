use Rattle.std.proofs.Common.{◌≡◌, ◌≤◌, ℕ, List, [], length}
use Rattle.pool_run.specs.Conversation.{Spoke}
use Rattle.pool_run.proofs.conversation.write_some.Given as goal

abbrev pub invariant-loop : goal.invariant-loop
invariant-loop g l = (put : List ℕ) × Spoke (g.L.Link.seen l.initial.link) (g.L.Link.seen l.link) l.output put [] × (l.sent ≡ length put) × (l.counter ≤ l.sent)
