use Rattle.std.proofs.Common.{[]}
use Rattle.edge_traits.specs.Links.{LinkDid}
use Rattle.pool_run.specs.Conversation.{QuietReads}
use Rattle.pool_run.proofs.conversation.listen_on.Given as goal

abbrev pub invariant-loop : goal.invariant-loop
invariant-loop g l = LinkDid (g.L.Link.seen l.initial.link) (g.L.Link.seen l.link) [] [] × QuietReads l.counter (g.L.Link.seen l.initial.link) (g.L.Link.seen l.link)
