use Rattle.probe.proofs.tickets.Tickets.spend.Given as goal

abbrev pub decreases-loop-one : goal.decreases-loop-one
decreases-loop-one l = l.held.len
