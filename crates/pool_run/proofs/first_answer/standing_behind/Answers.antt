use Rattle.std.proofs.Common.{inl, inr}
use Rattle.pool_run.proofs.first_answer.standing_behind.Goals as goal

pub returns-in_default : goal.returns-in_default
returns-in_default c = inr (inl (c.args.head, c.args.unit, c.requires.read, c.in_default.ensures))
