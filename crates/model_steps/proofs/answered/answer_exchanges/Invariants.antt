use Rattle.std.proofs.Common.{◌≡◌, ◌++◌, take, drop, map}
use Rattle.model_steps.specs.Answered as spec
use Rattle.model_steps.proofs.answered.answer_exchanges.Given as goal

abbrev pub invariant-loop-e : goal.invariant-loop-e
invariant-loop-e l = l.list ≡ map (spec.answered l.conn l.stream l.response) (take l.e-index l.initial.list) ++ drop l.e-index l.initial.list
