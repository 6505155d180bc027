use Rattle.std.proofs.Common.{◌-◌, length}
use Rattle.plain_values.specs.Fronts.{IsFrontOf}
use Rattle.origin_core.specs.ScriptedOrigin.{IsOriginAt, put_of}
use Rattle.origin_core.proofs.scripted_origin.ScriptedOrigin.answer.Given as goal

abbrev pub invariant-loop : goal.invariant-loop
invariant-loop l = IsOriginAt l.peer l.input l.self × IsFrontOf (put_of l.initial.self) (put_of l.self)

abbrev pub decreases-loop : goal.decreases-loop
decreases-loop l = length l.input - l.self.answered
