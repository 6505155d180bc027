use Rattle.std.proofs.Common.{◌≡◌, ◌++◌, take}
use Rattle.std.specs.List.{flat_map}
use Rattle.scenario_walk.specs.Faults.{escape_octet}
use Rattle.scenario_walk.proofs.walk.escape_onto.Given as goal

abbrev pub invariant-loop-b : goal.invariant-loop-b
invariant-loop-b l = l.text ≡ l.initial.text ++ flat_map escape_octet (take l.b-index l.part)
