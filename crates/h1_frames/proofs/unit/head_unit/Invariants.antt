use Rattle.std.proofs.Common.{◌≡◌, ◌+◌, drop, option_map}
use Rattle.h1_frames.specs.declared.unit.Place.TheVariants.{Blank}
use Rattle.h1_frames.proofs.UnitSteps.{left}
use Rattle.h1_frames.proofs.unit.head_unit.Given as goal

abbrev pub invariant-loop-i : goal.invariant-loop-i
invariant-loop-i l = left Blank l.bytes ≡ option_map (λ n. n + l.i) (left l.place (drop l.i l.bytes))
