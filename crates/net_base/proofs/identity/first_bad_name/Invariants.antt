use Rattle.std.proofs.Common.{take}
use Rattle.std.specs.List.{All}
use Rattle.net_base.specs.Identities.{IsName}
use Rattle.net_base.proofs.identity.first_bad_name.Given as goal

abbrev pub invariant-loop-i : goal.invariant-loop-i
invariant-loop-i l = All IsName (take l.i l.names)
