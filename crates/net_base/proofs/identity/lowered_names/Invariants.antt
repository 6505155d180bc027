use Rattle.std.proofs.Common.{◌≡◌, map, take}
use Rattle.std.specs.Str.{str_to_ascii_lowercase}
use Rattle.net_base.proofs.identity.lowered_names.Given as goal

abbrev pub invariant-loop-name : goal.invariant-loop-name
invariant-loop-name l = l.all ≡ map str_to_ascii_lowercase (take l.name-index l.names)
