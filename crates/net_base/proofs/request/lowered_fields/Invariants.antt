use Rattle.std.proofs.Common.{◌≡◌, map, take}
use Rattle.net_base.specs.Requests.{lowered}
use Rattle.net_base.proofs.request.lowered_fields.Given as goal

abbrev pub invariant-loop-f : goal.invariant-loop-f
invariant-loop-f l = l.all ≡ map lowered (take l.f-index l.fields)
