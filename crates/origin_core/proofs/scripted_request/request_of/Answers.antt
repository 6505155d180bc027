use Rattle.std.proofs.Common.{arith}
use Rattle.origin_core.proofs.Wholes.{whole_request, sizes_none}
use Rattle.origin_core.proofs.scripted_request.request_of.Goals as goal

pub returns-in-None : goal.returns-in-None
returns-in-None c = sizes_none c.args.octets.now c.args.n c.in-Ok.asked c.requires c.in-Ok.ensures.asks (rw c.as_slice.ensures at c.in-None.ensures)

pub returns-else-size-octets : goal.returns-else-size-octets
returns-else-size-octets c =
    whole_request c.args.octets.now c.args.n c.in-Some.size c.in-Ok.asked c.requires c.in-Ok.ensures.asks (rw c.as_slice.ensures at c.in-Some.ensures) (omega (arith, c.requires.0))
