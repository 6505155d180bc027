use Rattle.std.proofs.Common.{rules, get_or}
use Rattle.origin_core.proofs.Numbers.{reads_no_more}
use Rattle.origin_core.proofs.scripted_request.number.Goals as goal

pub returns-in-None : goal.returns-in-None
returns-in-None c =
    reads_no_more c.args.text.now c.loop-digit.digit-index c.loop-digit.value (get_or c.args.text.now c.loop-digit.digit-index 0)
    c.loop-digit-test.true (search rules) c.in-None.ensures c.loop-digit.invariant
