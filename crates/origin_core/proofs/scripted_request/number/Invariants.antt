use Rattle.origin_core.proofs.Numbers.{Reads}
use Rattle.origin_core.proofs.scripted_request.number.Given as goal

abbrev pub invariant-loop-digit : goal.invariant-loop-digit
invariant-loop-digit l = Reads l.text l.digit-index l.value
