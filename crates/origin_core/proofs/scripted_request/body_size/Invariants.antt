use Rattle.origin_core.proofs.BodySizes.{Found}
use Rattle.origin_core.proofs.scripted_request.body_size.Given as goal

abbrev pub invariant-loop-field : goal.invariant-loop-field
invariant-loop-field l = Found l.fields l.field-index l.found
