use Rattle.std.proofs.Common.{◌≡◌, ◌≤◌, take}
use Rattle.std.specs.Str.Parse.{digits_value}
use Rattle.small_form.specs.declared.form.TheConstants.{MOST_BODY}
use Rattle.pool_run.proofs.first_answer.number_of.Given as goal

abbrev pub invariant-loop-b : goal.invariant-loop-b
invariant-loop-b l = (l.n ≡ digits_value 10 (take l.b-index l.digits)) × (l.n ≤ MOST_BODY)
