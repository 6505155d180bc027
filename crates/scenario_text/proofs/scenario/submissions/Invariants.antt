use Rattle.std.proofs.Common.{◌≡◌, take, count_by, sum_by}
use Rattle.scenario_text.specs.Scenarios.{is_submission}
use Rattle.scenario_text.proofs.scenario.submissions.Given as goal

abbrev pub invariant-loop-calls : goal.invariant-loop-calls
invariant-loop-calls l = l.n ≡ sum_by (λ calls. count_by is_submission calls) (take l.calls-index l.channels)
