use Rattle.std.proofs.Common.{◌≡◌, take, count_by}
use Rattle.scenario_text.specs.Scenarios.{is_submission}
use Rattle.scenario_text.proofs.scenario.submissions_in.Given as goal

abbrev pub invariant-loop-call : goal.invariant-loop-call
invariant-loop-call l = l.n ≡ count_by is_submission (take l.call-index l.calls)
