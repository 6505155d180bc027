use Rattle.std.proofs.Common.{◌≡◌, take, sum_by}
use Rattle.scenario_text.specs.Scenarios.{request_octets}
use Rattle.scenario_text.proofs.scenario.all_request_octets.Given as goal

abbrev pub invariant-loop-calls : goal.invariant-loop-calls
invariant-loop-calls l = l.n ≡ sum_by (λ calls. sum_by request_octets calls) (take l.calls-index l.channels)
