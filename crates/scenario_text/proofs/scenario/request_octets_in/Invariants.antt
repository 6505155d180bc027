use Rattle.std.proofs.Common.{◌≡◌, take, sum_by}
use Rattle.scenario_text.specs.Scenarios.{request_octets}
use Rattle.scenario_text.proofs.scenario.request_octets_in.Given as goal

abbrev pub invariant-loop-call : goal.invariant-loop-call
invariant-loop-call l = l.n ≡ sum_by request_octets (take l.call-index l.calls)
