use Rattle.std.proofs.Common.{◌≡◌, ℕ, List, [], map, take, Result}
use Rattle.serde_json.specs.View.{view}
use Rattle.net_base.proofs.Rests.{behind}
use Rattle.scenario_text.specs.Calls.{count_submits, script_call}
use Rattle.scenario_walk.specs.Faults.{each_behind}
use Rattle.scenario_walk.proofs.WalkLemmas.{from}
use Rattle.scenario_text.proofs.calls.each_call.Given as goal

abbrev pub invariant-loop-place : goal.invariant-loop-place
invariant-loop-place l =
    (l.submitted ≡ count_submits (map view (take l.place l.calls)))
    × (each_behind script_call l.path [] (map view l.calls) ≡ behind l.all (from script_call l.path l.calls l.place))
