use Rattle.std.proofs.Common.{◌≡◌, List, [], map}
use Rattle.serde_json.specs.Data.{Data}
use Rattle.serde_json.specs.View.{view}
use Rattle.net_base.proofs.Rests.{behind}
use Rattle.scenario_walk.specs.Faults.{each_behind}
use Rattle.scenario_walk.proofs.WalkLemmas.{from}
use Rattle.scenario_walk.proofs.walk.each.Given as goal

abbrev pub invariant-loop-place : goal.invariant-loop-place
invariant-loop-place g l =
    let read = λ (before : List Data). g.R.Reads.reads l.reader in
    each_behind read l.path [] (map view l.items) ≡ behind l.all (from read l.path l.items l.place)
