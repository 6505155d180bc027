use Rattle.std.proofs.Common.{◌≡◌, ◌++◌, take, drop, map}
use Rattle.model_changes.specs.Connections.{after_shutdown}
use Rattle.model_changes.proofs.connections.shut_all.Given as goal

abbrev pub invariant-loop-c : goal.invariant-loop-c
invariant-loop-c l = l.list ≡ map after_shutdown (take l.c-index l.initial.list) ++ drop l.c-index l.initial.list
