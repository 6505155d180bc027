use Rattle.std.proofs.Common.{◌≡◌, take, filter, not}
use Rattle.model_changes.specs.Connections.{is_start}
use Rattle.model_changes.proofs.connections.orders_without_starts.Given as goal

abbrev pub invariant-loop-m : goal.invariant-loop-m
invariant-loop-m l = l.kept ≡ filter (λ m. not (is_start m)) (take l.m-index l.orders)
