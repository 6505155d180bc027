use Rattle.std.proofs.Common.{◌≡◌, take, filter, not}
use Rattle.model_changes.specs.Connections.{is_reset_of}
use Rattle.model_changes.proofs.connections.orders_without_reset.Given as goal

abbrev pub invariant-loop-m : goal.invariant-loop-m
invariant-loop-m l = l.kept ≡ filter (λ m. not (is_reset_of l.r m)) (take l.m-index l.orders)
