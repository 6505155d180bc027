use Rattle.std.proofs.Common.{◌≡◌, take}
use Rattle.std.specs.List.{flat_map}
use Rattle.dispatch_core.specs.Told.{told_at}
use Rattle.dispatch_core.proofs.orders.orders_at.Given as goal

abbrev pub invariant-loop-mark : goal.invariant-loop-mark
invariant-loop-mark l = l.list ≡ flat_map (told_at l.s l.c) (take l.mark-index l.marks)
