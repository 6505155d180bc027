-- A list that takes no memory before its first item.
use Rattle.std.specs.Prelude.{List, [], Option, Some, None}
use Rattle.std.specs.declared.vec.Vec.{Vec}
use Rattle.std.specs.declared.alloc.Global.{Global}

-- the items of a vector, of which there are none before the first
abbrev pub items_of : {T : Type 0} → Option (Vec T Global) → List T
items_of None = []
items_of (Some v) = v.items
