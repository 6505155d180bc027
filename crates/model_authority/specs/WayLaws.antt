-- The way that is computed, and the way that an exchange has.
use Rattle.std.specs.Prelude.{◌≡◌, ◌↔◌, Some, is_some}
use Rattle.model_authority.specs.Ways.{way_of, has_way, HasAuthority}
use Rattle.model_values.specs.declared.entry.Way.{Way}
use Rattle.model_values.specs.declared.state.AbstractPool.{AbstractPool}
use Rattle.model_values.specs.declared.state.Connection.{Connection}
use Rattle.model_values.specs.declared.state.Exchange.{Exchange}

-- the way that is computed is the first that holds, and one is computed exactly where the exchange may use the connection in some way
pub record WayIsFirst : Type 0 where
  pub first : (s : AbstractPool) (e : Exchange) (c : Connection) (by : Way) → (way_of s e c ≡ Some by) ↔ HasAuthority s e c by
  pub some : (s : AbstractPool) (e : Exchange) (c : Connection) → is_some (way_of s e c) ≡ has_way s e c
