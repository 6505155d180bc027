-- The number of the next stream of a usable connection.
use Rattle.std.proofs.Common.{◌≤◌, IsTrue}
use Rattle.std.proofs.lemmas.Bool.{and_parts, leb-true}
use Rattle.model_authority.specs.Ways.{is_usable, has_capacity}
use Rattle.model_values.specs.declared.state.AbstractPool.{AbstractPool}
use Rattle.model_values.specs.declared.state.Connection.{Connection}
use Rattle.model_values.specs.declared.state.Exchange.{Exchange}

-- the next stream of a usable connection is one that there may be
pub next_within : (s : AbstractPool) (e : Exchange) (c : Connection) → IsTrue (is_usable s e c) → c.next_stream ≤ s.config.last_stream
unfolding is_usable has_capacity
next_within s e c h = leb-true _ _ (and_parts _ _ (and_parts _ _ (and_parts _ _ h).0).1).0
