-- What a GOAWAY does (RFC 9113, section 6.8), whatever its code is. The peer does nothing for the streams above the last one, and
-- what isn't handed yet isn't sent, since no further stream may be opened: their exchanges wait again. The connection takes no
-- further exchange, and closes where it carries nothing. A further GOAWAY may name a later last stream, which brings nothing back.
use Rattle.std.specs.Prelude.{◌==◌, ◌&&◌, ◌||◌, not, nat_lt, Bool, false, if◌then◌else◌, map}
use Rattle.net_base.specs.declared.numbers.ConnNo.{ConnNo}
use Rattle.net_base.specs.declared.numbers.StreamNo.{StreamNo}
use Rattle.model_authority.specs.Lists.{edit}
use Rattle.model_changes.specs.Connections.{going_away}
use Rattle.model_steps.specs.Exchanges.{moved}
use Rattle.model_values.specs.declared.state.AbstractPool.{AbstractPool}
use Rattle.model_values.specs.declared.state.Exchange.{Exchange}
use Rattle.model_values.specs.declared.state.Status.{Status}
use Rattle.model_values.specs.declared.state.Status.TheVariants.{Waiting, Leased, Ended}

-- its lease is on this connection, and isn't handed yet or is above the last stream
abbrev pub is_left_out : ConnNo → StreamNo → Status → Bool
is_left_out c last Waiting = false
is_left_out c last (Leased conn stream by handed) = conn.0 == c.0 && (not handed || nat_lt last.0 stream.0)
is_left_out c last (Ended how) = false

abbrev pub left_out : ConnNo → StreamNo → Exchange → Exchange
left_out c last e = if is_left_out c last e.status then moved e else e

abbrev pub after_goaway : AbstractPool → ConnNo → StreamNo → AbstractPool
after_goaway s conn last =
    record s { exchanges = map (left_out conn last) s.exchanges; connections = edit conn.0 (going_away s.latest conn s.exchanges last) s.connections }
