-- What the end of a connection does to the exchanges with a lease on it (RFC 9110, section 9.2.2; RFC 9112, section 9.3.1), and
-- a dial that failed to what it was meant for.
use Rattle.std.specs.Prelude.{List, ◌&&◌, ◌||◌, not, Bool, true, false, Option, Some, None, if◌then◌else◌, map}
use Rattle.std.specs.List.{list_any}
use Rattle.net_base.specs.Methods.{is_idempotent_method}
use Rattle.net_base.specs.declared.end_cause.EndCause.{EndCause}
use Rattle.net_base.specs.declared.end_cause.EndCause.TheVariants as cause
use Rattle.net_base.specs.declared.numbers.ConnNo.{ConnNo}
use Rattle.net_base.specs.declared.numbers.StreamNo.{StreamNo}
use Rattle.model_authority.specs.Lists.{numbered, edit}
use Rattle.model_authority.specs.Statuses.{is_on, is_handed}
use Rattle.model_changes.specs.Connections.{is_stream, gone}
use Rattle.model_steps.specs.Exchanges.{ended_by, moved}
use Rattle.model_steps.specs.Opened.{after_useless}
use Rattle.model_values.specs.declared.outcome.Outcome.TheVariants as outcome
use Rattle.model_values.specs.declared.state.AbstractPool.{AbstractPool}
use Rattle.model_values.specs.declared.state.Connection.{Connection}
use Rattle.model_values.specs.declared.state.Exchange.{Exchange}
use Rattle.model_values.specs.declared.state.Status.{Status}
use Rattle.model_values.specs.declared.state.Status.TheVariants.{Waiting, Leased, Ended}

-- RFC 9110, section 9.2.2, and for HTTP/1.1 RFC 9112, section 9.3.1: by its worker's word nothing was heard, the method is
-- idempotent, and it is the first time. The standards leave more to the client
abbrev pub may_retry : Exchange → StreamNo → List StreamNo → Bool
may_retry e stream heard = not (list_any (is_stream stream) heard) && is_idempotent_method e.ask.request.method && not e.retried

-- it wasn't handed, so it was never applied (RFC 9110, section 9.2.2), or it may be sent again
abbrev pub may_be_sent : Exchange → List StreamNo → Status → Bool
may_be_sent e heard Waiting = false
may_be_sent e heard (Leased conn stream by handed) = not handed || may_retry e stream heard
may_be_sent e heard (Ended how) = false

-- RFC 9110, section 9.2.2: one that may have been sent is retried once
abbrev pub as_retried : Exchange → Exchange
as_retried e = record e { retried = e.retried || is_handed e.status }

-- the exchange that has a lease on the connection: it waits again, or is lost
abbrev pub lost_lease : ConnNo → EndCause → List StreamNo → Exchange → Exchange
lost_lease conn cause heard e = if may_be_sent e heard e.status then moved (as_retried e) else ended_by (outcome.Lost conn cause) e

abbrev pub lost : ConnNo → EndCause → List StreamNo → Exchange → Exchange
lost conn cause heard e = if is_on conn e.status then lost_lease conn cause heard e else e

-- the leases of a connection that is gone
abbrev pub after_lost : AbstractPool → ConnNo → EndCause → List StreamNo → AbstractPool
after_lost s conn cause heard = record s { exchanges = map (lost conn cause heard) s.exchanges; connections = edit conn.0 gone s.connections }

-- ---- a dial that failed

abbrev pub is_dial_failed : EndCause → Bool
is_dial_failed cause.DialFailed = true
is_dial_failed cause.End = false
is_dial_failed cause.LinkFault = false
is_dial_failed (cause.Broken code place) = false
is_dial_failed cause.Done = false

abbrev pub after_failed_dial : AbstractPool → ConnNo → Option Connection → AbstractPool
after_failed_dial s conn None = s
after_failed_dial s conn (Some c) = after_useless s c.group c.wanted_for (outcome.DialFault conn) c.group.target.via

-- ---- the end of a connection. What it was dialed for is no use where the dial failed

unfoldable pub after_closed : AbstractPool → ConnNo → EndCause → List StreamNo → AbstractPool
after_closed s conn cause heard =
    if is_dial_failed cause
    then after_failed_dial (after_lost s conn cause heard) conn (numbered conn.0 s.connections)
    else after_lost s conn cause heard
