-- How far an exchange and a connection are.
use Rattle.std.specs.Prelude.{◌==◌, ◌&&◌, ◌||◌, not, Bool, true, false, ℕ, Option, Some, None}
use Rattle.net_base.specs.declared.identity.Identity.{Identity}
use Rattle.net_base.specs.declared.numbers.ConnNo.{ConnNo}
use Rattle.net_base.specs.declared.numbers.StreamNo.{StreamNo}
use Rattle.net_base.specs.declared.target.Proto.{Proto}
use Rattle.net_base.specs.declared.target.Proto.TheVariants.{H1, H2}
use Rattle.model_values.specs.declared.entry.Way.{Way}
use Rattle.model_values.specs.declared.entry.Way.TheVariants as way
use Rattle.model_values.specs.declared.state.Status.{Status}
use Rattle.model_values.specs.declared.state.Status.TheVariants.{Waiting, Leased, Ended}
use Rattle.model_values.specs.declared.state.Phase.{Phase}
use Rattle.model_values.specs.declared.state.Phase.TheVariants.{Wanted, Dialing, Open, Draining, Closing, Gone}
use Rattle.model_values.specs.declared.state.Connection.{Connection}

abbrev pub is_waiting : Status → Bool
is_waiting Waiting = true
is_waiting (Leased conn stream way handed) = false
is_waiting (Ended outcome) = false

abbrev pub is_leased : Status → Bool
is_leased Waiting = false
is_leased (Leased conn stream way handed) = true
is_leased (Ended outcome) = false

abbrev pub has_ended : Status → Bool
has_ended Waiting = false
has_ended (Leased conn stream way handed) = false
has_ended (Ended outcome) = true

-- it has a lease on this connection
abbrev pub is_on : ConnNo → Status → Bool
is_on c Waiting = false
is_on c (Leased conn stream way handed) = conn.0 == c.0
is_on c (Ended outcome) = false

-- it has the lease on this stream of this connection
abbrev pub is_at : ConnNo → StreamNo → Status → Bool
is_at c r Waiting = false
is_at c r (Leased conn stream way handed) = conn.0 == c.0 && stream.0 == r.0
is_at c r (Ended outcome) = false

-- the same, and its start isn't handed yet
abbrev pub is_unsent_at : ConnNo → StreamNo → Status → Bool
is_unsent_at c r Waiting = false
is_unsent_at c r (Leased conn stream way handed) = conn.0 == c.0 && stream.0 == r.0 && not handed
is_unsent_at c r (Ended outcome) = false

abbrev pub is_handed : Status → Bool
is_handed Waiting = false
is_handed (Leased conn stream by handed) = handed
is_handed (Ended outcome) = false

abbrev pub is_coalesced_way : Way → Bool
is_coalesced_way way.Direct = false
is_coalesced_way way.Alternative = false
is_coalesced_way way.Coalesced = true

abbrev pub has_coalesced_lease : Status → Bool
has_coalesced_lease Waiting = false
has_coalesced_lease (Leased conn stream by handed) = is_coalesced_way by
has_coalesced_lease (Ended outcome) = false

-- the connection goes to an alternative or to another origin
abbrev pub is_elsewhere : Way → Bool
is_elsewhere way.Direct = false
is_elsewhere way.Alternative = true
is_elsewhere way.Coalesced = true

-- it has a lease, and the connection doesn't go to its origin itself
abbrev pub is_leased_elsewhere : Status → Bool
is_leased_elsewhere Waiting = false
is_leased_elsewhere (Leased conn stream by handed) = is_elsewhere by
is_leased_elsewhere (Ended outcome) = false

-- the phases of a connection in their order
abbrev pub stage_of : Phase → ℕ
stage_of Wanted = 0
stage_of Dialing = 1
stage_of Open = 2
stage_of Draining = 3
stage_of Closing = 4
stage_of Gone = 5

abbrev pub is_wanted : Phase → Bool
is_wanted p = stage_of p == stage_of Wanted

abbrev pub is_dialing : Phase → Bool
is_dialing p = stage_of p == stage_of Dialing

abbrev pub is_open : Phase → Bool
is_open p = stage_of p == stage_of Open

abbrev pub is_draining : Phase → Bool
is_draining p = stage_of p == stage_of Draining

abbrev pub is_closing : Phase → Bool
is_closing p = stage_of p == stage_of Closing

abbrev pub is_gone : Phase → Bool
is_gone p = stage_of p == stage_of Gone

-- only one that was opened becomes so
abbrev pub is_busy : Phase → Bool
is_busy p = is_open p || is_draining p || is_closing p

-- it isn't up yet
abbrev pub is_opening : Phase → Bool
is_opening p = is_wanted p || is_dialing p

abbrev pub is_h2 : Proto → Bool
is_h2 H1 = false
is_h2 H2 = true

-- the identity that was shown passes the test
abbrev pub shows : (Identity → Bool) → Option Identity → Bool
shows test None = false
shows test (Some id) = test id

-- its other side speaks HTTP/2
abbrev pub speaks_h2 : Connection → Bool
speaks_h2 c = shows (λ id. is_h2 id.proto) c.identity
