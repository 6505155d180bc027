-- What a worker holds by its own entries, and what the pool's state says of its connection.
use Rattle.std.specs.Prelude.{◌≡◌, ◌↔◌, ◌==◌, ◌&&◌, ◌||◌, ℕ, Bool, List, Option, Some, None, if◌then◌else◌, IsTrue, IsSomeAnd, All}
use Rattle.net_base.specs.declared.end_cause.EndCause.{EndCause}
use Rattle.net_base.specs.declared.numbers.CallerNo.{CallerNo}
use Rattle.net_base.specs.declared.numbers.ConnNo.{ConnNo}
use Rattle.model_histories.specs.Histories.{IsHistory, run}
use Rattle.model_histories.specs.Legal.{IsWorkersEntry, MayReportAt, MayCloseAt}
use Rattle.model_histories.specs.Port.{PortView, Held, held_from, MayWorkBy, MayReportBy, MayCloseBy}
use Rattle.model_histories.specs.Reading.{calls_of, is_about}
use Rattle.model_authority.specs.Lists.{numbered}
use Rattle.model_authority.specs.Statuses.{is_wanted, is_dialing, is_busy}
use Rattle.model_values.specs.declared.config.Config.{Config}
use Rattle.model_values.specs.declared.entry.Entry.{Entry}
use Rattle.model_values.specs.declared.report.Report.{Report}
use Rattle.model_values.specs.declared.state.AbstractPool.{AbstractPool}
use Rattle.model_values.specs.declared.state.Connection.{Connection}

-- the connection is this caller's, who dials it or has it open, draining or closing
abbrev pub works_on : CallerNo → Connection → Bool
works_on who c = c.caller.0 == who.0 && (is_dialing c.phase || is_busy c.phase)

-- what its worker holds of the connection
abbrev pub holding : Connection → Held
holding c = record { sent = c.sent; opened = is_busy c.phase; started = c.started }

abbrev pub held_of : CallerNo → Option Connection → Option Held
held_of who None = None
held_of who (Some c) = if works_on who c then Some (holding c) else None

-- what the caller holds of the connection of this number at this state
unfoldable pub held_in : AbstractPool → CallerNo → ConnNo → Option Held
held_in s who c = held_of who (numbered c.0 s.connections)

-- in each history, what a caller holds of a connection by its own entries alone is what the state says
abbrev pub HoldsAsStateSays : Type 0
HoldsAsStateSays = (config : Config) (h : List Entry) (who : CallerNo) (c : ConnNo) → IsHistory config h → held_from c None (calls_of h who) ≡ held_in (run config h) who c

-- ---- what a worker may say at a port

-- the connection is this caller's and was opened, and the octets sent don't fall
abbrev pub MayWorkAt : AbstractPool → CallerNo → ConnNo → ℕ → Type 0
MayWorkAt s who c sent = IsSomeAnd (numbered c.0 s.connections) (λ connection. IsWorkersEntry connection who sent × IsTrue (is_busy connection.phase))

-- in each history, what a caller may report by its own entries alone is what is legal for it at the state
abbrev pub ReportsAsStateSays : Type 0
ReportsAsStateSays = (v : PortView) (c : ConnNo) (sent : ℕ) (r : Report) → IsHistory v.config v.seen → MayReportBy v c sent r ↔ MayReportAt (run v.config v.seen) v.mine c sent r

-- and so is how it may give up a connection
abbrev pub EndsAsStateSays : Type 0
EndsAsStateSays = (v : PortView) (c : ConnNo) (sent : ℕ) (end : EndCause) → IsHistory v.config v.seen → MayCloseBy v c sent end ↔ MayCloseAt (run v.config v.seen) v.mine c sent end

-- it may ask for the orders of the connections that are its own and were opened
abbrev pub WorksAsStateSays : Type 0
WorksAsStateSays = (v : PortView) (c : ConnNo) (sent : ℕ) → IsHistory v.config v.seen → MayWorkBy v c sent ↔ MayWorkAt (run v.config v.seen) v.mine c sent

-- ---- connections that are to be dialed

-- in each history, no entry of a worker is about a connection that is wanted. So who is to dial it has said nothing of it
abbrev pub WantedAreUntouched : Type 0
WantedAreUntouched =
    (config : Config) (h : List Entry) (c : ConnNo) (connection : Connection) → IsHistory config h → numbered c.0 (run config h).connections ≡ Some connection → IsTrue (is_wanted connection.phase) →
    All (λ x. ¬ IsTrue (is_about c x.act)) h
