-- What becomes of an exchange.
use Rattle.std.specs.Prelude.{ℕ, List, ◌+◌, ◌==◌, ◌&&◌, nat_le, true, false, Option, Some, None, if◌then◌else◌}
use Rattle.std.specs.List.{list_any}
use Rattle.net_base.specs.declared.numbers.CallerNo.{CallerNo}
use Rattle.net_base.specs.declared.numbers.ConnNo.{ConnNo}
use Rattle.net_base.specs.declared.numbers.Moment.{Moment}
use Rattle.model_changes.specs.Connections.{is_start_of}
use Rattle.model_authority.specs.Statuses.{is_waiting, has_ended}
use Rattle.model_values.specs.declared.order.OrderMark.{OrderMark}
use Rattle.model_values.specs.declared.outcome.Outcome.{Outcome}
use Rattle.model_values.specs.declared.outcome.Outcome.TheVariants as outcome
use Rattle.model_values.specs.declared.state.Exchange.{Exchange}
use Rattle.model_values.specs.declared.state.Status.{Status}
use Rattle.model_values.specs.declared.state.Status.TheVariants.{Waiting, Leased, Ended}
use Rattle.model_values.specs.declared.submission.Submission.{Submission}
use Rattle.model_values.specs.Limits.{most_moves}

abbrev pub new_exchange : CallerNo → Submission → Exchange
new_exchange who ask = record { ask = ask; caller = who; moves = 0; retried = false; direct_only = false; status = Waiting }

abbrev pub with_status : Status → Exchange → Exchange
with_status status e = record e { status = status }

abbrev pub ended_by : Outcome → Exchange → Exchange
ended_by how e = record e { status = Ended how }

abbrev pub with_urgency : ℕ → Exchange → Exchange
with_urgency urgency e = record e { ask = record e.ask { urgency = urgency } }

abbrev pub timed_out_at : Option Moment → Exchange → Exchange
timed_out_at None e = e
timed_out_at (Some deadline) e = ended_by (outcome.TimedOut deadline) e

-- its deadline is its end
abbrev pub timed_out : Exchange → Exchange
timed_out e = timed_out_at e.ask.deadline e

-- it has no end before
abbrev pub ended_unless : Outcome → Exchange → Exchange
ended_unless how e = if has_ended e.status then e else ended_by how e

abbrev pub ended_if_waiting : Outcome → Exchange → Exchange
ended_if_waiting how e = if is_waiting e.status then ended_by how e else e

-- ---- moves

-- it waits again, once more. The sixth time it ends, which is this project's own
unfoldable pub moved : Exchange → Exchange
moved e = if nat_le most_moves e.moves then ended_by outcome.TooManyMoves e else record e { status = Waiting; moves = e.moves + 1 }

-- ---- orders

abbrev pub handed_lease : ConnNo → List OrderMark → Status → Status
handed_lease c orders Waiting = Waiting
handed_lease c orders (Leased conn r by handed) = if conn.0 == c.0 && list_any (is_start_of r) orders then Leased conn r by true else Leased conn r by handed
handed_lease c orders (Ended how) = Ended how

-- its start is handed where it is among the orders of its connection
abbrev pub handed_by : ConnNo → List OrderMark → Exchange → Exchange
handed_by c orders e = record e { status = handed_lease c orders e.status }
