-- What the end of a stream does that brings no answer: it was refused, reset, given up since its answer is too large, or
-- closed.
use Rattle.std.specs.Prelude.{ℕ, if◌then◌else◌, map}
use Rattle.net_base.specs.declared.numbers.ConnNo.{ConnNo}
use Rattle.net_base.specs.declared.numbers.StreamNo.{StreamNo}
use Rattle.model_authority.specs.Lists.{edit}
use Rattle.model_authority.specs.Statuses.{is_at}
use Rattle.model_changes.specs.Connections.{without_stream, after_large_answer}
use Rattle.model_steps.specs.Exchanges.{ended_by, moved}
use Rattle.model_values.specs.declared.outcome.Outcome.{Outcome}
use Rattle.model_values.specs.declared.outcome.Outcome.TheVariants as outcome
use Rattle.model_values.specs.declared.state.AbstractPool.{AbstractPool}
use Rattle.model_values.specs.declared.state.Exchange.{Exchange}

-- the exchange that has the lease on this stream waits again
abbrev pub refused : ConnNo → StreamNo → Exchange → Exchange
refused conn r e = if is_at conn r e.status then moved e else e

-- the exchange that has the lease on this stream ends
abbrev pub ended_at : ConnNo → StreamNo → Outcome → Exchange → Exchange
ended_at conn r how e = if is_at conn r e.status then ended_by how e else e

-- RFC 9113, section 8.7: the peer refused the stream, so it did nothing for it
abbrev pub after_refused : AbstractPool → ConnNo → StreamNo → AbstractPool
after_refused s conn r = record s { exchanges = map (refused conn r) s.exchanges; connections = edit conn.0 (without_stream s.latest r) s.connections }

-- RFC 9113, section 6.4: the peer reset the stream. That a reset with REFUSED_STREAM is reported as that is its worker's duty
abbrev pub after_reset : AbstractPool → ConnNo → StreamNo → ℕ → AbstractPool
after_reset s conn r code =
    record s { exchanges = map (ended_at conn r (outcome.Reset code)) s.exchanges; connections = edit conn.0 (without_stream s.latest r) s.connections }

-- the answer is longer than what is kept
abbrev pub after_too_large : AbstractPool → ConnNo → StreamNo → AbstractPool
after_too_large s conn r =
    record s { exchanges = map (ended_at conn r outcome.TooLarge) s.exchanges; connections = edit conn.0 (after_large_answer s.latest r) s.connections }

-- the stream that was to be reset is closed: its exchange had ended before
abbrev pub after_stream_closed : AbstractPool → ConnNo → StreamNo → AbstractPool
after_stream_closed s conn r = record s { connections = edit conn.0 (without_stream s.latest r) s.connections }
