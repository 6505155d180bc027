-- What an answer does, to its exchange, to the connection and to the alternatives. Where the exchange was misdirected
-- (status 421) it waits again; else it ends with the answer (RFC 9110, section 15.5.20; RFC 7838, sections 3 and 6; RFC
-- 8164, section 2.3; RFC 9112, sections 9.3 and 9.6).
use Rattle.std.specs.Prelude.{List, ◌==◌, ◌&&◌, ◌||◌, Bool, Option, Some, None, if◌then◌else◌, find, map}
use Rattle.net_base.specs.declared.numbers.ConnNo.{ConnNo}
use Rattle.net_base.specs.declared.numbers.Moment.{Moment}
use Rattle.net_base.specs.declared.numbers.StreamNo.{StreamNo}
use Rattle.net_base.specs.declared.response.Response.{Response}
use Rattle.net_base.specs.declared.target.Target.{Target}
use Rattle.partition_keys.specs.declared.alternative.AltUpdate.{AltUpdate}
use Rattle.partition_keys.specs.declared.alternative.Proof.{Proof}
use Rattle.model_authority.specs.Lists.{numbered, edit}
use Rattle.model_authority.specs.Statuses.{is_at, is_leased_elsewhere, has_coalesced_lease}
use Rattle.model_changes.specs.Alternatives.{updated_alternatives, proven_alternatives, dropped_alternatives}
use Rattle.model_changes.specs.Connections.{after_answer, excluding}
use Rattle.model_steps.specs.Exchanges.{ended_by, moved}
use Rattle.model_values.specs.declared.outcome.Outcome.TheVariants as outcome
use Rattle.model_values.specs.declared.state.AbstractPool.{AbstractPool}
use Rattle.model_values.specs.declared.state.AltRow.{AltRow}
use Rattle.model_values.specs.declared.state.Connection.{Connection}
use Rattle.model_values.specs.declared.state.Exchange.{Exchange}

-- ---- its exchange

-- RFC 9110, section 15.5.20, and of an alternative RFC 7838, section 6, whatever the method is: the other side isn't the
-- authority for it, and the connection doesn't go to the exchange's origin itself. That a 421 from the origin itself is an
-- answer as any other is this project's own
abbrev pub is_misdirected : Response → Exchange → Bool
is_misdirected response e = response.status == 421 && is_leased_elsewhere e.status

-- where it was coalesced, it takes only connections to its origin itself from now on, which is this project's own
abbrev pub as_misdirected : Exchange → Exchange
as_misdirected e = record e { direct_only = e.direct_only || has_coalesced_lease e.status }

-- the exchange that has the lease on the stream: misdirected, it waits again, and else it ends with the answer
abbrev pub answered_lease : Response → Exchange → Exchange
answered_lease response e = if is_misdirected response e then moved (as_misdirected e) else ended_by (outcome.Answered response) e

abbrev pub answered : ConnNo → StreamNo → Response → Exchange → Exchange
answered conn r response e = if is_at conn r e.status then answered_lease response e else e

-- the exchange that has the lease on this stream
unfoldable pub lease_at : AbstractPool → ConnNo → StreamNo → Option Exchange
lease_at s conn r = find (λ e. is_at conn r e.status) s.exchanges

-- ---- its connection

-- it isn't coalesced again for the origin of an exchange that it misdirected, whatever the way was. That this holds for each
-- later exchange of that origin is this project's own
abbrev pub excluding_misdirected : Response → Option Exchange → Connection → Connection
excluding_misdirected response None c = c
excluding_misdirected response (Some e) c = if is_misdirected response e then excluding e.ask.request.origin c else c

-- the stream is no longer live, and where the connection isn't kept it closes
abbrev pub answered_connection : Moment → StreamNo → Response → Bool → Option Exchange → Connection → Connection
answered_connection now r response keep lease c = after_answer now r keep (excluding_misdirected response lease c)

-- ---- the alternatives

-- RFC 7838, section 6: an alternative that misdirected an exchange is none. A 421 over a coalesced connection says nothing of
-- the exchange's own alternatives
abbrev pub without_misdirecting : Exchange → Target → List AltRow → List AltRow
without_misdirecting e t rows = if has_coalesced_lease e.status then rows else dropped_alternatives e.ask.key e.ask.request.origin t rows

-- RFC 7838, section 3, and RFC 8164, section 2.3: an answer that ends its exchange sets the origin's list, and then its
-- proof counts. That a 421 from the origin itself brings neither (RFC 7838, section 6) is the duty of the worker that reports it
abbrev pub with_words_of : Exchange → Target → AltUpdate → Proof → List AltRow → List AltRow
with_words_of e t alt proof rows =
    proven_alternatives e.ask.key e.ask.request.origin t proof (updated_alternatives e.ask.key e.ask.request.origin alt rows)

abbrev pub answered_alternatives : Response → AltUpdate → Proof → Option Exchange → Option Connection → List AltRow → List AltRow
answered_alternatives response alt proof None conn rows = rows
answered_alternatives response alt proof (Some e) None rows = rows
answered_alternatives response alt proof (Some e) (Some c) rows =
    if is_misdirected response e then without_misdirecting e c.group.target rows else with_words_of e c.group.target alt proof rows

-- ---- an answer on this stream of this connection

unfoldable pub after_answered : AbstractPool → ConnNo → StreamNo → Response → Bool → AltUpdate → Proof → AbstractPool
after_answered s conn r response keep alt proof =
    record s {
      exchanges = map (answered conn r response) s.exchanges;
      connections = edit conn.0 (answered_connection s.latest r response keep (lease_at s conn r)) s.connections;
      alternatives = answered_alternatives response alt proof (lease_at s conn r) (numbered conn.0 s.connections) s.alternatives;
    }
