-- The state that an entry leaves.
use Rattle.std.specs.Prelude.{ℕ, List, [], ◌∷◌, ◌++◌, ◌+◌, not, max, true, false, Option, Some, None, filter, map, replicate}
use Rattle.net_base.specs.declared.numbers.CallerNo.{CallerNo}
use Rattle.net_base.specs.declared.numbers.ConnNo.{ConnNo}
use Rattle.net_base.specs.declared.numbers.ExchangeNo.{ExchangeNo}
use Rattle.net_base.specs.declared.numbers.Moment.{Moment}
use Rattle.net_base.specs.declared.numbers.StreamNo.{StreamNo}
use Rattle.net_base.specs.declared.origin.Origin.{Origin}
use Rattle.net_base.specs.declared.target.Target.{Target}
use Rattle.partition_keys.specs.declared.alternative.AltUpdate.{AltUpdate}
use Rattle.partition_keys.specs.declared.group.GroupKey.{GroupKey}
use Rattle.partition_keys.specs.declared.key.PartitionKey.{PartitionKey}
use Rattle.model_changes.specs.Alternatives.{updated_alternatives, persistent_alternatives}
use Rattle.model_changes.specs.Connections.{closing, without_start, without_exchange, new_connection, dialing_by, with_start, with_taken, with_limit, after_shutdown, with_sent}
use Rattle.model_steps.specs.Exchanges.{new_exchange, with_status, ended_by, with_urgency, timed_out, ended_unless, handed_by}
use Rattle.model_steps.specs.Answered.{after_answered}
use Rattle.model_steps.specs.Goaway.{after_goaway}
use Rattle.model_steps.specs.Lost.{after_closed}
use Rattle.model_steps.specs.Opened.{after_open}
use Rattle.model_steps.specs.StreamEnds.{after_refused, after_reset, after_too_large, after_stream_closed}
use Rattle.model_authority.specs.Lists.{numbered, edit}
use Rattle.model_authority.specs.Ways.{group_for, is_host_row_of}
use Rattle.model_values.specs.declared.entry.Act.{Act}
use Rattle.model_values.specs.declared.entry.Act.TheVariants.{Submit, Cancel, Reprioritise, Preconnect, Resolved, Network, Tick, Shutdown, Dial, Orders, Reported, Closed, Expire, Lapse, Assign, Want, Evict}
use Rattle.model_values.specs.declared.entry.Entry.{Entry}
use Rattle.model_values.specs.declared.entry.Way.{Way}
use Rattle.model_values.specs.declared.order.OrderMark.{OrderMark}
use Rattle.model_values.specs.declared.outcome.Outcome.TheVariants as outcome
use Rattle.model_values.specs.declared.reply.CancelReply.{CancelReply}
use Rattle.model_values.specs.declared.reply.CancelReply.TheVariants as cancel
use Rattle.model_values.specs.declared.reply.ChangeReply.{ChangeReply}
use Rattle.model_values.specs.declared.reply.ChangeReply.TheVariants as change
use Rattle.model_values.specs.declared.reply.PreconnectReply.{PreconnectReply}
use Rattle.model_values.specs.declared.reply.PreconnectReply.TheVariants as preconnect
use Rattle.model_values.specs.declared.reply.ResolvedReply.{ResolvedReply}
use Rattle.model_values.specs.declared.reply.ResolvedReply.TheVariants as resolved
use Rattle.model_values.specs.declared.reply.ShutReply.{ShutReply}
use Rattle.model_values.specs.declared.reply.ShutReply.TheVariants as shut
use Rattle.model_values.specs.declared.reply.SubmitReply.{SubmitReply}
use Rattle.model_values.specs.declared.reply.SubmitReply.TheVariants as submit
use Rattle.model_values.specs.declared.report.Report.{Report}
use Rattle.model_values.specs.declared.report.Report.TheVariants as report
use Rattle.model_values.specs.declared.state.AbstractPool.{AbstractPool}
use Rattle.model_values.specs.declared.state.Connection.{Connection}
use Rattle.model_values.specs.declared.state.Exchange.{Exchange}
use Rattle.model_values.specs.declared.state.HostRow.{HostRow}
use Rattle.model_values.specs.declared.state.Status.{Status}
use Rattle.model_values.specs.declared.state.Status.TheVariants.{Waiting, Leased, Ended}
use Rattle.model_values.specs.declared.submission.Submission.{Submission}

-- the entry's moment is counted in the greatest moment so far, and the entry in the number of entries
unfoldable pub noted : AbstractPool → Moment → AbstractPool
noted s m = record s { latest = record { 0 = max s.latest.0 m.0 }; entries = s.entries + 1 }

-- ---- calls. A refused one changes nothing else

unfoldable pub after_submit : AbstractPool → CallerNo → Submission → SubmitReply → AbstractPool
after_submit s who ask (submit.Closed place) = s
after_submit s who ask submit.BadProbe = s
after_submit s who ask (submit.SubmissionsFull n) = s
after_submit s who ask (submit.Accepted e) = record s { exchanges = s.exchanges ++ new_exchange who ask ∷ [] }

abbrev pub released_lease : Moment → Status → List Connection → List Connection
released_lease now Waiting cs = cs
released_lease now (Leased c r by false) cs = edit c.0 (without_start now r) cs
released_lease now (Leased c r by true) cs = edit c.0 (without_exchange r) cs
released_lease now (Ended how) cs = cs

abbrev pub released_by : Moment → Option Exchange → List Connection → List Connection
released_by now None cs = cs
released_by now (Some e) cs = released_lease now e.status cs

-- the connections without the lease that the exchange of this number has
unfoldable pub released : AbstractPool → ExchangeNo → List Connection
released s e = released_by s.latest (numbered e.0 s.exchanges) s.connections

unfoldable pub after_cancel : AbstractPool → ExchangeNo → CancelReply → AbstractPool
after_cancel s e cancel.Unknown = s
after_cancel s e cancel.Ended = s
after_cancel s e cancel.Cancelled = record s { connections = released s e; exchanges = edit e.0 (ended_by outcome.Cancelled) s.exchanges }

unfoldable pub after_reprioritise : AbstractPool → ExchangeNo → ℕ → ChangeReply → AbstractPool
after_reprioritise s e urgency change.Unknown = s
after_reprioritise s e urgency change.Ended = s
after_reprioritise s e urgency change.Changed = record s { exchanges = edit e.0 (with_urgency urgency) s.exchanges }

unfoldable pub after_preconnect : AbstractPool → GroupKey → PreconnectReply → AbstractPool
after_preconnect s g (preconnect.Closed place) = s
after_preconnect s g (preconnect.NoRoom total in_group) = s
after_preconnect s g (preconnect.Opening k) = record s { connections = s.connections ++ replicate k (new_connection g None s.latest) }

abbrev pub other_hosts : PartitionKey → List ℕ → List HostRow → List HostRow
other_hosts key host rows = filter (λ row. not (is_host_row_of key host row)) rows

unfoldable pub after_resolved : AbstractPool → PartitionKey → List ℕ → List (List ℕ) → ResolvedReply → AbstractPool
after_resolved s key host addresses (resolved.Closed place) = s
after_resolved s key host addresses (resolved.TooMany n) = s
after_resolved s key host addresses resolved.Noted = record s { addresses = other_hosts key host s.addresses ++ record { key = key; host = host; list = addresses } ∷ [] }

unfoldable pub after_network : AbstractPool → AbstractPool
after_network s = record s { alternatives = persistent_alternatives s.alternatives; addresses = [] }

-- the place of this entry is the number of entries, itself included
unfoldable pub after_shut : AbstractPool → ShutReply → AbstractPool
after_shut s (shut.Closed place) = s
after_shut s shut.Noted = record s { exchanges = map (ended_unless outcome.PoolClosed) s.exchanges; connections = map after_shutdown s.connections; shutdown = Some s.entries }

unfoldable pub after_dial : AbstractPool → CallerNo → ConnNo → AbstractPool
after_dial s who c = record s { connections = edit c.0 (dialing_by who) s.connections }

unfoldable pub after_orders : AbstractPool → ConnNo → List OrderMark → AbstractPool
after_orders s c orders = record s { exchanges = map (handed_by c orders) s.exchanges; connections = edit c.0 (with_taken orders) s.connections }

-- ---- reports

-- RFC 7838, section 4: what an ALTSVC frame of this connection says of an origin
abbrev pub after_alt_seen : AbstractPool → Origin → AltUpdate → Option Connection → AbstractPool
after_alt_seen s origin alt None = s
after_alt_seen s origin alt (Some c) = record s { alternatives = updated_alternatives c.group.key origin alt s.alternatives }

abbrev pub after_report : AbstractPool → ConnNo → Report → AbstractPool
after_report s conn (report.Opened id) = after_open s conn id
after_report s conn (report.Limit n) = record s { connections = edit conn.0 (with_limit n) s.connections }
after_report s conn (report.Answered r response keep alt proof) = after_answered s conn r response keep alt proof
after_report s conn (report.Refused r) = after_refused s conn r
after_report s conn (report.Reset r code) = after_reset s conn r code
after_report s conn (report.TooLarge r) = after_too_large s conn r
after_report s conn (report.StreamClosed r) = after_stream_closed s conn r
after_report s conn (report.Goaway last) = after_goaway s conn last
after_report s conn (report.AltSeen origin alt) = after_alt_seen s origin alt (numbered conn.0 s.connections)

-- ---- what the pool does by itself

unfoldable pub after_expire : AbstractPool → ExchangeNo → AbstractPool
after_expire s e = record s { connections = released s e; exchanges = edit e.0 timed_out s.exchanges }

unfoldable pub after_lapse : AbstractPool → ExchangeNo → AbstractPool
after_lapse s e = record s { exchanges = edit e.0 (ended_by outcome.NoAlternative) s.exchanges }

unfoldable pub after_assign : AbstractPool → ExchangeNo → ConnNo → StreamNo → Way → AbstractPool
after_assign s e c r by =
    record s {
      exchanges = edit e.0 (with_status (Leased c r by false)) s.exchanges;
      connections = edit c.0 (with_start s.config.last_stream e r) s.connections;
    }

abbrev pub wanted_connection : Exchange → ExchangeNo → Target → Moment → Connection
wanted_connection exchange e t now = new_connection (record { key = exchange.ask.key; credentials = exchange.ask.credentials; origin = exchange.ask.request.origin; target = t }) (Some e) now

abbrev pub after_want_of : AbstractPool → ExchangeNo → Target → Option Exchange → AbstractPool
after_want_of s e t None = s
after_want_of s e t (Some exchange) = record s { connections = s.connections ++ wanted_connection exchange e t s.latest ∷ [] }

unfoldable pub after_want : AbstractPool → ExchangeNo → Target → AbstractPool
after_want s e t = after_want_of s e t (numbered e.0 s.exchanges)

unfoldable pub after_evict : AbstractPool → ConnNo → AbstractPool
after_evict s c = record s { connections = edit c.0 closing s.connections }

-- ---- any entry

-- the octets that the connection's link took so far
abbrev pub sent_noted : AbstractPool → ConnNo → ℕ → AbstractPool
sent_noted s c sent = record s { connections = edit c.0 (with_sent sent) s.connections }

abbrev pub after_act : AbstractPool → CallerNo → Act → AbstractPool
after_act s who (Submit ask reply) = after_submit s who ask reply
after_act s who (Cancel e reply) = after_cancel s e reply
after_act s who (Reprioritise e urgency reply) = after_reprioritise s e urgency reply
after_act s who (Preconnect key credentials origin count reply) = after_preconnect s (group_for s key credentials origin) reply
after_act s who (Resolved key host addresses reply) = after_resolved s key host addresses reply
after_act s who Network = after_network s
after_act s who Tick = s
after_act s who (Shutdown reply) = after_shut s reply
after_act s who (Dial c target) = after_dial s who c
after_act s who (Orders c sent orders) = after_orders (sent_noted s c sent) c orders
after_act s who (Reported c sent report) = after_report (sent_noted s c sent) c report
after_act s who (Closed c sent cause heard) = after_closed (sent_noted s c sent) c cause heard
after_act s who (Expire e) = after_expire s e
after_act s who (Lapse e) = after_lapse s e
after_act s who (Assign e c r by) = after_assign s e c r by
after_act s who (Want e c t) = after_want s e t
after_act s who (Evict c) = after_evict s c

-- the state that the entry leaves
unfoldable pub after : AbstractPool → Entry → AbstractPool
after s x = after_act (noted s x.moment) x.who x.act
