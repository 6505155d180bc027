-- What it does that a connection is opened, and that one isn't of use for what it was dialed for.
use Rattle.std.specs.Prelude.{List, [], ◌∷◌, ◌++◌, ◌&&◌, not, Bool, Option, Some, None, is_some, if◌then◌else◌, filter}
use Rattle.net_base.specs.declared.identity.Identity.{Identity}
use Rattle.net_base.specs.declared.numbers.ConnNo.{ConnNo}
use Rattle.net_base.specs.declared.numbers.ExchangeNo.{ExchangeNo}
use Rattle.net_base.specs.declared.target.Proto.{Proto}
use Rattle.net_base.specs.declared.target.Via.{Via}
use Rattle.net_base.specs.declared.target.Via.TheVariants as via
use Rattle.partition_keys.specs.Equality.{same_group}
use Rattle.partition_keys.specs.declared.group.GroupKey.{GroupKey}
use Rattle.model_authority.specs.Lists.{numbered, edit}
use Rattle.model_changes.specs.Alternatives.{broken_alternatives}
use Rattle.model_changes.specs.Connections.{suits, after_opened}
use Rattle.model_steps.specs.Exchanges.{ended_if_waiting}
use Rattle.model_values.specs.declared.outcome.Outcome.{Outcome}
use Rattle.model_values.specs.declared.outcome.Outcome.TheVariants as outcome
use Rattle.model_values.specs.declared.state.AbstractPool.{AbstractPool}
use Rattle.model_values.specs.declared.state.Connection.{Connection}
use Rattle.model_values.specs.declared.state.Exchange.{Exchange}
use Rattle.model_values.specs.declared.state.ProtoRow.{ProtoRow}

abbrev pub with_proto : GroupKey → Proto → List ProtoRow → List ProtoRow
with_proto g p rows = filter (λ row. not (same_group row.group g)) rows ++ record { group = g; proto = p } ∷ []

abbrev pub ended_for : Option ExchangeNo → Outcome → List Exchange → List Exchange
ended_for None how es = es
ended_for (Some e) how es = edit e.0 (ended_if_waiting how) es

-- the dial that was meant for an alternative, or for the origin itself, is of no use
abbrev pub after_useless : AbstractPool → GroupKey → Option ExchangeNo → Outcome → Via → AbstractPool
after_useless s g wanted_for how via.Direct = record s { exchanges = ended_for wanted_for how s.exchanges }
after_useless s g wanted_for how (via.Alternative p) = record s { alternatives = broken_alternatives g.key g.origin g.target s.latest s.alternatives }

-- the identity isn't good for the group, and the pool isn't shut down
abbrev pub is_useless : AbstractPool → GroupKey → Identity → Bool
is_useless s g id = not (is_some s.shutdown) && not (suits g id)

abbrev pub after_identity_of : AbstractPool → ConnNo → GroupKey → Option ExchangeNo → Identity → AbstractPool
after_identity_of s conn g wanted_for id = if is_useless s g id then after_useless s g wanted_for (outcome.Identity conn) g.target.via else s

abbrev pub after_open_in : AbstractPool → ConnNo → GroupKey → Option ExchangeNo → Identity → AbstractPool
after_open_in s conn g wanted_for id =
    record (after_identity_of s conn g wanted_for id) {
      protos = with_proto g id.proto s.protos;
      connections = edit conn.0 (after_opened (is_some s.shutdown) s.latest id) s.connections;
    }

abbrev pub after_open_of : AbstractPool → ConnNo → Identity → Option Connection → AbstractPool
after_open_of s conn id None = s
after_open_of s conn id (Some c) = after_open_in s conn c.group c.wanted_for id

unfoldable pub after_open : AbstractPool → ConnNo → Identity → AbstractPool
after_open s conn id = after_open_of s conn id (numbered conn.0 s.connections)
