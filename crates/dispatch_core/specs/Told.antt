-- What the orders that are pending tell a connection, by the state.
use Rattle.std.specs.Prelude.{List, [], ◌∷◌, Option, Some, None}
use Rattle.net_base.specs.Dressing.{dressed_for}
use Rattle.net_base.specs.declared.numbers.ConnNo.{ConnNo}
use Rattle.net_base.specs.declared.numbers.ExchangeNo.{ExchangeNo}
use Rattle.net_base.specs.declared.numbers.StreamNo.{StreamNo}
use Rattle.model_authority.specs.Lists.{numbered}
use Rattle.model_values.specs.declared.order.Order.{Order}
use Rattle.model_values.specs.declared.order.Order.TheVariants as order
use Rattle.model_values.specs.declared.order.OrderMark.{OrderMark}
use Rattle.model_values.specs.declared.order.OrderMark.TheVariants as mark
use Rattle.model_values.specs.declared.state.AbstractPool.{AbstractPool}
use Rattle.model_values.specs.declared.state.Connection.{Connection}
use Rattle.model_values.specs.declared.state.Exchange.{Exchange}

abbrev pub start_over : ExchangeNo → StreamNo → Exchange → Option Connection → List Order
start_over e r exchange None = []
start_over e r exchange (Some connection) = order.Start e r (dressed_for exchange.ask.request connection.group.target) exchange.ask.probe ∷ []

abbrev pub start_for : ExchangeNo → StreamNo → Option Exchange → Option Connection → List Order
start_for e r None connection = []
start_for e r (Some exchange) connection = start_over e r exchange connection

-- a start sends its exchange's request, dressed for the target of the connection's group (RFC 7838, section 5)
abbrev pub told_at : AbstractPool → ConnNo → OrderMark → List Order
told_at s c (mark.Start e r) = start_for e r (numbered e.0 s.exchanges) (numbered c.0 s.connections)
told_at s c (mark.Reset r) = order.Reset r ∷ []
told_at s c mark.Close = order.Close ∷ []
