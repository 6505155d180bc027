-- Sites are kept apart (Fetch Standard, connections, and network partition keys), and https is kept to those who may answer for it
-- (RFC 9110, sections 4.3.3 and 4.3.4).
use Rattle.std.specs.Prelude.{◌≡◌, ℕ, List, Option, Some, true}
use Rattle.net_base.specs.declared.identity.Identity.{Identity}
use Rattle.net_base.specs.declared.numbers.ConnNo.{ConnNo}
use Rattle.net_base.specs.declared.numbers.ExchangeNo.{ExchangeNo}
use Rattle.net_base.specs.declared.numbers.StreamNo.{StreamNo}
use Rattle.net_base.specs.declared.origin.Scheme.TheVariants.{Https}
use Rattle.peer_identity.specs.Covers.{Covers}
use Rattle.model_laws.specs.Courses.{state_at, Comes, OfBoth}
use Rattle.model_values.specs.declared.config.Config.{Config}
use Rattle.model_values.specs.declared.entry.Act.TheVariants.{Assign}
use Rattle.model_values.specs.declared.entry.Entry.{Entry}
use Rattle.model_values.specs.declared.entry.Way.{Way}
use Rattle.model_values.specs.declared.state.Connection.{Connection}
use Rattle.model_values.specs.declared.state.Exchange.{Exchange}

-- the other side has shown a secure identity that covers the host
pub record AnswersFor (host : List ℕ) (shown : Option Identity) : Type 0 where
  pub identity : Identity
  pub is_shown : shown ≡ Some identity
  pub secure : identity.secure ≡ true
  pub covers : Covers identity host

-- the connection was opened for the exchange's partition key and credentials, and for an https origin its other side answers
pub record IsKeptApart (exchange : Exchange) (connection : Connection) : Type 0 where
  pub key : connection.group.key ≡ exchange.ask.key
  pub credentials : connection.group.credentials ≡ exchange.ask.credentials
  pub authority : exchange.ask.request.origin.scheme ≡ Https → AnswersFor exchange.ask.request.origin.host connection.identity

-- at each Assign of a history
abbrev pub KeepsApart : Type 0
KeepsApart =
    (config : Config) (h : List Entry) (n : ℕ) (x : Entry) (e : ExchangeNo) (c : ConnNo) (r : StreamNo) (by : Way) →
    Comes config h n x → x.act ≡ Assign e c r by → OfBoth (state_at config h n) e c IsKeptApart
