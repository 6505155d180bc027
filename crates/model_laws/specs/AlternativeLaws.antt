-- Alternative services (RFC 7838) and opportunistic security (RFC 8164).
use Rattle.std.specs.Prelude.{◌≡◌, ◌<◌, ◌≤◌, ◌⊎◌, ℕ, List, true, IsTrue, Contains, length}
use Rattle.net_base.specs.declared.numbers.ConnNo.{ConnNo}
use Rattle.net_base.specs.declared.numbers.ExchangeNo.{ExchangeNo}
use Rattle.net_base.specs.declared.numbers.Moment.{Moment}
use Rattle.net_base.specs.declared.numbers.StreamNo.{StreamNo}
use Rattle.net_base.specs.declared.origin.Origin.{Origin}
use Rattle.net_base.specs.declared.origin.Scheme.TheVariants.{Http, Https}
use Rattle.net_base.specs.declared.target.Proto.TheVariants.{H2}
use Rattle.partition_keys.specs.Freshness.{is_fresh}
use Rattle.partition_keys.specs.declared.alternative.Alternative.{Alternative}
use Rattle.model_laws.specs.ApartLaws.{AnswersFor}
use Rattle.model_laws.specs.Courses.{state_at, moment_at, Comes, OfBoth}
use Rattle.model_histories.specs.Histories.{IsHistory}
use Rattle.model_values.specs.declared.config.Config.{Config}
use Rattle.model_values.specs.declared.entry.Act.TheVariants.{Assign}
use Rattle.model_values.specs.declared.entry.Entry.{Entry}
use Rattle.model_values.specs.declared.entry.Way.TheVariants as way
use Rattle.model_values.specs.declared.state.AbstractPool.{AbstractPool}
use Rattle.model_values.specs.declared.state.Connection.{Connection}
use Rattle.model_values.specs.declared.state.Exchange.{Exchange}
use Rattle.model_authority.specs.Ways.{alternatives_of, alternative_target}
use Rattle.model_values.specs.Limits.{most_origins}

-- RFC 8164, sections 2 and 2.1: over this alternative http may go, to a server that has proven it, or for the proof itself. That
-- HTTP/2 alone is left is this project's own
pub record IsOpportune (now : Moment) (exchange : Exchange) (a : Alternative) : Type 0 where
  pub h2 : a.proto ≡ H2
  pub proven : (now.0 < a.proven_until.0) ⊎ (exchange.ask.probe ≡ true)

-- RFC 8164, section 2.2: the connection was opened for https and the exchange's origin is https, or it was opened for this very http
-- origin
abbrev pub MayShare : Origin → Origin → Type 0
MayShare opened_for own = ((opened_for.scheme ≡ Https) × (own.scheme ≡ Https)) ⊎ ((own.scheme ≡ Http) × (opened_for ≡ own))

-- the connection goes to an alternative of the exchange's origin that is fresh at this moment (RFC 7838, sections 2.2 and 2.4; that an
-- open connection isn't used on afterwards is this project's own), speaks its protocol and answers for the origin's host (RFC 7838,
-- sections 2.1 and 2.4; RFC 8164, section 2.1), was opened for an origin with which this one may share it, and for http is opportune
pub record GoesToFreshAlternative (s : AbstractPool) (now : Moment) (exchange : Exchange) (connection : Connection) : Type 0 where
  pub alternative : Alternative
  pub is_one : Contains (alternatives_of s exchange.ask.key exchange.ask.request.origin) alternative
  pub fresh : IsTrue (is_fresh alternative now)
  pub target : connection.group.target ≡ alternative_target alternative
  pub authority : AnswersFor exchange.ask.request.origin.host connection.identity
  pub protocol : authority.identity.proto ≡ alternative.proto
  pub shares : MayShare connection.group.origin exchange.ask.request.origin
  pub opportune : exchange.ask.request.origin.scheme ≡ Http → IsOpportune now exchange alternative

-- at each Assign of a history by the alternative way, at the greatest moment so far
abbrev pub AlternativesAreFresh : Type 0
AlternativesAreFresh =
    (config : Config) (h : List Entry) (n : ℕ) (x : Entry) (e : ExchangeNo) (c : ConnNo) (r : StreamNo) →
    Comes config h n x → x.act ≡ Assign e c r way.Alternative → OfBoth (state_at config h n) e c (GoesToFreshAlternative (state_at config h n) (moment_at h n))

-- at each state of a history there are rows of alternatives for at most `most_origins` pairs of a partition key and an origin. The number is
-- this project's own
abbrev pub AlternativesAreFew : Type 0
AlternativesAreFew = (config : Config) (h : List Entry) (n : ℕ) → IsHistory config h → length (state_at config h n).alternatives ≤ most_origins
