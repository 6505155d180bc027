-- Connections that are wanted: who dials one, and where it goes.
use Rattle.std.specs.Prelude.{◌≡◌, ◌≢◌, ◌<◌, ◌≤◌, ◌+◌, ◌⊎◌, ℕ, List, [], ◌∷◌, Bool, true, false, Option, Some, None, IsTrue, All, Contains, length, take}
use Rattle.net_base.specs.declared.numbers.CallerNo.{CallerNo}
use Rattle.net_base.specs.declared.numbers.ConnNo.{ConnNo}
use Rattle.net_base.specs.declared.numbers.ExchangeNo.{ExchangeNo}
use Rattle.net_base.specs.declared.numbers.Moment.{Moment}
use Rattle.net_base.specs.declared.origin.Origin.{Origin}
use Rattle.net_base.specs.declared.origin.Scheme.{Scheme}
use Rattle.net_base.specs.declared.origin.Scheme.TheVariants.{Http, Https}
use Rattle.net_base.specs.declared.target.Proto.TheVariants.{H2}
use Rattle.net_base.specs.declared.target.Target.{Target}
use Rattle.net_base.specs.declared.target.Via.TheVariants as via
use Rattle.partition_keys.specs.declared.alternative.Alternative.{Alternative}
use Rattle.partition_keys.specs.declared.group.GroupKey.{GroupKey}
use Rattle.partition_keys.specs.declared.key.PartitionKey.{PartitionKey}
use Rattle.model_laws.specs.Courses.{state_at, moment_at, Comes, OfExchange, OfConnection}
use Rattle.model_histories.specs.Histories.{IsHistory}
use Rattle.model_histories.specs.Reading.{is_about, targets_of}
use Rattle.model_values.specs.declared.config.Config.{Config}
use Rattle.model_values.specs.declared.entry.Act.{Act}
use Rattle.model_values.specs.declared.entry.Act.TheVariants.{Preconnect, Dial, Want}
use Rattle.model_values.specs.declared.entry.Entry.{Entry}
use Rattle.model_values.specs.declared.state.AbstractPool.{AbstractPool}
use Rattle.model_values.specs.declared.state.AltRow.{AltRow}
use Rattle.model_values.specs.declared.state.Connection.{Connection}
use Rattle.model_values.specs.declared.state.Exchange.{Exchange}
use Rattle.model_values.specs.declared.state.Phase.TheVariants.{Wanted}
use Rattle.model_authority.specs.Lists.{numbered}

-- ---- who dials a connection

-- none of these entries is about the connection
abbrev pub AreSilentOf : List Entry → ConnNo → Type 0
AreSilentOf h c = All (λ x. ¬ IsTrue (is_about c x.act)) h

-- at each state of a history no entry so far is about a connection that is wanted
abbrev pub WantedOnesAreUntouched : Type 0
WantedOnesAreUntouched =
    (config : Config) (h : List Entry) (n : ℕ) (c : ConnNo) (connection : Connection) → IsHistory config h →
    numbered c.0 (state_at config h n).connections ≡ Some connection → connection.phase ≡ Wanted → AreSilentOf (take n h) c

-- the connection is wanted, its group's target is this one, and no entry so far is about it
pub record IsToDial (before : List Entry) (c : ConnNo) (goes_to : Target) (connection : Connection) : Type 0 where
  pub phase : connection.phase ≡ Wanted
  pub target : goes_to ≡ connection.group.target
  pub untouched : AreSilentOf before c

-- at each Dial of a history
abbrev pub DialsAreFirst : Type 0
DialsAreFirst =
    (config : Config) (h : List Entry) (n : ℕ) (x : Entry) (c : ConnNo) (goes_to : Target) →
    Comes config h n x → x.act ≡ Dial c goes_to → OfConnection (state_at config h n) c (IsToDial (take n h) c goes_to)

-- in a history a connection is dialed at most once
abbrev pub ConnectionsAreDialedOnce : Type 0
ConnectionsAreDialedOnce = (config : Config) (h : List Entry) (c : ConnNo) → IsHistory config h → length (targets_of h c) ≤ 1

-- nowhere where no caller has it yet, and else to the target of its group, once
pub record IsDialedTo (targets : List Target) (connection : Connection) : Type 0 where
  pub none : connection.caller.0 ≡ 0 → targets ≡ []
  pub one : connection.caller.0 ≢ 0 → targets ≡ connection.group.target ∷ []

abbrev pub AreTargetsOf : List Target → Option Connection → Type 0
AreTargetsOf targets None = targets ≡ []
AreTargetsOf targets (Some connection) = IsDialedTo targets connection

-- at each state of a history, where a connection was dialed so far
abbrev pub TargetsAreOfGroups : Type 0
TargetsAreOfGroups =
    (config : Config) (h : List Entry) (n : ℕ) (c : ConnNo) → IsHistory config h → AreTargetsOf (targets_of (take n h) c) (numbered c.0 (state_at config h n).connections)

-- among these entries is one by which this caller dialed the connection
pub record WasDialed (h : List Entry) (c : ConnNo) (who : CallerNo) : Type 0 where
  pub entry : Entry
  pub is_entry : Contains h entry
  pub goes_to : Target
  pub dials : entry.act ≡ Dial c goes_to
  pub caller : entry.who ≡ who

-- in a history each entry about a connection is its Dial, or comes behind the Dial of the same caller
abbrev pub EntriesAreTheDialers : Type 0
EntriesAreTheDialers =
    (config : Config) (h : List Entry) (n : ℕ) (x : Entry) (c : ConnNo) →
    Comes config h n x → IsTrue (is_about c x.act) → ((goes_to : Target) × (x.act ≡ Dial c goes_to)) ⊎ WasDialed (take n h) c x.who

-- at each state of a history the caller that has a connection dialed it
abbrev pub CallersHaveDialed : Type 0
CallersHaveDialed =
    (config : Config) (h : List Entry) (n : ℕ) (c : ConnNo) (connection : Connection) → IsHistory config h →
    numbered c.0 (state_at config h n).connections ≡ Some connection → connection.caller.0 ≢ 0 → WasDialed (take n h) c connection.caller

-- ---- where it goes

abbrev pub IsSecuredFor : Scheme → Target → Type 0
IsSecuredFor Http t = t.secure ≡ false
IsSecuredFor Https t = t.secure ≡ true

-- RFC 9110, section 4.3: the origin itself, secured for https
pub record IsOriginItself (origin : Origin) (t : Target) : Type 0 where
  pub host : t.host ≡ origin.host
  pub port : t.port ≡ origin.port
  pub secured : IsSecuredFor origin.scheme t
  pub directly : t.via ≡ via.Direct

-- RFC 7838, section 2.1: this alternative, secured
pub record IsAlternativeItself (a : Alternative) (t : Target) : Type 0 where
  pub host : t.host ≡ a.host
  pub port : t.port ≡ a.port
  pub secured : t.secure ≡ true
  pub by_it : t.via ≡ via.Alternative a.proto

-- the alternative is noted for this origin in this partition
pub record IsNoted (rows : List AltRow) (key : PartitionKey) (origin : Origin) (a : Alternative) : Type 0 where
  pub row : AltRow
  pub is_row : Contains rows row
  pub of_key : row.key ≡ key
  pub of_origin : row.origin ≡ origin
  pub listed : Contains row.list a

-- RFC 8164, sections 2 and 2.1: the origin's http exchanges may go over it, since it has proven it by now, or one that asks for the proof.
-- That HTTP/2 alone is left is this project's own
pub record IsProven (now : Moment) (probes : Type 0) (a : Alternative) : Type 0 where
  pub h2 : a.proto ≡ H2
  pub proven : (now.0 < a.proven_until.0) ⊎ probes

-- RFC 7838, sections 2.2 and 2.4: to an alternative of the group's origin in its partition that hasn't expired by now and doesn't count as
-- broken, and for http is proven
pub record GoesToAlternative (rows : List AltRow) (now : Moment) (probes : Type 0) (g : GroupKey) : Type 0 where
  pub alternative : Alternative
  pub noted : IsNoted rows g.key g.origin alternative
  pub unexpired : now.0 < alternative.expires.0
  pub unbroken : alternative.broken_until.0 ≤ now.0
  pub proven : g.origin.scheme ≡ Http → IsProven now probes alternative
  pub target : IsAlternativeItself alternative g.target

abbrev pub GoesWhereItMay : List AltRow → Moment → Type 0 → GroupKey → Type 0
GoesWhereItMay rows now probes g = IsOriginItself g.origin g.target ⊎ GoesToAlternative rows now probes g

-- of a group of the exchange's partition key, credentials and origin, whose target it may have
pub record IsGroupFor (rows : List AltRow) (now : Moment) (g : GroupKey) (exchange : Exchange) : Type 0 where
  pub key : g.key ≡ exchange.ask.key
  pub credentials : g.credentials ≡ exchange.ask.credentials
  pub origin : g.origin ≡ exchange.ask.request.origin
  pub goes : GoesWhereItMay rows now (exchange.ask.probe ≡ true) g

-- the connection is wanted for this exchange
pub record IsFor (s : AbstractPool) (now : Moment) (e : ExchangeNo) (goes_to : Target) (connection : Connection) : Type 0 where
  pub phase : connection.phase ≡ Wanted
  pub wanted_for : connection.wanted_for ≡ Some e
  pub group : OfExchange s e (IsGroupFor s.alternatives now connection.group)
  pub target : goes_to ≡ connection.group.target

-- the connection is wanted ahead, for no exchange yet
pub record IsAhead (rows : List AltRow) (now : Moment) (of_key : PartitionKey) (with_credentials : Bool) (of_origin : Origin) (connection : Connection) : Type 0 where
  pub phase : connection.phase ≡ Wanted
  pub wanted_for : connection.wanted_for ≡ None
  pub key : connection.group.key ≡ of_key
  pub credentials : connection.group.credentials ≡ with_credentials
  pub origin : connection.group.origin ≡ of_origin
  pub goes : GoesWhereItMay rows now ⊥ connection.group

-- the connection of this number comes by a Want, or is opened ahead
abbrev pub IsWantedBy : AbstractPool → Moment → ℕ → Connection → Act → Type 0
IsWantedBy s now number connection (Want e c goes_to) = (c.0 ≡ number) × IsFor s now e goes_to connection
IsWantedBy s now number connection (Preconnect key credentials origin count reply) = IsAhead s.alternatives now key credentials origin connection
IsWantedBy s now number connection _ = ⊥

-- at each entry of a history behind which there is a connection that wasn't there before, by the alternatives before the entry and the
-- greatest moment with it
abbrev pub NewOnesGoWhereTheyMay : Type 0
NewOnesGoWhereTheyMay =
    (config : Config) (h : List Entry) (n : ℕ) (x : Entry) (number : ℕ) (connection : Connection) → Comes config h n x →
    numbered number (state_at config h n).connections ≡ None → numbered number (state_at config h (n + 1)).connections ≡ Some connection →
    IsWantedBy (state_at config h n) (moment_at h (n + 1)) number connection x.act
