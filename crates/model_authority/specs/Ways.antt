-- Which target an exchange has, and which connection it may use by which right.
use Rattle.std.specs.Prelude.{ℕ, List, [], ◌==◌, ◌&&◌, ◌||◌, not, nat_lt, nat_le, min, Bool, true, false, Option, Some, None, if◌then◌else◌, IsTrue, find, length}
use Rattle.std.specs.List.{list_any}
use Rattle.std.specs.Str.{bytes_eq}
use Rattle.net_base.specs.Equality.{same_bool, same_origin, same_target, same_proto}
use Rattle.net_base.specs.declared.identity.Identity.{Identity}
use Rattle.net_base.specs.declared.numbers.Moment.{Moment}
use Rattle.net_base.specs.declared.origin.Origin.{Origin}
use Rattle.net_base.specs.declared.origin.Scheme.{Scheme}
use Rattle.net_base.specs.declared.origin.Scheme.TheVariants.{Http, Https}
use Rattle.net_base.specs.declared.target.Target.{Target}
use Rattle.net_base.specs.declared.target.Via.TheVariants as via
use Rattle.partition_keys.specs.Equality.{same_key}
use Rattle.partition_keys.specs.Freshness.{is_fresh}
use Rattle.partition_keys.specs.declared.alternative.Alternative.{Alternative}
use Rattle.partition_keys.specs.declared.group.GroupKey.{GroupKey}
use Rattle.partition_keys.specs.declared.key.PartitionKey.{PartitionKey}
use Rattle.peer_identity.specs.Covers.{is_covered}
use Rattle.model_authority.specs.Statuses.{is_open, is_h2, shows, speaks_h2}
use Rattle.model_values.specs.declared.config.Config.{Config}
use Rattle.model_values.specs.declared.entry.Way.{Way}
use Rattle.model_values.specs.declared.entry.Way.TheVariants as way
use Rattle.model_values.specs.declared.state.AbstractPool.{AbstractPool}
use Rattle.model_values.specs.declared.state.AltRow.{AltRow}
use Rattle.model_values.specs.declared.state.Connection.{Connection}
use Rattle.model_values.specs.declared.state.Exchange.{Exchange}
use Rattle.model_values.specs.declared.state.HostRow.{HostRow}

abbrev pub is_https : Scheme → Bool
is_https Http = false
is_https Https = true

-- ---- targets

-- RFC 9110, section 4.3: the origin itself, secured for https
abbrev pub origin_target : Origin → Target
origin_target o = record { host = o.host; port = o.port; secure = is_https o.scheme; via = via.Direct }

-- RFC 7838, section 2.1: an alternative, which is always secured here
abbrev pub alternative_target : Alternative → Target
alternative_target a = record { host = a.host; port = a.port; secure = true; via = via.Alternative a.proto }

abbrev pub list_of : Option AltRow → List Alternative
list_of None = []
list_of (Some row) = row.list

-- the alternatives of this origin in this partition
abbrev pub is_row_of : PartitionKey → Origin → AltRow → Bool
is_row_of key origin row = same_key row.key key && same_origin row.origin origin

-- RFC 7838, section 3: the alternatives of an origin, in the order in which the server listed them. That they are kept
-- by partition is this project's own
unfoldable pub alternatives_of : AbstractPool → PartitionKey → Origin → List Alternative
alternatives_of s key origin = list_of (find (is_row_of key origin) s.alternatives)

-- RFC 8164, sections 2 and 2.1: no http exchange goes over an HTTP/1.1 alternative, nor, unless it probes, over
-- one that its origin hasn't proven. That HTTP/2 alone is left is this project's own
abbrev pub is_opportune : Moment → Bool → Alternative → Bool
is_opportune now probe a = is_h2 a.proto && (nat_lt now.0 a.proven_until.0 || probe)

-- whether an exchange of this origin may go over this alternative
abbrev pub may_take : Moment → Origin → Bool → Alternative → Bool
may_take now origin probe a = is_fresh a now && (is_https origin.scheme || is_opportune now probe a)

-- the first alternative, in the server's order, that an exchange of this origin may go over
unfoldable pub chosen_alternative : AbstractPool → PartitionKey → Origin → Bool → Option Alternative
chosen_alternative s key origin probe = find (may_take s.latest origin probe) (alternatives_of s key origin)

abbrev pub target_by : Origin → Option Alternative → Target
target_by origin None = origin_target origin
target_by origin (Some a) = alternative_target a

-- RFC 7838, section 2.4: where an exchange of this origin is to go
unfoldable pub target_for : AbstractPool → PartitionKey → Origin → Bool → Target
target_for s key origin probe = target_by origin (chosen_alternative s key origin probe)

-- where the exchange is to go. One that takes only connections to its origin itself goes there
unfoldable pub target_of : AbstractPool → Exchange → Target
target_of s e =
    if e.direct_only then origin_target e.ask.request.origin
    else target_for s e.ask.key e.ask.request.origin e.ask.probe

-- the group of an exchange, for which connections are opened and counted: this project's own
unfoldable pub group_of : AbstractPool → Exchange → GroupKey
group_of s e = record { key = e.ask.key; credentials = e.ask.credentials; origin = e.ask.request.origin; target = target_of s e }

-- the group of an exchange of this origin that is no probe
unfoldable pub group_for : AbstractPool → PartitionKey → Bool → Origin → GroupKey
group_for s key credentials origin = record { key = key; credentials = credentials; origin = origin; target = target_for s key origin false }

-- ---- ways

-- RFC 9110, section 4.3.4: the connection is secured, and its other side is the authority for the host
unfoldable pub is_secured_for : List ℕ → Identity → Bool
is_secured_for host id = id.secure && is_covered id host

-- Fetch Standard, connections: the partition keys and the credentials are equal
unfoldable pub shares_partition : Exchange → Connection → Bool
shares_partition e c = same_key c.group.key e.ask.key && same_bool c.group.credentials e.ask.credentials

-- RFC 9110, section 4.3: the connection goes to the exchange's origin itself, and for https its other side is the authority
unfoldable pub is_direct : Exchange → Connection → Bool
is_direct e c =
    same_target c.group.target (origin_target e.ask.request.origin)
    && (not (is_https e.ask.request.origin.scheme) || shows (is_secured_for e.ask.request.origin.host) c.identity)

-- RFC 7838, sections 2.4 and 2.1: the identity speaks the alternative's protocol, and is the authority for the origin's
-- host
abbrev pub is_strong_for : Alternative → List ℕ → Identity → Bool
is_strong_for a host id = same_proto id.proto a.proto && is_secured_for host id

-- RFC 8164, section 2.2: both origins are https; or both are the same http origin, for which the alternative is
-- opportune
abbrev pub may_share_alternative : Moment → Exchange → Connection → Alternative → Bool
may_share_alternative now e c a =
    (is_https c.group.origin.scheme && is_https e.ask.request.origin.scheme)
    || (not (is_https e.ask.request.origin.scheme) && same_origin c.group.origin e.ask.request.origin && is_opportune now e.ask.probe a)

-- the connection goes to this alternative, over which the exchange may go
abbrev pub goes_over : Moment → Exchange → Connection → Alternative → Bool
goes_over now e c a =
    is_fresh a now
    && same_target c.group.target (alternative_target a)
    && shows (is_strong_for a e.ask.request.origin.host) c.identity
    && may_share_alternative now e c a

-- RFC 7838, section 2.4: the connection goes to a fresh alternative of the exchange's origin in its partition. By section
-- 2.2 an open connection may be used on when the alternative isn't fresh; that it isn't then is this project's own
unfoldable pub is_alternative : AbstractPool → Exchange → Connection → Bool
is_alternative s e c = list_any (goes_over s.latest e c) (alternatives_of s e.ask.key e.ask.request.origin)

abbrev pub is_host_row_of : PartitionKey → List ℕ → HostRow → Bool
is_host_row_of key host row = same_key row.key key && bytes_eq row.host host

abbrev pub addresses_in : Option HostRow → List (List ℕ)
addresses_in None = []
addresses_in (Some row) = row.list

-- the addresses that were noted for a host in a partition
unfoldable pub addresses_of : AbstractPool → PartitionKey → List ℕ → List (List ℕ)
addresses_of s key host = addresses_in (find (is_host_row_of key host) s.addresses)

-- RFC 9113, section 9.1.1, and RFC 9110, section 4.3.3: HTTP/2, with the authority for the host, at an address of the
-- host
abbrev pub may_serve : AbstractPool → Exchange → Identity → Bool
may_serve s e id =
    is_h2 id.proto && is_secured_for e.ask.request.origin.host id
    && list_any (λ a. bytes_eq a id.address) (addresses_of s e.ask.key e.ask.request.origin.host)

-- RFC 9113, section 9.1.1, and RFC 9110, section 4.3.3: the connection was opened for an https origin, its target's
-- port is this origin's port (this project's own), its address is one of this host's, its other side is the authority
-- for this host too, and it didn't say that it is not (RFC 9110, section 15.5.20)
unfoldable pub is_coalesced : AbstractPool → Exchange → Connection → Bool
is_coalesced s e c =
    is_https e.ask.request.origin.scheme && is_https c.group.origin.scheme
    && c.group.target.port == e.ask.request.origin.port
    && shows (may_serve s e) c.identity
    && not (list_any (λ o. same_origin o e.ask.request.origin) c.excluded)

-- a probe asks an alternative alone
abbrev pub may_go_directly : Exchange → Connection → Bool
may_go_directly e c = not e.ask.probe && is_direct e c

abbrev pub may_go_by_alternative : AbstractPool → Exchange → Connection → Bool
may_go_by_alternative s e c = not e.direct_only && is_alternative s e c

abbrev pub may_coalesce : AbstractPool → Exchange → Connection → Bool
may_coalesce s e c = not e.ask.probe && not e.direct_only && is_coalesced s e c

-- the exchange may use the connection in some way
unfoldable pub has_way : AbstractPool → Exchange → Connection → Bool
has_way s e c = shares_partition e c && (may_go_directly e c || may_go_by_alternative s e c || may_coalesce s e c)

-- this way holds, and none before it does
abbrev pub IsFirstWay : AbstractPool → Exchange → Connection → Way → Type 0
IsFirstWay s e c way.Direct = IsTrue (may_go_directly e c)
IsFirstWay s e c way.Alternative = (¬ IsTrue (may_go_directly e c)) × IsTrue (may_go_by_alternative s e c)
IsFirstWay s e c way.Coalesced = (¬ IsTrue (may_go_directly e c)) × (¬ IsTrue (may_go_by_alternative s e c)) × IsTrue (may_coalesce s e c)

-- the exchange may use the connection in this way (Fetch Standard, connections; RFC 9110, section 4.3)
pub record HasAuthority (s : AbstractPool) (e : Exchange) (c : Connection) (by : Way) : Type 0 where
  pub shares : IsTrue (shares_partition e c)
  pub first : IsFirstWay s e c by

-- the way in which the exchange may use the connection, as a function
unfoldable pub way_of : AbstractPool → Exchange → Connection → Option Way
way_of s e c =
    if shares_partition e c
    then (if may_go_directly e c then Some way.Direct
    else if may_go_by_alternative s e c then Some way.Alternative
    else if may_coalesce s e c then Some way.Coalesced
    else None)
    else None

-- ---- capacity

-- RFC 9113, section 5.1.2: fewer live streams than the peer allows, and than the pool's own limit; HTTP/1.1 carries one
-- exchange at a time
abbrev pub has_free_place : Config → Connection → Bool
has_free_place config c = if speaks_h2 c then nat_lt (length c.live) (min config.streams c.peer_limit) else length c.live == 0

-- the connection may carry one exchange more, and has a number for its stream
unfoldable pub has_capacity : Config → Connection → Bool
has_capacity config c = nat_le c.next_stream config.last_stream && has_free_place config c

-- the connection is open, there is capacity, and some way holds
unfoldable pub is_usable : AbstractPool → Exchange → Connection → Bool
is_usable s e c = is_open c.phase && has_capacity s.config c && has_way s e c
