-- Which exchange may have a lease, and which a new connection. All of it is this project's own; RFC 9112, section 9.4,
-- asks for a limit on the connections to a server, and RFC 9113, section 9.1, for no second HTTP/2 connection to a host
-- and port.
use Rattle.std.specs.Prelude.{ℕ, ◌==◌, ◌&&◌, ◌||◌, ◌-◌, not, nat_lt, nat_le, min, Bool, false, Option, Some, None, if◌then◌else◌, length, count_by}
use Rattle.std.specs.List.{list_any, list_all}
use Rattle.net_base.specs.declared.numbers.ExchangeNo.{ExchangeNo}
use Rattle.net_base.specs.declared.target.Via.{Via}
use Rattle.net_base.specs.declared.target.Via.TheVariants as via
use Rattle.partition_keys.specs.Equality.{same_group}
use Rattle.partition_keys.specs.declared.group.GroupKey.{GroupKey}
use Rattle.model_settling.specs.Counts.{count_total, count_in_group, openings_of, background_leases, is_opening_in}
use Rattle.model_authority.specs.Statuses.{is_waiting, has_ended, is_open, is_h2, speaks_h2}
use Rattle.model_authority.specs.Ways.{group_of}
use Rattle.model_values.specs.declared.state.AbstractPool.{AbstractPool}
use Rattle.model_values.specs.declared.state.Connection.{Connection}
use Rattle.model_values.specs.declared.state.Exchange.{Exchange}
use Rattle.model_values.specs.declared.state.ProtoRow.{ProtoRow}
use Rattle.model_values.specs.Limits.{most_connections}

-- ---- eligible

-- it keeps nothing in the background waiting: it is in the background itself, or has ended
abbrev pub holds_nothing_back : Exchange → Bool
holds_nothing_back e = e.ask.background || has_ended e.status

-- no exchange that isn't background is without an end, or the background has leases to spare
unfoldable pub may_background_start : AbstractPool → Bool
may_background_start s = list_all holds_nothing_back s.exchanges || nat_lt (background_leases s) s.config.background

-- the exchange waits, and isn't held back in the background
unfoldable pub is_eligible : AbstractPool → Exchange → Bool
is_eligible s e = is_waiting e.status && (not e.ask.background || may_background_start s)

-- ---- room

abbrev pub is_h2_via : Via → Bool
is_h2_via via.Direct = false
is_h2_via (via.Alternative p) = is_h2 p

abbrev pub is_last_h2 : GroupKey → ProtoRow → Bool
is_last_h2 g row = same_group row.group g && is_h2 row.proto

-- the group goes to an HTTP/2 alternative, or its last connection spoke HTTP/2
unfoldable pub expects_h2 : AbstractPool → GroupKey → Bool
expects_h2 s g = is_h2_via g.target.via || list_any (is_last_h2 g) s.protos

abbrev pub is_open_h2_in : GroupKey → Connection → Bool
is_open_h2_in g c = is_open c.phase && speaks_h2 c && same_group c.group g

-- an HTTP/2 connection of the group is open
unfoldable pub has_open_h2 : AbstractPool → GroupKey → Bool
has_open_h2 s g = list_any (is_open_h2_in g) s.connections

abbrev pub is_number : ℕ → Option ExchangeNo → Bool
is_number number None = false
is_number number (Some e) = e.0 == number

abbrev pub is_opening_for : ℕ → GroupKey → Connection → Bool
is_opening_for number g c = is_number number c.wanted_for && is_opening_in g c

-- an opening of the group is for the exchange of this number
unfoldable pub has_opening_for : AbstractPool → ℕ → GroupKey → Bool
has_opening_for s number g = list_any (is_opening_for number g) s.connections

abbrev pub is_eligible_in : AbstractPool → GroupKey → Exchange → Bool
is_eligible_in s g e = is_eligible s e && same_group (group_of s e) g

-- the eligible exchanges of a group
unfoldable pub eligible_in : AbstractPool → GroupKey → ℕ
eligible_in s g = count_by (is_eligible_in s g) s.exchanges

-- the openings that the group may have
unfoldable pub openings_wanted : AbstractPool → GroupKey → ℕ
openings_wanted s g = if expects_h2 s g then 1 else eligible_in s g

-- one more connection may be made at all
abbrev pub has_numbers : AbstractPool → Bool
has_numbers s = nat_lt (length s.connections) most_connections

abbrev pub is_total_full : AbstractPool → Bool
is_total_full s = nat_le s.config.total (count_total s)

-- what the group allows: its limit, no open HTTP/2 connection, no opening for this exchange, and fewer openings than
-- are wanted
unfoldable pub has_room_in : AbstractPool → ℕ → GroupKey → Bool
has_room_in s number g =
    nat_lt (count_in_group s g) s.config.per_group
    && not (has_open_h2 s g)
    && not (has_opening_for s number g)
    && nat_lt (openings_of s g) (openings_wanted s g)

-- the exchange of this number might have a new connection were the total not full
unfoldable pub has_room_but_total : AbstractPool → ℕ → Exchange → Bool
has_room_but_total s number e = has_numbers s && has_room_in s number (group_of s e)

-- the exchange of this number may have a new connection
unfoldable pub has_room : AbstractPool → ℕ → Exchange → Bool
has_room s number e = not (is_total_full s) && has_room_but_total s number e

-- ---- opening ahead

-- how many connections of a group there is room for
unfoldable pub room_left : AbstractPool → GroupKey → ℕ
room_left s g = min (min (s.config.total - count_total s) (s.config.per_group - count_in_group s g)) (most_connections - length s.connections)

-- how many of the connections asked for are opened ahead: none beside an open HTTP/2 connection, and where HTTP/2 is
-- expected at most one
abbrev pub plan_of : ℕ → ℕ → Bool → ℕ → Bool → ℕ
plan_of count room expects openings open_h2 =
    if open_h2 then 0
    else if expects then min (min count room) (1 - openings)
    else min count room

unfoldable pub planned : AbstractPool → GroupKey → ℕ → ℕ
planned s g count = plan_of count (room_left s g) (expects_h2 s g) (openings_of s g) (has_open_h2 s g)
