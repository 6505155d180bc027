-- What is counted in the abstract pool: each count is how many items of a list pass a test.
use Rattle.std.specs.Prelude.{ℕ, ◌&&◌, not, Bool, count_by}
use Rattle.partition_keys.specs.Equality.{same_group}
use Rattle.partition_keys.specs.declared.group.GroupKey.{GroupKey}
use Rattle.model_authority.specs.Statuses.{is_gone, is_opening, is_leased}
use Rattle.model_values.specs.declared.state.AbstractPool.{AbstractPool}
use Rattle.model_values.specs.declared.state.Connection.{Connection}
use Rattle.model_values.specs.declared.state.Exchange.{Exchange}

abbrev pub is_present : Connection → Bool
is_present c = not (is_gone c.phase)

abbrev pub is_present_in : GroupKey → Connection → Bool
is_present_in g c = is_present c && same_group c.group g

abbrev pub is_opening_in : GroupKey → Connection → Bool
is_opening_in g c = is_opening c.phase && same_group c.group g

abbrev pub is_background_lease : Exchange → Bool
is_background_lease e = e.ask.background && is_leased e.status

-- the connections that aren't gone
unfoldable pub count_total : AbstractPool → ℕ
count_total s = count_by is_present s.connections

-- the connections of a group that aren't gone
unfoldable pub count_in_group : AbstractPool → GroupKey → ℕ
count_in_group s g = count_by (is_present_in g) s.connections

-- the connections of a group that aren't up yet
unfoldable pub openings_of : AbstractPool → GroupKey → ℕ
openings_of s g = count_by (is_opening_in g) s.connections

-- the exchanges in the background that have a lease
unfoldable pub background_leases : AbstractPool → ℕ
background_leases s = count_by is_background_lease s.exchanges
