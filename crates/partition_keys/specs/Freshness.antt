-- When an alternative may be used.
use Rattle.std.specs.Prelude.{◌&&◌, Bool, nat_lt, nat_le}
use Rattle.net_base.specs.declared.numbers.Moment.{Moment}
use Rattle.partition_keys.specs.declared.alternative.Alternative.{Alternative}

-- RFC 7838, sections 2.2 and 2.4: before it expires, and not while it counts as broken
abbrev pub is_fresh : Alternative → Moment → Bool
is_fresh a m = nat_lt m.0 a.expires.0 && nat_le a.broken_until.0 m.0
