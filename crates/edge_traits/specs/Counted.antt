-- One more of what is counted.
use Rattle.std.specs.Prelude.{ℕ, ◌==◌, if◌then◌else◌}
use Rattle.edge_traits.specs.Counts.{Counts, count_sum}

-- the number of the call that comes, after so many
abbrev pub next_call : ℕ → ℕ
next_call calls = count_sum calls 1

abbrev pub one_fault : Counts → Counts
one_fault c = record c { faults = count_sum c.faults 1 }

abbrev pub one_read_quiet : Counts → Counts
one_read_quiet c = record c { read_quiets = count_sum c.read_quiets 1 }

abbrev pub one_end : Counts → Counts
one_end c = record c { ends = count_sum c.ends 1 }

-- the count of ends after n octets were got: none of them are an end
abbrev pub ends_after : ℕ → ℕ → ℕ
ends_after ends n = (if n == 0 then count_sum ends 1 else ends)
