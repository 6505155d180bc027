-- Counts of what an object of the outside answered. Each is a number that never falls and stays at its last value,
-- 18446744073709551615, once it is there.
use Rattle.std.specs.Prelude.{ℕ, ◌+◌, ◌≤◌, min}

-- the count rose, or stands at its last value
abbrev pub Rose : ℕ → ℕ → Type 0
Rose before after = min (before + 1) 18446744073709551615 ≤ after

-- the sum of two counts, which stays at the last value
abbrev pub count_sum : ℕ → ℕ → ℕ
count_sum a b = min (a + b) 18446744073709551615

-- what a link, or a dialer over all its links, counts: failed calls, quiet reads, quiet writes, and ends
pub record Counts : Type 0 where
  pub faults : ℕ
  pub read_quiets : ℕ
  pub write_quiets : ℕ
  pub ends : ℕ

-- none of the counts fell
pub record NoneFell (before after : Counts) : Type 0 where
  pub faults : before.faults ≤ after.faults
  pub read_quiets : before.read_quiets ≤ after.read_quiets
  pub write_quiets : before.write_quiets ≤ after.write_quiets
  pub ends : before.ends ≤ after.ends

-- count by count
abbrev pub counts_sum : Counts → Counts → Counts
counts_sum a b = record {
  faults = count_sum a.faults b.faults;
  read_quiets = count_sum a.read_quiets b.read_quiets;
  write_quiets = count_sum a.write_quiets b.write_quiets;
  ends = count_sum a.ends b.ends;
}

abbrev pub no_counts : Counts
no_counts = record { faults = 0; read_quiets = 0; write_quiets = 0; ends = 0 }
