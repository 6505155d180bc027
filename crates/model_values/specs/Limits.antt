-- The numbers that bound a pool beside the limits that it is given. All are this project's own.
use Rattle.std.specs.Prelude.{ℕ}

-- how many connections a pool makes in its life
abbrev pub most_connections : ℕ
most_connections = 2147483647

-- how many connections there may be where one more is judged: its number has 32 bits
abbrev pub most_judged : ℕ
most_judged = 4294967294

-- how many streams a peer is taken to allow until it says how many (RFC 9113, section 6.5.2)
abbrev pub most_unsaid : ℕ
most_unsaid = 100

-- how often an exchange may wait again
abbrev pub most_moves : ℕ
most_moves = 5

-- of how many origins, each in its partition, alternatives are kept
abbrev pub most_origins : ℕ
most_origins = 1024

-- for how many milliseconds an alternative that failed isn't used
abbrev pub broken_for : ℕ
broken_for = 300000

-- how many addresses of a host are noted
abbrev pub most_addresses : ℕ
most_addresses = 16
