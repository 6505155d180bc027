-- The numbers that bound scenarios. But for the greatest number of a stream all are this project's own.
use Rattle.std.specs.Prelude.{ℕ}
use Rattle.model_values.specs.declared.config.Config.{Config}

-- the greatest number of a stream (RFC 9113, section 5.1.1)
abbrev pub most_stream : ℕ
most_stream = 2147483647

-- the most submissions of a scenario, and of a pool
abbrev pub most_submissions : ℕ
most_submissions = 5000

-- the most requests, or heads, that an act of a peer counts
abbrev pub most_requests : ℕ
most_requests = 100000

-- the most octets of a request's body
abbrev pub most_body : ℕ
most_body = 1048576

-- the limits of a pool where a scenario gives none
abbrev pub default_config : Config
default_config = record { per_group = 6; total = 32; streams = 100; background = 2; last_stream = most_stream; submissions = most_submissions }
