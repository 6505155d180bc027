-- Within which ranges the limits of a pool lie. All are this project's own.
use Rattle.std.specs.Prelude.{◌≤◌, ℕ}
use Rattle.model_values.specs.declared.config.Config.{Config}

abbrev pub IsFromTo : ℕ → ℕ → ℕ → Type 0
IsFromTo least most n = (least ≤ n) × (n ≤ most)

pub record AreWithinRanges (config : Config) : Type 0 where
  pub per_group : IsFromTo 1 6 config.per_group
  pub total : IsFromTo 1 32 config.total
  pub streams : IsFromTo 1 100 config.streams
  pub background : config.background ≤ 32
  pub last_stream : IsFromTo 1 2147483647 config.last_stream
  pub submissions : IsFromTo 1 5000 config.submissions
