-- JSON (RFC 8259) as it is read here.
use Rattle.std.specs.Prelude.{◌≡◌, ℕ, List, Some, IsUtf8}
use Rattle.serde_json.specs.Data.{Data}
use Rattle.serde_json.specs.Read.{read}

-- The octets are JSON, and this is its value: RFC 8259 in UTF-8 (section 8.1). Narrower than it, there are at most 127
-- arrays and objects within each other, only numbers whose nearest 64-bit float is finite, and no escape of a surrogate that
-- isn't one of a pair. Of two members of one name in an object the last counts.
abbrev pub IsJson : List ℕ → Data → Type 0
IsJson bytes d = IsUtf8 bytes × (read bytes ≡ Some d)

-- the octets are no JSON
abbrev pub IsNoJson : List ℕ → Type 0
IsNoJson bytes = (d : Data) → ¬ (IsJson bytes d)
