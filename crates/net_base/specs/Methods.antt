-- Request methods.
use Rattle.std.specs.Prelude.{ℕ, List, ◌||◌, Bool, codes}
use Rattle.std.specs.Str.{bytes_eq}

-- RFC 9110, section 9.2.2: the idempotent methods of that document but TRACE, which no request here has
abbrev pub is_idempotent_method : List ℕ → Bool
is_idempotent_method method =
    bytes_eq method (codes "GET")
    || bytes_eq method (codes "HEAD")
    || bytes_eq method (codes "OPTIONS")
    || bytes_eq method (codes "PUT")
    || bytes_eq method (codes "DELETE")
