-- What an identity may show, and how one is built.
use Rattle.std.specs.Prelude.{◌≡◌, ⊤, ℕ, ◌<◌, ◌≤◌, nat_lt, List, Bool, ◌==◌, ◌&&◌, ◌||◌, not, length, take, drop, map, slice_get, codes, bytes_eq, All, IsTrue, Some}
use Rattle.std.specs.Char.{is_ascii_alphanumeric}
use Rattle.std.specs.List.{list_all, list_any}
use Rattle.std.specs.Str.{str_to_ascii_lowercase}
use Rattle.net_base.specs.declared.identity.Identity.{Identity}
use Rattle.net_base.specs.declared.identity.IdentityFault.{IdentityFault}
use Rattle.net_base.specs.declared.identity.IdentityFault.TheVariants.{NoMem, TooManyNames, BadName}
use Rattle.net_base.specs.declared.target.Proto.{Proto}

-- an octet of a name, which is this project's own: an ASCII letter or digit, or one of `-`, `.`, `_`, `:`, `[` and `]`
abbrev pub is_name_octet : ℕ → Bool
is_name_octet c = is_ascii_alphanumeric c || list_any (λ mark. mark == c) (codes "-._:[]")

-- a name or an address: at least one of these octets, and not `-` alone, which is written where there are no names
abbrev pub is_plain_name : List ℕ → Bool
is_plain_name name = nat_lt 0 (length name) && not (bytes_eq name (codes "-")) && list_all is_name_octet name

-- RFC 9525, section 6.3, has wildcards for names of the DNS. Here `*.` may stand before any name, an address too
abbrev pub is_name : List ℕ → Bool
is_name name = is_plain_name name || (bytes_eq (take 2 name) (codes "*.") && is_plain_name (drop 2 name))

abbrev pub IsName : List ℕ → Type 0
IsName name = IsTrue (is_name name)

-- the name at i is none, and each before it is one
abbrev pub IsFirstBadName : List (List ℕ) → ℕ → Type 0
IsFirstBadName names i = ((name : List ℕ) × (slice_get names i ≡ Some name) × ¬ (IsName name)) × All IsName (take i names)

-- how many names an identity may have, which is this project's own
abbrev pub most_names : ℕ
most_names = 100

abbrev pub AreNames : List (List ℕ) → Type 0
AreNames names = (length names ≤ most_names) × All IsName names

-- why these names are refused; want of memory needs no cause
abbrev pub RefusesNames : List (List ℕ) → IdentityFault → Type 0
RefusesNames names NoMem = ⊤
RefusesNames names (TooManyNames n) = (most_names < n) × (n ≡ length names)
RefusesNames names (BadName i) = (length names ≤ most_names) × IsFirstBadName names i

-- the identity of these, with the names in lower case
abbrev pub identity_of : List (List ℕ) → Bool → Proto → List ℕ → Identity
identity_of names secure proto address =
    record { names = map str_to_ascii_lowercase names; secure = secure; proto = proto; address = address }
