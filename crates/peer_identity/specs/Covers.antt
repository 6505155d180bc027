-- Which hosts an identity covers (RFC 9110, section 4.3.4; RFC 9525, section 6.3).
use Rattle.std.specs.Prelude.{◌≡◌, ◌≢◌, ◌⊎◌, ℕ, ◌<◌, ◌+◌, List, ◌∷◌, ◌++◌, Bool, false, ◌==◌, ◌&&◌, ◌||◌, nat_eq, nat_lt, length, drop, codes, position, All, Any, Option, Some, None, if◌then◌else◌}
use Rattle.std.specs.List.{list_any, starts_with}
use Rattle.std.specs.Str.{str_to_ascii_lowercase, str_eq_ignore_ascii_case}
use Rattle.net_base.specs.declared.identity.Identity.{Identity}

-- RFC 9525, section 6.3: the same octets, where the case of ASCII letters doesn't count
abbrev pub IsSameInAnyCase : List ℕ → List ℕ → Type 0
IsSameInAnyCase a b = str_to_ascii_lowercase a ≡ str_to_ascii_lowercase b

-- RFC 1034, section 3.1: one label, not empty and without a dot
abbrev pub IsLabel : List ℕ → Type 0
IsLabel label = (0 < length label) × All (λ c. c ≢ 46) label

-- the host is one label, a dot and this, in any case
abbrev pub IsUnder : List ℕ → List ℕ → Type 0
IsUnder rest host =
    (label : List ℕ) × ((tail : List ℕ) × (host ≡ label ++ 46 ∷ tail) × IsLabel label × IsSameInAnyCase rest tail)

-- RFC 9525, section 6.3: the name is `*.` and a rest, and the wildcard stands for the host's first label alone
abbrev pub MatchesByLabel : List ℕ → List ℕ → Type 0
MatchesByLabel name host = (rest : List ℕ) × (name ≡ codes "*." ++ rest) × IsUnder rest host

-- RFC 9525, section 6.3: the name is the host, or a wildcard that takes it in
abbrev pub MatchesHost : List ℕ → List ℕ → Type 0
MatchesHost name host = IsSameInAnyCase name host ⊎ MatchesByLabel name host

-- RFC 9110, section 4.3.4: some name of the identity matches the host
abbrev pub Covers : Identity → List ℕ → Type 0
Covers id host = Any (λ name. MatchesHost name host) id.names

-- ---- the same as a test: the clauses `fact` and `test` of `covers` say that it agrees with `Covers`

abbrev pub is_dot : ℕ → Bool
is_dot c = c == 46

abbrev pub behind_dot : List ℕ → Option ℕ → Option (List ℕ)
behind_dot host None = None
behind_dot host (Some dot) = if nat_lt 0 dot then Some (drop (dot + 1) host) else None

-- what follows the first label and its dot, where that label isn't empty
abbrev pub behind_label : List ℕ → Option (List ℕ)
behind_label host = behind_dot host (position is_dot host)

abbrev pub is_wildcard_over : List ℕ → Option (List ℕ) → Bool
is_wildcard_over name None = false
is_wildcard_over name (Some tail) = starts_with nat_eq name (codes "*.") && str_eq_ignore_ascii_case (drop 2 name) tail

abbrev pub matches_by_label : List ℕ → List ℕ → Bool
matches_by_label name host = is_wildcard_over name (behind_label host)

abbrev pub matches_host : List ℕ → List ℕ → Bool
matches_host name host = str_eq_ignore_ascii_case name host || matches_by_label name host

-- whether the identity covers the host
abbrev pub is_covered : Identity → List ℕ → Bool
is_covered id host = list_any (λ name. matches_host name host) id.names
