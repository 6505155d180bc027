-- Which values have a word that is read back as them. The words of a line are parted by one space, so what is written as it
-- stands (hosts, paths, names) must not be empty and must hold none of the marks that part it from what is beside it.
use Rattle.std.specs.Prelude.{ℕ, ◌==◌, ◌&&◌, ◌||◌, not, nat_lt, nat_le, Bool, true, List, length}
use Rattle.std.specs.List.{list_all}
use Rattle.net_base.specs.Identities.{is_name, most_names}
use Rattle.net_base.specs.Requests.{is_token}
use Rattle.net_base.specs.declared.field.Field.{Field}
use Rattle.partition_keys.specs.declared.alternative.Alternative.{Alternative}
use Rattle.partition_keys.specs.declared.alternative.AltUpdate.{AltUpdate}
use Rattle.partition_keys.specs.declared.alternative.AltUpdate.TheVariants as alt

-- a host or a path: not empty, and without spaces and controls (below 33)
abbrev pub is_word : List ℕ → Bool
is_word text = nat_lt 0 (length text) && list_all (λ b. nat_lt 32 b) text

-- RFC 9110, section 5.1: the names of fields are tokens
abbrev pub are_named : List Field → Bool
are_named fields = list_all (λ f. is_token f.name) fields

-- names such as an identity may show (RFC 9525, section 6.3)
abbrev pub are_names : List (List ℕ) → Bool
are_names names = nat_le (length names) most_names && list_all is_name names

-- a host in a list of alternatives has no comma (44) and no slash (47) either; until when one is broken or proven has no word
abbrev pub is_writable_alternative : Alternative → Bool
is_writable_alternative a =
    is_word a.host && list_all (λ b. not (b == 44 || b == 47)) a.host && a.broken_until.0 == 0 && a.proven_until.0 == 0

abbrev pub is_writable_alt : AltUpdate → Bool
is_writable_alt alt.None = true
is_writable_alt alt.Clear = true
is_writable_alt (alt.Set alternatives) = list_all is_writable_alternative alternatives
