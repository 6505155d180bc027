-- When two keys are equal: where all their parts are (Fetch Standard, network partition keys).
use Rattle.std.specs.Prelude.{ℕ, List, ◌==◌, ◌&&◌, Bool, true, false, Option, Some, None}
use Rattle.std.specs.Str.{bytes_eq}
use Rattle.net_base.specs.Equality.{same_bool, same_scheme, same_origin, same_target}
use Rattle.partition_keys.specs.declared.site.Site.{Site}
use Rattle.partition_keys.specs.declared.site.Site.TheVariants.{Tuple, Opaque}
use Rattle.partition_keys.specs.declared.key.PartitionKey.{PartitionKey}
use Rattle.partition_keys.specs.declared.group.GroupKey.{GroupKey}

-- HTML Standard, section 7.1.1, same site
abbrev pub same_site : Site → Site → Bool
same_site (Tuple s h) (Tuple t g) = same_scheme s t && bytes_eq h g
same_site (Tuple s h) (Opaque m) = false
same_site (Opaque n) (Tuple t g) = false
same_site (Opaque n) (Opaque m) = n == m

abbrev pub same_second : Option (List ℕ) → Option (List ℕ) → Bool
same_second None None = true
same_second None (Some b) = false
same_second (Some a) None = false
same_second (Some a) (Some b) = bytes_eq a b

abbrev pub same_key : PartitionKey → PartitionKey → Bool
same_key a b = same_site a.site b.site && same_second a.second b.second

abbrev pub same_group : GroupKey → GroupKey → Bool
same_group a b = same_key a.key b.key && same_bool a.credentials b.credentials && same_origin a.origin b.origin && same_target a.target b.target
