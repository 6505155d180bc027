-- Values that a test of equality calls the same are equal.
use Rattle.std.proofs.Common.{◌≡◌, ◌∙◌, sym, refl, ap, ℕ, Bool, true, false, ◌&&◌, ◌==◌, List, Option, Some, None, bytes_eq}
use Rattle.std.proofs.lemmas.Bool.{and_parts, eqb-true}
use Rattle.std.proofs.lemmas.Slice.Eq.{bytes_eq-Decides}
use Rattle.net_base.specs.Equality.{same_bool, same_scheme, same_proto, same_via, same_origin, same_target}
use Rattle.net_base.specs.declared.origin.Origin.{Origin}
use Rattle.net_base.specs.declared.origin.Scheme.{Scheme}
use Rattle.net_base.specs.declared.origin.Scheme.TheVariants.{Http, Https}
use Rattle.net_base.specs.declared.target.Proto.{Proto}
use Rattle.net_base.specs.declared.target.Proto.TheVariants.{H1, H2}
use Rattle.net_base.specs.declared.target.Target.{Target}
use Rattle.net_base.specs.declared.target.Via.{Via}
use Rattle.net_base.specs.declared.target.Via.TheVariants as via
use Rattle.partition_keys.specs.Equality.{same_site, same_second, same_key, same_group}
use Rattle.partition_keys.specs.declared.group.GroupKey.{GroupKey}
use Rattle.partition_keys.specs.declared.key.PartitionKey.{PartitionKey}
use Rattle.partition_keys.specs.declared.site.Site.{Site}
use Rattle.partition_keys.specs.declared.site.Site.TheVariants.{Tuple, Opaque}

pub bools_are : (a b : Bool) → same_bool a b ≡ true → a ≡ b
bools_are true b h = sym h
bools_are false true h = absurd cc
bools_are false false h = refl

schemes_are : (a b : Scheme) → same_scheme a b ≡ true → a ≡ b
schemes_are Http Http h = refl
schemes_are Http Https h = absurd cc
schemes_are Https Http h = absurd cc
schemes_are Https Https h = refl

pub protos_are : (a b : Proto) → same_proto a b ≡ true → a ≡ b
protos_are H1 H1 h = refl
protos_are H1 H2 h = absurd cc
protos_are H2 H1 h = absurd cc
protos_are H2 H2 h = refl

vias_are : (a b : Via) → same_via a b ≡ true → a ≡ b
vias_are via.Direct via.Direct h = refl
vias_are via.Direct (via.Alternative q) h = absurd cc
vias_are (via.Alternative p) via.Direct h = absurd cc
vias_are (via.Alternative p) (via.Alternative q) h = ap (λ (x : Proto). via.Alternative x) (protos_are p q h)

bytes_are : (a b : List ℕ) → bytes_eq a b ≡ true → a ≡ b
bytes_are a b h = (bytes_eq-Decides a b).0 h

sites_are : (a b : Site) → same_site a b ≡ true → a ≡ b
sites_are (Tuple s h) (Tuple t g) both =
    let parts = and_parts (same_scheme s t) (bytes_eq h g) both in
    ap (λ (x : Scheme). Tuple x h) (schemes_are s t parts.0) ∙ ap (λ (x : List ℕ). Tuple t x) (bytes_are h g parts.1)
sites_are (Tuple s h) (Opaque m) both = absurd cc
sites_are (Opaque n) (Tuple t g) both = absurd cc
sites_are (Opaque n) (Opaque m) both = ap (λ (x : ℕ). Opaque x) (eqb-true n m both)

seconds_are : (a b : Option (List ℕ)) → same_second a b ≡ true → a ≡ b
seconds_are None None h = refl
seconds_are None (Some b) h = absurd cc
seconds_are (Some a) None h = absurd cc
seconds_are (Some a) (Some b) h = ap (λ (x : List ℕ). Some x) (bytes_are a b h)

pub keys_are : (a b : PartitionKey) → same_key a b ≡ true → a ≡ b
keys_are a b h =
    let parts = and_parts (same_site a.site b.site) (same_second a.second b.second) h in
    let whole : Site → Option (List ℕ) → PartitionKey = λ site second. record { site = site; second = second } in
    ap (λ x. whole x a.second) (sites_are a.site b.site parts.0) ∙ ap (whole b.site) (seconds_are a.second b.second parts.1)

pub origins_are : (a b : Origin) → same_origin a b ≡ true → a ≡ b
origins_are a b h =
    let parts = and_parts (same_scheme a.scheme b.scheme && bytes_eq a.host b.host) (a.port == b.port) h in
    let first = and_parts (same_scheme a.scheme b.scheme) (bytes_eq a.host b.host) parts.0 in
    let whole : Scheme → List ℕ → ℕ → Origin = λ scheme host port. record { scheme = scheme; host = host; port = port } in
    ap (λ x. whole x a.host a.port) (schemes_are a.scheme b.scheme first.0)
    ∙ ap (λ x. whole b.scheme x a.port) (bytes_are a.host b.host first.1)
    ∙ ap (whole b.scheme b.host) (eqb-true a.port b.port parts.1)

pub targets_are : (a b : Target) → same_target a b ≡ true → a ≡ b
targets_are a b h =
    let parts = and_parts (bytes_eq a.host b.host && a.port == b.port && same_bool a.secure b.secure) (same_via a.via b.via) h in
    let more = and_parts (bytes_eq a.host b.host && a.port == b.port) (same_bool a.secure b.secure) parts.0 in
    let first = and_parts (bytes_eq a.host b.host) (a.port == b.port) more.0 in
    let whole : List ℕ → ℕ → Bool → Via → Target = λ host port secure v. record { host = host; port = port; secure = secure; via = v } in
    ap (λ x. whole x a.port a.secure a.via) (bytes_are a.host b.host first.0)
    ∙ ap (λ x. whole b.host x a.secure a.via) (eqb-true a.port b.port first.1)
    ∙ ap (λ x. whole b.host b.port x a.via) (bools_are a.secure b.secure more.1)
    ∙ ap (whole b.host b.port b.secure) (vias_are a.via b.via parts.1)

pub groups_are : (a b : GroupKey) → same_group a b ≡ true → a ≡ b
groups_are a b h =
    let parts = and_parts (same_key a.key b.key && same_bool a.credentials b.credentials && same_origin a.origin b.origin) (same_target a.target b.target) h in
    let more = and_parts (same_key a.key b.key && same_bool a.credentials b.credentials) (same_origin a.origin b.origin) parts.0 in
    let first = and_parts (same_key a.key b.key) (same_bool a.credentials b.credentials) more.0 in
    let whole : PartitionKey → Bool → Origin → Target → GroupKey = λ key credentials origin target. record { key = key; credentials = credentials; origin = origin; target = target } in
    ap (λ x. whole x a.credentials a.origin a.target) (keys_are a.key b.key first.0)
    ∙ ap (λ x. whole b.key x a.origin a.target) (bools_are a.credentials b.credentials first.1)
    ∙ ap (λ x. whole b.key b.credentials x a.target) (origins_are a.origin b.origin more.1)
    ∙ ap (whole b.key b.credentials b.origin) (targets_are a.target b.target parts.1)
