-- The host of a URL, or nothing where it has none.
use Rattle.std.proofs.Common.{◌≡◌, ℕ, List, [], ◌∷◌, not, Option, Some, None, option_map, unwrap_or, if◌then◌else◌, refl, arith}
use Rattle.url.proofs.InputLemmas.{is_empty_nonempty}
use Rattle.url.specs.declared.host.Host.{Host}
use Rattle.url.specs.declared.host.Host.TheVariants.{Domain, Ipv4, Ipv6}
use Rattle.url.specs.Host.{host_text, is_empty_host}
use Rattle.url.specs.Parts.{Parts, nonempty_host, host_or_empty}

of_host : (o : Option (Host (List ℕ))) → unwrap_or (option_map host_text (if not (is_empty_host (unwrap_or o (Domain []))) then o else None)) [] ≡ host_text (unwrap_or o (Domain []))
of_host None = refl
of_host (Some (Domain [])) = refl
of_host (Some (Domain (b ∷ bs))) = rw (is_empty_nonempty (b ∷ bs) (omega arith)) refl
of_host (Some (Ipv4 a)) = refl
of_host (Some (Ipv6 a)) = refl

pub host_or_nothing : (u : Parts) → unwrap_or (option_map host_text (nonempty_host u)) [] ≡ host_text (host_or_empty u)
host_or_nothing u = of_host u.host
