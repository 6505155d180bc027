-- Origins and how they are written.
use Rattle.std.specs.Prelude.{ℕ, List, ◌∷◌, ◌++◌, ◌==◌, codes, bytes_eq, Option, Some, None, if◌then◌else◌}
use Rattle.std.specs.Fmt.{decimal}
use Rattle.net_base.specs.declared.origin.Scheme.{Scheme}
use Rattle.net_base.specs.declared.origin.Scheme.TheVariants.{Http, Https}
use Rattle.net_base.specs.declared.origin.Origin.{Origin}

-- RFC 9110, section 4.2: how a scheme is written
abbrev pub scheme_text : Scheme → List ℕ
scheme_text Http = codes "http"
scheme_text Https = codes "https"

-- the scheme of the web that a text is
abbrev pub scheme_of : List ℕ → Option Scheme
scheme_of text =
    if bytes_eq text (codes "http") then Some Http
    else (if bytes_eq text (codes "https") then Some Https
    else None)

-- RFC 9110, section 4.2: the port of a scheme where none is written
abbrev pub default_port_of : Scheme → ℕ
default_port_of Http = 80
default_port_of Https = 443

-- RFC 9110, sections 4.2.3 and 7.2: the host, and `:` and the port unless it is the scheme's default
abbrev pub authority_text : Origin → List ℕ
authority_text o = if o.port == default_port_of o.scheme then o.host else o.host ++ 58 ∷ decimal o.port
