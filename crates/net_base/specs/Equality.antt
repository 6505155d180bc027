-- When two values are equal: where all their parts are.
use Rattle.std.specs.Prelude.{◌==◌, ◌&&◌, Bool, true, false}
use Rattle.std.specs.Str.{bytes_eq}
use Rattle.net_base.specs.declared.origin.Scheme.{Scheme}
use Rattle.net_base.specs.declared.origin.Scheme.TheVariants.{Http, Https}
use Rattle.net_base.specs.declared.origin.Origin.{Origin}
use Rattle.net_base.specs.declared.target.Proto.{Proto}
use Rattle.net_base.specs.declared.target.Proto.TheVariants.{H1, H2}
use Rattle.net_base.specs.declared.target.Via.{Via}
use Rattle.net_base.specs.declared.target.Via.TheVariants.{Direct, Alternative}
use Rattle.net_base.specs.declared.target.Target.{Target}

abbrev pub same_bool : Bool → Bool → Bool
same_bool true b = b
same_bool false true = false
same_bool false false = true

abbrev pub same_scheme : Scheme → Scheme → Bool
same_scheme Http Http = true
same_scheme Http Https = false
same_scheme Https Http = false
same_scheme Https Https = true

abbrev pub same_proto : Proto → Proto → Bool
same_proto H1 H1 = true
same_proto H1 H2 = false
same_proto H2 H1 = false
same_proto H2 H2 = true

abbrev pub same_via : Via → Via → Bool
same_via Direct Direct = true
same_via Direct (Alternative q) = false
same_via (Alternative p) Direct = false
same_via (Alternative p) (Alternative q) = same_proto p q

-- RFC 6454, section 5: the same scheme, host and port
abbrev pub same_origin : Origin → Origin → Bool
same_origin a b = same_scheme a.scheme b.scheme && bytes_eq a.host b.host && a.port == b.port

abbrev pub same_target : Target → Target → Bool
same_target a b = bytes_eq a.host b.host && a.port == b.port && same_bool a.secure b.secure && same_via a.via b.via
