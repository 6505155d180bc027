-- How a request is dressed for the target that its connection leads to (RFC 7838, section 5).
use Rattle.std.specs.Prelude.{List, ℕ, [], ◌∷◌, ◌++◌, codes}
use Rattle.std.specs.Fmt.{decimal}
use Rattle.net_base.specs.declared.field.Field.{Field}
use Rattle.net_base.specs.declared.request.Request.{Request}
use Rattle.net_base.specs.declared.target.Target.{Target}
use Rattle.net_base.specs.declared.target.Via.{Via}
use Rattle.net_base.specs.declared.target.Via.TheVariants.{Direct, Alternative}

-- the host, `:` and the port of a target
abbrev pub host_and_port : Target → List ℕ
host_and_port t = t.host ++ 58 ∷ decimal t.port

-- RFC 7838, section 5: `Alt-Used` names the host and the port of the alternative service
abbrev pub alt_used : Target → Field
alt_used t = record { name = codes "alt-used"; value = host_and_port t }

abbrev pub dressed_by : Via → Request → Target → Request
dressed_by Direct r t = r
dressed_by (Alternative p) r t = record r { fields = r.fields ++ alt_used t ∷ [] }

-- a request to an alternative service says so in its last field; any other is as it was
abbrev pub dressed_for : Request → Target → Request
dressed_for r t = dressed_by t.via r t
