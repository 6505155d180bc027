-- How the journal writes values, each as one word or a few. The format is this project's own; the sections say what the values
-- are. Octets are written in lower-case hexadecimal and numbers in decimal; the marks between parts are `,` (44), `/` (47) and
-- `:` (58).
use Rattle.std.specs.Prelude.{ℕ, Bool, List, [], ◌∷◌, ◌++◌, map, codes, if◌then◌else◌, Option, Some, None}
use Rattle.std.specs.List.{flat_map}
use Rattle.std.specs.Fmt.{decimal}
use Rattle.hex.specs.Hex.{encode_lower}
use Rattle.net_base.specs.declared.end_cause.EndCause.{EndCause}
use Rattle.net_base.specs.declared.end_cause.EndCause.TheVariants.{DialFailed, End, LinkFault, Broken, Done}
use Rattle.net_base.specs.declared.field.Field.{Field}
use Rattle.net_base.specs.declared.numbers.Moment.{Moment}
use Rattle.net_base.specs.declared.numbers.StreamNo.{StreamNo}
use Rattle.net_base.specs.declared.origin.Origin.{Origin}
use Rattle.net_base.specs.declared.target.Proto.{Proto}
use Rattle.net_base.specs.declared.target.Proto.TheVariants.{H1, H2}
use Rattle.net_base.specs.declared.target.Target.{Target}
use Rattle.net_base.specs.declared.target.Via.{Via}
use Rattle.net_base.specs.declared.target.Via.TheVariants as via
use Rattle.net_base.specs.Origins.{scheme_text}
use Rattle.partition_keys.specs.declared.alternative.Alternative.{Alternative}
use Rattle.partition_keys.specs.declared.alternative.AltUpdate.{AltUpdate}
use Rattle.partition_keys.specs.declared.alternative.AltUpdate.TheVariants as alt
use Rattle.partition_keys.specs.declared.alternative.Proof.{Proof}
use Rattle.partition_keys.specs.declared.alternative.Proof.TheVariants.{NotAsked, NotValid, Until}
use Rattle.partition_keys.specs.declared.alternative.Why.{Why}
use Rattle.partition_keys.specs.declared.alternative.Why.TheVariants.{Status, Media, NotJson, NotArray, Absent, Stale}
use Rattle.model_values.specs.declared.entry.Way.{Way}
use Rattle.model_values.specs.declared.entry.Way.TheVariants as way

-- ---- octets and lists

-- octets in hexadecimal, `-` where there are none
abbrev pub octets_text : List ℕ → List ℕ
octets_text [] = codes "-"
octets_text (b ∷ bytes) = encode_lower (b ∷ bytes)

-- the first text, and each other one behind a comma; `-` where there are none
abbrev pub list_text : List (List ℕ) → List ℕ
list_text [] = codes "-"
list_text (first ∷ others) = first ++ flat_map (λ other. 44 ∷ other) others

-- a field (RFC 9110, section 5): NAME:HEX, with nothing behind the colon where the value is empty
abbrev pub field_text : Field → List ℕ
field_text f = f.name ++ 58 ∷ [] ++ encode_lower f.value

-- fields in order; `-` where there are none
abbrev pub fields_text : List Field → List ℕ
fields_text fields = list_text (map field_text fields)

-- addresses (RFC 4291, section 2.5.5.2), each as 32 hexadecimal digits; `-` where there are none
abbrev pub addresses_text : List (List ℕ) → List ℕ
addresses_text addresses = list_text (map encode_lower addresses)

-- streams by their numbers; `-` where there are none
abbrev pub streams_text : List StreamNo → List ℕ
streams_text streams = list_text (map (λ s. decimal s.0) streams)

-- ---- words for a choice

-- whether credentials go along (Fetch Standard, connections): `+` or `-`
abbrev pub credentials_text : Bool → List ℕ
credentials_text credentials = if credentials then codes "+" else codes "-"

-- whether the connection is secured
abbrev pub security_text : Bool → List ℕ
security_text secure = if secure then codes "secure" else codes "clear"

-- HTTP/1.1 (RFC 9112) or HTTP/2 (RFC 9113)
abbrev pub proto_text : Proto → List ℕ
proto_text H1 = codes "h1"
proto_text H2 = codes "h2"

-- by which right an exchange uses a connection (RFC 7838, section 2; RFC 9113, section 9.1.1)
abbrev pub way_text : Way → List ℕ
way_text way.Direct = codes "direct"
way_text way.Alternative = codes "alternative"
way_text way.Coalesced = codes "coalesced"

-- a moment in milliseconds; `-` where there is none
abbrev pub deadline_text : Option Moment → List ℕ
deadline_text None = codes "-"
deadline_text (Some m) = decimal m.0

-- ---- origins and targets

-- HOST:PORT
abbrev pub host_and_port : List ℕ → ℕ → List ℕ
host_and_port host port = host ++ 58 ∷ [] ++ decimal port

-- an origin (RFC 6454, section 6.2): SCHEME://HOST:PORT, but the port is written always
abbrev pub origin_text : Origin → List ℕ
origin_text o = scheme_text o.scheme ++ codes "://" ++ host_and_port o.host o.port

-- the origin itself, or an alternative of it by its protocol (RFC 7838, section 2)
abbrev pub via_text : Via → List ℕ
via_text via.Direct = codes "direct"
via_text (via.Alternative proto) = proto_text proto

-- where a connection goes: HOST:PORT, `clear` or `secure`, and `direct`, `h1` or `h2`
abbrev pub target_words : Target → List (List ℕ)
target_words t = host_and_port t.host t.port ∷ security_text t.secure ∷ via_text t.via ∷ []

-- ---- alternatives and proofs

-- whether it is kept when the network changes (RFC 7838, section 3.1, `persist`)
abbrev pub persist_text : Bool → List ℕ
persist_text persist = if persist then codes "keep" else codes "lose"

-- an alternative as a server says it (RFC 7838, sections 3 and 3.1): PROTO/HOST/PORT/EXPIRES/PERSIST. Until when it is broken
-- or proven isn't written
abbrev pub alternative_text : Alternative → List ℕ
alternative_text a =
    proto_text a.proto ++ 47 ∷ [] ++ a.host ++ 47 ∷ [] ++ decimal a.port ++ 47 ∷ [] ++ decimal a.expires.0 ++ 47 ∷ []
    ++ persist_text a.persist

-- in the server's order; `-` where there are none
abbrev pub alternatives_text : List Alternative → List ℕ
alternatives_text alternatives = list_text (map alternative_text alternatives)

-- what is said of an origin's alternatives (RFC 7838, section 3): nothing, that there are none any more, or which they are
abbrev pub alt_words : AltUpdate → List (List ℕ)
alt_words alt.None = codes "none" ∷ []
alt_words alt.Clear = codes "clear" ∷ []
alt_words (alt.Set alternatives) = codes "set" ∷ alternatives_text alternatives ∷ []

-- which condition of RFC 8164, section 2.3, failed
abbrev pub condition_text : Why → List ℕ
condition_text Status = codes "status"
condition_text Media = codes "media"
condition_text NotJson = codes "json"
condition_text NotArray = codes "array"
condition_text Absent = codes "absent"
condition_text Stale = codes "stale"

-- what the answer to a probe proves (RFC 8164, section 2.3): nothing was asked, until when, or why nothing
abbrev pub proof_words : Proof → List (List ℕ)
proof_words NotAsked = codes "none" ∷ []
proof_words (Until m) = codes "until" ∷ decimal m.0 ∷ []
proof_words (NotValid why) = codes "bad" ∷ condition_text why ∷ []

-- ---- ends

-- why a connection ended. A broken one has a code, which is that of RFC 9113, section 7, or this project's own from 256 on,
-- and the place of the fault in what was received
abbrev pub cause_text : EndCause → List ℕ
cause_text DialFailed = codes "dial"
cause_text End = codes "end"
cause_text LinkFault = codes "fault"
cause_text (Broken code place) = codes "broken:" ++ decimal code ++ 58 ∷ [] ++ decimal place
cause_text Done = codes "done"

-- ---- words in a line

-- each word behind one space (32)
abbrev pub spaced_words : List (List ℕ) → List ℕ
spaced_words words = flat_map (λ word. 32 ∷ word) words
