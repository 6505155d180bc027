-- Scripted peers: what they are, what they answer and how they misbehave.
use Rattle.std.specs.Prelude.{ℕ, List, [], ◌∷◌, ◌++◌, ◌+◌, ◌&&◌, not, nat_le, Bool, true, false, codes, bytes_eq, length, replicate, Option, Some, None, option_map, option_and_then, Result, Ok, Err, if◌then◌else◌}
use Rattle.serde_json.specs.Data.{Data}
use Rattle.net_base.specs.Origins.{authority_text}
use Rattle.net_base.specs.Results.{◌>>=◌, ◌>>◌}
use Rattle.net_base.specs.declared.field.Field.{Field}
use Rattle.net_base.specs.declared.numbers.ConnNo.{ConnNo}
use Rattle.net_base.specs.declared.origin.Scheme.TheVariants.{Https}
use Rattle.net_base.specs.declared.peer.ActKind.{ActKind}
use Rattle.net_base.specs.declared.peer.ActKind.TheVariants as act
use Rattle.net_base.specs.declared.peer.Answer.{Answer}
use Rattle.net_base.specs.declared.peer.AnswerBody.{AnswerBody}
use Rattle.net_base.specs.declared.peer.AnswerBody.TheVariants.{Text, Size}
use Rattle.net_base.specs.declared.peer.Peer.{Peer}
use Rattle.net_base.specs.declared.peer.PeerAct.{PeerAct}
use Rattle.net_base.specs.declared.target.Proto.{Proto}
use Rattle.net_base.specs.declared.target.Proto.TheVariants.{H1, H2}
use Rattle.scenario_walk.specs.Faults.{Reader, bad, an_object, only, required, optional, list, any_list}
use Rattle.scenario_walk.specs.Values.{if_fits, flag, text, text_that, whole, some, word, proto_word, host, name, address, good_field}
use Rattle.scenario_text.specs.Limits.{most_requests, most_stream}
use Rattle.scenario_text.specs.declared.acts.ActWord.{ActWord}
use Rattle.scenario_text.specs.declared.acts.ActWord.TheVariants.{NoDial, Hold, Drop, Limit, Goaway, Refuse, AltFrame}
use Rattle.scenario_walk.specs.declared.fault.ScenarioFault.{ScenarioFault}

-- ---- answers

-- the octets of the text, or so many octets `x`; not both
abbrev pub answer_body : List ℕ → Option (List ℕ) → Option ℕ → Result AnswerBody ScenarioFault
answer_body path None None = Ok (Text [])
answer_body path (Some t) None = Ok (Text t)
answer_body path None (Some n) = Ok (Size n)
answer_body path (Some t) (Some n) = bad path

abbrev pub answer_names : List (List ℕ)
answer_names = codes "path" ∷ codes "authority" ∷ codes "status" ∷ codes "text" ∷ codes "size" ∷ codes "fields" ∷ []

abbrev pub answer : Reader Answer
answer path d = do
  only answer_names path d
  at ← required (codes "path") text path d
  authority ← optional (codes "authority") None (some text) path d
  status ← optional (codes "status") 200 (whole 200 599) path d
  octets ← optional (codes "text") None (some text) path d
  size ← optional (codes "size") None (some (whole 0 2097152)) path d
  fields ← optional (codes "fields") [] (any_list good_field) path d
  body ← answer_body path octets size
  Ok (record { path = at; authority = authority; status = status; body = body; fields = fields })

-- ---- acts

abbrev pub act_word : List ℕ → Option ActWord
act_word t =
    if bytes_eq t (codes "nodial") then Some NoDial
    else if bytes_eq t (codes "hold") then Some Hold
    else if bytes_eq t (codes "drop") then Some Drop
    else if bytes_eq t (codes "limit") then Some Limit
    else if bytes_eq t (codes "goaway") then Some Goaway
    else if bytes_eq t (codes "refuse") then Some Refuse
    else if bytes_eq t (codes "altframe") then Some AltFrame
    else None

-- the acts of a peer that speaks HTTP/1.1, and of one that speaks HTTP/2
abbrev pub may_act : Proto → ActWord → Bool
may_act H2 w = true
may_act H1 NoDial = true
may_act H1 Hold = true
may_act H1 Drop = true
may_act H1 Limit = false
may_act H1 Goaway = false
may_act H1 Refuse = false
may_act H1 AltFrame = false

abbrev pub act_word_of : Proto → List ℕ → Option ActWord
act_word_of proto t = option_and_then (if_fits (may_act proto)) (act_word t)

abbrev pub members_of_act : ActWord → List (List ℕ)
members_of_act NoDial = []
members_of_act Hold = codes "until" ∷ []
members_of_act Drop = codes "after" ∷ []
members_of_act Limit = codes "n" ∷ []
members_of_act Goaway = codes "after" ∷ codes "last" ∷ []
members_of_act Refuse = codes "nth" ∷ []
members_of_act AltFrame = codes "value" ∷ []

-- RFC 7838, section 4: the payload of an ALTSVC frame is two octets of length, the origin and the value; a payload has at
-- most 16384 octets here (RFC 9113, section 4.2)
abbrev pub fits_frame : List ℕ → List ℕ → Bool
fits_frame authority value = nat_le (2 + length (codes "https://" ++ authority) + length value) 16384

abbrev pub goaway : Reader ActKind
goaway path d = do
  k ← required (codes "after") (whole 0 most_requests) path d
  s ← required (codes "last") (whole 0 most_stream) path d
  Ok (act.Goaway k (record { 0 = s }))

abbrev pub act_kind : List ℕ → ActWord → Reader ActKind
act_kind authority NoDial path d = Ok act.NoDial
act_kind authority Hold path d = do
  k ← required (codes "until") (whole 0 most_requests) path d
  Ok (act.Hold k)
act_kind authority Drop path d = do
  k ← required (codes "after") (whole 0 most_requests) path d
  Ok (act.Drop k)
act_kind authority Limit path d = do
  n ← required (codes "n") (whole 0 4294967295) path d
  Ok (act.Limit n)
act_kind authority Goaway path d = goaway path d
act_kind authority Refuse path d = do
  k ← required (codes "nth") (whole 0 most_requests) path d
  Ok (act.Refuse k)
act_kind authority AltFrame path d = do
  value ← required (codes "value") (text_that (fits_frame authority)) path d
  Ok (act.AltFrame value)

-- its kind says which members it has
abbrev pub peer_act : Proto → List ℕ → Reader PeerAct
peer_act proto authority path d = do
  an_object path d
  w ← required (codes "kind") (word (act_word_of proto)) path d
  only (codes "kind" ∷ codes "conn" ∷ members_of_act w) path d
  conn ← optional (codes "conn") None (some (whole 1 4294967295)) path d
  kind ← act_kind authority w path d
  Ok (record { conn = option_map (λ c. record { 0 = c }) conn; kind = kind })

-- ---- peers

abbrev pub peer_names : List (List ℕ)
peer_names =
    codes "host" ∷ codes "port" ∷ codes "secure" ∷ codes "proto" ∷ codes "names" ∷ codes "address"
    ∷ codes "answers" ∷ codes "acts" ∷ []

-- how the https origin of a host and a port is written behind `https://`
abbrev pub https_authority : List ℕ → ℕ → List ℕ
https_authority host port = authority_text (record { scheme = Https; host = host; port = port })

abbrev pub peer : Reader Peer
peer path d = do
  only peer_names path d
  at ← required (codes "host") host path d
  port ← required (codes "port") (whole 1 65535) path d
  secure ← optional (codes "secure") false flag path d
  proto ← optional (codes "proto") H1 (word proto_word) path d
  names ← optional (codes "names") [] (list 100 name) path d
  at_address ← optional (codes "address") (replicate 16 0) address path d
  answers ← optional (codes "answers") [] (list 1000 answer) path d
  acts ← optional (codes "acts") [] (list 100 (peer_act proto (https_authority at port))) path d
  Ok (record { host = at; port = port; secure = secure; proto = proto; names = names; address = at_address; answers = answers; acts = acts })
