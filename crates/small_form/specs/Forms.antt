-- The small form of input: a JSON object (RFC 8259) that gives one peer with one answer, and one channel with one call.
use Rattle.std.specs.Prelude.{◌≡◌, ℕ, List, [], ◌∷◌, Bool, true, false, ◌&&◌, nat_le, length, replicate, codes, bytes_eq, Option, Some, None, option_and_then, Result, Ok, Err, if◌then◌else◌}
use Rattle.serde_json.specs.Data.{Data, Items, no_items, item, Members, no_members, member}
use Rattle.serde_json.specs.Find.{get, as_array, as_object, as_str, as_number, as_u64}
use Rattle.net_base.specs.declared.origin.Scheme.{Scheme}
use Rattle.net_base.specs.declared.origin.Scheme.TheVariants.{Http, Https}
use Rattle.net_base.specs.declared.peer.Answer.{Answer}
use Rattle.net_base.specs.declared.peer.AnswerBody.TheVariants.{Text}
use Rattle.net_base.specs.declared.peer.Peer.{Peer}
use Rattle.net_base.specs.declared.request.BuildFault.{BuildFault}
use Rattle.net_base.specs.declared.request.Request.{Request}
use Rattle.net_base.specs.declared.target.Proto.TheVariants.{H1}
use Rattle.net_base.specs.Hosts.{is_plain_host}
use Rattle.net_base.specs.Requests.{get_request}
use Rattle.scenario_walk.specs.Faults.{is_among}
use Rattle.scenario_walk.specs.Json.{IsJson}
use Rattle.small_form.specs.declared.form.TheConstants.{MOST_BODY}
use Rattle.small_form.specs.declared.form.SmallForm.{SmallForm}

-- each member has one of these names
abbrev pub are_only : List (List ℕ) → Members → Bool
are_only names no_members = true
are_only names (member name d ms) = is_among names name && are_only names ms

-- the value is an object, each of whose members has one of these names
abbrev pub are_only_if : List (List ℕ) → Option Members → Bool
are_only_if names None = false
are_only_if names (Some ms) = are_only names ms

abbrev pub is_only : List (List ℕ) → Data → Bool
is_only names d = are_only_if names (as_object d)

-- the item of a list of one
abbrev pub the_one : Items → Option Data
the_one no_items = None
the_one (item d no_items) = Some d
the_one (item d (item e ds)) = None

-- the item of the list of one that stands under a name
abbrev pub one_at : List ℕ → Data → Option Data
one_at name d = option_and_then the_one (option_and_then as_array (get name d))

-- the text that stands under a name
abbrev pub text_at : List ℕ → Data → Option (List ℕ)
text_at name d = option_and_then as_str (get name d)

-- ---- the peer

-- the text, where it is a host that is written as the URL Standard's parser gives it back
abbrev pub if_plain_host : List ℕ → Option (List ℕ)
if_plain_host text = if is_plain_host text then Some text else None

abbrev pub host_at : List ℕ → Data → Option (List ℕ)
host_at name d = option_and_then if_plain_host (text_at name d)

-- a whole number from 1 to 65535
abbrev pub if_port : ℕ → Option ℕ
if_port n = if nat_le 1 n && nat_le n 65535 then Some n else None

abbrev pub port_at : List ℕ → Data → Option ℕ
port_at name d = option_and_then if_port (option_and_then as_u64 (option_and_then as_number (get name d)))

-- at most as many octets as a body may have
abbrev pub if_short : List ℕ → Option (List ℕ)
if_short text = if nat_le (length text) MOST_BODY then Some text else None

abbrev pub short_text_at : List ℕ → Data → Option (List ℕ)
short_text_at name d = option_and_then if_short (text_at name d)

-- an answer to each authority, with status 200 and no fields
abbrev pub answer_from : Option (List ℕ) → Option (List ℕ) → Option Answer
answer_from None text = None
answer_from (Some path) None = None
answer_from (Some path) (Some text) =
    Some (record { path = path; authority = None; status = 200; body = Text text; fields = [] })

abbrev pub answer_names : List (List ℕ)
answer_names = codes "path" ∷ codes "text" ∷ []

abbrev pub answer_of : Data → Option Answer
answer_of d =
    if is_only answer_names d then answer_from (text_at (codes "path") d) (short_text_at (codes "text") d) else None

-- a peer that speaks HTTP/1.1 without TLS, shows no names, has the address of 16 zeros and does nothing but answer
abbrev pub peer_from : Option (List ℕ) → Option ℕ → Option Answer → Option Peer
peer_from None port answer = None
peer_from (Some host) None answer = None
peer_from (Some host) (Some port) None = None
peer_from (Some host) (Some port) (Some answer) =
    Some (record { host = host; port = port; secure = false; proto = H1; names = []; address = replicate 16 0; answers = answer ∷ []; acts = [] })

abbrev pub peer_names : List (List ℕ)
peer_names = codes "host" ∷ codes "port" ∷ codes "answers" ∷ []

abbrev pub peer_of : Data → Option Peer
peer_of d =
    if is_only peer_names d
    then peer_from (host_at (codes "host") d) (port_at (codes "port") d) (option_and_then answer_of (one_at (codes "answers") d))
    else None

-- ---- the request

abbrev pub is_http : Scheme → Bool
is_http Http = true
is_http Https = false

-- the GET request for a URL, where its scheme is http
abbrev pub if_http : Result Request BuildFault → Option Request
if_http (Ok r) = if is_http r.origin.scheme then Some r else None
if_http (Err e) = None

abbrev pub request_of : List ℕ → Option Request
request_of url = if_http (get_request url)

-- what stands there is this text
abbrev pub is_text : List ℕ → Option (List ℕ) → Bool
is_text text None = false
is_text text (Some t) = bytes_eq t text

abbrev pub call_names : List (List ℕ)
call_names = codes "call" ∷ codes "url" ∷ []

abbrev pub call_of : Data → Option Request
call_of d =
    if is_only call_names d && is_text (codes "submit") (text_at (codes "call") d)
    then option_and_then request_of (text_at (codes "url") d)
    else None

abbrev pub channel_names : List (List ℕ)
channel_names = codes "calls" ∷ []

abbrev pub channel_of : Data → Option Request
channel_of d = if is_only channel_names d then option_and_then call_of (one_at (codes "calls") d) else None

-- ---- the form

abbrev pub form_from : Option Peer → Option Request → Option SmallForm
form_from None request = None
form_from (Some peer) None = None
form_from (Some peer) (Some request) = Some (record { peers = peer ∷ []; request = request })

abbrev pub form_names : List (List ℕ)
form_names = codes "peers" ∷ codes "channels" ∷ []

abbrev pub form_of : Data → Option SmallForm
form_of d =
    if is_only form_names d
    then form_from (option_and_then peer_of (one_at (codes "peers") d)) (option_and_then channel_of (one_at (codes "channels") d))
    else None

-- the octets are JSON whose value gives this form
abbrev pub IsForm : List ℕ → SmallForm → Type 0
IsForm bytes f = (d : Data) × IsJson bytes d × (form_of d ≡ Some f)

-- the octets are JSON whose value is not of the form
abbrev pub IsNoForm : List ℕ → Type 0
IsNoForm bytes = (d : Data) × IsJson bytes d × (form_of d ≡ None)
