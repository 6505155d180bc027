-- The calls of a channel's script.
use Rattle.std.specs.Prelude.{ℕ, List, [], ◌∷◌, nat_le, Bool, true, false, codes, bytes_eq, length, replicate, count_by, Option, Some, None, option_and_then, Result, Ok, Err, if◌then◌else◌}
use Rattle.serde_json.specs.Data.{Data}
use Rattle.serde_json.specs.Find.{get, as_str}
use Rattle.net_base.specs.Requests.{request_of, get_request}
use Rattle.net_base.specs.Results.{◌>>=◌, ◌>>◌}
use Rattle.net_base.specs.declared.origin.Scheme.TheVariants.{Https}
use Rattle.net_base.specs.declared.request.BuildFault.{BuildFault}
use Rattle.net_base.specs.declared.request.Request.{Request}
use Rattle.partition_keys.specs.declared.key.PartitionKey.{PartitionKey}
use Rattle.partition_keys.specs.declared.site.Site.TheVariants.{Tuple}
use Rattle.model_values.specs.declared.script.ScriptCall.{ScriptCall}
use Rattle.model_values.specs.declared.script.ScriptCall.TheVariants as call
use Rattle.model_values.specs.declared.submission.Submission.{Submission}
use Rattle.scenario_walk.specs.Faults.{Reader, bad, an_object, only, required, optional, list, any_list, list_behind}
use Rattle.scenario_walk.specs.Values.{flag, text, text_within, whole, some, word, host, address, site, key_of, moment_or_none, field}
use Rattle.scenario_text.specs.Limits.{most_body}
use Rattle.scenario_text.specs.declared.calls.CallWord.{CallWord}
use Rattle.scenario_text.specs.declared.calls.CallWord.TheVariants.{Submit, Cancel, Reprioritise, Preconnect, Resolved, NetworkChanged, Wait, Until}
use Rattle.scenario_walk.specs.declared.fault.ScenarioFault.{ScenarioFault}
use Rattle.scenario_text.specs.declared.submissions.Carriage.{Carriage}
use Rattle.scenario_text.specs.declared.submissions.Payload.{Payload}

-- ---- which call it is

abbrev pub call_word : List ℕ → Option CallWord
call_word t =
    if bytes_eq t (codes "submit") then Some Submit
    else if bytes_eq t (codes "cancel") then Some Cancel
    else if bytes_eq t (codes "reprioritise") then Some Reprioritise
    else if bytes_eq t (codes "preconnect") then Some Preconnect
    else if bytes_eq t (codes "resolved") then Some Resolved
    else if bytes_eq t (codes "network_changed") then Some NetworkChanged
    else if bytes_eq t (codes "wait") then Some Wait
    else if bytes_eq t (codes "until") then Some Until
    else None

abbrev pub members_of_call : CallWord → List (List ℕ)
members_of_call Submit =
    codes "url" ∷ codes "method" ∷ codes "site" ∷ codes "credentials" ∷ codes "fields" ∷ codes "text" ∷ codes "size"
    ∷ codes "urgency" ∷ codes "background" ∷ codes "deadline" ∷ codes "probe" ∷ []
members_of_call Cancel = codes "of" ∷ []
members_of_call Reprioritise = codes "of" ∷ codes "urgency" ∷ []
members_of_call Preconnect = codes "url" ∷ codes "count" ∷ codes "site" ∷ codes "credentials" ∷ []
members_of_call Resolved = codes "host" ∷ codes "addresses" ∷ codes "site" ∷ []
members_of_call NetworkChanged = []
members_of_call Wait = codes "of" ∷ []
members_of_call Until = codes "moment" ∷ []

-- ---- submissions before

abbrev pub is_submit_text : Option (List ℕ) → Bool
is_submit_text None = false
is_submit_text (Some t) = bytes_eq t (codes "submit")

abbrev pub is_submit : Data → Bool
is_submit d = is_submit_text (option_and_then as_str (get (codes "call") d))

abbrev pub count_submits : List Data → ℕ
count_submits ds = count_by is_submit ds

-- the number of one of so many submissions that stand before, counted from 1
abbrev pub earlier : ℕ → Reader ℕ
earlier submitted = required (codes "of") (whole 1 submitted)

-- ---- members of several calls

-- `https://top.test`
abbrev pub default_key : PartitionKey
default_key = key_of (Tuple Https (codes "top.test"))

abbrev pub key : Reader PartitionKey
key = optional (codes "site") default_key site

abbrev pub credentials : Reader Bool
credentials = optional (codes "credentials") true flag

-- the request, where it can be built
abbrev pub built : List ℕ → Result Request BuildFault → Result Request ScenarioFault
built path (Ok r) = Ok r
built path (Err e) = bad path

-- ---- submit

-- the octets of the text, or so many octets `x`; not both
abbrev pub request_body : List ℕ → Option (List ℕ) → Option ℕ → Result (List ℕ) ScenarioFault
request_body path None None = Ok []
request_body path (Some t) None = Ok t
request_body path None (Some n) = Ok (replicate n 120)
request_body path (Some t) (Some n) = bad path

-- what the request carries: its fields, and the text or the size of its body
unfoldable pub payload : Reader Payload
payload path d = do
  fields ← optional (codes "fields") [] (any_list field) path d
  octets ← optional (codes "text") None (some (text_within most_body)) path d
  size ← optional (codes "size") None (some (whole 0 most_body)) path d
  Ok (record { fields = fields; text = octets; size = size })

-- how the exchange is to be carried: its urgency (RFC 9218, section 4.1), whether it is in the background, its deadline, and
-- whether it is a probe
unfoldable pub carriage : Reader Carriage
carriage path d = do
  urgency ← optional (codes "urgency") 3 (whole 0 7) path d
  background ← optional (codes "background") false flag path d
  deadline ← optional (codes "deadline") None moment_or_none path d
  probe ← optional (codes "probe") false flag path d
  Ok (record { urgency = urgency; background = background; deadline = deadline; probe = probe })

-- the request of a method, a URL and what it carries, where `Request::build` takes them
unfoldable pub request_with : List ℕ → List ℕ → List ℕ → Payload → Result Request ScenarioFault
request_with path method url payload = do
  body ← request_body path payload.text payload.size
  built path (request_of method url payload.fields body)

-- its members in their order; that the request can be built is tested behind them
abbrev pub submission : Reader Submission
submission path d = do
  url ← required (codes "url") text path d
  method ← optional (codes "method") (codes "GET") text path d
  key ← key path d
  credentials ← credentials path d
  payload ← payload path d
  carriage ← carriage path d
  request ← request_with path method url payload
  Ok (record { key = key; credentials = credentials; request = request; urgency = carriage.urgency; background = carriage.background; deadline = carriage.deadline; probe = carriage.probe })

-- ---- the other calls

abbrev pub preconnect : Reader ScriptCall
preconnect path d = do
  url ← required (codes "url") text path d
  count ← required (codes "count") (whole 1 6) path d
  key ← key path d
  credentials ← credentials path d
  request ← built path (get_request url)
  Ok (call.Preconnect key credentials request.origin count)

abbrev pub resolved : Reader ScriptCall
resolved path d = do
  host ← required (codes "host") host path d
  addresses ← required (codes "addresses") (list 100 address) path d
  key ← key path d
  Ok (call.Resolved key host addresses)

abbrev pub reprioritise : ℕ → Reader ScriptCall
reprioritise submitted path d = do
  of ← earlier submitted path d
  urgency ← required (codes "urgency") (whole 0 7) path d
  Ok (call.Reprioritise of urgency)

abbrev pub until : Reader ScriptCall
until path d = do
  moment ← required (codes "moment") (whole 0 18446744073709551615) path d
  Ok (call.Until (record { 0 = moment }))

-- ---- any call

-- the call of this word, behind so many submissions
abbrev pub call_of : ℕ → CallWord → Reader ScriptCall
call_of submitted Submit path d = do
  ask ← submission path d
  Ok (call.Submit ask)
call_of submitted Cancel path d = do
  of ← earlier submitted path d
  Ok (call.Cancel of)
call_of submitted Reprioritise path d = reprioritise submitted path d
call_of submitted Preconnect path d = preconnect path d
call_of submitted Resolved path d = resolved path d
call_of submitted NetworkChanged path d = Ok call.NetworkChanged
call_of submitted Wait path d = do
  of ← earlier submitted path d
  Ok (call.Wait of)
call_of submitted Until path d = until path d

-- its member `call` says which members it has
abbrev pub call_behind : ℕ → Reader ScriptCall
call_behind submitted path d = do
  an_object path d
  w ← required (codes "call") (word call_word) path d
  only (codes "call" ∷ members_of_call w) path d
  call_of submitted w path d

-- a call, behind these
abbrev pub script_call : List Data → Reader ScriptCall
script_call before = call_behind (count_submits before)

abbrev pub channel : Reader (List ScriptCall)
channel path d = do
  only (codes "calls" ∷ []) path d
  required (codes "calls") (list_behind 20000 script_call) path d
