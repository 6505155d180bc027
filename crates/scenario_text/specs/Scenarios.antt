-- Scenarios: the walk over the whole value, and what is tested behind it.
use Rattle.std.specs.Prelude.{◌≡◌, ◌⊎◌, ℕ, List, [], ◌∷◌, ◌+◌, ◌*◌, max, nat_le, Bool, true, false, codes, length, count_by, fold, sum_by, Result, Ok, Err, if◌then◌else◌}
use Rattle.serde_json.specs.Data.{Data}
use Rattle.edge_traits.specs.declared.dialer.NetKind.TheVariants.{Inner}
use Rattle.net_base.specs.Results.{◌>>=◌, ◌>>◌}
use Rattle.net_base.specs.declared.peer.AnswerBody.{AnswerBody}
use Rattle.net_base.specs.declared.peer.AnswerBody.TheVariants.{Text, Size}
use Rattle.net_base.specs.declared.peer.Peer.{Peer}
use Rattle.model_values.specs.declared.config.Config.{Config}
use Rattle.model_values.specs.declared.script.ScriptCall.{ScriptCall}
use Rattle.model_values.specs.declared.script.ScriptCall.TheVariants.{Submit, Cancel, Reprioritise, Preconnect, Resolved, NetworkChanged, Wait, Until}
use Rattle.scenario_text.specs.Calls.{channel}
use Rattle.scenario_walk.specs.Faults.{Reader, only, required, optional, list}
use Rattle.scenario_walk.specs.Json.{IsJson, IsNoJson}
use Rattle.scenario_text.specs.Limits.{default_config, most_submissions}
use Rattle.scenario_text.specs.Peers.{peer}
use Rattle.scenario_walk.specs.Values.{whole, word, net_word}
use Rattle.scenario_walk.specs.declared.fault.ScenarioFault.{ScenarioFault}
use Rattle.scenario_walk.specs.declared.fault.ScenarioFault.TheVariants.{NoMem, NotJson, Unsupported, BadValue, TooMany}
use Rattle.scenario_text.specs.declared.scenario.Scenario.{Scenario}

-- ---- the walk

-- a limit from 1 to the one of a scenario that gives none
abbrev pub limit : List ℕ → ℕ → Reader ℕ
limit name most = optional name most (whole 1 most)

abbrev pub config_names : List (List ℕ)
config_names =
    codes "per_group" ∷ codes "total" ∷ codes "streams" ∷ codes "background" ∷ codes "last_stream" ∷ codes "submissions" ∷ []

abbrev pub config : Reader Config
config path d = do
  only config_names path d
  per_group ← limit (codes "per_group") default_config.per_group path d
  total ← limit (codes "total") default_config.total path d
  streams ← limit (codes "streams") default_config.streams path d
  background ← optional (codes "background") default_config.background (whole 0 default_config.total) path d
  last_stream ← limit (codes "last_stream") default_config.last_stream path d
  submissions ← limit (codes "submissions") default_config.submissions path d
  Ok (record { per_group = per_group; total = total; streams = streams; background = background; last_stream = last_stream; submissions = submissions })

abbrev pub root_names : List (List ℕ)
root_names = codes "net" ∷ codes "config" ∷ codes "peers" ∷ codes "channels" ∷ []

abbrev pub scenario : Reader Scenario
scenario path d = do
  only root_names path d
  net ← optional (codes "net") Inner (word net_word) path d
  limits ← optional (codes "config") default_config config path d
  peers ← required (codes "peers") (list 64 peer) path d
  channels ← required (codes "channels") (list 64 channel) path d
  Ok (record { net = net; config = limits; peers = peers; channels = channels })

-- ---- behind the walk

abbrev pub is_submission : ScriptCall → Bool
is_submission (Submit ask) = true
is_submission (Cancel of) = false
is_submission (Reprioritise of urgency) = false
is_submission (Preconnect key credentials origin count) = false
is_submission (Resolved key host addresses) = false
is_submission NetworkChanged = false
is_submission (Wait of) = false
is_submission (Until moment) = false

-- how many submissions the scripts have
abbrev pub submissions : Scenario → ℕ
submissions s = sum_by (λ calls. count_by is_submission calls) s.channels

abbrev pub body_length : AnswerBody → ℕ
body_length (Text octets) = length octets
body_length (Size n) = n

-- the largest size, 0 where there is nothing
abbrev pub largest : {A : Type 0} → (A → ℕ) → List A → ℕ
largest size xs = fold (λ most x. max most (size x)) 0 xs

-- the length of the largest scripted answer body
abbrev pub largest_body : List Peer → ℕ
largest_body peers = largest (λ p. largest (λ a. body_length a.body) p.answers) peers

abbrev pub request_octets : ScriptCall → ℕ
request_octets (Submit ask) = length ask.request.body
request_octets (Cancel of) = 0
request_octets (Reprioritise of urgency) = 0
request_octets (Preconnect key credentials origin count) = 0
request_octets (Resolved key host addresses) = 0
request_octets NetworkChanged = 0
request_octets (Wait of) = 0
request_octets (Until moment) = 0

-- the octets of all request bodies
abbrev pub all_request_octets : Scenario → ℕ
all_request_octets s = sum_by (λ calls. sum_by request_octets calls) s.channels

-- as many largest answer bodies as there are submissions, and all request bodies
abbrev pub body_octets : Scenario → ℕ
body_octets s = submissions s * largest_body s.peers + all_request_octets s

-- no more submissions than a scenario may have, and at most 16777216 octets by this sum
abbrev pub within_sums : Scenario → Result Scenario ScenarioFault
within_sums s =
    if nat_le (submissions s) most_submissions
    then (if nat_le (body_octets s) 16777216 then Ok s else Err (TooMany (codes "/") (body_octets s)))
    else Err (TooMany (codes "/channels") (submissions s))

-- ---- the text

-- the scenario that a value of JSON is, or its first fault
abbrev pub scenario_of : Data → Result Scenario ScenarioFault
scenario_of d = do
  s ← scenario [] d
  within_sums s

-- the octets are JSON whose value is this scenario
abbrev pub IsScenario : List ℕ → Scenario → Type 0
IsScenario bytes s = (d : Data) × IsJson bytes d × (scenario_of d ≡ Ok s)

-- the octets are JSON whose value has this as its first fault
abbrev pub HasFault : List ℕ → ScenarioFault → Type 0
HasFault bytes fault = (d : Data) × IsJson bytes d × (scenario_of d ≡ Err fault)

-- why the octets give no scenario: they are no JSON, or the first fault of the walk
abbrev pub IsNoScenario : List ℕ → ScenarioFault → Type 0
IsNoScenario bytes NoMem = ⊥
IsNoScenario bytes NotJson = IsNoJson bytes
IsNoScenario bytes (Unsupported path) = HasFault bytes (Unsupported path)
IsNoScenario bytes (BadValue path) = HasFault bytes (BadValue path)
IsNoScenario bytes (TooMany path n) = HasFault bytes (TooMany path n)

-- why no scenario is given; want of memory needs no cause
abbrev pub RefusesScenario : List ℕ → ScenarioFault → Type 0
RefusesScenario bytes fault = (fault ≡ NoMem) ⊎ IsNoScenario bytes fault
