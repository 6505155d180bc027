-- No reader of scenarios has a fault but those of the walk, so each refusal has its cause.
use Rattle.std.specs.Prelude.{IfErr}
use Rattle.std.proofs.Common.{◌≡◌, ◌⊎◌, inl, inr, ℕ, List, [], ◌∷◌, Bool, true, false, nat_le, codes, replicate, Option, Some, None, Result, Ok, Err, subst}
use Rattle.serde_json.specs.Data.{Data}
use Rattle.edge_traits.specs.declared.dialer.NetKind.TheVariants.{Inner}
use Rattle.net_base.specs.declared.request.BuildFault.{BuildFault}
use Rattle.net_base.specs.declared.request.Request.{Request}
use Rattle.net_base.specs.declared.target.Proto.{Proto}
use Rattle.net_base.specs.declared.target.Proto.TheVariants.{H1}
use Rattle.scenario_text.specs.Calls.{call_behind, call_of, call_word, carriage, channel, count_submits, credentials, built, default_key, earlier, key, members_of_call, payload, preconnect, reprioritise, request_body, request_with, resolved, script_call, submission, until}
use Rattle.scenario_walk.specs.Faults.{Gives}
use Rattle.scenario_walk.specs.Json.{IsJson}
use Rattle.scenario_text.specs.Limits.{default_config, most_body, most_requests, most_stream, most_submissions}
use Rattle.scenario_text.specs.Peers.{act_kind, act_word_of, answer, answer_body, answer_names, fits_frame, goaway, https_authority, members_of_act, peer, peer_act, peer_names}
use Rattle.scenario_text.specs.Scenarios.{IsNoScenario, RefusesScenario, body_octets, config, config_names, limit, root_names, scenario, scenario_of, submissions, within_sums}
use Rattle.scenario_walk.specs.Values.{net_word, proto_word}
use Rattle.scenario_text.specs.declared.acts.ActWord.{ActWord}
use Rattle.scenario_text.specs.declared.acts.ActWord.TheVariants.{NoDial, Hold, Drop, Limit, Goaway, Refuse, AltFrame}
use Rattle.scenario_text.specs.declared.calls.CallWord.{CallWord}
use Rattle.scenario_text.specs.declared.calls.CallWord.TheVariants.{Submit, Cancel, Reprioritise, Preconnect, Resolved, NetworkChanged, Wait, Until}
use Rattle.scenario_walk.specs.declared.fault.ScenarioFault.{ScenarioFault}
use Rattle.scenario_walk.specs.declared.fault.ScenarioFault.TheVariants.{NoMem, NotJson, Unsupported, BadValue, TooMany}
use Rattle.scenario_text.specs.declared.scenario.Scenario.{Scenario}
use Rattle.scenario_text.specs.declared.submissions.Payload.{Payload}
use Rattle.scenario_walk.proofs.FaultLemmas.{HasWalkFault, IsOfWalk, IsWalk, Walks, an_object-walks, any_list-walks, address-walks, behind, bind, choose, field-walks, flag-walks, gives, good_field-walks, host-walks, list-walks, list_behind-walks, moment_or_none-walks, name-walks, only-walks, optional-walks, required-walks, site-walks, some-walks, text-walks, text_that-walks, text_within-walks, whole-walks, word-walks}

-- ---- peers

answer_body-walks : (path : List ℕ) (t : Option (List ℕ)) (n : Option ℕ) → Walks (answer_body path t n)
answer_body-walks path None None = record { fault = tt }
answer_body-walks path (Some t) None = record { fault = tt }
answer_body-walks path None (Some n) = record { fault = tt }
answer_body-walks path (Some t) (Some n) = record { fault = tt }

pub answer-walks : IsWalk answer
answer-walks = record {
  at = λ path d.
      behind _ _ ((only-walks answer_names).at path d) (
      bind _ _ ((required-walks (codes "path") _ text-walks).at path d) (λ at.
      bind _ _ ((optional-walks (codes "authority") None _ (some-walks _ text-walks)).at path d) (λ authority.
      bind _ _ ((optional-walks (codes "status") 200 _ (whole-walks 200 599)).at path d) (λ status.
      bind _ _ ((optional-walks (codes "text") None _ (some-walks _ text-walks)).at path d) (λ octets.
      bind _ _ ((optional-walks (codes "size") None _ (some-walks _ (whole-walks 0 2097152))).at path d) (λ size.
      bind _ _ ((optional-walks (codes "fields") [] _ (any_list-walks _ good_field-walks)).at path d) (λ fields.
      bind _ _ (answer_body-walks path octets size) (λ body.
      gives _))))))));
}

pub goaway-walks : IsWalk goaway
goaway-walks = record {
  at = λ path d.
      bind _ _ ((required-walks (codes "after") _ (whole-walks 0 most_requests)).at path d) (λ k.
      bind _ _ ((required-walks (codes "last") _ (whole-walks 0 most_stream)).at path d) (λ s.
      gives _));
}

act_kind-walks : (authority : List ℕ) (w : ActWord) (path : List ℕ) (d : Data) → Walks (act_kind authority w path d)
act_kind-walks authority NoDial path d = gives _
act_kind-walks authority Hold path d = bind _ _ ((required-walks (codes "until") _ (whole-walks 0 most_requests)).at path d) (λ k. gives _)
act_kind-walks authority Drop path d = bind _ _ ((required-walks (codes "after") _ (whole-walks 0 most_requests)).at path d) (λ k. gives _)
act_kind-walks authority Limit path d = bind _ _ ((required-walks (codes "n") _ (whole-walks 0 4294967295)).at path d) (λ n. gives _)
act_kind-walks authority Goaway path d = goaway-walks.at path d
act_kind-walks authority Refuse path d = bind _ _ ((required-walks (codes "nth") _ (whole-walks 0 most_requests)).at path d) (λ k. gives _)
act_kind-walks authority AltFrame path d = bind _ _ ((required-walks (codes "value") _ (text_that-walks (fits_frame authority))).at path d) (λ value. gives _)

pub peer_act-walks : (proto : Proto) (authority : List ℕ) → IsWalk (peer_act proto authority)
peer_act-walks proto authority = record {
  at = λ path d.
      behind _ _ (an_object-walks.at path d) (
      bind _ _ ((required-walks (codes "kind") _ (word-walks (act_word_of proto))).at path d) (λ w.
      behind _ _ ((only-walks (codes "kind" ∷ codes "conn" ∷ members_of_act w)).at path d) (
      bind _ _ ((optional-walks (codes "conn") None _ (some-walks _ (whole-walks 1 4294967295))).at path d) (λ conn.
      bind _ _ (act_kind-walks authority w path d) (λ kind.
      gives _)))));
}

pub peer-walks : IsWalk peer
peer-walks = record {
  at = λ path d.
      behind _ _ ((only-walks peer_names).at path d) (
      bind _ _ ((required-walks (codes "host") _ host-walks).at path d) (λ at.
      bind _ _ ((required-walks (codes "port") _ (whole-walks 1 65535)).at path d) (λ port.
      bind _ _ ((optional-walks (codes "secure") false _ flag-walks).at path d) (λ secure.
      bind _ _ ((optional-walks (codes "proto") H1 _ (word-walks proto_word)).at path d) (λ proto.
      bind _ _ ((optional-walks (codes "names") [] _ (list-walks 100 _ name-walks)).at path d) (λ names.
      bind _ _ ((optional-walks (codes "address") (replicate 16 0) _ address-walks).at path d) (λ at_address.
      bind _ _ ((optional-walks (codes "answers") [] _ (list-walks 1000 _ answer-walks)).at path d) (λ answers.
      bind _ _ ((optional-walks (codes "acts") [] _ (list-walks 100 _ (peer_act-walks proto (https_authority at port)))).at path d) (λ acts.
      gives _)))))))));
}

-- ---- calls

key-walks : IsWalk key
key-walks = optional-walks (codes "site") default_key _ site-walks

credentials-walks : IsWalk credentials
credentials-walks = optional-walks (codes "credentials") true _ flag-walks

built-walks : (path : List ℕ) (r : Result Request BuildFault) → Walks (built path r)
built-walks path (Ok r) = record { fault = tt }
built-walks path (Err e) = record { fault = tt }

request_body-walks : (path : List ℕ) (t : Option (List ℕ)) (n : Option ℕ) → Walks (request_body path t n)
request_body-walks path None None = record { fault = tt }
request_body-walks path (Some t) None = record { fault = tt }
request_body-walks path None (Some n) = record { fault = tt }
request_body-walks path (Some t) (Some n) = record { fault = tt }

pub payload-walks : IsWalk payload
unfolding payload
payload-walks = record {
  at = λ path d.
      bind _ _ ((optional-walks (codes "fields") [] _ (any_list-walks _ field-walks)).at path d) (λ fields.
      bind _ _ ((optional-walks (codes "text") None _ (some-walks _ (text_within-walks most_body))).at path d) (λ octets.
      bind _ _ ((optional-walks (codes "size") None _ (some-walks _ (whole-walks 0 most_body))).at path d) (λ size.
      gives _)));
}

pub carriage-walks : IsWalk carriage
unfolding carriage
carriage-walks = record {
  at = λ path d.
      bind _ _ ((optional-walks (codes "urgency") 3 _ (whole-walks 0 7)).at path d) (λ urgency.
      bind _ _ ((optional-walks (codes "background") false _ flag-walks).at path d) (λ background.
      bind _ _ ((optional-walks (codes "deadline") None _ moment_or_none-walks).at path d) (λ deadline.
      bind _ _ ((optional-walks (codes "probe") false _ flag-walks).at path d) (λ probe.
      gives _))));
}

request_with-walks : (path method url : List ℕ) (p : Payload) → Walks (request_with path method url p)
unfolding request_with
request_with-walks path method url p = bind _ _ (request_body-walks path p.text p.size) (λ body. built-walks path _)

pub submission-walks : IsWalk submission
submission-walks = record {
  at = λ path d.
      bind _ _ ((required-walks (codes "url") _ text-walks).at path d) (λ url.
      bind _ _ ((optional-walks (codes "method") (codes "GET") _ text-walks).at path d) (λ method.
      bind _ _ (key-walks.at path d) (λ key.
      bind _ _ (credentials-walks.at path d) (λ credentials.
      bind _ _ (payload-walks.at path d) (λ payload.
      bind _ _ (carriage-walks.at path d) (λ carriage.
      bind _ _ (request_with-walks path method url payload) (λ request.
      gives _)))))));
}

pub preconnect-walks : IsWalk preconnect
preconnect-walks = record {
  at = λ path d.
      bind _ _ ((required-walks (codes "url") _ text-walks).at path d) (λ url.
      bind _ _ ((required-walks (codes "count") _ (whole-walks 1 6)).at path d) (λ count.
      bind _ _ (key-walks.at path d) (λ key.
      bind _ _ (credentials-walks.at path d) (λ credentials.
      bind _ _ (built-walks path _) (λ request.
      gives _)))));
}

pub resolved-walks : IsWalk resolved
resolved-walks = record {
  at = λ path d.
      bind _ _ ((required-walks (codes "host") _ host-walks).at path d) (λ host.
      bind _ _ ((required-walks (codes "addresses") _ (list-walks 100 _ address-walks)).at path d) (λ addresses.
      bind _ _ (key-walks.at path d) (λ key.
      gives _)));
}

earlier-walks : (n : ℕ) → IsWalk (earlier n)
earlier-walks n = required-walks (codes "of") _ (whole-walks 1 n)

pub reprioritise-walks : (n : ℕ) → IsWalk (reprioritise n)
reprioritise-walks n = record {
  at = λ path d.
      bind _ _ ((earlier-walks n).at path d) (λ of.
      bind _ _ ((required-walks (codes "urgency") _ (whole-walks 0 7)).at path d) (λ urgency.
      gives _));
}

pub until-walks : IsWalk until
until-walks = record {
  at = λ path d.
      bind _ _ ((required-walks (codes "moment") _ (whole-walks 0 18446744073709551615)).at path d) (λ moment.
      gives _);
}

call_of-walks : (n : ℕ) (w : CallWord) (path : List ℕ) (d : Data) → Walks (call_of n w path d)
call_of-walks n Submit path d = bind _ _ (submission-walks.at path d) (λ ask. gives _)
call_of-walks n Cancel path d = bind _ _ ((earlier-walks n).at path d) (λ of. gives _)
call_of-walks n Reprioritise path d = (reprioritise-walks n).at path d
call_of-walks n Preconnect path d = preconnect-walks.at path d
call_of-walks n Resolved path d = resolved-walks.at path d
call_of-walks n NetworkChanged path d = gives _
call_of-walks n Wait path d = bind _ _ ((earlier-walks n).at path d) (λ of. gives _)
call_of-walks n Until path d = until-walks.at path d

pub call_behind-walks : (n : ℕ) → IsWalk (call_behind n)
call_behind-walks n = record {
  at = λ path d.
      behind _ _ (an_object-walks.at path d) (
      bind _ _ ((required-walks (codes "call") _ (word-walks call_word)).at path d) (λ w.
      behind _ _ ((only-walks (codes "call" ∷ members_of_call w)).at path d) (
      call_of-walks n w path d)));
}

pub channel-walks : IsWalk channel
channel-walks = record {
  at = λ path d.
      behind _ _ ((only-walks (codes "calls" ∷ [])).at path d) (
      (required-walks (codes "calls") _ (list_behind-walks 20000 script_call (λ before. call_behind-walks (count_submits before)))).at path d);
}

-- ---- the whole

limit-walks : (name : List ℕ) (most : ℕ) → IsWalk (limit name most)
limit-walks name most = optional-walks name most _ (whole-walks 1 most)

pub config-walks : IsWalk config
config-walks = record {
  at = λ path d.
      behind _ _ ((only-walks config_names).at path d) (
      bind _ _ ((limit-walks (codes "per_group") default_config.per_group).at path d) (λ per_group.
      bind _ _ ((limit-walks (codes "total") default_config.total).at path d) (λ total.
      bind _ _ ((limit-walks (codes "streams") default_config.streams).at path d) (λ streams.
      bind _ _ ((optional-walks (codes "background") default_config.background _ (whole-walks 0 default_config.total)).at path d) (λ background.
      bind _ _ ((limit-walks (codes "last_stream") default_config.last_stream).at path d) (λ last_stream.
      bind _ _ ((limit-walks (codes "submissions") default_config.submissions).at path d) (λ submissions.
      gives _)))))));
}

pub scenario-walks : IsWalk scenario
scenario-walks = record {
  at = λ path d.
      behind _ _ ((only-walks root_names).at path d) (
      bind _ _ ((optional-walks (codes "net") Inner _ (word-walks net_word)).at path d) (λ net.
      bind _ _ ((optional-walks (codes "config") default_config _ config-walks).at path d) (λ limits.
      bind _ _ ((required-walks (codes "peers") _ (list-walks 64 _ peer-walks)).at path d) (λ peers.
      bind _ _ ((required-walks (codes "channels") _ (list-walks 64 _ channel-walks)).at path d) (λ channels.
      gives _)))));
}

within_sums-walks : (s : Scenario) → Walks (within_sums s)
within_sums-walks s =
    choose (nat_le (submissions s) most_submissions) _ _ (choose (nat_le (body_octets s) 16777216) _ _ (gives s) (record { fault = tt })) (record { fault = tt })

scenario_of-walks : (d : Data) → Walks (scenario_of d)
scenario_of-walks d = bind _ _ (scenario-walks.at [] d) (λ s. within_sums-walks s)

cause : (bytes : List ℕ) (d : Data) (e : ScenarioFault) → IsOfWalk e → IsJson bytes d → scenario_of d ≡ Err e → IsNoScenario bytes e
cause bytes d NoMem of_walk json is = of_walk
cause bytes d NotJson of_walk json is = absurd of_walk
cause bytes d (Unsupported path) of_walk json is = (d, json, is)
cause bytes d (BadValue path) of_walk json is = (d, json, is)
cause bytes d (TooMany path n) of_walk json is = (d, json, is)

-- the walk's result refuses the octets for the reason that they give
pub refused : (bytes : List ℕ) (d : Data) (r : Result Scenario ScenarioFault) → IsJson bytes d → Gives r (scenario_of d) → IfErr r (RefusesScenario bytes)
refused bytes d (Ok s) json given = tt
refused bytes d (Err e) json given =
    elim given [
      | inl is ↦ inr (cause bytes d e (subst (λ (r : Result Scenario ScenarioFault). HasWalkFault r) is (scenario_of-walks d).fault) json is)
      | inr no_mem ↦ inl no_mem
    ]
