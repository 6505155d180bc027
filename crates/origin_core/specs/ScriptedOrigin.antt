-- What a scripted HTTP/1.1 origin puts for the octets that it received (RFC 9112). Of the peer's acts none is looked
-- at but `nodial`, which concerns its dials.
use Rattle.std.specs.Prelude.{◌≡◌, ◌≤◌, ◌<◌, ℕ, Bool, true, false, List, ◌++◌, length, take, drop, flat_map, All}
use Rattle.net_base.specs.declared.peer.Peer.{Peer}
use Rattle.origin_core.specs.declared.scripted_request.Asked.{Asked}
use Rattle.origin_core.specs.declared.scripted_origin.ScriptedOrigin.{ScriptedOrigin}
use Rattle.origin_core.specs.declared.scripted_origin.Step.{Step}
use Rattle.origin_core.specs.declared.scripted_origin.Step.TheVariants.{Answered, Unfinished, Unreadable}
use Rattle.origin_core.specs.ScriptedRequests.{IsWhole, IsUnfinished, IsUnreadable}
use Rattle.origin_core.specs.ScriptedAnswers.{text_for}

-- a request as it came
pub record Arrived : Type 0 where
  pub octets : List ℕ
  pub asked : Asked

-- the requests are whole, stand so one behind the other, and have these answers, in order
pub record AnswersTo (peer : Peer) (octets put : List ℕ) (requests : List Arrived) : Type 0 where
  pub whole : All (λ r. IsWhole r.octets r.asked) requests
  pub octets_are : octets ≡ flat_map (λ r. r.octets) requests
  pub put_is : put ≡ flat_map (λ r. text_for peer.answers r.asked) requests

-- the octets are whole requests, and what is put are their answers, in order: there are such requests
abbrev pub AreAnswered : Peer → List ℕ → List ℕ → Type 0
AreAnswered peer octets put = ∥ ((requests : List Arrived) × AnswersTo peer octets put requests) ∥₁

-- the origin stops: before a request that isn't whole yet, or, where it is over, before one that can't be read
abbrev pub StopsAt : List ℕ → Bool → Type 0
StopsAt rest false = IsUnfinished rest
StopsAt rest true = IsUnreadable rest

-- An HTTP/1.1 origin puts the answers to the whole requests that its input begins with, in order, and nothing else. It
-- stops before a request that it can't read.
abbrev pub Puts : Peer → List ℕ → List ℕ → Bool → Type 0
Puts peer input put over =
    (answered : List ℕ) × (rest : List ℕ) × (input ≡ answered ++ rest) × AreAnswered peer answered put × StopsAt rest over

-- all that the origin put so far
abbrev pub put_of : ScriptedOrigin → List ℕ
put_of origin = origin.put

-- the origin has put the answers to the whole requests in so many of the octets that it received
pub record IsOriginAt (peer : Peer) (input : List ℕ) (origin : ScriptedOrigin) : Type 0 where
  pub within : origin.answered ≤ length input
  pub answered : AreAnswered peer (take origin.answered input) origin.put

-- what the next request did
abbrev pub StepIs : List ℕ → ScriptedOrigin → ScriptedOrigin → Step → Type 0
StepIs input before after Answered = before.answered < after.answered
StepIs input before after Unfinished = IsUnfinished (drop after.answered input)
StepIs input before after Unreadable = IsUnreadable (drop after.answered input)
