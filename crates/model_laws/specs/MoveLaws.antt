-- Exchanges wait again and are sent again only where they may be (RFC 9110, sections 9.2.2 and 15.5.20; RFC 7838, section 6; RFC 9112,
-- section 9.3.1; RFC 9113, sections 6.8 and 8.7).
use Rattle.std.specs.Prelude.{◌≡◌, ◌⊎◌, ◌<◌, ◌≤◌, ◌+◌, ◌==◌, ◌&&◌, ℕ, List, Bool, false, Some, IsTrue, Contains, slice_get}
use Rattle.net_base.specs.Methods.{is_idempotent_method}
use Rattle.net_base.specs.declared.end_cause.EndCause.{EndCause}
use Rattle.net_base.specs.declared.numbers.ConnNo.{ConnNo}
use Rattle.net_base.specs.declared.numbers.ExchangeNo.{ExchangeNo}
use Rattle.net_base.specs.declared.numbers.StreamNo.{StreamNo}
use Rattle.model_laws.specs.Courses.{state_at, Comes, OfExchange}
use Rattle.model_histories.specs.Reading.{IsHandingOf}
use Rattle.model_values.specs.declared.config.Config.{Config}
use Rattle.model_values.specs.declared.entry.Act.{Act}
use Rattle.model_values.specs.declared.entry.Act.TheVariants.{Reported, Closed}
use Rattle.model_values.specs.declared.entry.Entry.{Entry}
use Rattle.model_values.specs.declared.outcome.Outcome.TheVariants as outcome
use Rattle.model_values.specs.declared.report.Report.TheVariants as report
use Rattle.model_values.specs.declared.state.Exchange.{Exchange}
use Rattle.model_values.specs.declared.state.Status.TheVariants.{Ended}
use Rattle.model_authority.specs.Lists.{numbered}
use Rattle.model_authority.specs.Statuses.{is_leased, is_waiting, is_at, is_on, is_leased_elsewhere}
use Rattle.model_steps.specs.Goaway.{is_left_out}
use Rattle.model_steps.specs.Lost.{may_be_sent}

-- the entry lets an exchange that has a lease wait again
abbrev pub may_move : Exchange → Act → Bool
-- RFC 9110, section 15.5.20, and of an alternative RFC 7838, section 6: an answer 421 on its stream says that it was misdirected, and
-- its connection doesn't go to its origin itself
may_move e (Reported conn sent (report.Answered r response keep alt proof)) = is_at conn r e.status && response.status == 421 && is_leased_elsewhere e.status
-- RFC 9113, section 8.7: the peer refused its stream
may_move e (Reported conn sent (report.Refused r)) = is_at conn r e.status
-- RFC 9113, section 6.8: the peer goes away before it is handed, or leaves its stream out
may_move e (Reported conn sent (report.Goaway last)) = is_left_out conn last e.status
-- RFC 9110, section 9.2.2, and RFC 9112, section 9.3.1: its connection ends before it is handed, or it may be sent again
may_move e (Closed conn sent cause heard) = is_on conn e.status && may_be_sent e heard e.status
may_move e _ = false

-- each entry that makes an exchange wait again is one by which it may move
abbrev pub MovesAreLawful : Type 0
MovesAreLawful =
    (config : Config) (h : List Entry) (n : ℕ) (x : Entry) (number : ℕ) (before behind : Exchange) → Comes config h n x →
    numbered number (state_at config h n).exchanges ≡ Some before → IsTrue (is_leased before.status) →
    numbered number (state_at config h (n + 1)).exchanges ≡ Some behind → IsTrue (is_waiting behind.status) → IsTrue (may_move before x.act)

-- among the first n entries one hands the start of this stream to its connection
abbrev pub WasHanded : List Entry → ℕ → ConnNo → StreamNo → Type 0
WasHanded h n c r = (place : ℕ) × (place ≤ n) × IsHandingOf h c r place

-- among the first n entries one ended a connection to which the exchange's start was handed, and behind it the exchange waited again
pub record WasRetried (config : Config) (h : List Entry) (n : ℕ) (number : ExchangeNo) : Type 0 where
  pub before : ℕ
  pub is_before : before < n
  pub entry : Entry
  pub is_entry : slice_get h before ≡ Some entry
  pub conn : ConnNo
  pub sent : ℕ
  pub cause : EndCause
  pub heard : List StreamNo
  pub is_closed : entry.act ≡ Closed conn sent cause heard
  pub stream : StreamNo
  pub lease : OfExchange (state_at config h before) number (λ exchange. IsTrue (is_at conn stream exchange.status))
  pub handed : WasHanded h before conn stream
  pub waits : OfExchange (state_at config h (before + 1)) number (λ exchange. IsTrue (is_waiting exchange.status))

-- RFC 9110, section 9.2.2: the method isn't idempotent, octets of the answer were heard, or it was sent again once before because a
-- connection ended
abbrev pub MayNotBeSentAgain : Config → List Entry → ℕ → ExchangeNo → Exchange → StreamNo → List StreamNo → Type 0
MayNotBeSentAgain config h n number exchange r heard = (¬ IsTrue (is_idempotent_method exchange.ask.request.method)) ⊎ (Contains heard r ⊎ WasRetried config h n number)

-- an exchange whose connection ends, to which its start was handed, and that may not be sent again, has ended as lost at each state
-- behind that
abbrev pub LostExchangesStayLost : Type 0
LostExchangesStayLost =
    (config : Config) (h : List Entry) (n m : ℕ) (x : Entry) (number : ExchangeNo) (exchange : Exchange) (c : ConnNo) (sent : ℕ) (cause : EndCause) (heard : List StreamNo) (r : StreamNo) →
    Comes config h n x → x.act ≡ Closed c sent cause heard → numbered number.0 (state_at config h n).exchanges ≡ Some exchange → IsTrue (is_at c r exchange.status) → WasHanded h n c r →
    MayNotBeSentAgain config h n number exchange r heard → n < m → OfExchange (state_at config h m) number (λ later. later.status ≡ Ended (outcome.Lost c cause))
