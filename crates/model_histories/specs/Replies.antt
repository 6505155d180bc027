-- The one reply to each call. What is refused, and in which order, is this project's own, apart from what a comment names.
use Rattle.std.specs.Prelude.{◌≡◌, ◌≢◌, ◌≤◌, ◌<◌, ℕ, List, ◌+◌, ◌==◌, ◌&&◌, not, nat_lt, Bool, Option, Some, None, if◌then◌else◌, IsTrue, IsSomeAnd, codes, length}
use Rattle.std.specs.Str.{bytes_eq}
use Rattle.net_base.specs.declared.numbers.CallerNo.{CallerNo}
use Rattle.net_base.specs.declared.numbers.ConnNo.{ConnNo}
use Rattle.net_base.specs.declared.numbers.ExchangeNo.{ExchangeNo}
use Rattle.net_base.specs.declared.target.Target.{Target}
use Rattle.partition_keys.specs.declared.group.GroupKey.{GroupKey}
use Rattle.model_settling.specs.Counts.{count_total, count_in_group}
use Rattle.model_authority.specs.Lists.{numbered, IsLowest}
use Rattle.model_settling.specs.Due.{lowest_of}
use Rattle.model_settling.specs.Room.{planned}
use Rattle.model_authority.specs.Statuses.{has_ended, is_wanted}
use Rattle.model_authority.specs.Ways.{is_https}
use Rattle.model_values.specs.declared.reply.CancelReply.{CancelReply}
use Rattle.model_values.specs.declared.reply.CancelReply.TheVariants as cancel
use Rattle.model_values.specs.declared.reply.ChangeReply.{ChangeReply}
use Rattle.model_values.specs.declared.reply.ChangeReply.TheVariants as change
use Rattle.model_values.specs.declared.reply.PreconnectReply.{PreconnectReply}
use Rattle.model_values.specs.declared.reply.PreconnectReply.TheVariants as preconnect
use Rattle.model_values.specs.declared.reply.ResolvedReply.{ResolvedReply}
use Rattle.model_values.specs.declared.reply.ResolvedReply.TheVariants as resolved
use Rattle.model_values.specs.declared.reply.ShutReply.{ShutReply}
use Rattle.model_values.specs.declared.reply.ShutReply.TheVariants as shut
use Rattle.model_values.specs.declared.reply.SubmitReply.{SubmitReply}
use Rattle.model_values.specs.declared.reply.SubmitReply.TheVariants as submit
use Rattle.model_values.specs.declared.state.AbstractPool.{AbstractPool}
use Rattle.model_values.specs.declared.state.Connection.{Connection}
use Rattle.model_values.specs.declared.state.Exchange.{Exchange}
use Rattle.model_values.specs.declared.submission.Submission.{Submission}
use Rattle.model_values.specs.Limits.{most_addresses}

-- ---- submit

-- RFC 8164, section 2.3: the path of the http-opportunistic resource
abbrev pub is_probe_path : List ℕ → Bool
is_probe_path path = bytes_eq path (codes "/.well-known/http-opportunistic")

-- RFC 8164, section 2.3: a probe asks for that resource of an http origin
abbrev pub is_bad_probe : Submission → Bool
is_bad_probe ask = ask.probe && not (not (is_https ask.request.origin.scheme) && is_probe_path ask.request.path)

abbrev pub IsSubmitReply : AbstractPool → Submission → SubmitReply → Type 0
IsSubmitReply s ask (submit.Closed place) = s.shutdown ≡ Some place
IsSubmitReply s ask submit.BadProbe = (s.shutdown ≡ None) × IsTrue (is_bad_probe ask)
IsSubmitReply s ask (submit.SubmissionsFull n) = (s.shutdown ≡ None) × (¬ IsTrue (is_bad_probe ask)) × (n ≡ length s.exchanges) × (n ≡ s.config.submissions)
IsSubmitReply s ask (submit.Accepted e) = (s.shutdown ≡ None) × (¬ IsTrue (is_bad_probe ask)) × (length s.exchanges ≢ s.config.submissions) × (e.0 ≡ length s.exchanges + 1)

abbrev pub submit_reply_by : AbstractPool → Submission → Option ℕ → SubmitReply
submit_reply_by s ask (Some place) = submit.Closed place
submit_reply_by s ask None =
    if is_bad_probe ask then submit.BadProbe
    else if length s.exchanges == s.config.submissions then submit.SubmissionsFull (length s.exchanges)
    else submit.Accepted (record { 0 = length s.exchanges + 1 })

unfoldable pub submit_reply : AbstractPool → Submission → SubmitReply
submit_reply s ask = submit_reply_by s ask s.shutdown

-- ---- cancel and reprioritise

abbrev pub of_caller : CallerNo → Option Exchange → Option Exchange
of_caller who None = None
of_caller who (Some e) = if e.caller.0 == who.0 then Some e else None

-- the exchange of this number, where it is this caller's
unfoldable pub own_exchange : AbstractPool → CallerNo → ExchangeNo → Option Exchange
own_exchange s who e = of_caller who (numbered e.0 s.exchanges)

abbrev pub IsCancelReply : AbstractPool → CallerNo → ExchangeNo → CancelReply → Type 0
IsCancelReply s who e cancel.Unknown = own_exchange s who e ≡ None
IsCancelReply s who e cancel.Ended = IsSomeAnd (own_exchange s who e) (λ exchange. IsTrue (has_ended exchange.status))
IsCancelReply s who e cancel.Cancelled = IsSomeAnd (own_exchange s who e) (λ exchange. ¬ IsTrue (has_ended exchange.status))

abbrev pub cancel_reply_by : Option Exchange → CancelReply
cancel_reply_by None = cancel.Unknown
cancel_reply_by (Some x) = if has_ended x.status then cancel.Ended else cancel.Cancelled

unfoldable pub cancel_reply : AbstractPool → CallerNo → ExchangeNo → CancelReply
cancel_reply s who e = cancel_reply_by (own_exchange s who e)

abbrev pub IsChangeReply : AbstractPool → CallerNo → ExchangeNo → ChangeReply → Type 0
IsChangeReply s who e change.Unknown = own_exchange s who e ≡ None
IsChangeReply s who e change.Ended = IsSomeAnd (own_exchange s who e) (λ exchange. IsTrue (has_ended exchange.status))
IsChangeReply s who e change.Changed = IsSomeAnd (own_exchange s who e) (λ exchange. ¬ IsTrue (has_ended exchange.status))

abbrev pub change_reply_by : Option Exchange → ChangeReply
change_reply_by None = change.Unknown
change_reply_by (Some x) = if has_ended x.status then change.Ended else change.Changed

unfoldable pub change_reply : AbstractPool → CallerNo → ExchangeNo → ChangeReply
change_reply s who e = change_reply_by (own_exchange s who e)

-- ---- preconnect

abbrev pub IsPreconnectReply : AbstractPool → GroupKey → ℕ → PreconnectReply → Type 0
IsPreconnectReply s g count (preconnect.Closed place) = s.shutdown ≡ Some place
IsPreconnectReply s g count (preconnect.NoRoom total in_group) = (s.shutdown ≡ None) × (planned s g count ≡ 0) × (total ≡ count_total s) × (in_group ≡ count_in_group s g)
IsPreconnectReply s g count (preconnect.Opening k) = (s.shutdown ≡ None) × (0 < k) × (k ≡ planned s g count)

abbrev pub preconnect_reply_by : AbstractPool → GroupKey → ℕ → Option ℕ → PreconnectReply
preconnect_reply_by s g count (Some place) = preconnect.Closed place
preconnect_reply_by s g count None =
    if planned s g count == 0 then preconnect.NoRoom (count_total s) (count_in_group s g)
    else preconnect.Opening (planned s g count)

unfoldable pub preconnect_reply : AbstractPool → GroupKey → ℕ → PreconnectReply
preconnect_reply s g count = preconnect_reply_by s g count s.shutdown

-- ---- resolved, shutdown and seek

abbrev pub IsResolvedReply : AbstractPool → List (List ℕ) → ResolvedReply → Type 0
IsResolvedReply s addresses (resolved.Closed place) = s.shutdown ≡ Some place
IsResolvedReply s addresses (resolved.TooMany n) = (s.shutdown ≡ None) × (n ≡ length addresses) × (most_addresses < n)
IsResolvedReply s addresses resolved.Noted = (s.shutdown ≡ None) × (length addresses ≤ most_addresses)

abbrev pub resolved_reply_by : List (List ℕ) → Option ℕ → ResolvedReply
resolved_reply_by addresses (Some place) = resolved.Closed place
resolved_reply_by addresses None = if nat_lt most_addresses (length addresses) then resolved.TooMany (length addresses) else resolved.Noted

abbrev pub resolved_reply : AbstractPool → List (List ℕ) → ResolvedReply
resolved_reply s addresses = resolved_reply_by addresses s.shutdown

abbrev pub IsShutReply : AbstractPool → ShutReply → Type 0
IsShutReply s (shut.Closed place) = s.shutdown ≡ Some place
IsShutReply s shut.Noted = s.shutdown ≡ None

abbrev pub shut_reply_by : Option ℕ → ShutReply
shut_reply_by (Some place) = shut.Closed place
shut_reply_by None = shut.Noted

abbrev pub shut_reply : AbstractPool → ShutReply
shut_reply s = shut_reply_by s.shutdown

abbrev pub waits_for_dial : ℕ → Connection → Bool
waits_for_dial number c = is_wanted c.phase

-- the lowest-numbered connection that is wanted, and where it is to go
pub record IsDial (s : AbstractPool) (c : ConnNo) (target : Target) : Type 0 where
  pub lowest : IsLowest waits_for_dial s.connections c.0
  pub connection : Connection
  pub is_connection : numbered c.0 s.connections ≡ Some connection
  pub is_target : target ≡ connection.group.target

-- the number of the connection that is to be dialed
unfoldable pub dial_of : AbstractPool → Option ℕ
dial_of s = lowest_of waits_for_dial s.connections
