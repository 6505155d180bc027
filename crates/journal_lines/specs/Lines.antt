-- The line of an entry in a journal, format 1: its words parted by one space, and LF (10) behind them. The format is this
-- project's own; the sections say what the values are. Of a partition key only the site is written.
use Rattle.std.specs.Prelude.{ℕ, Bool, List, [], ◌∷◌, ◌++◌, codes, if◌then◌else◌}
use Rattle.std.specs.List.{flat_map}
use Rattle.std.specs.Fmt.{decimal}
use Rattle.hex.specs.Hex.{encode_lower}
use Rattle.net_base.specs.declared.identity.Identity.{Identity}
use Rattle.net_base.specs.declared.origin.Origin.{Origin}
use Rattle.net_base.specs.declared.request.Request.{Request}
use Rattle.net_base.specs.declared.response.Response.{Response}
use Rattle.partition_keys.specs.declared.key.PartitionKey.{PartitionKey}
use Rattle.partition_keys.specs.Sites.{site_text}
use Rattle.model_values.specs.declared.entry.Act.{Act}
use Rattle.model_values.specs.declared.entry.Act.TheVariants as act
use Rattle.model_values.specs.declared.entry.Entry.{Entry}
use Rattle.model_values.specs.declared.order.OrderMark.{OrderMark}
use Rattle.model_values.specs.declared.order.OrderMark.TheVariants as mark
use Rattle.model_values.specs.declared.reply.CancelReply.{CancelReply}
use Rattle.model_values.specs.declared.reply.CancelReply.TheVariants as cancelled
use Rattle.model_values.specs.declared.reply.ChangeReply.{ChangeReply}
use Rattle.model_values.specs.declared.reply.ChangeReply.TheVariants as changed
use Rattle.model_values.specs.declared.reply.PreconnectReply.{PreconnectReply}
use Rattle.model_values.specs.declared.reply.PreconnectReply.TheVariants as preconnected
use Rattle.model_values.specs.declared.reply.ResolvedReply.{ResolvedReply}
use Rattle.model_values.specs.declared.reply.ResolvedReply.TheVariants as resolved
use Rattle.model_values.specs.declared.reply.ShutReply.{ShutReply}
use Rattle.model_values.specs.declared.reply.ShutReply.TheVariants as shut
use Rattle.model_values.specs.declared.reply.SubmitReply.{SubmitReply}
use Rattle.model_values.specs.declared.reply.SubmitReply.TheVariants as submitted
use Rattle.model_values.specs.declared.report.Report.{Report}
use Rattle.model_values.specs.declared.report.Report.TheVariants as report
use Rattle.model_values.specs.declared.submission.Submission.{Submission}
use Rattle.journal_words.specs.Words.{octets_text, list_text, fields_text, addresses_text, credentials_text, security_text, proto_text, way_text, deadline_text, origin_text, target_words, alt_words, proof_words, cause_text, streams_text, spaced_words}

-- ---- what the pool replied

-- to a submission
abbrev pub submit_reply_words : SubmitReply → List (List ℕ)
submit_reply_words (submitted.Accepted e) = codes "accepted" ∷ decimal e.0 ∷ []
submit_reply_words (submitted.SubmissionsFull n) = codes "full" ∷ decimal n ∷ []
submit_reply_words submitted.BadProbe = codes "bad-probe" ∷ []
submit_reply_words (submitted.Closed place) = codes "closed" ∷ decimal place ∷ []

-- to a cancel
abbrev pub cancel_reply_text : CancelReply → List ℕ
cancel_reply_text cancelled.Cancelled = codes "cancelled"
cancel_reply_text cancelled.Ended = codes "ended"
cancel_reply_text cancelled.Unknown = codes "unknown"

-- to a change of the urgency
abbrev pub change_reply_text : ChangeReply → List ℕ
change_reply_text changed.Changed = codes "changed"
change_reply_text changed.Ended = codes "ended"
change_reply_text changed.Unknown = codes "unknown"

-- to a preconnect
abbrev pub preconnect_reply_words : PreconnectReply → List (List ℕ)
preconnect_reply_words (preconnected.Opening k) = codes "opening" ∷ decimal k ∷ []
preconnect_reply_words (preconnected.NoRoom total group) = codes "no-room" ∷ decimal total ∷ decimal group ∷ []
preconnect_reply_words (preconnected.Closed place) = codes "closed" ∷ decimal place ∷ []

-- to the addresses of a host
abbrev pub resolved_reply_words : ResolvedReply → List (List ℕ)
resolved_reply_words resolved.Noted = codes "noted" ∷ []
resolved_reply_words (resolved.TooMany n) = codes "too-many" ∷ decimal n ∷ []
resolved_reply_words (resolved.Closed place) = codes "closed" ∷ decimal place ∷ []

-- to a shutdown
abbrev pub shut_reply_words : ShutReply → List (List ℕ)
shut_reply_words shut.Noted = codes "noted" ∷ []
shut_reply_words (shut.Closed place) = codes "closed" ∷ decimal place ∷ []

-- ---- parts of acts

-- a request (RFC 9110, section 3.4): METHOD ORIGIN PATH FIELDS BODY
abbrev pub request_words : Request → List (List ℕ)
request_words r = r.method ∷ origin_text r.origin ∷ r.path ∷ fields_text r.fields ∷ octets_text r.body ∷ []

-- whether it may be held back
abbrev pub background_text : Bool → List ℕ
background_text background = if background then codes "back" else codes "fore"

-- whether it asks an alternative for the http-opportunistic resource (RFC 8164, section 2.3)
abbrev pub probe_text : Bool → List ℕ
probe_text probe = if probe then codes "probe" else codes "plain"

-- SITE CRED URGENCY (RFC 9218, section 4.1), `fore` or `back`, DEADLINE, `plain` or `probe`, and the request
abbrev pub submission_words : Submission → List (List ℕ)
submission_words s =
    site_text s.key.site ∷ credentials_text s.credentials ∷ decimal s.urgency ∷ background_text s.background ∷ deadline_text s.deadline
    ∷ probe_text s.probe ∷ request_words s.request

-- a response (RFC 9110, sections 6.5 and 15): STATUS FIELDS BODY TRAILERS
abbrev pub response_words : Response → List (List ℕ)
response_words r = decimal r.status ∷ fields_text r.fields ∷ octets_text r.body ∷ fields_text r.trailers ∷ []

-- what a connection has shown (RFC 9525, section 6.3, for names): `clear` or `secure`, PROTO ADDRESS NAMES
abbrev pub identity_words : Identity → List (List ℕ)
identity_words i = security_text i.secure ∷ proto_text i.proto ∷ encode_lower i.address ∷ list_text i.names ∷ []

-- an order to a connection: to start an exchange on a stream, to reset a stream (RFC 9113, section 6.4), or to close
abbrev pub order_words : OrderMark → List (List ℕ)
order_words (mark.Start e s) = codes "start" ∷ decimal e.0 ∷ decimal s.0 ∷ []
order_words (mark.Reset s) = codes "reset" ∷ decimal s.0 ∷ []
order_words mark.Close = codes "close" ∷ []

-- whether the connection may carry another exchange (RFC 9112, section 9.3)
abbrev pub keep_text : Bool → List ℕ
keep_text keep = if keep then codes "keep" else codes "last"

-- the name of a report, which stands before the connection and its count of octets sent (RFC 9113, sections 6.4, 6.5.2, 6.8 and
-- 8.7; RFC 7838, section 4)
abbrev pub report_name : Report → List ℕ
report_name (report.Opened i) = codes "opened"
report_name (report.Limit n) = codes "limit"
report_name (report.Answered s response keep alt proof) = codes "answered"
report_name (report.Refused s) = codes "refused"
report_name (report.Reset s code) = codes "reset"
report_name (report.TooLarge s) = codes "too-large"
report_name (report.StreamClosed s) = codes "stream-closed"
report_name (report.Goaway last) = codes "goaway"
report_name (report.AltSeen origin alt) = codes "alt"

-- what of a report stands behind the connection and its count
abbrev pub report_words : Report → List (List ℕ)
report_words (report.Opened i) = identity_words i
report_words (report.Limit n) = decimal n ∷ []
report_words (report.Answered s response keep alt proof) =
    decimal s.0 ∷ keep_text keep ∷ response_words response ++ alt_words alt ++ proof_words proof
report_words (report.Refused s) = decimal s.0 ∷ []
report_words (report.Reset s code) = decimal s.0 ∷ decimal code ∷ []
report_words (report.TooLarge s) = decimal s.0 ∷ []
report_words (report.StreamClosed s) = decimal s.0 ∷ []
report_words (report.Goaway last) = decimal last.0 ∷ []
report_words (report.AltSeen origin alt) = origin_text origin ∷ alt_words alt

-- what keeps connections apart (Fetch Standard, connections): SITE CRED ORIGIN
unfoldable pub group_words : PartitionKey → Bool → Origin → List (List ℕ)
group_words key credentials origin = site_text key.site ∷ credentials_text credentials ∷ origin_text origin ∷ []

-- ---- acts

-- an act: its name and its words, with the pool's reply behind `=`. Orders that are none have no line that is read
abbrev pub act_words : Act → List (List ℕ)
act_words (act.Submit ask reply) = codes "submit" ∷ submission_words ask ++ codes "=" ∷ submit_reply_words reply
act_words (act.Cancel e reply) = codes "cancel" ∷ decimal e.0 ∷ codes "=" ∷ cancel_reply_text reply ∷ []
act_words (act.Reprioritise e urgency reply) =
    codes "reprioritise" ∷ decimal e.0 ∷ decimal urgency ∷ codes "=" ∷ change_reply_text reply ∷ []
act_words (act.Preconnect key credentials origin count reply) =
    codes "preconnect" ∷ group_words key credentials origin ++ decimal count ∷ codes "=" ∷ preconnect_reply_words reply
act_words (act.Resolved key host addresses reply) =
    codes "resolved" ∷ site_text key.site ∷ host ∷ addresses_text addresses ∷ codes "=" ∷ resolved_reply_words reply
act_words act.Network = codes "network" ∷ []
act_words act.Tick = codes "tick" ∷ []
act_words (act.Shutdown reply) = codes "shutdown" ∷ codes "=" ∷ shut_reply_words reply
act_words (act.Dial c target) = codes "seek" ∷ codes "=" ∷ codes "dial" ∷ decimal c.0 ∷ target_words target
act_words (act.Orders c sent marks) = codes "orders" ∷ decimal c.0 ∷ decimal sent ∷ codes "=" ∷ flat_map order_words marks
act_words (act.Reported c sent r) = report_name r ∷ decimal c.0 ∷ decimal sent ∷ report_words r
act_words (act.Closed c sent cause heard) =
    codes "closed" ∷ decimal c.0 ∷ decimal sent ∷ cause_text cause ∷ streams_text heard ∷ []
act_words (act.Expire e) = codes "expire" ∷ decimal e.0 ∷ []
act_words (act.Lapse e) = codes "lapse" ∷ decimal e.0 ∷ []
act_words (act.Assign e c s way) = codes "assign" ∷ decimal e.0 ∷ decimal c.0 ∷ decimal s.0 ∷ way_text way ∷ []
act_words (act.Want e c target) = codes "want" ∷ decimal e.0 ∷ decimal c.0 ∷ target_words target
act_words (act.Evict c) = codes "evict" ∷ decimal c.0 ∷ []

-- ---- lines

-- the moment in milliseconds, the caller, which is 0 for the pool itself, and the act
abbrev pub entry_line : Entry → List ℕ
entry_line x = decimal x.moment.0 ++ spaced_words (decimal x.who.0 ∷ act_words x.act) ++ 10 ∷ []
