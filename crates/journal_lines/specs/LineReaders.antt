-- How lines are read back, act by act: what the journal writes of an act is read as that act. As with words (`Readers`), more
-- than that may be read, so what was read is written again and compared.
use Rattle.std.specs.Prelude.{drop, ℕ, zero, suc, true, false, List, [], ◌∷◌, codes, bytes_eq, length, Result, Ok, Err, if◌then◌else◌}
use Rattle.net_base.specs.Results.{◌>>=◌, GivesSeen}
use Rattle.net_base.specs.declared.numbers.ConnNo.{ConnNo}
use Rattle.net_base.specs.declared.numbers.ExchangeNo.{ExchangeNo}
use Rattle.net_base.specs.declared.numbers.StreamNo.{StreamNo}
use Rattle.net_base.specs.declared.request.Request.{Request}
use Rattle.net_base.specs.declared.response.Response.{Response}
use Rattle.model_values.specs.declared.entry.Act.{Act}
use Rattle.model_values.specs.declared.entry.Act.TheVariants as act
use Rattle.model_values.specs.declared.entry.Entry.{Entry}
use Rattle.model_values.specs.declared.order.OrderMark.{OrderMark}
use Rattle.model_values.specs.declared.order.OrderMark.TheVariants as mark
use Rattle.model_values.specs.declared.reply.CancelReply.{CancelReply}
use Rattle.model_values.specs.declared.reply.CancelReply.TheVariants as cancelled
use Rattle.model_values.specs.declared.reply.ChangeReply.{ChangeReply}
use Rattle.model_values.specs.declared.reply.ChangeReply.TheVariants as changed
use Rattle.model_values.specs.declared.reply.PreconnectReply.{PreconnectReply}
use Rattle.model_values.specs.declared.reply.PreconnectReply.TheVariants as preconnected
use Rattle.model_values.specs.declared.reply.ResolvedReply.{ResolvedReply}
use Rattle.model_values.specs.declared.reply.ResolvedReply.TheVariants as resolved
use Rattle.model_values.specs.declared.reply.ShutReply.{ShutReply}
use Rattle.model_values.specs.declared.reply.ShutReply.TheVariants as shut
use Rattle.model_values.specs.declared.reply.SubmitReply.{SubmitReply}
use Rattle.model_values.specs.declared.reply.SubmitReply.TheVariants as submitted
use Rattle.model_values.specs.declared.report.Report.{Report}
use Rattle.model_values.specs.declared.report.Report.TheVariants as report
use Rattle.model_values.specs.declared.submission.Submission.{Submission}
use Rattle.journal_words.specs.Readers.{Reader, WordsReader, unreadable, parts, list, number, octets, address, either_word, credentials, security, proto, way_of, moment, deadline, stream, field, name, key, origin, target, alt_of, proof_of, cause}
use Rattle.journal_words.specs.declared.faults.WordFault.{WordFault}
use Rattle.journal_words.specs.declared.faults.WordFault.TheVariants.{NoMem}
use Rattle.journal_lines.specs.declared.read_calls.Terms.{Terms}
use Rattle.journal_lines.specs.declared.read_works.MarkAndWords.{MarkAndWords}

-- ---- numbers

abbrev pub small : Reader ℕ
small = number 4294967295

abbrev pub large : Reader ℕ
large = number 18446744073709551615

abbrev pub exchange : Reader ExchangeNo
exchange word = do
  n ← large word
  Ok (record { 0 = n })

abbrev pub conn : Reader ConnNo
conn word = do
  n ← small word
  Ok (record { 0 = n })

-- ---- replies

abbrev pub submit_reply_at : List ℕ → ℕ → Result SubmitReply WordFault
submit_reply_at word n =
    if bytes_eq word (codes "accepted") then Ok (submitted.Accepted (record { 0 = n }))
    else (if bytes_eq word (codes "full") then Ok (submitted.SubmissionsFull n)
    else (if bytes_eq word (codes "closed") then Ok (submitted.Closed n)
    else unreadable))

abbrev pub bad_probe : Reader SubmitReply
bad_probe word = if bytes_eq word (codes "bad-probe") then Ok submitted.BadProbe else unreadable

abbrev pub submit_reply : WordsReader SubmitReply
submit_reply (word ∷ []) = bad_probe word
submit_reply (word ∷ digits ∷ []) = do
  n ← large digits
  submit_reply_at word n
submit_reply words = unreadable

abbrev pub cancel_reply : Reader CancelReply
cancel_reply word =
    if bytes_eq word (codes "cancelled") then Ok cancelled.Cancelled
    else (if bytes_eq word (codes "ended") then Ok cancelled.Ended
    else (if bytes_eq word (codes "unknown") then Ok cancelled.Unknown
    else unreadable))

abbrev pub change_reply : Reader ChangeReply
change_reply word =
    if bytes_eq word (codes "changed") then Ok changed.Changed
    else (if bytes_eq word (codes "ended") then Ok changed.Ended
    else (if bytes_eq word (codes "unknown") then Ok changed.Unknown
    else unreadable))

abbrev pub opening : Reader PreconnectReply
opening digits = do
  k ← small digits
  Ok (preconnected.Opening k)

abbrev pub preconnect_closed : Reader PreconnectReply
preconnect_closed digits = do
  place ← large digits
  Ok (preconnected.Closed place)

abbrev pub no_room : List ℕ → Reader PreconnectReply
no_room all own = do
  total ← small all
  group ← small own
  Ok (preconnected.NoRoom total group)

abbrev pub preconnect_reply_at : List ℕ → Reader PreconnectReply
preconnect_reply_at word digits =
    if bytes_eq word (codes "opening") then opening digits
    else (if bytes_eq word (codes "closed") then preconnect_closed digits
    else unreadable)

abbrev pub preconnect_reply : WordsReader PreconnectReply
preconnect_reply (word ∷ digits ∷ []) = preconnect_reply_at word digits
preconnect_reply (word ∷ all ∷ own ∷ []) = no_room all own
preconnect_reply words = unreadable

abbrev pub resolved_reply_at : List ℕ → ℕ → Result ResolvedReply WordFault
resolved_reply_at word n =
    if bytes_eq word (codes "too-many") then Ok (resolved.TooMany n)
    else (if bytes_eq word (codes "closed") then Ok (resolved.Closed n)
    else unreadable)

abbrev pub resolved_reply : WordsReader ResolvedReply
resolved_reply (word ∷ []) = Ok resolved.Noted
resolved_reply (word ∷ digits ∷ []) = do
  n ← large digits
  resolved_reply_at word n
resolved_reply words = unreadable

abbrev pub shut_reply : WordsReader ShutReply
shut_reply (word ∷ []) = Ok shut.Noted
shut_reply (word ∷ digits ∷ []) = do
  place ← large digits
  Ok (shut.Closed place)
shut_reply words = unreadable

-- ---- calls of channels

-- METHOD ORIGIN PATH FIELDS BODY = and the reply
unfoldable pub asked_at : List ℕ → List ℕ → List ℕ → List ℕ → List ℕ → List (List ℕ) → Result (Request × SubmitReply) WordFault
asked_at method at path listed digits replied = do
  origin ← origin at
  fields ← list field listed
  body ← octets digits
  reply ← submit_reply replied
  Ok (record { method = method; origin = origin; path = path; fields = fields; body = body }, reply)

abbrev pub behind_equals : List (List ℕ) → List (List ℕ)
behind_equals [] = []
behind_equals (equals ∷ others) = others

abbrev pub asked : WordsReader (Request × SubmitReply)
asked (method ∷ at ∷ path ∷ listed ∷ digits ∷ replied) = asked_at method at path listed digits (behind_equals replied)
asked words = unreadable

-- SITE CRED URGENCY, `fore` or `back`, DEADLINE, `plain` or `probe`, and more
unfoldable pub terms_at : List ℕ → List ℕ → List ℕ → List ℕ → List ℕ → List ℕ → Result Terms WordFault
terms_at site cred urgent held by probing = do
  credentials ← credentials cred
  urgency ← number 255 urgent
  background ← either_word (codes "back") true (codes "fore") false held
  deadline ← deadline by
  probe ← either_word (codes "probe") true (codes "plain") false probing
  key ← key site
  Ok (record { key = key; credentials = credentials; urgency = urgency; background = background; deadline = deadline; probe = probe })

abbrev pub terms : WordsReader Terms
terms (site ∷ cred ∷ urgent ∷ held ∷ by ∷ probing ∷ others) = terms_at site cred urgent held by probing
terms words = unreadable

-- the submission of a request on these terms
abbrev pub on_terms : Terms → Request → Submission
on_terms t request =
    record { key = t.key; credentials = t.credentials; request = request; urgency = t.urgency; background = t.background; deadline = t.deadline; probe = t.probe }

abbrev pub behind_six : List (List ℕ) → List (List ℕ)
behind_six (a ∷ b ∷ c ∷ d ∷ e ∷ f ∷ others) = others
behind_six words = []

abbrev pub submit : WordsReader Act
submit words = do
  what ← asked (behind_six words)
  terms ← terms words
  Ok (act.Submit (on_terms terms what.0) what.1)

abbrev pub cancel : WordsReader Act
cancel (e ∷ equals ∷ replied ∷ []) = do
  e ← exchange e
  reply ← cancel_reply replied
  Ok (act.Cancel e reply)
cancel words = unreadable

abbrev pub reprioritise : WordsReader Act
reprioritise (e ∷ urgent ∷ equals ∷ replied ∷ []) = do
  e ← exchange e
  urgency ← number 255 urgent
  reply ← change_reply replied
  Ok (act.Reprioritise e urgency reply)
reprioritise words = unreadable

abbrev pub preconnect : WordsReader Act
preconnect (site ∷ cred ∷ at ∷ many ∷ equals ∷ replied) = do
  key ← key site
  credentials ← credentials cred
  origin ← origin at
  count ← small many
  reply ← preconnect_reply replied
  Ok (act.Preconnect key credentials origin count reply)
preconnect words = unreadable

abbrev pub resolved_at : WordsReader Act
resolved_at (site ∷ host ∷ listed ∷ equals ∷ replied) = do
  key ← key site
  addresses ← list address listed
  reply ← resolved_reply replied
  Ok (act.Resolved key host addresses reply)
resolved_at words = unreadable

abbrev pub shutdown : WordsReader Act
shutdown (equals ∷ replied) = do
  reply ← shut_reply replied
  Ok (act.Shutdown reply)
shutdown words = unreadable

-- ---- calls of workers

-- `start E STREAM`, `reset STREAM` or `close`, and what stands behind it
abbrev pub start : List ℕ → Reader OrderMark
start e s = do
  e ← exchange e
  s ← stream s
  Ok (mark.Start e s)

abbrev pub start_mark : List ℕ → List ℕ → List (List ℕ) → Result (OrderMark × List (List ℕ)) WordFault
start_mark e s others = do
  m ← start e s
  Ok (m, others)

abbrev pub reset_mark : List ℕ → List (List ℕ) → Result (OrderMark × List (List ℕ)) WordFault
reset_mark s others = do
  s ← stream s
  Ok (mark.Reset s, others)

abbrev pub reset_or_start : List ℕ → List (List ℕ) → Result (OrderMark × List (List ℕ)) WordFault
reset_or_start word (s ∷ []) = if bytes_eq word (codes "reset") then reset_mark s [] else unreadable
reset_or_start word (a ∷ b ∷ others) =
    if bytes_eq word (codes "reset") then reset_mark a (b ∷ others)
    else (if bytes_eq word (codes "start") then start_mark a b others
    else unreadable)
reset_or_start word [] = unreadable

abbrev pub order_mark : WordsReader (OrderMark × List (List ℕ))
order_mark [] = unreadable
order_mark (word ∷ words) = if bytes_eq word (codes "close") then Ok (mark.Close, words) else reset_or_start word words

-- so many orders at most
abbrev pub order_marks_within : ℕ → WordsReader (List OrderMark)
order_marks_within n [] = Ok []
order_marks_within zero (word ∷ words) = unreadable
order_marks_within (suc n) (word ∷ words) = do
  first ← order_mark (word ∷ words)
  others ← order_marks_within n first.1
  Ok (first.0 ∷ others)

-- the result is what is read of these words, unless memory ran out: of an order and how many words it has
abbrev pub GivesMark : Result MarkAndWords WordFault → List (List ℕ) → Type 0
GivesMark result words = GivesSeen NoMem (λ x. (x.mark, drop x.words words)) result (order_mark words)

-- as many orders as the words hold, of which each has one word at least
abbrev pub order_marks : WordsReader (List OrderMark)
order_marks words = order_marks_within (length words) words

abbrev pub dial : WordsReader Act
dial (equals ∷ word ∷ c ∷ goes) = do
  c ← conn c
  target ← target goes
  Ok (act.Dial c target)
dial words = unreadable

abbrev pub orders : WordsReader Act
orders (c ∷ count ∷ equals ∷ ordered) = do
  c ← conn c
  sent ← large count
  marks ← order_marks ordered
  Ok (act.Orders c sent marks)
orders words = unreadable

abbrev pub closed : WordsReader Act
closed (c ∷ count ∷ why ∷ streams ∷ []) = do
  c ← conn c
  sent ← large count
  cause ← cause why
  heard ← list stream streams
  Ok (act.Closed c sent cause heard)
closed words = unreadable

-- ---- reports

abbrev pub opened : WordsReader Report
opened (secured ∷ speaks ∷ at ∷ named ∷ []) = do
  secure ← security secured
  proto ← proto speaks
  address ← address at
  names ← list name named
  Ok (report.Opened (record { names = names; secure = secure; proto = proto; address = address }))
opened words = unreadable

abbrev pub limit : WordsReader Report
limit (digits ∷ []) = do
  n ← small digits
  Ok (report.Limit n)
limit words = unreadable

abbrev pub response : List ℕ → List ℕ → List ℕ → Reader Response
response code listed digits trailing = do
  status ← number 65535 code
  fields ← list field listed
  body ← octets digits
  trailers ← list field trailing
  Ok (record { status = status; fields = fields; body = body; trailers = trailers })

-- the words of an alternative's update, which are two where it is set, and those of the proof behind them
abbrev pub alt_words_in : List (List ℕ) → List (List ℕ)
alt_words_in (word ∷ listed ∷ others) = if bytes_eq word (codes "set") then word ∷ listed ∷ [] else word ∷ []
alt_words_in words = words

abbrev pub behind_alt : List (List ℕ) → List (List ℕ)
behind_alt (word ∷ listed ∷ others) = if bytes_eq word (codes "set") then others else listed ∷ others
behind_alt words = []

abbrev pub answered : WordsReader Report
answered (s ∷ kept ∷ code ∷ listed ∷ digits ∷ trailing ∷ others) = do
  s ← stream s
  keep ← either_word (codes "keep") true (codes "last") false kept
  response ← response code listed digits trailing
  alt ← alt_of (alt_words_in others)
  proof ← proof_of (behind_alt others)
  Ok (report.Answered s response keep alt proof)
answered words = unreadable

abbrev pub reset : WordsReader Report
reset (s ∷ digits ∷ []) = do
  s ← stream s
  code ← small digits
  Ok (report.Reset s code)
reset words = unreadable

abbrev pub alt_seen : WordsReader Report
alt_seen (at ∷ others) = do
  origin ← origin at
  alt ← alt_of others
  Ok (report.AltSeen origin alt)
alt_seen words = unreadable

-- a report that names a stream and nothing else
abbrev pub told_of : List ℕ → StreamNo → Result Report WordFault
told_of word s =
    if bytes_eq word (codes "refused") then Ok (report.Refused s)
    else (if bytes_eq word (codes "too-large") then Ok (report.TooLarge s)
    else (if bytes_eq word (codes "stream-closed") then Ok (report.StreamClosed s)
    else (if bytes_eq word (codes "goaway") then Ok (report.Goaway s)
    else unreadable)))

abbrev pub stream_report : List ℕ → WordsReader Report
stream_report word (digits ∷ []) = do
  s ← stream digits
  told_of word s
stream_report word words = unreadable

-- a report by its name
unfoldable pub report_at : List ℕ → WordsReader Report
report_at word words =
    if bytes_eq word (codes "opened") then opened words
    else (if bytes_eq word (codes "limit") then limit words
    else (if bytes_eq word (codes "answered") then answered words
    else (if bytes_eq word (codes "reset") then reset words
    else (if bytes_eq word (codes "alt") then alt_seen words
    else stream_report word words))))

abbrev pub reported_at : List ℕ → List ℕ → List ℕ → WordsReader Act
reported_at word c count words = do
  c ← conn c
  sent ← large count
  report ← report_at word words
  Ok (act.Reported c sent report)

abbrev pub reported : List ℕ → WordsReader Act
reported word (c ∷ count ∷ words) = reported_at word c count words
reported word words = unreadable

-- ---- the pool's own entries

abbrev pub expire : WordsReader Act
expire (e ∷ []) = do
  e ← exchange e
  Ok (act.Expire e)
expire words = unreadable

abbrev pub lapse : WordsReader Act
lapse (e ∷ []) = do
  e ← exchange e
  Ok (act.Lapse e)
lapse words = unreadable

abbrev pub assign : WordsReader Act
assign (e ∷ c ∷ s ∷ by ∷ []) = do
  e ← exchange e
  c ← conn c
  s ← stream s
  way ← way_of by
  Ok (act.Assign e c s way)
assign words = unreadable

abbrev pub want : WordsReader Act
want (e ∷ c ∷ goes) = do
  e ← exchange e
  c ← conn c
  target ← target goes
  Ok (act.Want e c target)
want words = unreadable

abbrev pub evict : WordsReader Act
evict (c ∷ []) = do
  c ← conn c
  Ok (act.Evict c)
evict words = unreadable

-- ---- acts and lines

-- an act by its name: calls of channels, then those of workers, then the pool's own entries, then reports
abbrev pub settling : List ℕ → WordsReader Act
settling word words =
    if bytes_eq word (codes "expire") then expire words
    else (if bytes_eq word (codes "lapse") then lapse words
    else (if bytes_eq word (codes "assign") then assign words
    else (if bytes_eq word (codes "want") then want words
    else (if bytes_eq word (codes "evict") then evict words
    else reported word words))))

abbrev pub work : List ℕ → WordsReader Act
work word words =
    if bytes_eq word (codes "seek") then dial words
    else (if bytes_eq word (codes "orders") then orders words
    else (if bytes_eq word (codes "closed") then closed words
    else settling word words))

abbrev pub call : List ℕ → WordsReader Act
call word words =
    if bytes_eq word (codes "submit") then submit words
    else (if bytes_eq word (codes "cancel") then cancel words
    else (if bytes_eq word (codes "reprioritise") then reprioritise words
    else (if bytes_eq word (codes "preconnect") then preconnect words
    else (if bytes_eq word (codes "resolved") then resolved_at words
    else (if bytes_eq word (codes "network") then Ok act.Network
    else (if bytes_eq word (codes "tick") then Ok act.Tick
    else (if bytes_eq word (codes "shutdown") then shutdown words
    else work word words)))))))

abbrev pub entry_at : WordsReader Entry
entry_at (when ∷ caller ∷ word ∷ words) = do
  moment ← moment when
  who ← small caller
  act ← call word words
  Ok (record { who = record { 0 = who }; moment = moment; act = act })
entry_at words = unreadable

-- MOMENT WHO and the act, parted by one space
abbrev pub entry : Reader Entry
entry line = entry_at (parts 32 line)
