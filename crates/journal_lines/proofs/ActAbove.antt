-- The words of acts hold neither spaces nor ends of lines: each octet is above the space.
use Rattle.std.proofs.Common.{◌≡◌, refl, ℕ, ◌<◌, nat_lt, ◌&&◌, Bool, true, false, List, [], ◌∷◌, ◌++◌, codes, decimal, flat_map, All, IsTrue, ltb-true, arith}
use Rattle.std.specs.List.{list_all}
use Rattle.std.proofs.lemmas.Bool.{and_parts}
use Rattle.std.proofs.lemmas.List.Elements.{All-nil, All-head, All-tail, All-append, All-weaker, All-from_recursion, recursion_from_All}
use Rattle.std.proofs.lemmas.List.Sums.{AllPass-from_list_all}
use Rattle.net_base.specs.declared.identity.Identity.{Identity}
use Rattle.net_base.specs.declared.request.Request.{Request}
use Rattle.net_base.specs.declared.response.Response.{Response}
use Rattle.net_base.specs.Requests.{is_token}
use Rattle.model_values.specs.declared.entry.Act.{Act}
use Rattle.model_values.specs.declared.entry.Act.TheVariants as act
use Rattle.model_values.specs.declared.order.OrderMark.{OrderMark}
use Rattle.model_values.specs.declared.order.OrderMark.TheVariants as mark
use Rattle.model_values.specs.declared.reply.CancelReply.{CancelReply}
use Rattle.model_values.specs.declared.reply.CancelReply.TheVariants as cancelled
use Rattle.model_values.specs.declared.reply.ChangeReply.{ChangeReply}
use Rattle.model_values.specs.declared.reply.ChangeReply.TheVariants as changed
use Rattle.model_values.specs.declared.reply.PreconnectReply.{PreconnectReply}
use Rattle.model_values.specs.declared.reply.PreconnectReply.TheVariants as preconnected
use Rattle.model_values.specs.declared.reply.ResolvedReply.{ResolvedReply}
use Rattle.model_values.specs.declared.reply.ResolvedReply.TheVariants as resolved
use Rattle.model_values.specs.declared.reply.ShutReply.{ShutReply}
use Rattle.model_values.specs.declared.reply.ShutReply.TheVariants as shut
use Rattle.model_values.specs.declared.reply.SubmitReply.{SubmitReply}
use Rattle.model_values.specs.declared.reply.SubmitReply.TheVariants as submitted
use Rattle.model_values.specs.declared.report.Report.{Report}
use Rattle.model_values.specs.declared.report.Report.TheVariants as report
use Rattle.model_values.specs.declared.submission.Submission.{Submission}
use Rattle.journal_words.specs.Ranges.{Fits8, Fits16, Fits32, AddressFits}
use Rattle.journal_words.specs.Words.{origin_text, alt_words, proof_words, target_words}
use Rattle.journal_words.specs.Writable.{are_named, are_names, is_word, is_writable_alt}
use Rattle.journal_lines.specs.Lines.{submit_reply_words, cancel_reply_text, change_reply_text, preconnect_reply_words, resolved_reply_words, shut_reply_words, request_words, background_text, probe_text, submission_words, response_words, identity_words, order_words, keep_text, report_name, report_words, group_words, act_words}
use Rattle.journal_lines.specs.Ranges.{RequestFits, SubmissionFits, ResponseFits, MarkFits, SubmitReplyFits, PreconnectReplyFits, ResolvedReplyFits, ShutReplyFits, ReportFits, ActFits}
use Rattle.journal_lines.specs.Writable.{is_writable_request, is_writable_response, is_writable_report, is_writable_act, IsWritableKey, HasWritableKey}
use Rattle.journal_words.proofs.Above.{Above, decimal_above, address_above, octets_above, word_above, token_above, credentials_above, security_above, proto_above, way_above, deadline_above, fields_above, addresses_above, streams_above, names_above, origin_above, target_above, alt_above, proof_above, cause_above, site_above}

-- a text whose octets pass the test
spelled : (text : List ℕ) → list_all (λ b. nat_lt 32 b) text ≡ true → Above text
spelled text h = All-weaker (λ b. nat_lt 32 b ≡ true) (λ b. 32 < b) (λ b. ltb-true 32 b) text (AllPass-from_list_all (λ b. nat_lt 32 b) text h)

-- ---- numbers

pub above_8 : (n : ℕ) → Fits8 n → Above (decimal n)
above_8 n fits = decimal_above n (omega arith)

pub above_16 : (n : ℕ) → Fits16 n → Above (decimal n)
above_16 n fits = decimal_above n (omega arith)

pub above_32 : (n : ℕ) → Fits32 n → Above (decimal n)
above_32 n fits = decimal_above n (omega arith)

-- ---- replies

submit_reply_above : (r : SubmitReply) → SubmitReplyFits r → All Above (submit_reply_words r)
submit_reply_above (submitted.Accepted e) fits =
    All-from_recursion Above (codes "accepted" ∷ decimal e.0 ∷ []) (spelled (codes "accepted") refl, (decimal_above e.0 fits, tt))
submit_reply_above (submitted.SubmissionsFull n) fits =
    All-from_recursion Above (codes "full" ∷ decimal n ∷ []) (spelled (codes "full") refl, (decimal_above n fits, tt))
submit_reply_above submitted.BadProbe fits = All-from_recursion Above (codes "bad-probe" ∷ []) (spelled (codes "bad-probe") refl, tt)
submit_reply_above (submitted.Closed place) fits =
    All-from_recursion Above (codes "closed" ∷ decimal place ∷ []) (spelled (codes "closed") refl, (decimal_above place fits, tt))

cancel_reply_above : (r : CancelReply) → Above (cancel_reply_text r)
cancel_reply_above cancelled.Cancelled = spelled (codes "cancelled") refl
cancel_reply_above cancelled.Ended = spelled (codes "ended") refl
cancel_reply_above cancelled.Unknown = spelled (codes "unknown") refl

change_reply_above : (r : ChangeReply) → Above (change_reply_text r)
change_reply_above changed.Changed = spelled (codes "changed") refl
change_reply_above changed.Ended = spelled (codes "ended") refl
change_reply_above changed.Unknown = spelled (codes "unknown") refl

preconnect_reply_above : (r : PreconnectReply) → PreconnectReplyFits r → All Above (preconnect_reply_words r)
preconnect_reply_above (preconnected.Opening k) fits =
    All-from_recursion Above (codes "opening" ∷ decimal k ∷ []) (spelled (codes "opening") refl, (above_32 k fits, tt))
preconnect_reply_above (preconnected.NoRoom total group) fits =
    All-from_recursion Above (codes "no-room" ∷ decimal total ∷ decimal group ∷ [])
    (spelled (codes "no-room") refl, (above_32 total fits.0, (above_32 group fits.1, tt)))
preconnect_reply_above (preconnected.Closed place) fits =
    All-from_recursion Above (codes "closed" ∷ decimal place ∷ []) (spelled (codes "closed") refl, (decimal_above place fits, tt))

resolved_reply_above : (r : ResolvedReply) → ResolvedReplyFits r → All Above (resolved_reply_words r)
resolved_reply_above resolved.Noted fits = All-from_recursion Above (codes "noted" ∷ []) (spelled (codes "noted") refl, tt)
resolved_reply_above (resolved.TooMany n) fits =
    All-from_recursion Above (codes "too-many" ∷ decimal n ∷ []) (spelled (codes "too-many") refl, (decimal_above n fits, tt))
resolved_reply_above (resolved.Closed place) fits =
    All-from_recursion Above (codes "closed" ∷ decimal place ∷ []) (spelled (codes "closed") refl, (decimal_above place fits, tt))

shut_reply_above : (r : ShutReply) → ShutReplyFits r → All Above (shut_reply_words r)
shut_reply_above shut.Noted fits = All-from_recursion Above (codes "noted" ∷ []) (spelled (codes "noted") refl, tt)
shut_reply_above (shut.Closed place) fits =
    All-from_recursion Above (codes "closed" ∷ decimal place ∷ []) (spelled (codes "closed") refl, (decimal_above place fits, tt))

-- ---- parts of acts

background_above : (b : Bool) → Above (background_text b)
background_above true = spelled (codes "back") refl
background_above false = spelled (codes "fore") refl

probe_above : (b : Bool) → Above (probe_text b)
probe_above true = spelled (codes "probe") refl
probe_above false = spelled (codes "plain") refl

keep_above : (b : Bool) → Above (keep_text b)
keep_above true = spelled (codes "keep") refl
keep_above false = spelled (codes "last") refl

request_above : (r : Request) → RequestFits r → IsTrue (is_writable_request r) → All Above (request_words r)
request_above r fits writes =
    let named = and_parts (is_token r.method && is_word r.origin.host && is_word r.path) (are_named r.fields) writes in
    let path = and_parts (is_token r.method && is_word r.origin.host) (is_word r.path) named.0 in
    let host = and_parts (is_token r.method) (is_word r.origin.host) path.0 in
    All-from_recursion Above (request_words r)
    (token_above r.method host.0, (origin_above r.origin fits.0 host.1, (word_above r.path path.1, (fields_above r.fields fits.1 named.1, (octets_above r.body fits.2, tt)))))

submission_above : (s : Submission) → SubmissionFits s → IsTrue (is_writable_request s.request) → IsWritableKey s.key → All Above (submission_words s)
submission_above s fits writes has =
    All-from_recursion Above (submission_words s) (
      site_above s.key.site has.0,
      (
        credentials_above s.credentials,
        (
          above_8 s.urgency fits.0,
          (
            background_above s.background,
            (
              deadline_above s.deadline fits.1,
              (probe_above s.probe, recursion_from_All Above (request_words s.request) (request_above s.request fits.2 writes)),
            ),
          ),
        ),
      ),
    )

response_above : (r : Response) → ResponseFits r → IsTrue (is_writable_response r) → All Above (response_words r)
response_above r fits writes =
    let named = and_parts (are_named r.fields) (are_named r.trailers) writes in
    All-from_recursion Above (response_words r)
    (above_16 r.status fits.0, (fields_above r.fields fits.1 named.0, (octets_above r.body fits.2, (fields_above r.trailers fits.3 named.1, tt))))

identity_above : (i : Identity) → AddressFits i.address → IsTrue (are_names i.names) → All Above (identity_words i)
identity_above i fits named =
    All-from_recursion Above (identity_words i)
    (security_above i.secure, (proto_above i.proto, (address_above i.address fits.1, (names_above i.names named, tt))))

order_above : (m : OrderMark) → MarkFits m → All Above (order_words m)
order_above (mark.Start e s) fits =
    All-from_recursion Above (codes "start" ∷ decimal e.0 ∷ decimal s.0 ∷ []) (spelled (codes "start") refl, (decimal_above e.0 fits.0, (above_32 s.0 fits.1, tt)))
order_above (mark.Reset s) fits = All-from_recursion Above (codes "reset" ∷ decimal s.0 ∷ []) (spelled (codes "reset") refl, (above_32 s.0 fits, tt))
order_above mark.Close fits = All-from_recursion Above (codes "close" ∷ []) (spelled (codes "close") refl, tt)

orders_above : (ms : List OrderMark) → All MarkFits ms → All Above (flat_map order_words ms)
orders_above [] fits = All-nil Above
orders_above (m ∷ ms) fits =
    All-append Above (order_words m) (flat_map order_words ms) (order_above m (All-head MarkFits m ms fits)) (orders_above ms (All-tail MarkFits m ms fits))

-- ---- reports

report_name_above : (r : Report) → Above (report_name r)
report_name_above (report.Opened i) = spelled (codes "opened") refl
report_name_above (report.Limit n) = spelled (codes "limit") refl
report_name_above (report.Answered s response keep alt proof) = spelled (codes "answered") refl
report_name_above (report.Refused s) = spelled (codes "refused") refl
report_name_above (report.Reset s code) = spelled (codes "reset") refl
report_name_above (report.TooLarge s) = spelled (codes "too-large") refl
report_name_above (report.StreamClosed s) = spelled (codes "stream-closed") refl
report_name_above (report.Goaway last) = spelled (codes "goaway") refl
report_name_above (report.AltSeen o alt) = spelled (codes "alt") refl

-- a number of 32 bits alone
alone_above : (n : ℕ) → Fits32 n → All Above (decimal n ∷ [])
alone_above n fits = All-from_recursion Above (decimal n ∷ []) (above_32 n fits, tt)

report_above : (r : Report) → ReportFits r → IsTrue (is_writable_report r) → All Above (report_words r)
report_above (report.Opened i) fits writes = identity_above i fits writes
report_above (report.Limit n) fits writes = alone_above n fits
report_above (report.Answered s response keep alt proof) fits writes =
    let both = and_parts (is_writable_response response) (is_writable_alt alt) writes in
    let front : All Above (decimal s.0 ∷ keep_text keep ∷ response_words response) =
    All-from_recursion Above (decimal s.0 ∷ keep_text keep ∷ response_words response)
    (above_32 s.0 fits.0, (keep_above keep, recursion_from_All Above (response_words response) (response_above response fits.1 both.0))) in
    All-append Above ((decimal s.0 ∷ keep_text keep ∷ response_words response) ++ alt_words alt) (proof_words proof)
    (All-append Above (decimal s.0 ∷ keep_text keep ∷ response_words response) (alt_words alt) front (alt_above alt fits.2 both.1))
    (proof_above proof fits.3)
report_above (report.Refused s) fits writes = alone_above s.0 fits
report_above (report.Reset s code) fits writes = All-from_recursion Above (decimal s.0 ∷ decimal code ∷ []) (above_32 s.0 fits.0, (above_32 code fits.1, tt))
report_above (report.TooLarge s) fits writes = alone_above s.0 fits
report_above (report.StreamClosed s) fits writes = alone_above s.0 fits
report_above (report.Goaway last) fits writes = alone_above last.0 fits
report_above (report.AltSeen o alt) fits writes =
    let both = and_parts (is_word o.host) (is_writable_alt alt) writes in
    All-from_recursion Above (origin_text o ∷ alt_words alt)
    (origin_above o fits.0 both.0, recursion_from_All Above (alt_words alt) (alt_above alt fits.1 both.1))

-- ---- acts

equals_above : Above (codes "=")
equals_above = spelled (codes "=") refl

-- the words of a reply behind `=`
replied_above : (words : List (List ℕ)) → All Above words → All Above (codes "=" ∷ words)
replied_above words all = All-from_recursion Above (codes "=" ∷ words) (equals_above, recursion_from_All Above words all)

pub act_above : (a : Act) → ActFits a → IsTrue (is_writable_act a) → HasWritableKey a → All Above (act_words a)
unfolding group_words
act_above (act.Submit ask reply) fits writes has =
    All-append Above (codes "submit" ∷ submission_words ask) (codes "=" ∷ submit_reply_words reply)
    (All-from_recursion Above (codes "submit" ∷ submission_words ask)
    (spelled (codes "submit") refl, recursion_from_All Above (submission_words ask) (submission_above ask fits.0 writes has)))
    (replied_above (submit_reply_words reply) (submit_reply_above reply fits.1))
act_above (act.Cancel e reply) fits writes has =
    All-from_recursion Above (act_words (act.Cancel e reply))
    (spelled (codes "cancel") refl, (decimal_above e.0 fits, (equals_above, (cancel_reply_above reply, tt))))
act_above (act.Reprioritise e urgency reply) fits writes has =
    All-from_recursion Above (act_words (act.Reprioritise e urgency reply))
    (spelled (codes "reprioritise") refl, (decimal_above e.0 fits.0, (above_8 urgency fits.1, (equals_above, (change_reply_above reply, tt)))))
act_above (act.Preconnect key credentials origin count reply) fits writes has =
    All-from_recursion Above (act_words (act.Preconnect key credentials origin count reply)) (
      spelled (codes "preconnect") refl,
      (
        site_above key.site has.0,
        (
          credentials_above credentials,
          (
            origin_above origin fits.0 writes,
            (
              above_32 count fits.1,
              recursion_from_All Above (codes "=" ∷ preconnect_reply_words reply) (replied_above (preconnect_reply_words reply) (preconnect_reply_above reply fits.2)),
            ),
          ),
        ),
      ),
    )
act_above (act.Resolved key host addresses reply) fits writes has =
    All-from_recursion Above (act_words (act.Resolved key host addresses reply)) (
      spelled (codes "resolved") refl,
      (
        site_above key.site has.0,
        (
          word_above host writes,
          (
            addresses_above addresses fits.0,
            recursion_from_All Above (codes "=" ∷ resolved_reply_words reply) (replied_above (resolved_reply_words reply) (resolved_reply_above reply fits.1)),
          ),
        ),
      ),
    )
act_above act.Network fits writes has = All-from_recursion Above (codes "network" ∷ []) (spelled (codes "network") refl, tt)
act_above act.Tick fits writes has = All-from_recursion Above (codes "tick" ∷ []) (spelled (codes "tick") refl, tt)
act_above (act.Shutdown reply) fits writes has =
    All-from_recursion Above (act_words (act.Shutdown reply)) (
      spelled (codes "shutdown") refl,
      recursion_from_All Above (codes "=" ∷ shut_reply_words reply) (replied_above (shut_reply_words reply) (shut_reply_above reply fits)),
    )
act_above (act.Dial c target) fits writes has =
    All-from_recursion Above (act_words (act.Dial c target)) (
      spelled (codes "seek") refl,
      (
        equals_above,
        (
          spelled (codes "dial") refl,
          (
            above_32 c.0 fits.0,
            recursion_from_All Above (target_words target) (target_above target fits.1 writes),
          ),
        ),
      ),
    )
act_above (act.Orders c sent marks) fits writes has =
    All-from_recursion Above (act_words (act.Orders c sent marks)) (
      spelled (codes "orders") refl,
      (
        above_32 c.0 fits.0,
        (
          decimal_above sent fits.1,
          (
            equals_above,
            recursion_from_All Above (flat_map order_words marks) (orders_above marks fits.2),
          ),
        ),
      ),
    )
act_above (act.Reported c sent r) fits writes has =
    All-from_recursion Above (act_words (act.Reported c sent r))
    (report_name_above r, (above_32 c.0 fits.0, (decimal_above sent fits.1, recursion_from_All Above (report_words r) (report_above r fits.2 writes))))
act_above (act.Closed c sent cause heard) fits writes has =
    All-from_recursion Above (act_words (act.Closed c sent cause heard))
    (spelled (codes "closed") refl, (above_32 c.0 fits.0, (decimal_above sent fits.1, (cause_above cause fits.2, (streams_above heard fits.3, tt)))))
act_above (act.Expire e) fits writes has = All-from_recursion Above (act_words (act.Expire e)) (spelled (codes "expire") refl, (decimal_above e.0 fits, tt))
act_above (act.Lapse e) fits writes has = All-from_recursion Above (act_words (act.Lapse e)) (spelled (codes "lapse") refl, (decimal_above e.0 fits, tt))
act_above (act.Assign e c s way) fits writes has =
    All-from_recursion Above (act_words (act.Assign e c s way))
    (spelled (codes "assign") refl, (decimal_above e.0 fits.0, (above_32 c.0 fits.1, (above_32 s.0 fits.2, (way_above way, tt)))))
act_above (act.Want e c target) fits writes has =
    All-from_recursion Above (act_words (act.Want e c target)) (
      spelled (codes "want") refl,
      (
        decimal_above e.0 fits.0,
        (
          above_32 c.0 fits.1,
          recursion_from_All Above (target_words target) (target_above target fits.2 writes),
        ),
      ),
    )
act_above (act.Evict c) fits writes has = All-from_recursion Above (act_words (act.Evict c)) (spelled (codes "evict") refl, (above_32 c.0 fits, tt))
