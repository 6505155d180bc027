-- Acts are read back as what was written.
use Rattle.std.proofs.Common.{◌≡◌, ◌∙◌, refl, ℕ, ◌&&◌, List, [], ◌∷◌, ◌++◌, codes, decimal, flat_map, Bool, true, false, IsTrue, Ok}
use Rattle.net_base.specs.Results.{◌>>=◌}
use Rattle.net_base.specs.declared.end_cause.EndCause.{EndCause}
use Rattle.net_base.specs.declared.numbers.ConnNo.{ConnNo}
use Rattle.net_base.specs.declared.numbers.ExchangeNo.{ExchangeNo}
use Rattle.net_base.specs.declared.numbers.StreamNo.{StreamNo}
use Rattle.net_base.specs.declared.origin.Origin.{Origin}
use Rattle.net_base.specs.declared.request.Request.{Request}
use Rattle.net_base.specs.declared.target.Target.{Target}
use Rattle.net_base.specs.Requests.{is_token}
use Rattle.partition_keys.specs.declared.key.PartitionKey.{PartitionKey}
use Rattle.partition_keys.specs.Sites.{site_text}
use Rattle.model_values.specs.declared.entry.Act.{Act}
use Rattle.model_values.specs.declared.entry.Act.TheVariants as act
use Rattle.model_values.specs.declared.entry.Way.{Way}
use Rattle.model_values.specs.declared.order.OrderMark.{OrderMark}
use Rattle.model_values.specs.declared.reply.CancelReply.{CancelReply}
use Rattle.model_values.specs.declared.reply.ChangeReply.{ChangeReply}
use Rattle.model_values.specs.declared.reply.PreconnectReply.{PreconnectReply}
use Rattle.model_values.specs.declared.reply.ResolvedReply.{ResolvedReply}
use Rattle.model_values.specs.declared.reply.ShutReply.{ShutReply}
use Rattle.model_values.specs.declared.reply.SubmitReply.{SubmitReply}
use Rattle.model_values.specs.declared.report.Report.{Report}
use Rattle.model_values.specs.declared.report.Report.TheVariants as report
use Rattle.model_values.specs.declared.submission.Submission.{Submission}
use Rattle.journal_words.specs.Ranges.{Fits32, Fits64}
use Rattle.journal_words.specs.Readers.{WordsReader, unreadable, number, list, field, octets, either_word, key, credentials, origin, deadline, address, target, cause, stream, way_of}
use Rattle.journal_words.specs.Words.{credentials_text, origin_text, fields_text, octets_text, deadline_text, addresses_text, target_words, cause_text, streams_text, way_text}
use Rattle.journal_words.specs.Writable.{is_word, are_named}
use Rattle.journal_lines.specs.Lines.{submit_reply_words, cancel_reply_text, change_reply_text, preconnect_reply_words, resolved_reply_words, shut_reply_words, request_words, background_text, probe_text, submission_words, order_words, report_name, report_words, group_words, act_words}
use Rattle.journal_lines.specs.LineReaders.{small, large, exchange, conn, submit_reply, cancel_reply, change_reply, preconnect_reply, resolved_reply, shut_reply, asked, asked_at, terms, terms_at, on_terms, behind_six, submit, cancel, reprioritise, preconnect, resolved_at, shutdown, order_marks, dial, orders, closed, report_at, reported, assign, want, call}
use Rattle.journal_lines.specs.declared.read_calls.Terms.{Terms}
use Rattle.journal_lines.specs.Ranges.{RequestFits, SubmissionFits, SubmitReplyFits, ReportFits, ActFits}
use Rattle.journal_lines.specs.Writable.{is_writable_request, is_writable_report, is_writable_act, IsWritableKey, HasWritableKey}
use Rattle.std.proofs.lemmas.Bool.{and_parts}
use Rattle.journal_words.proofs.Back.{stream_back, octets_back, deadline_back, credentials_back, way_back, fields_back, addresses_back, streams_back, key_back, origin_back, target_back, cause_back}
use Rattle.journal_words.proofs.Steps.{bind}
use Rattle.journal_lines.proofs.ReplyBack.{small_back, large_back, urgency_back, exchange_back, conn_back, submit_reply_back, cancel_reply_back, change_reply_back, preconnect_reply_back, resolved_reply_back, shut_reply_back}
use Rattle.journal_lines.proofs.ReportBack.{report_back}
use Rattle.journal_lines.proofs.OrderBack.{order_marks_back}

-- the act whose words these are
abbrev pub read_act : WordsReader Act
read_act (name ∷ words) = call name words
read_act [] = unreadable

-- ---- submissions

background_back : (b : Bool) → either_word (codes "back") true (codes "fore") false (background_text b) ≡ Ok b
background_back true = refl
background_back false = refl

probe_back : (b : Bool) → either_word (codes "probe") true (codes "plain") false (probe_text b) ≡ Ok b
probe_back true = refl
probe_back false = refl

asked_steps : (at listed digits equals : List ℕ) (replied : List (List ℕ)) (r : Request) (reply : SubmitReply) → origin at ≡ Ok r.origin
    → list field listed ≡ Ok r.fields → octets digits ≡ Ok r.body → submit_reply replied ≡ Ok reply
    → asked (r.method ∷ at ∷ r.path ∷ listed ∷ digits ∷ equals ∷ replied) ≡ Ok (r, reply)
unfolding asked_at
asked_steps at listed digits equals replied r reply h1 h2 h3 h4 =
    bind (origin at) r.origin
    (λ o. list field listed >>= λ fs. octets digits >>= λ b. submit_reply replied >>= λ s.
    Ok (record { method = r.method; origin = o; path = r.path; fields = fs; body = b }, s)) h1
    ∙ bind (list field listed) r.fields
    (λ fs. octets digits >>= λ b. submit_reply replied >>= λ s. Ok (record { method = r.method; origin = r.origin; path = r.path; fields = fs; body = b }, s)) h2
    ∙ bind (octets digits) r.body
    (λ b. submit_reply replied >>= λ s. Ok (record { method = r.method; origin = r.origin; path = r.path; fields = r.fields; body = b }, s)) h3
    ∙ bind (submit_reply replied) reply
    (λ s. Ok (record { method = r.method; origin = r.origin; path = r.path; fields = r.fields; body = r.body }, s)) h4

terms_of : Submission → Terms
terms_of s = record { key = s.key; credentials = s.credentials; urgency = s.urgency; background = s.background; deadline = s.deadline; probe = s.probe }

terms_steps : (site cred urgent held by probing : List ℕ) (others : List (List ℕ)) (t : Terms)
    → key site ≡ Ok t.key → credentials cred ≡ Ok t.credentials → number 255 urgent ≡ Ok t.urgency
    → either_word (codes "back") true (codes "fore") false held ≡ Ok t.background → deadline by ≡ Ok t.deadline
    → either_word (codes "probe") true (codes "plain") false probing ≡ Ok t.probe
    → terms (site ∷ cred ∷ urgent ∷ held ∷ by ∷ probing ∷ others) ≡ Ok t
unfolding terms_at
terms_steps site cred urgent held by probing others t h1 h2 h3 h4 h5 h6 =
    bind (credentials cred) t.credentials
    (λ c. number 255 urgent >>= λ u. either_word (codes "back") true (codes "fore") false held >>= λ b. deadline by >>= λ d.
    either_word (codes "probe") true (codes "plain") false probing >>= λ p. key site >>= λ k.
    Ok (record { key = k; credentials = c; urgency = u; background = b; deadline = d; probe = p })) h2
    ∙ bind (number 255 urgent) t.urgency
    (λ u. either_word (codes "back") true (codes "fore") false held >>= λ b. deadline by >>= λ d.
    either_word (codes "probe") true (codes "plain") false probing >>= λ p. key site >>= λ k.
    Ok (record { key = k; credentials = t.credentials; urgency = u; background = b; deadline = d; probe = p })) h3
    ∙ bind (either_word (codes "back") true (codes "fore") false held) t.background
    (λ b. deadline by >>= λ d. either_word (codes "probe") true (codes "plain") false probing >>= λ p. key site >>= λ k.
    Ok (record { key = k; credentials = t.credentials; urgency = t.urgency; background = b; deadline = d; probe = p })) h4
    ∙ bind (deadline by) t.deadline
    (λ d. either_word (codes "probe") true (codes "plain") false probing >>= λ p. key site >>= λ k.
    Ok (record { key = k; credentials = t.credentials; urgency = t.urgency; background = t.background; deadline = d; probe = p })) h5
    ∙ bind (either_word (codes "probe") true (codes "plain") false probing) t.probe
    (λ p. key site >>= λ k.
    Ok (record { key = k; credentials = t.credentials; urgency = t.urgency; background = t.background; deadline = t.deadline; probe = p })) h6
    ∙ bind (key site) t.key
    (λ k. Ok (record { key = k; credentials = t.credentials; urgency = t.urgency; background = t.background; deadline = t.deadline; probe = t.probe })) h1

asked_back : (r : Request) (reply : SubmitReply) → RequestFits r → IsTrue (is_writable_request r) → SubmitReplyFits reply
    → asked (request_words r ++ codes "=" ∷ submit_reply_words reply) ≡ Ok (r, reply)
asked_back r reply fits writes fits_reply =
    asked_steps (origin_text r.origin) (fields_text r.fields) (octets_text r.body) (codes "=") (submit_reply_words reply) r reply
    (origin_back r.origin fits.0)
    (fields_back r.fields fits.1 (and_parts (is_token r.method && is_word r.origin.host && is_word r.path) (are_named r.fields) writes).1)
    (octets_back r.body fits.2) (submit_reply_back reply fits_reply)

terms_back : (s : Submission) (others : List (List ℕ)) → SubmissionFits s → IsWritableKey s.key
    → terms (submission_words s ++ others) ≡ Ok (terms_of s)
unfolding terms_of
terms_back s others fits writes =
    terms_steps (site_text s.key.site) (credentials_text s.credentials) (decimal s.urgency) (background_text s.background) (deadline_text s.deadline)
    (probe_text s.probe) (request_words s.request ++ others) (terms_of s) (key_back s.key writes.0 writes.1) (credentials_back s.credentials)
    (urgency_back s.urgency fits.0) (background_back s.background) (deadline_back s.deadline fits.1) (probe_back s.probe)

submit_steps : (words : List (List ℕ)) (ask : Submission) (reply : SubmitReply) → asked (behind_six words) ≡ Ok (ask.request, reply)
    → terms words ≡ Ok (terms_of ask) → submit words ≡ Ok (act.Submit ask reply)
unfolding terms_of
submit_steps words ask reply h1 h2 =
    bind (asked (behind_six words)) (ask.request, reply) (λ what. terms words >>= λ t. Ok (act.Submit (on_terms t what.0) what.1)) h1
    ∙ bind (terms words) (terms_of ask) (λ t. Ok (act.Submit (on_terms t ask.request) reply)) h2

submit_back : (ask : Submission) (reply : SubmitReply) → SubmissionFits ask → SubmitReplyFits reply → IsTrue (is_writable_request ask.request)
    → IsWritableKey ask.key → submit (submission_words ask ++ codes "=" ∷ submit_reply_words reply) ≡ Ok (act.Submit ask reply)
submit_back ask reply fits fits_reply writes writes_key =
    submit_steps (submission_words ask ++ codes "=" ∷ submit_reply_words reply) ask reply (asked_back ask.request reply fits.2 writes fits_reply)
    (terms_back ask (codes "=" ∷ submit_reply_words reply) fits writes_key)

-- ---- the other calls of channels

cancel_steps : (a equals replied : List ℕ) (e : ExchangeNo) (r : CancelReply) → exchange a ≡ Ok e → cancel_reply replied ≡ Ok r
    → cancel (a ∷ equals ∷ replied ∷ []) ≡ Ok (act.Cancel e r)
cancel_steps a equals replied e r h1 h2 =
    bind (exchange a) e (λ e. cancel_reply replied >>= λ r. Ok (act.Cancel e r)) h1 ∙ bind (cancel_reply replied) r (λ r. Ok (act.Cancel e r)) h2

reprioritise_steps : (a b equals replied : List ℕ) (e : ExchangeNo) (u : ℕ) (r : ChangeReply) → exchange a ≡ Ok e → number 255 b ≡ Ok u
    → change_reply replied ≡ Ok r → reprioritise (a ∷ b ∷ equals ∷ replied ∷ []) ≡ Ok (act.Reprioritise e u r)
reprioritise_steps a b equals replied e u r h1 h2 h3 =
    bind (exchange a) e (λ e. number 255 b >>= λ u. change_reply replied >>= λ r. Ok (act.Reprioritise e u r)) h1
    ∙ bind (number 255 b) u (λ u. change_reply replied >>= λ r. Ok (act.Reprioritise e u r)) h2
    ∙ bind (change_reply replied) r (λ r. Ok (act.Reprioritise e u r)) h3

preconnect_steps : (site cred at many equals : List ℕ) (replied : List (List ℕ)) (k : PartitionKey) (c : Bool) (o : Origin) (n : ℕ) (r : PreconnectReply)
    → key site ≡ Ok k → credentials cred ≡ Ok c → origin at ≡ Ok o → small many ≡ Ok n → preconnect_reply replied ≡ Ok r
    → preconnect (site ∷ cred ∷ at ∷ many ∷ equals ∷ replied) ≡ Ok (act.Preconnect k c o n r)
preconnect_steps site cred at many equals replied k c o n r h1 h2 h3 h4 h5 =
    bind (key site) k (λ k. credentials cred >>= λ c. origin at >>= λ o. small many >>= λ n. preconnect_reply replied >>= λ r. Ok (act.Preconnect k c o n r)) h1
    ∙ bind (credentials cred) c (λ c. origin at >>= λ o. small many >>= λ n. preconnect_reply replied >>= λ r. Ok (act.Preconnect k c o n r)) h2
    ∙ bind (origin at) o (λ o. small many >>= λ n. preconnect_reply replied >>= λ r. Ok (act.Preconnect k c o n r)) h3
    ∙ bind (small many) n (λ n. preconnect_reply replied >>= λ r. Ok (act.Preconnect k c o n r)) h4
    ∙ bind (preconnect_reply replied) r (λ r. Ok (act.Preconnect k c o n r)) h5

resolved_steps : (site host listed equals : List ℕ) (replied : List (List ℕ)) (k : PartitionKey) (addresses : List (List ℕ)) (r : ResolvedReply)
    → key site ≡ Ok k → list address listed ≡ Ok addresses → resolved_reply replied ≡ Ok r
    → resolved_at (site ∷ host ∷ listed ∷ equals ∷ replied) ≡ Ok (act.Resolved k host addresses r)
resolved_steps site host listed equals replied k addresses r h1 h2 h3 =
    bind (key site) k (λ k. list address listed >>= λ xs. resolved_reply replied >>= λ r. Ok (act.Resolved k host xs r)) h1
    ∙ bind (list address listed) addresses (λ xs. resolved_reply replied >>= λ r. Ok (act.Resolved k host xs r)) h2
    ∙ bind (resolved_reply replied) r (λ r. Ok (act.Resolved k host addresses r)) h3

shutdown_steps : (equals : List ℕ) (replied : List (List ℕ)) (r : ShutReply) → shut_reply replied ≡ Ok r
    → shutdown (equals ∷ replied) ≡ Ok (act.Shutdown r)
shutdown_steps equals replied r h = bind (shut_reply replied) r (λ r. Ok (act.Shutdown r)) h

-- ---- calls of workers

dial_steps : (equals word a : List ℕ) (goes : List (List ℕ)) (c : ConnNo) (t : Target) → conn a ≡ Ok c → target goes ≡ Ok t
    → dial (equals ∷ word ∷ a ∷ goes) ≡ Ok (act.Dial c t)
dial_steps equals word a goes c t h1 h2 =
    bind (conn a) c (λ c. target goes >>= λ t. Ok (act.Dial c t)) h1 ∙ bind (target goes) t (λ t. Ok (act.Dial c t)) h2

orders_steps : (a count equals : List ℕ) (ordered : List (List ℕ)) (c : ConnNo) (sent : ℕ) (ms : List OrderMark) → conn a ≡ Ok c → large count ≡ Ok sent
    → order_marks ordered ≡ Ok ms → orders (a ∷ count ∷ equals ∷ ordered) ≡ Ok (act.Orders c sent ms)
orders_steps a count equals ordered c sent ms h1 h2 h3 =
    bind (conn a) c (λ c. large count >>= λ n. order_marks ordered >>= λ ms. Ok (act.Orders c n ms)) h1
    ∙ bind (large count) sent (λ n. order_marks ordered >>= λ ms. Ok (act.Orders c n ms)) h2
    ∙ bind (order_marks ordered) ms (λ ms. Ok (act.Orders c sent ms)) h3

closed_steps : (a count why streams : List ℕ) (c : ConnNo) (sent : ℕ) (end : EndCause) (heard : List StreamNo) → conn a ≡ Ok c → large count ≡ Ok sent
    → cause why ≡ Ok end → list stream streams ≡ Ok heard → closed (a ∷ count ∷ why ∷ streams ∷ []) ≡ Ok (act.Closed c sent end heard)
closed_steps a count why streams c sent end heard h1 h2 h3 h4 =
    bind (conn a) c (λ c. large count >>= λ n. cause why >>= λ w. list stream streams >>= λ ss. Ok (act.Closed c n w ss)) h1
    ∙ bind (large count) sent (λ n. cause why >>= λ w. list stream streams >>= λ ss. Ok (act.Closed c n w ss)) h2
    ∙ bind (cause why) end (λ w. list stream streams >>= λ ss. Ok (act.Closed c sent w ss)) h3
    ∙ bind (list stream streams) heard (λ ss. Ok (act.Closed c sent end ss)) h4

-- ---- reports

reported_steps : (word a count : List ℕ) (words : List (List ℕ)) (c : ConnNo) (sent : ℕ) (r : Report) → conn a ≡ Ok c → large count ≡ Ok sent
    → report_at word words ≡ Ok r → reported word (a ∷ count ∷ words) ≡ Ok (act.Reported c sent r)
reported_steps word a count words c sent r h1 h2 h3 =
    bind (conn a) c (λ c. large count >>= λ n. report_at word words >>= λ r. Ok (act.Reported c n r)) h1
    ∙ bind (large count) sent (λ n. report_at word words >>= λ r. Ok (act.Reported c n r)) h2
    ∙ bind (report_at word words) r (λ r. Ok (act.Reported c sent r)) h3

-- the name of a report is no other act's
named_report : (r : Report) (words : List (List ℕ)) → call (report_name r) words ≡ reported (report_name r) words
named_report (report.Opened i) words = refl
named_report (report.Limit n) words = refl
named_report (report.Answered s response keep alt proof) words = refl
named_report (report.Refused s) words = refl
named_report (report.Reset s code) words = refl
named_report (report.TooLarge s) words = refl
named_report (report.StreamClosed s) words = refl
named_report (report.Goaway last) words = refl
named_report (report.AltSeen o alt) words = refl

reported_back : (c : ConnNo) (sent : ℕ) (r : Report) → Fits32 c.0 → Fits64 sent → ReportFits r → IsTrue (is_writable_report r)
    → call (report_name r) (decimal c.0 ∷ decimal sent ∷ report_words r) ≡ Ok (act.Reported c sent r)
reported_back c sent r fits_c fits_sent fits writes =
    named_report r (decimal c.0 ∷ decimal sent ∷ report_words r)
    ∙ reported_steps (report_name r) (decimal c.0) (decimal sent) (report_words r) c sent r (conn_back c fits_c) (large_back sent fits_sent) (report_back r fits writes)

-- ---- the pool's own entries

assign_steps : (a b d by : List ℕ) (e : ExchangeNo) (c : ConnNo) (s : StreamNo) (w : Way) → exchange a ≡ Ok e → conn b ≡ Ok c → stream d ≡ Ok s → way_of by ≡ Ok w
    → assign (a ∷ b ∷ d ∷ by ∷ []) ≡ Ok (act.Assign e c s w)
assign_steps a b d by e c s w h1 h2 h3 h4 =
    bind (exchange a) e (λ e. conn b >>= λ c. stream d >>= λ s. way_of by >>= λ w. Ok (act.Assign e c s w)) h1
    ∙ bind (conn b) c (λ c. stream d >>= λ s. way_of by >>= λ w. Ok (act.Assign e c s w)) h2
    ∙ bind (stream d) s (λ s. way_of by >>= λ w. Ok (act.Assign e c s w)) h3
    ∙ bind (way_of by) w (λ w. Ok (act.Assign e c s w)) h4

want_steps : (a b : List ℕ) (goes : List (List ℕ)) (e : ExchangeNo) (c : ConnNo) (t : Target) → exchange a ≡ Ok e → conn b ≡ Ok c → target goes ≡ Ok t
    → want (a ∷ b ∷ goes) ≡ Ok (act.Want e c t)
want_steps a b goes e c t h1 h2 h3 =
    bind (exchange a) e (λ e. conn b >>= λ c. target goes >>= λ t. Ok (act.Want e c t)) h1
    ∙ bind (conn b) c (λ c. target goes >>= λ t. Ok (act.Want e c t)) h2
    ∙ bind (target goes) t (λ t. Ok (act.Want e c t)) h3

-- ---- acts

pub act_back : (a : Act) → ActFits a → IsTrue (is_writable_act a) → HasWritableKey a → read_act (act_words a) ≡ Ok a
unfolding group_words
act_back (act.Submit ask reply) fits writes has = submit_back ask reply fits.0 fits.1 writes has
act_back (act.Cancel e reply) fits writes has =
    cancel_steps (decimal e.0) (codes "=") (cancel_reply_text reply) e reply (exchange_back e fits) (cancel_reply_back reply)
act_back (act.Reprioritise e urgency reply) fits writes has =
    reprioritise_steps (decimal e.0) (decimal urgency) (codes "=") (change_reply_text reply) e urgency reply
    (exchange_back e fits.0) (urgency_back urgency fits.1) (change_reply_back reply)
act_back (act.Preconnect k creds o count reply) fits writes has =
    preconnect_steps (site_text k.site) (credentials_text creds) (origin_text o) (decimal count) (codes "=") (preconnect_reply_words reply) k creds o count reply
    (key_back k has.0 has.1) (credentials_back creds) (origin_back o fits.0) (small_back count fits.1) (preconnect_reply_back reply fits.2)
act_back (act.Resolved k host addresses reply) fits writes has =
    resolved_steps (site_text k.site) host (addresses_text addresses) (codes "=") (resolved_reply_words reply) k addresses reply
    (key_back k has.0 has.1) (addresses_back addresses fits.0) (resolved_reply_back reply fits.1)
act_back act.Network fits writes has = refl
act_back act.Tick fits writes has = refl
act_back (act.Shutdown reply) fits writes has = shutdown_steps (codes "=") (shut_reply_words reply) reply (shut_reply_back reply fits)
act_back (act.Dial c goes) fits writes has =
    dial_steps (codes "=") (codes "dial") (decimal c.0) (target_words goes) c goes (conn_back c fits.0) (target_back goes fits.1)
act_back (act.Orders c sent marks) fits writes has =
    orders_steps (decimal c.0) (decimal sent) (codes "=") (flat_map order_words marks) c sent marks
    (conn_back c fits.0) (large_back sent fits.1) (order_marks_back marks fits.2)
act_back (act.Reported c sent r) fits writes has = reported_back c sent r fits.0 fits.1 fits.2 writes
act_back (act.Closed c sent why heard) fits writes has =
    closed_steps (decimal c.0) (decimal sent) (cause_text why) (streams_text heard) c sent why heard
    (conn_back c fits.0) (large_back sent fits.1) (cause_back why fits.2) (streams_back heard fits.3)
act_back (act.Expire e) fits writes has = bind (exchange (decimal e.0)) e (λ e. Ok (act.Expire e)) (exchange_back e fits)
act_back (act.Lapse e) fits writes has = bind (exchange (decimal e.0)) e (λ e. Ok (act.Lapse e)) (exchange_back e fits)
act_back (act.Assign e c s way) fits writes has =
    assign_steps (decimal e.0) (decimal c.0) (decimal s.0) (way_text way) e c s way
    (exchange_back e fits.0) (conn_back c fits.1) (stream_back s fits.2) (way_back way)
act_back (act.Want e c goes) fits writes has =
    want_steps (decimal e.0) (decimal c.0) (target_words goes) e c goes (exchange_back e fits.0) (conn_back c fits.1) (target_back goes fits.2)
act_back (act.Evict c) fits writes has = bind (conn (decimal c.0)) c (λ c. Ok (act.Evict c)) (conn_back c fits)
