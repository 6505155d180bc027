-- What is read of a line fits: each number of the entry is of its type, and its octets are octets.
use Rattle.std.proofs.Common.{ℕ, zero, suc, true, false, List, [], ◌∷◌, codes, length, All, IfOk}
use Rattle.std.proofs.lemmas.List.Elements.{All-nil, All-cons}
use Rattle.hex.specs.Hex.{IsBytes}
use Rattle.net_base.specs.declared.numbers.ConnNo.{ConnNo}
use Rattle.net_base.specs.declared.numbers.ExchangeNo.{ExchangeNo}
use Rattle.net_base.specs.declared.numbers.StreamNo.{StreamNo}
use Rattle.net_base.specs.declared.request.Request.{Request}
use Rattle.model_values.specs.declared.order.OrderMark.{OrderMark}
use Rattle.model_values.specs.declared.reply.SubmitReply.{SubmitReply}
use Rattle.journal_words.specs.Ranges.{Fits8, Fits16, Fits32, Fits64, FieldFits, AddressFits, DeadlineFits, AltFits, ProofFits, CauseFits}
use Rattle.journal_words.specs.Readers.{field, address, stream, parts, key, credentials, either_word, security, proto, list, name, way_of}
use Rattle.journal_lines.specs.LineReaders.{small, large, exchange, conn, submit_reply, submit_reply_at, cancel_reply, change_reply, preconnect_reply, resolved_reply, resolved_reply_at, shut_reply, asked, asked_at, behind_equals, behind_six, terms, terms_at, submit, cancel, reprioritise, preconnect, resolved_at, shutdown, start, start_mark, reset_mark, reset_or_start, order_mark, order_marks_within, dial, orders, closed, opened, limit, response, alt_words_in, behind_alt, answered, reset, alt_seen, told_of, stream_report, report_at, reported, expire, lapse, assign, want, evict, settling, work, call, entry_at, entry}
use Rattle.journal_lines.specs.Ranges.{RequestFits, ResponseFits, MarkFits, SubmitReplyFits, PreconnectReplyFits, ResolvedReplyFits, ShutReplyFits, ReportFits, ActFits, EntryFits}
use Rattle.journal_lines.specs.declared.read_calls.Terms.{Terms}
use Rattle.journal_words.proofs.Fitting.{step, past, by_word, number_fits, MomentFits, moment_fits, deadline_fits, StreamFits, stream_fits, octets_fits, address_fits, list_fits, field_fits, OriginFits, origin_fits, TargetFits, target_fits, alt_of_fits, proof_of_fits, cause_fits}

-- ---- numbers

small_fits : (word : List ℕ) → IfOk (small word) Fits32
small_fits word = number_fits 4294967295 word

large_fits : (word : List ℕ) → IfOk (large word) Fits64
large_fits word = number_fits 18446744073709551615 word

abbrev ExchangeFits : ExchangeNo → Type 0
ExchangeFits e = Fits64 e.0

exchange_fits : (word : List ℕ) → IfOk (exchange word) ExchangeFits
exchange_fits word = step Fits64 ExchangeFits _ _ (large_fits word) (λ n fits. fits)

abbrev ConnFits : ConnNo → Type 0
ConnFits c = Fits32 c.0

conn_fits : (word : List ℕ) → IfOk (conn word) ConnFits
conn_fits word = step Fits32 ConnFits _ _ (small_fits word) (λ n fits. fits)

-- ---- replies

submit_reply_at_fits : (word : List ℕ) (n : ℕ) → Fits64 n → IfOk (submit_reply_at word n) SubmitReplyFits
submit_reply_at_fits word n fits =
    by_word SubmitReplyFits word (codes "accepted") _ _ fits
    (by_word SubmitReplyFits word (codes "full") _ _ fits (by_word SubmitReplyFits word (codes "closed") _ _ fits tt))

submit_reply_fits : (words : List (List ℕ)) → IfOk (submit_reply words) SubmitReplyFits
submit_reply_fits [] = tt
submit_reply_fits (word ∷ []) = by_word SubmitReplyFits word (codes "bad-probe") _ _ tt tt
submit_reply_fits (word ∷ digits ∷ []) = step Fits64 SubmitReplyFits _ _ (large_fits digits) (submit_reply_at_fits word)
submit_reply_fits (a ∷ b ∷ c ∷ others) = tt

preconnect_reply_fits : (words : List (List ℕ)) → IfOk (preconnect_reply words) PreconnectReplyFits
preconnect_reply_fits [] = tt
preconnect_reply_fits (word ∷ []) = tt
preconnect_reply_fits (word ∷ digits ∷ []) =
    by_word PreconnectReplyFits word (codes "opening") _ _ (step Fits32 PreconnectReplyFits _ _ (small_fits digits) (λ k fits. fits))
    (by_word PreconnectReplyFits word (codes "closed") _ _ (step Fits64 PreconnectReplyFits _ _ (large_fits digits) (λ place fits. fits)) tt)
preconnect_reply_fits (word ∷ all ∷ own ∷ []) =
    step Fits32 PreconnectReplyFits _ _ (small_fits all) (λ total of_all. step Fits32 PreconnectReplyFits _ _ (small_fits own) (λ group of_own. (of_all, of_own)))
preconnect_reply_fits (a ∷ b ∷ c ∷ d ∷ others) = tt

resolved_reply_at_fits : (word : List ℕ) (n : ℕ) → Fits64 n → IfOk (resolved_reply_at word n) ResolvedReplyFits
resolved_reply_at_fits word n fits = by_word ResolvedReplyFits word (codes "too-many") _ _ fits (by_word ResolvedReplyFits word (codes "closed") _ _ fits tt)

resolved_reply_fits : (words : List (List ℕ)) → IfOk (resolved_reply words) ResolvedReplyFits
resolved_reply_fits [] = tt
resolved_reply_fits (word ∷ []) = tt
resolved_reply_fits (word ∷ digits ∷ []) = step Fits64 ResolvedReplyFits _ _ (large_fits digits) (resolved_reply_at_fits word)
resolved_reply_fits (a ∷ b ∷ c ∷ others) = tt

shut_reply_fits : (words : List (List ℕ)) → IfOk (shut_reply words) ShutReplyFits
shut_reply_fits [] = tt
shut_reply_fits (word ∷ []) = tt
shut_reply_fits (word ∷ digits ∷ []) = step Fits64 ShutReplyFits _ _ (large_fits digits) (λ place fits. fits)
shut_reply_fits (a ∷ b ∷ c ∷ others) = tt

-- ---- calls of channels

abbrev AskedFits : Request × SubmitReply → Type 0
AskedFits what = RequestFits what.0 × SubmitReplyFits what.1

asked_at_fits : (method at path listed digits : List ℕ) (replied : List (List ℕ)) → IfOk (asked_at method at path listed digits replied) AskedFits
unfolding asked_at
asked_at_fits method at path listed digits replied =
    step OriginFits AskedFits _ _ (origin_fits at) (λ origin of_origin.
    step (All FieldFits) AskedFits _ _ (list_fits FieldFits field field_fits listed) (λ fields of_fields.
    step IsBytes AskedFits _ _ (octets_fits digits) (λ body of_body.
    step SubmitReplyFits AskedFits _ _ (submit_reply_fits replied) (λ reply of_reply. ((of_origin, of_fields, of_body), of_reply)))))

asked_fits : (words : List (List ℕ)) → IfOk (asked words) AskedFits
asked_fits [] = tt
asked_fits (a ∷ []) = tt
asked_fits (a ∷ b ∷ []) = tt
asked_fits (a ∷ b ∷ c ∷ []) = tt
asked_fits (a ∷ b ∷ c ∷ d ∷ []) = tt
asked_fits (method ∷ at ∷ path ∷ listed ∷ digits ∷ replied) = asked_at_fits method at path listed digits (behind_equals replied)

abbrev TermsFits : Terms → Type 0
TermsFits t = Fits8 t.urgency × DeadlineFits t.deadline

terms_at_fits : (site cred urgent held by probing : List ℕ) → IfOk (terms_at site cred urgent held by probing) TermsFits
unfolding terms_at
terms_at_fits site cred urgent held by probing =
    past TermsFits (credentials cred) _ (λ credentials.
    step Fits8 TermsFits _ _ (number_fits 255 urgent) (λ urgency of_urgency.
    past TermsFits (either_word (codes "back") true (codes "fore") false held) _ (λ background.
    step DeadlineFits TermsFits _ _ (deadline_fits by) (λ deadline of_deadline.
    past TermsFits (either_word (codes "probe") true (codes "plain") false probing) _ (λ probe. past TermsFits (key site) _ (λ key. (of_urgency, of_deadline)))))))

terms_fits : (words : List (List ℕ)) → IfOk (terms words) TermsFits
terms_fits [] = tt
terms_fits (a ∷ []) = tt
terms_fits (a ∷ b ∷ []) = tt
terms_fits (a ∷ b ∷ c ∷ []) = tt
terms_fits (a ∷ b ∷ c ∷ d ∷ []) = tt
terms_fits (a ∷ b ∷ c ∷ d ∷ e ∷ []) = tt
terms_fits (site ∷ cred ∷ urgent ∷ held ∷ by ∷ probing ∷ others) = terms_at_fits site cred urgent held by probing

submit_fits : (words : List (List ℕ)) → IfOk (submit words) ActFits
submit_fits words =
    step AskedFits ActFits _ _ (asked_fits (behind_six words)) (λ what of_what.
    step TermsFits ActFits _ _ (terms_fits words) (λ terms of_terms. ((of_terms.0, of_terms.1, of_what.0), of_what.1)))

cancel_fits : (words : List (List ℕ)) → IfOk (cancel words) ActFits
cancel_fits [] = tt
cancel_fits (a ∷ []) = tt
cancel_fits (a ∷ b ∷ []) = tt
cancel_fits (e ∷ equals ∷ replied ∷ []) = step ExchangeFits ActFits _ _ (exchange_fits e) (λ n fits. past ActFits (cancel_reply replied) _ (λ reply. fits))
cancel_fits (a ∷ b ∷ c ∷ d ∷ others) = tt

reprioritise_fits : (words : List (List ℕ)) → IfOk (reprioritise words) ActFits
reprioritise_fits [] = tt
reprioritise_fits (a ∷ []) = tt
reprioritise_fits (a ∷ b ∷ []) = tt
reprioritise_fits (a ∷ b ∷ c ∷ []) = tt
reprioritise_fits (e ∷ urgent ∷ equals ∷ replied ∷ []) =
    step ExchangeFits ActFits _ _ (exchange_fits e) (λ n of_exchange.
    step Fits8 ActFits _ _ (number_fits 255 urgent) (λ urgency of_urgency. past ActFits (change_reply replied) _ (λ reply. (of_exchange, of_urgency))))
reprioritise_fits (a ∷ b ∷ c ∷ d ∷ e ∷ others) = tt

preconnect_fits : (words : List (List ℕ)) → IfOk (preconnect words) ActFits
preconnect_fits [] = tt
preconnect_fits (a ∷ []) = tt
preconnect_fits (a ∷ b ∷ []) = tt
preconnect_fits (a ∷ b ∷ c ∷ []) = tt
preconnect_fits (a ∷ b ∷ c ∷ d ∷ []) = tt
preconnect_fits (site ∷ cred ∷ at ∷ many ∷ equals ∷ replied) =
    past ActFits (key site) _ (λ key.
    past ActFits (credentials cred) _ (λ credentials.
    step OriginFits ActFits _ _ (origin_fits at) (λ origin of_origin.
    step Fits32 ActFits _ _ (small_fits many) (λ count of_count.
    step PreconnectReplyFits ActFits _ _ (preconnect_reply_fits replied) (λ reply of_reply. (of_origin, of_count, of_reply))))))

resolved_at_fits : (words : List (List ℕ)) → IfOk (resolved_at words) ActFits
resolved_at_fits [] = tt
resolved_at_fits (a ∷ []) = tt
resolved_at_fits (a ∷ b ∷ []) = tt
resolved_at_fits (a ∷ b ∷ c ∷ []) = tt
resolved_at_fits (site ∷ host ∷ listed ∷ equals ∷ replied) =
    past ActFits (key site) _ (λ key.
    step (All AddressFits) ActFits _ _ (list_fits AddressFits address address_fits listed) (λ addresses of_addresses.
    step ResolvedReplyFits ActFits _ _ (resolved_reply_fits replied) (λ reply of_reply. (of_addresses, of_reply))))

shutdown_fits : (words : List (List ℕ)) → IfOk (shutdown words) ActFits
shutdown_fits [] = tt
shutdown_fits (equals ∷ replied) = step ShutReplyFits ActFits _ _ (shut_reply_fits replied) (λ reply fits. fits)

-- ---- calls of workers

start_fits : (a b : List ℕ) → IfOk (start a b) MarkFits
start_fits a b =
    step ExchangeFits MarkFits _ _ (exchange_fits a) (λ e of_exchange. step StreamFits MarkFits _ _ (stream_fits b) (λ s of_stream. (of_exchange, of_stream)))

-- the order before what stands behind it
abbrev FirstFits : OrderMark × List (List ℕ) → Type 0
FirstFits first = MarkFits first.0

start_mark_fits : (a b : List ℕ) (others : List (List ℕ)) → IfOk (start_mark a b others) FirstFits
start_mark_fits a b others = step MarkFits FirstFits _ _ (start_fits a b) (λ m fits. fits)

reset_mark_fits : (a : List ℕ) (others : List (List ℕ)) → IfOk (reset_mark a others) FirstFits
reset_mark_fits a others = step StreamFits FirstFits _ _ (stream_fits a) (λ s fits. fits)

reset_or_start_fits : (word : List ℕ) (words : List (List ℕ)) → IfOk (reset_or_start word words) FirstFits
reset_or_start_fits word [] = tt
reset_or_start_fits word (a ∷ []) = by_word FirstFits word (codes "reset") _ _ (reset_mark_fits a []) tt
reset_or_start_fits word (a ∷ b ∷ others) =
    by_word FirstFits word (codes "reset") _ _ (reset_mark_fits a (b ∷ others)) (by_word FirstFits word (codes "start") _ _ (start_mark_fits a b others) tt)

order_mark_fits : (words : List (List ℕ)) → IfOk (order_mark words) FirstFits
order_mark_fits [] = tt
order_mark_fits (word ∷ words) = by_word FirstFits word (codes "close") _ _ tt (reset_or_start_fits word words)

order_marks_within_fits : (n : ℕ) (words : List (List ℕ)) → IfOk (order_marks_within n words) (All MarkFits)
order_marks_within_fits zero [] = All-nil MarkFits
order_marks_within_fits (suc n) [] = All-nil MarkFits
order_marks_within_fits zero (word ∷ words) = tt
order_marks_within_fits (suc n) (word ∷ words) =
    step FirstFits (All MarkFits) _ _ (order_mark_fits (word ∷ words)) (λ first one.
    step (All MarkFits) (All MarkFits) _ _ (order_marks_within_fits n first.1) (λ ms others. All-cons MarkFits first.0 ms one others))

dial_fits : (words : List (List ℕ)) → IfOk (dial words) ActFits
dial_fits [] = tt
dial_fits (a ∷ []) = tt
dial_fits (a ∷ b ∷ []) = tt
dial_fits (equals ∷ word ∷ c ∷ goes) =
    step ConnFits ActFits _ _ (conn_fits c) (λ n of_conn. step TargetFits ActFits _ _ (target_fits goes) (λ target of_target. (of_conn, of_target)))

orders_fits : (words : List (List ℕ)) → IfOk (orders words) ActFits
orders_fits [] = tt
orders_fits (a ∷ []) = tt
orders_fits (a ∷ b ∷ []) = tt
orders_fits (c ∷ count ∷ equals ∷ ordered) =
    step ConnFits ActFits _ _ (conn_fits c) (λ n of_conn.
    step Fits64 ActFits _ _ (large_fits count) (λ sent of_sent.
    step (All MarkFits) ActFits _ _ (order_marks_within_fits (length ordered) ordered) (λ marks of_marks. (of_conn, of_sent, of_marks))))

closed_fits : (words : List (List ℕ)) → IfOk (closed words) ActFits
closed_fits [] = tt
closed_fits (a ∷ []) = tt
closed_fits (a ∷ b ∷ []) = tt
closed_fits (a ∷ b ∷ c ∷ []) = tt
closed_fits (c ∷ count ∷ why ∷ streams ∷ []) =
    step ConnFits ActFits _ _ (conn_fits c) (λ n of_conn.
    step Fits64 ActFits _ _ (large_fits count) (λ sent of_sent.
    step CauseFits ActFits _ _ (cause_fits why) (λ cause of_cause.
    step (All StreamFits) ActFits _ _ (list_fits StreamFits stream stream_fits streams) (λ heard of_heard. (of_conn, of_sent, of_cause, of_heard)))))
closed_fits (a ∷ b ∷ c ∷ d ∷ e ∷ others) = tt

-- ---- reports

opened_fits : (words : List (List ℕ)) → IfOk (opened words) ReportFits
opened_fits [] = tt
opened_fits (a ∷ []) = tt
opened_fits (a ∷ b ∷ []) = tt
opened_fits (a ∷ b ∷ c ∷ []) = tt
opened_fits (secured ∷ speaks ∷ at ∷ named ∷ []) =
    past ReportFits (security secured) _ (λ secure.
    past ReportFits (proto speaks) _ (λ proto. step AddressFits ReportFits _ _ (address_fits at) (λ address fits. past ReportFits (list name named) _ (λ names. fits))))
opened_fits (a ∷ b ∷ c ∷ d ∷ e ∷ others) = tt

limit_fits : (words : List (List ℕ)) → IfOk (limit words) ReportFits
limit_fits [] = tt
limit_fits (digits ∷ []) = step Fits32 ReportFits _ _ (small_fits digits) (λ n fits. fits)
limit_fits (a ∷ b ∷ others) = tt

response_fits : (code listed digits trailing : List ℕ) → IfOk (response code listed digits trailing) ResponseFits
response_fits code listed digits trailing =
    step Fits16 ResponseFits _ _ (number_fits 65535 code) (λ status of_status.
    step (All FieldFits) ResponseFits _ _ (list_fits FieldFits field field_fits listed) (λ fields of_fields.
    step IsBytes ResponseFits _ _ (octets_fits digits) (λ body of_body.
    step (All FieldFits) ResponseFits _ _ (list_fits FieldFits field field_fits trailing) (λ trailers of_trailers. (of_status, of_fields, of_body, of_trailers)))))

answered_fits : (words : List (List ℕ)) → IfOk (answered words) ReportFits
answered_fits [] = tt
answered_fits (a ∷ []) = tt
answered_fits (a ∷ b ∷ []) = tt
answered_fits (a ∷ b ∷ c ∷ []) = tt
answered_fits (a ∷ b ∷ c ∷ d ∷ []) = tt
answered_fits (a ∷ b ∷ c ∷ d ∷ e ∷ []) = tt
answered_fits (s ∷ kept ∷ code ∷ listed ∷ digits ∷ trailing ∷ others) =
    step StreamFits ReportFits _ _ (stream_fits s) (λ n of_stream.
    past ReportFits (either_word (codes "keep") true (codes "last") false kept) _ (λ keep.
    step ResponseFits ReportFits _ _ (response_fits code listed digits trailing) (λ response of_response.
    step AltFits ReportFits _ _ (alt_of_fits (alt_words_in others)) (λ alt of_alt.
    step ProofFits ReportFits _ _ (proof_of_fits (behind_alt others)) (λ proof of_proof. (of_stream, of_response, of_alt, of_proof))))))

reset_fits : (words : List (List ℕ)) → IfOk (reset words) ReportFits
reset_fits [] = tt
reset_fits (a ∷ []) = tt
reset_fits (s ∷ digits ∷ []) =
    step StreamFits ReportFits _ _ (stream_fits s) (λ n of_stream. step Fits32 ReportFits _ _ (small_fits digits) (λ code of_code. (of_stream, of_code)))
reset_fits (a ∷ b ∷ c ∷ others) = tt

alt_seen_fits : (words : List (List ℕ)) → IfOk (alt_seen words) ReportFits
alt_seen_fits [] = tt
alt_seen_fits (at ∷ others) =
    step OriginFits ReportFits _ _ (origin_fits at) (λ origin of_origin. step AltFits ReportFits _ _ (alt_of_fits others) (λ alt of_alt. (of_origin, of_alt)))

told_of_fits : (word : List ℕ) (s : StreamNo) → StreamFits s → IfOk (told_of word s) ReportFits
told_of_fits word s fits =
    by_word ReportFits word (codes "refused") _ _ fits
    (by_word ReportFits word (codes "too-large") _ _ fits (by_word ReportFits word (codes "stream-closed") _ _ fits (by_word ReportFits word (codes "goaway") _ _ fits tt)))

stream_report_fits : (word : List ℕ) (words : List (List ℕ)) → IfOk (stream_report word words) ReportFits
stream_report_fits word [] = tt
stream_report_fits word (digits ∷ []) = step StreamFits ReportFits _ _ (stream_fits digits) (told_of_fits word)
stream_report_fits word (a ∷ b ∷ others) = tt

report_fits : (word : List ℕ) (words : List (List ℕ)) → IfOk (report_at word words) ReportFits
unfolding report_at
report_fits word words =
    by_word ReportFits word (codes "opened") _ _ (opened_fits words)
    (by_word ReportFits word (codes "limit") _ _ (limit_fits words)
    (by_word ReportFits word (codes "answered") _ _ (answered_fits words)
    (by_word ReportFits word (codes "reset") _ _ (reset_fits words)
    (by_word ReportFits word (codes "alt") _ _ (alt_seen_fits words) (stream_report_fits word words)))))

reported_fits : (word : List ℕ) (words : List (List ℕ)) → IfOk (reported word words) ActFits
reported_fits word [] = tt
reported_fits word (a ∷ []) = tt
reported_fits word (c ∷ count ∷ words) =
    step ConnFits ActFits _ _ (conn_fits c) (λ n of_conn.
    step Fits64 ActFits _ _ (large_fits count) (λ sent of_sent.
    step ReportFits ActFits _ _ (report_fits word words) (λ report of_report. (of_conn, of_sent, of_report))))

-- ---- the pool's own entries

expire_fits : (words : List (List ℕ)) → IfOk (expire words) ActFits
expire_fits [] = tt
expire_fits (e ∷ []) = step ExchangeFits ActFits _ _ (exchange_fits e) (λ n fits. fits)
expire_fits (a ∷ b ∷ others) = tt

lapse_fits : (words : List (List ℕ)) → IfOk (lapse words) ActFits
lapse_fits [] = tt
lapse_fits (e ∷ []) = step ExchangeFits ActFits _ _ (exchange_fits e) (λ n fits. fits)
lapse_fits (a ∷ b ∷ others) = tt

assign_fits : (words : List (List ℕ)) → IfOk (assign words) ActFits
assign_fits [] = tt
assign_fits (a ∷ []) = tt
assign_fits (a ∷ b ∷ []) = tt
assign_fits (a ∷ b ∷ c ∷ []) = tt
assign_fits (e ∷ c ∷ s ∷ by ∷ []) =
    step ExchangeFits ActFits _ _ (exchange_fits e) (λ n of_exchange.
    step ConnFits ActFits _ _ (conn_fits c) (λ m of_conn.
    step StreamFits ActFits _ _ (stream_fits s) (λ k of_stream. past ActFits (way_of by) _ (λ way. (of_exchange, of_conn, of_stream)))))
assign_fits (a ∷ b ∷ c ∷ d ∷ e ∷ others) = tt

want_fits : (words : List (List ℕ)) → IfOk (want words) ActFits
want_fits [] = tt
want_fits (a ∷ []) = tt
want_fits (e ∷ c ∷ goes) =
    step ExchangeFits ActFits _ _ (exchange_fits e) (λ n of_exchange.
    step ConnFits ActFits _ _ (conn_fits c) (λ m of_conn.
    step TargetFits ActFits _ _ (target_fits goes) (λ target of_target. (of_exchange, of_conn, of_target))))

evict_fits : (words : List (List ℕ)) → IfOk (evict words) ActFits
evict_fits [] = tt
evict_fits (c ∷ []) = step ConnFits ActFits _ _ (conn_fits c) (λ n fits. fits)
evict_fits (a ∷ b ∷ others) = tt

-- ---- acts and lines

settling_fits : (word : List ℕ) (words : List (List ℕ)) → IfOk (settling word words) ActFits
settling_fits word words =
    by_word ActFits word (codes "expire") _ _ (expire_fits words)
    (by_word ActFits word (codes "lapse") _ _ (lapse_fits words)
    (by_word ActFits word (codes "assign") _ _ (assign_fits words)
    (by_word ActFits word (codes "want") _ _ (want_fits words)
    (by_word ActFits word (codes "evict") _ _ (evict_fits words) (reported_fits word words)))))

work_fits : (word : List ℕ) (words : List (List ℕ)) → IfOk (work word words) ActFits
work_fits word words =
    by_word ActFits word (codes "seek") _ _ (dial_fits words)
    (by_word ActFits word (codes "orders") _ _ (orders_fits words) (by_word ActFits word (codes "closed") _ _ (closed_fits words) (settling_fits word words)))

call_fits : (word : List ℕ) (words : List (List ℕ)) → IfOk (call word words) ActFits
call_fits word words =
    by_word ActFits word (codes "submit") _ _ (submit_fits words)
    (by_word ActFits word (codes "cancel") _ _ (cancel_fits words)
    (by_word ActFits word (codes "reprioritise") _ _ (reprioritise_fits words)
    (by_word ActFits word (codes "preconnect") _ _ (preconnect_fits words)
    (by_word ActFits word (codes "resolved") _ _ (resolved_at_fits words)
    (by_word ActFits word (codes "network") _ _ tt
    (by_word ActFits word (codes "tick") _ _ tt (by_word ActFits word (codes "shutdown") _ _ (shutdown_fits words) (work_fits word words))))))))

entry_at_fits : (words : List (List ℕ)) → IfOk (entry_at words) EntryFits
entry_at_fits [] = tt
entry_at_fits (a ∷ []) = tt
entry_at_fits (a ∷ b ∷ []) = tt
entry_at_fits (when ∷ caller ∷ word ∷ words) =
    step MomentFits EntryFits _ _ (moment_fits when) (λ moment of_moment.
    step Fits32 EntryFits _ _ (small_fits caller) (λ who of_who.
    step ActFits EntryFits _ _ (call_fits word words) (λ act of_act. (of_who, of_moment, of_act))))

pub entry_fits : (line : List ℕ) → IfOk (entry line) EntryFits
entry_fits line = entry_at_fits (parts 32 line)
