-- Numbers and replies are read back as what was written.
use Rattle.std.proofs.Common.{◌≡◌, ◌∙◌, refl, ℕ, ◌≤◌, codes, decimal, Ok, arith}
use Rattle.net_base.specs.Results.{◌>>=◌}
use Rattle.net_base.specs.declared.numbers.ConnNo.{ConnNo}
use Rattle.net_base.specs.declared.numbers.ExchangeNo.{ExchangeNo}
use Rattle.model_values.specs.declared.reply.CancelReply.{CancelReply}
use Rattle.model_values.specs.declared.reply.CancelReply.TheVariants as cancelled
use Rattle.model_values.specs.declared.reply.ChangeReply.{ChangeReply}
use Rattle.model_values.specs.declared.reply.ChangeReply.TheVariants as changed
use Rattle.model_values.specs.declared.reply.PreconnectReply.{PreconnectReply}
use Rattle.model_values.specs.declared.reply.PreconnectReply.TheVariants as preconnected
use Rattle.model_values.specs.declared.reply.ResolvedReply.{ResolvedReply}
use Rattle.model_values.specs.declared.reply.ResolvedReply.TheVariants as resolved
use Rattle.model_values.specs.declared.reply.ShutReply.{ShutReply}
use Rattle.model_values.specs.declared.reply.ShutReply.TheVariants as shut
use Rattle.model_values.specs.declared.reply.SubmitReply.{SubmitReply}
use Rattle.model_values.specs.declared.reply.SubmitReply.TheVariants as submitted
use Rattle.journal_words.specs.Ranges.{Fits32, Fits64}
use Rattle.journal_words.specs.Readers.{number}
use Rattle.journal_lines.specs.Lines.{submit_reply_words, cancel_reply_text, change_reply_text, preconnect_reply_words, resolved_reply_words, shut_reply_words}
use Rattle.journal_lines.specs.LineReaders.{small, large, exchange, conn, submit_reply, submit_reply_at, cancel_reply, change_reply, preconnect_reply, resolved_reply, resolved_reply_at, shut_reply}
use Rattle.journal_lines.specs.Ranges.{SubmitReplyFits, PreconnectReplyFits, ResolvedReplyFits, ShutReplyFits}
use Rattle.journal_words.proofs.Back.{number_back}
use Rattle.journal_words.proofs.Steps.{bind}

-- ---- numbers

pub small_back : (n : ℕ) → Fits32 n → small (decimal n) ≡ Ok n
small_back n fits = number_back 4294967295 n fits (omega arith)

pub large_back : (n : ℕ) → Fits64 n → large (decimal n) ≡ Ok n
large_back n fits = number_back 18446744073709551615 n fits (omega arith)

pub urgency_back : (n : ℕ) → n ≤ 255 → number 255 (decimal n) ≡ Ok n
urgency_back n fits = number_back 255 n fits (omega arith)

pub exchange_back : (e : ExchangeNo) → Fits64 e.0 → exchange (decimal e.0) ≡ Ok e
exchange_back e fits = bind (large (decimal e.0)) e.0 (λ n. Ok (record { 0 = n })) (large_back e.0 fits)

pub conn_back : (c : ConnNo) → Fits32 c.0 → conn (decimal c.0) ≡ Ok c
conn_back c fits = bind (small (decimal c.0)) c.0 (λ n. Ok (record { 0 = n })) (small_back c.0 fits)

-- ---- replies

pub submit_reply_back : (r : SubmitReply) → SubmitReplyFits r → submit_reply (submit_reply_words r) ≡ Ok r
submit_reply_back (submitted.Accepted e) fits = bind (large (decimal e.0)) e.0 (λ n. submit_reply_at (codes "accepted") n) (large_back e.0 fits)
submit_reply_back (submitted.SubmissionsFull n) fits = bind (large (decimal n)) n (λ m. submit_reply_at (codes "full") m) (large_back n fits)
submit_reply_back submitted.BadProbe fits = refl
submit_reply_back (submitted.Closed place) fits = bind (large (decimal place)) place (λ m. submit_reply_at (codes "closed") m) (large_back place fits)

pub cancel_reply_back : (r : CancelReply) → cancel_reply (cancel_reply_text r) ≡ Ok r
cancel_reply_back cancelled.Cancelled = refl
cancel_reply_back cancelled.Ended = refl
cancel_reply_back cancelled.Unknown = refl

pub change_reply_back : (r : ChangeReply) → change_reply (change_reply_text r) ≡ Ok r
change_reply_back changed.Changed = refl
change_reply_back changed.Ended = refl
change_reply_back changed.Unknown = refl

pub preconnect_reply_back : (r : PreconnectReply) → PreconnectReplyFits r → preconnect_reply (preconnect_reply_words r) ≡ Ok r
preconnect_reply_back (preconnected.Opening k) fits = bind (small (decimal k)) k (λ n. Ok (preconnected.Opening n)) (small_back k fits)
preconnect_reply_back (preconnected.NoRoom total group) fits =
    bind (small (decimal total)) total (λ n. small (decimal group) >>= λ m. Ok (preconnected.NoRoom n m)) (small_back total fits.0)
    ∙ bind (small (decimal group)) group (λ m. Ok (preconnected.NoRoom total m)) (small_back group fits.1)
preconnect_reply_back (preconnected.Closed place) fits = bind (large (decimal place)) place (λ n. Ok (preconnected.Closed n)) (large_back place fits)

pub resolved_reply_back : (r : ResolvedReply) → ResolvedReplyFits r → resolved_reply (resolved_reply_words r) ≡ Ok r
resolved_reply_back resolved.Noted fits = refl
resolved_reply_back (resolved.TooMany n) fits = bind (large (decimal n)) n (λ m. resolved_reply_at (codes "too-many") m) (large_back n fits)
resolved_reply_back (resolved.Closed place) fits = bind (large (decimal place)) place (λ m. resolved_reply_at (codes "closed") m) (large_back place fits)

pub shut_reply_back : (r : ShutReply) → ShutReplyFits r → shut_reply (shut_reply_words r) ≡ Ok r
shut_reply_back shut.Noted fits = refl
shut_reply_back (shut.Closed place) fits = bind (large (decimal place)) place (λ n. Ok (shut.Closed n)) (large_back place fits)
