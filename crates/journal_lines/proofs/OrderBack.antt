-- Orders are read back as what was written.
use Rattle.std.proofs.Common.{◌≡◌, ◌∙◌, refl, ℕ, zero, suc, ◌≤◌, List, [], ◌∷◌, ◌++◌, length, decimal, flat_map, All, Ok, length-append, arith}
use Rattle.std.proofs.lemmas.List.Elements.{All-head, All-tail}
use Rattle.net_base.specs.Results.{◌>>=◌}
use Rattle.net_base.specs.declared.numbers.ExchangeNo.{ExchangeNo}
use Rattle.net_base.specs.declared.numbers.StreamNo.{StreamNo}
use Rattle.model_values.specs.declared.order.OrderMark.{OrderMark}
use Rattle.model_values.specs.declared.order.OrderMark.TheVariants as mark
use Rattle.journal_words.specs.Readers.{stream}
use Rattle.journal_lines.specs.Lines.{order_words}
use Rattle.journal_lines.specs.LineReaders.{exchange, start, start_mark, reset_mark, order_mark, order_marks_within, order_marks}
use Rattle.journal_lines.specs.Ranges.{MarkFits}
use Rattle.journal_words.proofs.Back.{stream_back}
use Rattle.journal_words.proofs.Steps.{bind}
use Rattle.journal_lines.proofs.ReplyBack.{exchange_back}

start_back : (a b : List ℕ) (e : ExchangeNo) (s : StreamNo) → exchange a ≡ Ok e → stream b ≡ Ok s → start a b ≡ Ok (mark.Start e s)
start_back a b e s h1 h2 =
    bind (exchange a) e (λ e. stream b >>= λ s. Ok (mark.Start e s)) h1 ∙ bind (stream b) s (λ s. Ok (mark.Start e s)) h2

start_steps : (a b : List ℕ) (others : List (List ℕ)) (e : ExchangeNo) (s : StreamNo) → exchange a ≡ Ok e → stream b ≡ Ok s
    → start_mark a b others ≡ Ok (mark.Start e s, others)
start_steps a b others e s h1 h2 = bind (start a b) (mark.Start e s) (λ m. Ok (m, others)) (start_back a b e s h1 h2)

reset_step : (a : List ℕ) (others : List (List ℕ)) (s : StreamNo) → stream a ≡ Ok s → reset_mark a others ≡ Ok (mark.Reset s, others)
reset_step a others s h = bind (stream a) s (λ s. Ok (mark.Reset s, others)) h

-- an order is read from its words, and leaves what stands behind them
pub order_mark_back : (m : OrderMark) (others : List (List ℕ)) → MarkFits m → order_mark (order_words m ++ others) ≡ Ok (m, others)
order_mark_back (mark.Start e s) others fits = start_steps (decimal e.0) (decimal s.0) others e s (exchange_back e fits.0) (stream_back s fits.1)
order_mark_back (mark.Reset s) [] fits = reset_step (decimal s.0) [] s (stream_back s fits)
order_mark_back (mark.Reset s) (word ∷ words) fits = reset_step (decimal s.0) (word ∷ words) s (stream_back s fits)
order_mark_back mark.Close others fits = refl

-- an order has one word at least
order_some : (m : OrderMark) → 1 ≤ length (order_words m)
order_some (mark.Start e s) = omega arith
order_some (mark.Reset s) = omega arith
order_some mark.Close = omega arith

-- one order and those that fewer words give
within_step : (n : ℕ) (words others : List (List ℕ)) (m : OrderMark) (ms : List OrderMark) → 1 ≤ length words → order_mark words ≡ Ok (m, others)
    → order_marks_within n others ≡ Ok ms → order_marks_within (suc n) words ≡ Ok (m ∷ ms)
within_step n [] others m ms some first rest = absurd (omega arith)
within_step n (word ∷ words) others m ms some first rest =
    bind (order_mark (word ∷ words)) (m, others) (λ f. order_marks_within n f.1 >>= λ ms. Ok (f.0 ∷ ms)) first
    ∙ bind (order_marks_within n others) ms (λ ms. Ok (m ∷ ms)) rest

pub within_back : (ms : List OrderMark) → All MarkFits ms → (n : ℕ) → length (flat_map order_words ms) ≤ n
    → order_marks_within n (flat_map order_words ms) ≡ Ok ms
within_back [] fits n enough = refl
within_back (m ∷ ms) fits zero enough = absurd (omega (arith, order_some m, length-append (order_words m) (flat_map order_words ms)))
within_back (m ∷ ms) fits (suc n) enough =
    within_step n (order_words m ++ flat_map order_words ms) (flat_map order_words ms) m ms
    (omega (arith, order_some m, length-append (order_words m) (flat_map order_words ms)))
    (order_mark_back m (flat_map order_words ms) (All-head MarkFits m ms fits))
    (within_back ms (All-tail MarkFits m ms fits) n (omega (arith, order_some m, length-append (order_words m) (flat_map order_words ms))))

pub order_marks_back : (ms : List OrderMark) → All MarkFits ms → order_marks (flat_map order_words ms) ≡ Ok ms
order_marks_back ms fits = within_back ms fits (length (flat_map order_words ms)) (omega arith)
