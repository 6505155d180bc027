-- Orders read one after another.
use Rattle.std.proofs.Common.{◌≡◌, ◌⊎◌, inl, inr, ℕ, suc, ◌+◌, ◌-◌, ◌<◌, ◌≤◌, List, [], ◌∷◌, ◌++◌, Result, Ok, Err, IfOk, length, drop, length-append, refl, ap, sym, ◌∙◌, arith}
use Rattle.std.proofs.lemmas.List.{drop_all, length-drop, drop-drop}
use Rattle.net_base.specs.Results.{◌>>=◌}
use Rattle.net_base.proofs.Rests.{behind, behind_none, item_and_rest, rest_done}
use Rattle.model_values.specs.declared.order.OrderMark.{OrderMark}
use Rattle.journal_words.specs.declared.faults.WordFault.{WordFault}
use Rattle.journal_words.specs.declared.faults.WordFault.TheVariants as word
use Rattle.journal_lines.specs.declared.read_works.MarkAndWords.{MarkAndWords}
use Rattle.journal_lines.specs.LineReaders.{order_mark, order_marks, order_marks_within}

-- so many words are read: each order had one at least
abbrev pub IsReadTo : List (List ℕ) → List OrderMark → ℕ → Type 0
IsReadTo words marks at =
    (length marks ≤ at) × ((at ≤ length words) × (order_marks words ≡ behind marks (order_marks_within (length words - length marks) (drop at words))))

pub read_none : (words : List (List ℕ)) → IsReadTo words [] 0
read_none words =
    let whole : length words ≡ length words - length {A = OrderMark} [] = omega arith in
    (omega arith, (omega arith, behind_none (order_marks words) ∙ ap (λ n. behind [] (order_marks_within n words)) whole))

step : (n : ℕ) (words : List (List ℕ)) → 0 < length words
    → order_marks_within (suc n) words ≡ (order_mark words >>= λ first. order_marks_within n first.1 >>= λ others. Ok (first.0 ∷ others))
step n [] some = absurd (omega (arith, some))
step n (word ∷ words) some = refl

-- an order behind those so far
pub read_more : (words : List (List ℕ)) (marks : List OrderMark) (m : OrderMark) (at n : ℕ) → IsReadTo words marks at → at < length words
    → order_mark (drop at words) ≡ Ok (m, drop n (drop at words)) → 0 < n → at + n ≤ length words → IsReadTo words (marks ++ m ∷ []) (at + n)
read_more words marks m at n so_far lt is some fits =
    let long : length (marks ++ m ∷ []) ≡ length marks + 1 = length-append marks (m ∷ []) in
    let k = length words - length (marks ++ m ∷ []) in
    let fuel : length words - length marks ≡ suc k = omega (arith, long, so_far.0, lt) in
    let here : order_marks_within (suc k) (drop at words) ≡ (order_marks_within k (drop (at + n) words) >>= λ ms. Ok (m ∷ ms)) =
    step k (drop at words) (omega (arith, length-drop at words, lt))
    ∙ ap (λ r. r >>= λ first. order_marks_within k first.1 >>= λ others. Ok (first.0 ∷ others)) is
    ∙ ap (λ ws. order_marks_within k ws >>= λ ms. Ok (m ∷ ms)) (drop-drop n at words) in (
      omega (arith, long, so_far.0, some),
      (
        fits,
        so_far.1.1 ∙ ap (λ f. behind marks (order_marks_within f (drop at words))) fuel ∙ ap (λ r. behind marks r) here
            ∙ item_and_rest marks m (order_marks_within k (drop (at + n) words)),
      ),
    )

pub read_stop : (words : List (List ℕ)) (marks : List OrderMark) (e : WordFault) (at : ℕ) → IsReadTo words marks at → at < length words
    → order_mark (drop at words) ≡ Err e → order_marks words ≡ Err e
read_stop words marks e at so_far lt is =
    let k = length words - length marks - 1 in
    let fuel : length words - length marks ≡ suc k = omega (arith, so_far.0, lt) in
    let here : order_marks_within (suc k) (drop at words) ≡ Err e =
    step k (drop at words) (omega (arith, length-drop at words, lt))
    ∙ ap (λ r. r >>= λ first. order_marks_within k first.1 >>= λ others. Ok (first.0 ∷ others)) is in
    so_far.1.1 ∙ ap (λ f. behind marks (order_marks_within f (drop at words))) fuel ∙ ap (λ r. behind marks r) here

pub read_done : (words : List (List ℕ)) (marks : List OrderMark) (at : ℕ) → IsReadTo words marks at → length words ≤ at → order_marks words ≡ Ok marks
read_done words marks at so_far le =
    let none : order_marks_within (length words - length marks) (drop at words) ≡ Ok [] = ap (λ ws. order_marks_within (length words - length marks) ws) (drop_all at words le) in
    rest_done marks (order_marks words) (order_marks_within (length words - length marks) (drop at words)) none so_far.1.1

-- what is within the words behind so many is within all
pub within_words : (r : Result MarkAndWords WordFault) (n rest all : ℕ) → n ≤ all → rest ≡ all - n
    → IfOk r (λ first. (0 < first.words) × (first.words ≤ rest)) → IfOk r (λ first. (0 < first.words) × (n + first.words ≤ all))
within_words (Ok first) n rest all le is h = (h.0, omega (arith, le, is, h.1))
within_words (Err e) n rest all le is h = tt

pub stop_or : (words : List (List ℕ)) (marks : List OrderMark) (e : WordFault) (at : ℕ) → IsReadTo words marks at → at < length words
    → (order_mark (drop at words) ≡ Err e) ⊎ (e ≡ word.NoMem) → (order_marks words ≡ Err e) ⊎ (e ≡ word.NoMem)
stop_or words marks e at so_far lt (inl bad) = inl (read_stop words marks e at so_far lt bad)
stop_or words marks e at so_far lt (inr none) = inr none
