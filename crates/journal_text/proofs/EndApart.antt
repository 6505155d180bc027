-- The line of an entry isn't the line at the end.
use Rattle.std.proofs.Common.{◌≡◌, ◌≢◌, sym, ap, ℕ, ◌+◌, ◌%◌, ◌^◌, ◌<◌, List, [], ◌∷◌, ◌++◌, length, get_or, codes, decimal, length-append, arith}
use Rattle.std.proofs.lemmas.Fmt.{decimal_by_steps}
use Rattle.std.proofs.lemmas.List.{get_or_append_left}
use Rattle.model_values.specs.declared.entry.Entry.{Entry}
use Rattle.journal_words.specs.Words.{spaced_words}
use Rattle.journal_lines.specs.Lines.{entry_line}
use Rattle.journal_lines.specs.Ranges.{EntryFits}
use Rattle.journal_text.specs.Lines.{end_line}
use Rattle.journal_words.proofs.Digits.{below_64}
use Rattle.journal_lines.proofs.EntryBack.{entry_text, line_is, words_of}

-- a decimal has a first octet, and this is a digit
first_digit : (n : ℕ) → n < 2 ^ 64 → (0 < length (decimal n)) × (get_or (decimal n) 0 0 < 58)
first_digit n small =
    decimal_by_steps (λ m ds. (0 < length ds) × (get_or ds 0 0 < 58)) (λ m l. (omega arith, omega arith))
    (λ m ds l h. (omega (arith, length-append ds ((48 + m % 10) ∷ [])), omega (arith, get_or_append_left ds ((48 + m % 10) ∷ []) 0 0 h.0, h.1))) n small

-- texts that begin with a digit and with the `e` of `end`
digit_no_end : (digits rest back : List ℕ) → 0 < length digits → get_or digits 0 0 < 58 → digits ++ rest ≢ codes "end " ++ back
digit_no_end digits rest back some low is =
    let first : get_or (digits ++ rest) 0 0 ≡ 101 = ap (λ (t : List ℕ). get_or t 0 0) is in
    absurd (omega (arith, get_or_append_left digits rest 0 0 some))

pub entry_no_end : (e : Entry) (n : ℕ) → EntryFits e → entry_line e ≢ end_line n
entry_no_end e n fits is =
    let first = first_digit e.moment.0 (below_64 e.moment.0 fits.1) in
    let whole : entry_text e ≡ codes "end " ++ decimal n = sym (line_is e (codes "end " ++ decimal n) (sym is)) in
    digit_no_end (decimal e.moment.0) (spaced_words (words_of e)) (decimal n) first.0 first.1 whole
