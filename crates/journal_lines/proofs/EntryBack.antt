-- The line of an entry is read back as the entry, and is one line.
use Rattle.std.proofs.Common.{◌≡◌, ◌≢◌, ◌∙◌, sym, ap, subst, ℕ, ◌<◌, ◌≤◌, List, [], ◌∷◌, ◌++◌, decimal, All, Result, Ok, Err, IfOk, MatchResult, inl, inr, arith}
use Rattle.std.proofs.lemmas.List.{same_from_push}
use Rattle.std.proofs.lemmas.List.Elements.{All-nil, All-head, All-tail, All-append, All-weaker, All-from_recursion, recursion_from_All}
use Rattle.net_base.specs.Results.{◌>>=◌}
use Rattle.model_values.specs.declared.entry.Entry.{Entry}
use Rattle.journal_words.specs.Readers.{Gives, moment, parts}
use Rattle.journal_words.specs.declared.faults.WordFault.{WordFault}
use Rattle.journal_words.specs.declared.faults.WordFault.TheVariants as word
use Rattle.journal_words.specs.Words.{spaced_words}
use Rattle.journal_lines.specs.Lines.{act_words, entry_line}
use Rattle.journal_lines.specs.LineReaders.{small, call, entry, entry_at}
use Rattle.journal_lines.specs.Ranges.{EntryFits}
use Rattle.journal_lines.specs.Writable.{IsWritable}
use Rattle.journal_words.proofs.Above.{Above, decimal_above}
use Rattle.journal_words.proofs.Back.{moment_back}
use Rattle.journal_words.proofs.Fitting.{of_given}
use Rattle.journal_words.proofs.Marks.{parts_back}
use Rattle.journal_words.proofs.Steps.{bind}
use Rattle.journal_lines.proofs.ReplyBack.{small_back}
use Rattle.journal_lines.proofs.ActBack.{read_act, act_back}
use Rattle.journal_lines.proofs.ActAbove.{above_32, act_above}
use Rattle.journal_lines.proofs.Fitting.{entry_fits}

-- ---- words and spaces

-- what stands above the space is none of the octets up to it
apart : (mark : ℕ) → mark ≤ 32 → (word : List ℕ) → Above word → All (λ b. b ≢ mark) word
apart mark low word above = All-weaker (λ b. 32 < b) (λ b. b ≢ mark) (λ b high is. absurd (omega arith)) word above

each_apart : (mark : ℕ) → mark ≤ 32 → (words : List (List ℕ)) → All Above words → All (All (λ b. b ≢ mark)) words
each_apart mark low words all = All-weaker Above (All (λ b. b ≢ mark)) (apart mark low) words all

-- no other octet below the space is in words with a space before each
spaced_apart : (mark : ℕ) → mark < 32 → (words : List (List ℕ)) → All Above words → All (λ b. b ≢ mark) (spaced_words words)
spaced_apart mark low [] all = All-nil (λ b. b ≢ mark)
spaced_apart mark low (word ∷ words) all =
    All-append (λ b. b ≢ mark) (32 ∷ word) (spaced_words words)
    (All-from_recursion (λ b. b ≢ mark) (32 ∷ word)
    ((λ is. absurd (omega arith)), recursion_from_All (λ b. b ≢ mark) word (apart mark (omega arith) word (All-head Above word words all))))
    (spaced_apart mark low words (All-tail Above word words all))

-- ---- the words of an entry

-- the words behind the moment: the caller's number and those of the act
abbrev pub words_of : Entry → List (List ℕ)
words_of e = decimal e.who.0 ∷ act_words e.act

-- the line of an entry, without its end
abbrev pub entry_text : Entry → List ℕ
entry_text e = decimal e.moment.0 ++ spaced_words (words_of e)

words_above : (e : Entry) → EntryFits e → IsWritable e → All Above (words_of e)
words_above e fits writes =
    All-from_recursion Above (words_of e)
    (above_32 e.who.0 fits.0, recursion_from_All Above (act_words e.act) (act_above e.act fits.2 writes.0 writes.1))

-- a line that ends as an entry's does is the entry's text
pub line_is : (e : Entry) (line : List ℕ) → line ++ 10 ∷ [] ≡ entry_line e → line ≡ entry_text e
line_is e line same = (same_from_push line (entry_text e) 10 10 same).0

-- ---- read back

-- an entry is read from its words one after another
entry_steps : (when caller : List ℕ) (words : List (List ℕ)) (e : Entry) → moment when ≡ Ok e.moment → small caller ≡ Ok e.who.0 → read_act words ≡ Ok e.act
    → entry_at (when ∷ caller ∷ words) ≡ Ok e
entry_steps when caller [] e h1 h2 h3 = absurd (cc)
entry_steps when caller (word ∷ words) e h1 h2 h3 =
    bind (moment when) e.moment
    (λ m. small caller >>= λ w. call word words >>= λ a. Ok (record { who = record { 0 = w }; moment = m; act = a })) h1
    ∙ bind (small caller) e.who.0 (λ w. call word words >>= λ a. Ok (record { who = record { 0 = w }; moment = e.moment; act = a })) h2
    ∙ bind (call word words) e.act (λ a. Ok (record { who = record { 0 = e.who.0 }; moment = e.moment; act = a })) h3

-- the parts of the text between the spaces
text_parts : (e : Entry) → EntryFits e → IsWritable e → parts 32 (entry_text e) ≡ decimal e.moment.0 ∷ words_of e
text_parts e fits writes =
    parts_back 32 (decimal e.moment.0) (words_of e) (apart 32 (omega arith) (decimal e.moment.0) (decimal_above e.moment.0 fits.1))
    (each_apart 32 (omega arith) (words_of e) (words_above e fits writes))

pub text_back : (e : Entry) → EntryFits e → IsWritable e → entry (entry_text e) ≡ Ok e
text_back e fits writes =
    ap entry_at (text_parts e fits writes)
    ∙ entry_steps (decimal e.moment.0) (decimal e.who.0) (act_words e.act) e (moment_back e.moment fits.1) (small_back e.who.0 fits.0)
    (act_back e.act fits.2 writes.0 writes.1)

pub entry_back : (e : Entry) → EntryFits e → IsWritable e → (line : List ℕ) → line ++ 10 ∷ [] ≡ entry_line e → entry line ≡ Ok e
entry_back e fits writes line same = ap entry (line_is e line same) ∙ text_back e fits writes

-- ---- one line

text_in_line : (e : Entry) → EntryFits e → IsWritable e → All (λ b. b ≢ 10) (entry_text e)
text_in_line e fits writes =
    All-append (λ b. b ≢ 10) (decimal e.moment.0) (spaced_words (words_of e))
    (apart 10 (omega arith) (decimal e.moment.0) (decimal_above e.moment.0 fits.1))
    (spaced_apart 10 (omega arith) (words_of e) (words_above e fits writes))

pub line_in_line : (e : Entry) → EntryFits e → IsWritable e → (line : List ℕ) → line ++ 10 ∷ [] ≡ entry_line e → All (λ b. b ≢ 10) line
line_in_line e fits writes line same = subst (All (λ b. b ≢ 10)) (sym (line_is e line same)) (text_in_line e fits writes)

-- ---- what is known of the result of the readers

pub given_fits : (r : Result Entry WordFault) (line : List ℕ) → Gives r (entry line) → IfOk r EntryFits
given_fits (Ok e) line gives = of_given EntryFits (entry line) e (entry_fits line) gives
given_fits (Err w) line gives = tt

pub given_back : (r : Result Entry WordFault) (line : List ℕ) → Gives r (entry line) → (e : Entry) → EntryFits e → IsWritable e
    → line ++ 10 ∷ [] ≡ entry_line e → MatchResult r (λ x. x ≡ e) (λ w. w ≡ word.NoMem)
given_back (Ok x) line gives e fits writes is = let back = entry_back e fits writes line is in cc
given_back (Err w) line (inl bad) e fits writes is = let back = entry_back e fits writes line is in absurd (cc)
given_back (Err w) line (inr none) e fits writes is = none
