-- Journals read line by line.
use Rattle.std.proofs.Common.{◌≡◌, ◌≢◌, ◌⊎◌, inl, inr, ℕ, ◌+◌, ◌^◌, Bool, true, false, IsTrue, ◌↔◌, ◌≤◌, ◌<◌, List, [], ◌∷◌, ◌++◌, codes, length, length-append, All, append_assoc, append-nil, refl, ap, sym, subst, ◌∙◌, arith}
use Rattle.std.specs.List.{flat_map}
use Rattle.std.specs.Fmt.{decimal}
use Rattle.std.proofs.lemmas.List.{append_cancel_left, append_cancel_right}
use Rattle.std.proofs.lemmas.List.Elements.{All-append, All-cons, All-head, All-nil, All-tail, All-weaker}
use Rattle.std.proofs.lemmas.Grind.{flat_map-append}
use Rattle.plain_values.specs.Lines.{IsInLine}
use Rattle.model_values.specs.declared.entry.Entry.{Entry}
use Rattle.journal_words.specs.Words.{spaced_words}
use Rattle.journal_words.proofs.Above.{decimal_above}
use Rattle.journal_words.proofs.Marks.{apart_by}
use Rattle.journal_lines.specs.Lines.{act_words, entry_line}
use Rattle.journal_lines.specs.Ranges.{EntryFits}
use Rattle.journal_lines.specs.Writable.{IsWritable}
use Rattle.journal_lines.proofs.EntryBack.{line_in_line}
use Rattle.journal_text.specs.Lines.{first_line, end_line, journal_text}
use Rattle.journal_text.specs.Journals.{IsLineOf, IsLineOfNone, IsJournal, RefusesJournal, lines_text}
use Rattle.journal_text.specs.declared.faults.JournalFault.{JournalFault}
use Rattle.journal_text.specs.declared.faults.JournalFault.TheVariants.{NoMem, BadLine, Truncated}
use Rattle.journal_text.proofs.EndApart.{entry_no_end}

-- ---- lines

-- a text is parted at its first end of a line in one way
pub line_same : (line more other rest : List ℕ) → IsInLine line → IsInLine other → line ++ 10 ∷ more ≡ other ++ 10 ∷ rest → (line ≡ other) × (more ≡ rest)
line_same [] more [] rest one two is = (refl, cc)
line_same [] more (o ∷ other) rest one two is =
    let here : ◌≡◌ {A = ℕ} o 10 = cc in absurd (All-head (λ b. b ≢ 10) o other two here)
line_same (l ∷ line) more [] rest one two is =
    let here : ◌≡◌ {A = ℕ} l 10 = cc in absurd (All-head (λ b. b ≢ 10) l line one here)
line_same (l ∷ line) more (o ∷ other) rest one two is =
    let tail : line ++ 10 ∷ more ≡ other ++ 10 ∷ rest = cc in
    let head : l ≡ o = cc in
    let both = line_same line more other rest (All-tail (λ b. b ≢ 10) l line one) (All-tail (λ b. b ≢ 10) o other two) tail in
    (ap (λ b. b ∷ line) head ∙ ap (λ bs. o ∷ bs) both.0, both.1)

-- what has an end of a line isn't within a line
pub no_line : (front rest : List ℕ) → ¬ (IsInLine (front ++ 10 ∷ rest))
no_line [] rest all = All-head (λ b. b ≢ 10) 10 rest all refl
no_line (b ∷ front) rest all = no_line front rest (All-tail (λ b. b ≢ 10) b (front ++ 10 ∷ rest) all)

all_behind : {X : Type 0} (P : X → Type 0) (xs ys : List X) → All P (xs ++ ys) → All P ys
all_behind P [] ys all = all
all_behind P (x ∷ xs) ys all = all_behind P xs ys (All-tail P x (xs ++ ys) all)

-- the line of an entry, and the `end` line, without their LF
abbrev entry_front : Entry → List ℕ
entry_front e = decimal e.moment.0 ++ spaced_words (decimal e.who.0 ∷ act_words e.act)

front_line : (e : Entry) → entry_front e ++ 10 ∷ [] ≡ entry_line e
front_line e = refl

entry_with : (e : Entry) (more : List ℕ) → entry_line e ++ more ≡ entry_front e ++ 10 ∷ more
entry_with e more = append_assoc (entry_front e) (10 ∷ []) more

abbrev end_front : ℕ → List ℕ
end_front n = codes "end " ++ decimal n

end_with : (n : ℕ) (more : List ℕ) → end_line n ++ more ≡ end_front n ++ 10 ∷ more
end_with n more = append_assoc (end_front n) (10 ∷ []) more

end_in_line : (n : ℕ) → n ≤ 18446744073709551615 → IsInLine (end_front n)
end_in_line n le =
    All-append (λ b. b ≢ 10) (codes "end ") (decimal n) (apart_by 10 (codes "end ") refl)
    (All-weaker (λ b. 32 < b) (λ b. b ≢ 10) (λ b above is. absurd (omega (arith, above, is))) (decimal n) (decimal_above n le))

-- ---- what is left

abbrev pub lines_of : List Entry → List ℕ
lines_of h = flat_map entry_line h

-- what the next line and what stands behind it are, where these entries are left of so many
abbrev Told : List Entry → ℕ → List ℕ → List ℕ → List ℕ → Type 0
Told [] n more line behind = (line ++ 10 ∷ [] ≡ end_line n) × (behind ≡ more)
Told (e ∷ others) n more line behind = IsLineOf line e × (EntryFits e × (behind ≡ lines_of others ++ end_line n ++ more))

told : (others : List Entry) (n : ℕ) (more line behind : List ℕ) → All IsWritable others → All EntryFits others
    → (length others ≡ 0 → n ≤ 18446744073709551615) → IsInLine line → line ++ 10 ∷ behind ≡ lines_of others ++ end_line n ++ more
    → Told others n more line behind
told [] n more line behind writable fits small one is =
    let both = line_same line behind (end_front n) more one (end_in_line n (small refl)) (is ∙ end_with n more) in
    (ap (λ t. t ++ 10 ∷ []) both.0, both.1)
told (e ∷ others) n more line behind writable fits small one is =
    let tail = lines_of others ++ end_line n ++ more in
    let w = All-head IsWritable e others writable in
    let f = All-head EntryFits e others fits in
    let whole : lines_of (e ∷ others) ++ end_line n ++ more ≡ entry_front e ++ 10 ∷ tail =
    ap (λ t. t ++ more) (append_assoc (entry_line e) (lines_of others) (end_line n))
    ∙ append_assoc (entry_line e) (lines_of others ++ end_line n) more ∙ entry_with e tail in
    let both = line_same line behind (entry_front e) tail one (line_in_line e f w (entry_front e) (front_line e)) (is ∙ whole) in
    ((ap (λ t. t ++ 10 ∷ []) both.0 ∙ front_line e, w), (f, both.1))

-- each history whose journal the text may be has the entries so far, and what is left is the text of its others
abbrev pub IsLeft : List ℕ → List Entry → List ℕ → Type 0
IsLeft text all rest =
    (h : List Entry) (more : List ℕ) → All IsWritable h → All EntryFits h → text ≡ lines_of h ++ end_line (length h) ++ more
    → (others : List Entry) × ((h ≡ all ++ others) × (rest ≡ lines_of others ++ end_line (length h) ++ more))

pub left_whole : (text : List ℕ) → IsLeft text [] text
left_whole text h more writable fits is = (h, (refl, is))

-- these entries can be read back, and their numbers are of their types
abbrev pub AreGood : List Entry → Type 0
AreGood es = All IsWritable es × All EntryFits es

-- nothing is read yet
pub begins : (text : List ℕ) (all : List Entry) → all ≡ []
    → (text ≡ lines_of all ++ text) × (AreGood all × ((length all + length text ≤ length text) × IsLeft text all text))
begins text all none =
    subst (λ (es : List Entry). (text ≡ lines_of es ++ text) × (AreGood es × ((length es + length text ≤ length text) × IsLeft text es text)))
    (sym none) (refl, ((All-nil IsWritable, All-nil EntryFits), (omega arith, left_whole text)))

module _ (text : List ℕ) (all : List Entry) (rest line behind : List ℕ) (left : IsLeft text all rest) (is : rest ≡ line ++ 10 ∷ behind) (one : IsInLine line)
    (small : length all ≤ 18446744073709551615) where
  -- what the next line says of each such history
  next : (h : List Entry) (more : List ℕ) (writable : All IsWritable h) (fits : All EntryFits h) (whole : text ≡ lines_of h ++ end_line (length h) ++ more)
      → Told (left h more writable fits whole).0 (length h) more line behind
  next h more writable fits whole =
      let o = left h more writable fits whole in
      let long : length h ≡ length all + length o.0 = ap (λ (es : List Entry). length es) o.1.0 ∙ length-append all o.0 in
      told o.0 (length h) more line behind (all_behind IsWritable all o.0 (subst (All IsWritable) o.1.0 writable))
      (all_behind EntryFits all o.0 (subst (All EntryFits) o.1.0 fits)) (λ none. omega (arith, long, none, small)) one (sym is ∙ o.1.1)

  -- no `end` line: it is that of the next entry
  with_entry : (e : Entry) → ((f : Entry) → EntryFits f → IsLineOf line f → e ≡ f) → (h : List Entry) (more : List ℕ) (others : List Entry)
      → h ≡ all ++ others → Told others (length h) more line behind → line ++ 10 ∷ [] ≢ end_line (length all)
      → (more_of : List Entry) × ((h ≡ (all ++ e ∷ []) ++ more_of) × (behind ≡ lines_of more_of ++ end_line (length h) ++ more))
  with_entry e same h more [] parts tells no_end =
      let long : length h ≡ length all = ap (λ (es : List Entry). length es) (parts ∙ append-nil all) in
      absurd (no_end (tells.0 ∙ ap end_line long))
  with_entry e same h more (f ∷ others) parts tells no_end =
      (others, (parts ∙ ap (λ x. all ++ x ∷ others) (sym (same f tells.1.0 tells.0)) ∙ sym (append_assoc all (e ∷ []) others), tells.1.1))

  pub left_more : (e : Entry) → ((f : Entry) → EntryFits f → IsLineOf line f → e ≡ f) → line ++ 10 ∷ [] ≢ end_line (length all)
      → IsLeft text (all ++ e ∷ []) behind
  left_more e same no_end h more writable fits whole =
      let o = left h more writable fits whole in
      with_entry e same h more o.0 o.1.0 (next h more writable fits whole) no_end

  -- the `end` line of the entries so far: the history has no others
  at_end : (h : List Entry) (more : List ℕ) (others : List Entry) → h ≡ all ++ others → Told others (length h) more line behind
      → line ++ 10 ∷ [] ≡ end_line (length all) → all ≡ h
  at_end h more [] parts tells end = sym (parts ∙ append-nil all)
  at_end h more (f ∷ others) parts tells end = absurd (entry_no_end f (length all) tells.1.0 (sym tells.0.0 ∙ end))

  pub left_at_end : line ++ 10 ∷ [] ≡ end_line (length all) → (h : List Entry) (more : List ℕ) → All IsWritable h → All EntryFits h
      → text ≡ lines_of h ++ end_line (length h) ++ more → all ≡ h
  left_at_end end h more writable fits whole =
      let o = left h more writable fits whole in at_end h more o.0 o.1.0 (next h more writable fits whole) end

  -- neither the `end` line nor that of an entry
  at_bad : (fault : JournalFault) → ((f : Entry) → EntryFits f → IsLineOf line f → fault ≡ NoMem) → (h : List Entry) (more : List ℕ) (others : List Entry)
      → h ≡ all ++ others → Told others (length h) more line behind → line ++ 10 ∷ [] ≢ end_line (length all) → fault ≡ NoMem
  at_bad fault none h more [] parts tells no_end =
      let long : length h ≡ length all = ap (λ (es : List Entry). length es) (parts ∙ append-nil all) in
      absurd (no_end (tells.0 ∙ ap end_line long))
  at_bad fault none h more (f ∷ others) parts tells no_end = none f tells.1.0 tells.0

  pub left_at_bad : (fault : JournalFault) → ((f : Entry) → EntryFits f → IsLineOf line f → fault ≡ NoMem) → line ++ 10 ∷ [] ≢ end_line (length all)
      → (h : List Entry) (more : List ℕ) → All IsWritable h → All EntryFits h → text ≡ lines_of h ++ end_line (length h) ++ more → fault ≡ NoMem
  left_at_bad fault none no_end h more writable fits whole =
      let o = left h more writable fits whole in at_bad fault none h more o.0 o.1.0 (next h more writable fits whole) no_end

-- no line is left, so no history has its whole journal in the text
has_line : (others : List Entry) (n : ℕ) (more rest : List ℕ) → IsInLine rest → rest ≢ lines_of others ++ end_line n ++ more
has_line [] n more rest one is = no_line (end_front n) more (subst IsInLine (is ∙ end_with n more) one)
has_line (e ∷ others) n more rest one is =
    no_line (entry_front e) (lines_of others ++ end_line n ++ more)
    (subst IsInLine
    (is ∙ ap (λ t. t ++ more) (append_assoc (entry_line e) (lines_of others) (end_line n))
    ∙ append_assoc (entry_line e) (lines_of others ++ end_line n) more ∙ entry_with e (lines_of others ++ end_line n ++ more)) one)

pub left_none : (text : List ℕ) (all : List Entry) (rest : List ℕ) → IsLeft text all rest → IsInLine rest
    → (h : List Entry) (more : List ℕ) → All IsWritable h → All EntryFits h → text ≢ lines_of h ++ end_line (length h) ++ more
left_none text all rest left one h more writable fits whole =
    let o = left h more writable fits whole in has_line o.0 (length h) more rest one o.1.1

-- ---- the whole text

pub journal_with : (h : List Entry) (more : List ℕ) → journal_text h ++ more ≡ first_line ++ (lines_of h ++ end_line (length h) ++ more)
journal_with h more = refl

pub behind_first : (text : List ℕ) (h : List Entry) (more : List ℕ) → first_line ++ text ≡ journal_text h ++ more
    → text ≡ lines_of h ++ end_line (length h) ++ more
behind_first text h more is = append_cancel_left first_line text (lines_of h ++ end_line (length h) ++ more) (is ∙ journal_with h more)

-- the entries so far and a line behind them
pub lines_and : (text : List ℕ) (all : List Entry) (rest line behind : List ℕ) → text ≡ lines_of all ++ rest → rest ≡ line ++ 10 ∷ behind
    → first_line ++ text ≡ lines_text all ++ line ++ 10 ∷ behind
lines_and text all rest line behind whole is =
    ap (λ t. first_line ++ t) (whole ∙ ap (λ t. lines_of all ++ t) is ∙ sym (append_assoc (lines_of all) line (10 ∷ behind)))

pub is_journal : (text : List ℕ) (all : List Entry) (rest line behind : List ℕ) → text ≡ lines_of all ++ rest → rest ≡ line ++ 10 ∷ behind
    → line ++ 10 ∷ [] ≡ end_line (length all) → AreGood all → IsJournal (first_line ++ text) all
is_journal text all rest line behind whole is end good =
    let last : rest ≡ end_line (length all) ++ behind = is ∙ sym (append_assoc line (10 ∷ []) behind) ∙ ap (λ t. t ++ behind) end in
    let joined = whole ∙ ap (λ t. lines_of all ++ t) last ∙ sym (append_assoc (lines_of all) (end_line (length all)) behind) in
    (good.0, good.1, (behind, ap (λ t. first_line ++ t) joined))

pub is_cut : (text : List ℕ) (all : List Entry) (rest : List ℕ) → text ≡ lines_of all ++ rest → AreGood all → IsInLine rest
    → RefusesJournal (first_line ++ text) Truncated
is_cut text all rest whole good one =
    inr (record {
      entries = all;
      writable = good.0;
      fits = good.1;
      rest = rest;
      text = ap (λ t. first_line ++ t) whole;
      no_line = one;
    })

pub is_bad : (text : List ℕ) (all : List Entry) (rest line behind : List ℕ) (fault : JournalFault) (n : ℕ) → text ≡ lines_of all ++ rest
    → rest ≡ line ++ 10 ∷ behind → AreGood all → IsInLine line → line ++ 10 ∷ [] ≢ end_line (length all)
    → n ≡ length all → (fault ≡ NoMem) ⊎ ((fault ≡ BadLine (n + 2)) × IsLineOfNone line) → RefusesJournal (first_line ++ text) fault
is_bad text all rest line behind fault n whole is good one no_end count (inl none) = subst (RefusesJournal (first_line ++ text)) (sym none) tt
is_bad text all rest line behind fault n whole is good one no_end count (inr bad) =
    subst (RefusesJournal (first_line ++ text)) (sym bad.0)
    (inr (record {
      entries = all;
      writable = good.0;
      fits = good.1;
      line = line;
      rest = behind;
      text = lines_and text all rest line behind whole is;
      one_line = one;
      none = bad.1;
      no_end = no_end;
      number = ap (λ (k : ℕ). k + 2) count;
    }))

-- one more entry
pub lines_more : (text : List ℕ) (all : List Entry) (rest line behind : List ℕ) (e : Entry) → text ≡ lines_of all ++ rest
    → rest ≡ line ++ 10 ∷ behind → IsLineOf line e → text ≡ lines_of (all ++ e ∷ []) ++ behind
lines_more text all rest line behind e whole is of =
    whole ∙ ap (λ t. lines_of all ++ t) (is ∙ sym (append_assoc line (10 ∷ []) behind) ∙ ap (λ t. t ++ behind) of.0)
    ∙ sym (append_assoc (lines_of all) (entry_line e) behind) ∙ ap (λ t. (lines_of all ++ t) ++ behind) (sym (append-nil (entry_line e)))
    ∙ ap (λ t. t ++ behind) (sym (flat_map-append entry_line all (e ∷ [])))

all_more : (P : Entry → Type 0) (all : List Entry) (e : Entry) → All P all → P e → All P (all ++ e ∷ [])
all_more P all e so_far last = All-append P all (e ∷ []) so_far (All-cons P e [] last (All-nil P))

-- ---- one turn

pub not_end : (is : Bool) (line : List ℕ) (n m : ℕ) → is ≡ false → IsTrue is ↔ (line ++ 10 ∷ [] ≡ end_line n) → n ≡ m → line ++ 10 ∷ [] ≢ end_line m
not_end is line n m off same count end = let on : is ≡ true = same.1 (end ∙ ap end_line (sym count)) in absurd (cc)

pub shorter : (rest line behind : List ℕ) → rest ≡ line ++ 10 ∷ behind → length behind < length rest
shorter rest line behind is = let long = ap (λ (t : List ℕ). length t) is ∙ length-append line (10 ∷ behind) in omega (arith, long)

-- what holds between two lines
abbrev pub IsAt : List ℕ → List Entry → List ℕ → Type 0
IsAt text all rest = (text ≡ lines_of all ++ rest) × (AreGood all × ((length all + length rest ≤ length text) × IsLeft text all rest))

pub goes_on : (text : List ℕ) (all more : List Entry) (rest line behind : List ℕ) (e : Entry) → IsAt text all rest → rest ≡ line ++ 10 ∷ behind → IsInLine line
    → length text + 10 < 2 ^ 64 → line ++ 10 ∷ [] ≢ end_line (length all) → IsLineOf line e → EntryFits e
    → ((f : Entry) → EntryFits f → IsLineOf line f → e ≡ f) → more ≡ all ++ e ∷ [] → IsAt text more behind
goes_on text all more rest line behind e so_far is one small no_end of fits same longer =
    let long = ap (λ (t : List ℕ). length t) is ∙ length-append line (10 ∷ behind) in
    let count = length-append all (e ∷ []) in
    subst (λ (es : List Entry). IsAt text es behind) (sym longer) (
      lines_more text all rest line behind e so_far.0 is of,
      (
        (all_more IsWritable all e so_far.1.0.0 of.1, all_more EntryFits all e so_far.1.0.1 fits),
        (
          omega (arith, long, count, so_far.1.1.0),
          left_more text all rest line behind so_far.1.1.1 is one (omega (arith, so_far.1.1.0, small)) e same no_end,
        ),
      ),
    )

-- ---- the first line

pub other_format : (bytes line rest : List ℕ) → bytes ≡ line ++ 10 ∷ rest → IsInLine line → line ≢ codes "poolrun 1" → RefusesJournal bytes (BadLine 1)
other_format bytes line rest is one other =
    inl ((line, rest, is, one, λ same. other (append_cancel_right line (codes "poolrun 1") (10 ∷ []) same)), refl)

pub same_format : (bytes line rest : List ℕ) → bytes ≡ line ++ 10 ∷ rest → IsInLine line → (h : List Entry) (more : List ℕ)
    → bytes ≡ journal_text h ++ more → line ≡ codes "poolrun 1"
same_format bytes line rest is one h more whole =
    (line_same line rest (codes "poolrun 1") (lines_of h ++ end_line (length h) ++ more) one (apart_by 10 (codes "poolrun 1") refl) (sym is ∙ whole)).0

pub no_journal : (bytes : List ℕ) → IsInLine bytes → (h : List Entry) (more : List ℕ) → bytes ≢ journal_text h ++ more
no_journal bytes one h more whole = no_line (codes "poolrun 1") (lines_of h ++ end_line (length h) ++ more) (subst IsInLine whole one)

pub behind_format : (bytes line rest : List ℕ) → bytes ≡ line ++ 10 ∷ rest → line ≡ codes "poolrun 1" → bytes ≡ first_line ++ rest
behind_format bytes line rest is same = is ∙ ap (λ t. t ++ 10 ∷ rest) same
