-- The machine finds exactly the end of a unit.
use Rattle.std.proofs.Common.{◌≡◌, ◌⊎◌, inl, inr, ℕ, zero, suc, ◌+◌, ◌<◌, ◌≤◌, ◌==◌, Bool, true, false, List, [], ◌∷◌, ◌++◌, length, take, drop, get_or, Option, Some, None, option_map, All, refl, ap, sym, ◌∙◌, subst, arith, append_assoc}
use Rattle.std.proofs.lemmas.Bool.{eqb-true, eqb-false}
use Rattle.std.proofs.lemmas.List.Elements.{All-nil, All-cons, All-head, All-tail}
use Rattle.std.proofs.lemmas.List.{drop_more, drop_all}
use Rattle.plain_values.specs.Lines.{IsInLine}
use Rattle.h1_frames.specs.declared.unit.Place.{Place}
use Rattle.h1_frames.specs.declared.unit.Place.TheVariants.{Blank, BlankReturn, Within, Behind, BehindReturn}
use Rattle.h1_frames.specs.Units.{IsEmptyLine, IsFullLine, lines_text, AreHeadLines, IsHeadUnit, BeginsWithUnit, HasNoUnit}
use Rattle.h1_frames.proofs.UnitSteps.{step, more_or_last, left}

-- the text is a rest, read from this place, at whose end a unit ends
abbrev goes : (Place → Type 0) → List ℕ → Option Place → Type 0
goes more rest None = rest ≡ []
goes more rest (Some after) = more after

abbrev Ends : Place → List ℕ → Type 0
Ends place [] = ⊥
Ends place (b ∷ rest) = goes (λ after. Ends after rest) rest (step place b)

-- The count that the machine gives is the length of the one such rest.

map_some : (o : Option ℕ) (n : ℕ) → option_map (λ k. k + 1) o ≡ Some n → (m : ℕ) × (o ≡ Some m) × (suc m ≡ n)
map_some None n e = cc
map_some (Some m) n e = let same : m + 1 ≡ n = cc in (m, refl, omega arith)

sound_step : (p : Place) (b : ℕ) (bytes : List ℕ) (n : ℕ)
    → ((q : Place) (m : ℕ) → left q bytes ≡ Some m → (m ≤ length bytes) × Ends q (take m bytes))
    → (o : Option Place) → step p b ≡ o → more_or_last (λ q. left q bytes) o ≡ Some n
    → (n ≤ length (b ∷ bytes)) × Ends p (take n (b ∷ bytes))
sound_step p b bytes n ih None s e =
    let one : 1 ≡ n = cc in
    let P : ℕ → Type 0 = λ k. (k ≤ length (b ∷ bytes)) × Ends p (take k (b ∷ bytes)) in
    let G : Option Place → Type 0 = λ o. goes (λ q. Ends q []) [] o in
    subst P one (omega arith, subst G (sym s) refl)
sound_step p b bytes n ih (Some q) s e =
    let m = map_some (left q bytes) n e in
    let h = ih q m.0 m.1 in
    let P : ℕ → Type 0 = λ k. (k ≤ length (b ∷ bytes)) × Ends p (take k (b ∷ bytes)) in
    let t = take m.0 bytes in
    let G : Option Place → Type 0 = λ o. goes (λ q. Ends q t) t o in
    subst P m.2 (omega arith, subst G (sym s) h.1)

left_sound : (p : Place) (bytes : List ℕ) (n : ℕ) → left p bytes ≡ Some n → (n ≤ length bytes) × Ends p (take n bytes)
left_sound p [] n e = cc
left_sound p (b ∷ bytes) n e = sound_step p b bytes n (λ q m. left_sound q bytes m) (step p b) refl e

complete_step : (p : Place) (b : ℕ) (bytes : List ℕ) (n : ℕ) → n ≤ length bytes
    → ((q : Place) → Ends q (take n bytes) → left q bytes ≡ Some n)
    → (o : Option Place) → step p b ≡ o → goes (λ q. Ends q (take n bytes)) (take n bytes) o
    → more_or_last (λ q. left q bytes) (step p b) ≡ Some (suc n)
complete_step p b bytes n fits ih None s e = ap (λ o. more_or_last (λ q. left q bytes) o) s ∙ ap (λ k. Some (suc k)) (none_left n bytes fits e)
  where
    none_left : (n : ℕ) (bytes : List ℕ) → n ≤ length bytes → take n bytes ≡ [] → 0 ≡ n
    none_left zero bytes fits e = refl
    none_left (suc n) [] fits e = omega arith
    none_left (suc n) (b ∷ bytes) fits e = cc
complete_step p b bytes n fits ih (Some q) s e =
    ap (λ o. more_or_last (λ q. left q bytes) o) s ∙ ap (λ o. option_map (λ k. k + 1) o) (ih q e) ∙ ap (λ k. Some k) (omega arith)

left_complete : (p : Place) (bytes : List ℕ) (n : ℕ) → n ≤ length bytes → Ends p (take n bytes) → left p bytes ≡ Some n
left_complete p [] zero fits e = absurd e
left_complete p [] (suc n) fits e = absurd e
left_complete p (b ∷ bytes) zero fits e = absurd e
left_complete p (b ∷ bytes) (suc n) fits e =
    complete_step p b bytes n (omega arith) (λ q. left_complete q bytes n (omega arith)) (step p b) refl e

-- What such a rest is, in lines.

-- full lines, if any, and an empty line
abbrev Tail : List ℕ → Type 0
Tail text =
    (full : List (List ℕ)) × (last : List ℕ) × All IsFullLine full × IsEmptyLine last × (text ≡ lines_text (full ++ last ∷ []))

-- the rest of a line, and a tail
abbrev LineTail : List ℕ → Type 0
LineTail text = (line : List ℕ) × (rest : List ℕ) × IsInLine line × Tail rest × (text ≡ line ++ 10 ∷ rest)

abbrev Form : Place → List ℕ → Type 0
Form Blank text = IsHeadUnit text
Form BlankReturn text = IsHeadUnit (13 ∷ text)
Form Within text = LineTail text
Form Behind text = Tail text
Form BehindReturn text = Tail (13 ∷ text)

-- a line before others
line_before : (line rest : List ℕ) (lines : List (List ℕ)) → rest ≡ lines_text lines
    → line ++ 10 ∷ rest ≡ lines_text (line ∷ lines)
line_before line rest lines e = ap (λ t. line ++ 10 ∷ t) e ∙ sym (append_assoc line (10 ∷ []) (lines_text lines))

full_before : (line rest : List ℕ) → IsFullLine line → Tail rest → Tail (line ++ 10 ∷ rest)
full_before line rest full tail =
    (line ∷ tail.0, tail.1, All-cons IsFullLine line tail.0 full tail.2, tail.3, line_before line rest (tail.0 ++ tail.1 ∷ []) tail.4)

first_full : (line rest : List ℕ) → IsFullLine line → Tail rest → IsHeadUnit (line ++ 10 ∷ rest)
first_full line rest full tail = (
  [],
  line ∷ tail.0,
  tail.1,
  record { are_blank = All-nil IsEmptyLine; are_some = omega arith; are_full = All-cons IsFullLine line tail.0 full tail.2; ends = tail.3 },
  line_before line rest (tail.0 ++ tail.1 ∷ []) tail.4,
)

blank_before : (line rest : List ℕ) → IsEmptyLine line → IsHeadUnit rest → IsHeadUnit (line ++ 10 ∷ rest)
blank_before line rest empty unit = (
  line ∷ unit.0,
  unit.1,
  unit.2,
  record { are_blank = All-cons IsEmptyLine line unit.0 empty unit.3.are_blank; are_some = unit.3.are_some; are_full = unit.3.are_full; ends = unit.3.ends },
  line_before line rest (unit.0 ++ unit.1 ++ unit.2 ∷ []) unit.4,
)

last_line : (line rest : List ℕ) → IsEmptyLine line → rest ≡ [] → Tail (line ++ 10 ∷ rest)
last_line line rest empty e = ([], line, All-nil IsFullLine, empty, line_before line rest [] e)

other_octet : (octet known : ℕ) → ¬ (octet ≡ known) → (octet == known) ≡ false
other_octet octet known other = by_test (octet == known) refl
  where
    by_test : (t : Bool) → (octet == known) ≡ t → t ≡ false
    by_test true e = absurd (other (eqb-true octet known e))
    by_test false e = refl

-- LF, CR or any other octet
octet_cases : (octet : ℕ) → (octet ≡ 10) ⊎ ((octet ≡ 13) ⊎ ((¬ (octet ≡ 10)) × ¬ (octet ≡ 13)))
octet_cases octet = first (octet == 10) refl
  where
    second : ¬ (octet ≡ 10) → (t : Bool) → (octet == 13) ≡ t → (octet ≡ 10) ⊎ ((octet ≡ 13) ⊎ ((¬ (octet ≡ 10)) × ¬ (octet ≡ 13)))
    second one true e = inr (inl (eqb-true octet 13 e))
    second one false e = inr (inr (one, eqb-false octet 13 e))

    first : (t : Bool) → (octet == 10) ≡ t → (octet ≡ 10) ⊎ ((octet ≡ 13) ⊎ ((¬ (octet ≡ 10)) × ¬ (octet ≡ 13)))
    first true e = inl (eqb-true octet 10 e)
    first false e = second (eqb-false octet 10 e) (octet == 13) refl

step_other : (p : Place) (b : ℕ) → ¬ (b ≡ 10) → ¬ (b ≡ 13) → step p b ≡ Some Within
step_other Blank b feed return = rw (other_octet b 10 feed, other_octet b 13 return) refl
step_other BlankReturn b feed return = rw (other_octet b 10 feed) refl
step_other Within b feed return = rw (other_octet b 10 feed) refl
step_other Behind b feed return = rw (other_octet b 10 feed, other_octet b 13 return) refl
step_other BehindReturn b feed return = rw (other_octet b 10 feed) refl

return_no_feed : ¬ (◌≡◌ {A = ℕ} 13 10)
return_no_feed e = omega arith

-- Lines that aren't empty.

octet_not_empty : (b : ℕ) (line : List ℕ) → ¬ (b ≡ 13) → ¬ (IsEmptyLine (b ∷ line))
octet_not_empty b line other (inl e) = cc
octet_not_empty b line other (inr e) = let same : b ≡ 13 = cc in other same

octets_not_empty : (a b : ℕ) (line : List ℕ) → ¬ (IsEmptyLine (a ∷ b ∷ line))
octets_not_empty a b line (inl e) = cc
octets_not_empty a b line (inr e) = cc

line_more : (b : ℕ) (line : List ℕ) → ¬ (b ≡ 10) → IsInLine line → IsInLine (b ∷ line)
line_more b line other is = All-cons (λ octet. ¬ (octet ≡ 10)) b line other is

full_other : (b : ℕ) (line : List ℕ) → ¬ (b ≡ 10) → ¬ (b ≡ 13) → IsInLine line → IsFullLine (b ∷ line)
full_other b line feed return is = (line_more b line feed is, octet_not_empty b line return)

full_return : (b : ℕ) (line : List ℕ) → ¬ (b ≡ 10) → IsInLine line → IsFullLine (13 ∷ b ∷ line)
full_return b line feed is = (line_more 13 (b ∷ line) return_no_feed (line_more b line feed is), octets_not_empty 13 b line)

-- From the machine to lines.

longer_line : (b : ℕ) (text : List ℕ) → ¬ (b ≡ 10) → LineTail text → LineTail (b ∷ text)
longer_line b text feed l = (b ∷ l.0, l.1, line_more b l.0 feed l.2, l.3, ap (λ t. b ∷ t) l.4)

unit_of_other : (b : ℕ) (text : List ℕ) → ¬ (b ≡ 10) → ¬ (b ≡ 13) → LineTail text → IsHeadUnit (b ∷ text)
unit_of_other b text feed return l =
    let P : List ℕ → Type 0 = λ t. IsHeadUnit (b ∷ t) in
    subst P (sym l.4) (first_full (b ∷ l.0) l.1 (full_other b l.0 feed return l.2) l.3)

unit_of_return : (b : ℕ) (text : List ℕ) → ¬ (b ≡ 10) → LineTail text → IsHeadUnit (13 ∷ b ∷ text)
unit_of_return b text feed l =
    let P : List ℕ → Type 0 = λ t. IsHeadUnit (13 ∷ b ∷ t) in
    subst P (sym l.4) (first_full (13 ∷ b ∷ l.0) l.1 (full_return b l.0 feed l.2) l.3)

tail_of_other : (b : ℕ) (text : List ℕ) → ¬ (b ≡ 10) → ¬ (b ≡ 13) → LineTail text → Tail (b ∷ text)
tail_of_other b text feed return l =
    let P : List ℕ → Type 0 = λ t. Tail (b ∷ t) in
    subst P (sym l.4) (full_before (b ∷ l.0) l.1 (full_other b l.0 feed return l.2) l.3)

tail_of_return : (b : ℕ) (text : List ℕ) → ¬ (b ≡ 10) → LineTail text → Tail (13 ∷ b ∷ text)
tail_of_return b text feed l =
    let P : List ℕ → Type 0 = λ t. Tail (13 ∷ b ∷ t) in
    subst P (sym l.4) (full_before (13 ∷ b ∷ l.0) l.1 (full_return b l.0 feed l.2) l.3)

-- what holds of the text behind an octet
abbrev Ahead : List ℕ → Type 0
Ahead rest = (q : Place) → Ends q rest → Form q rest

form_feed : (p : Place) (rest : List ℕ) → Ahead rest → Ends p (10 ∷ rest) → Form p (10 ∷ rest)
form_feed Blank rest ahead e = blank_before [] rest (inl refl) (ahead Blank e)
form_feed BlankReturn rest ahead e = blank_before (13 ∷ []) rest (inr refl) (ahead Blank e)
form_feed Within rest ahead e = ([], rest, All-nil (λ octet. ¬ (octet ≡ 10)), ahead Behind e, refl)
form_feed Behind rest ahead e = last_line [] rest (inl refl) e
form_feed BehindReturn rest ahead e = last_line (13 ∷ []) rest (inr refl) e

form_return : (p : Place) (rest : List ℕ) → Ahead rest → Ends p (13 ∷ rest) → Form p (13 ∷ rest)
form_return Blank rest ahead e = ahead BlankReturn e
form_return BlankReturn rest ahead e = unit_of_return 13 rest return_no_feed (ahead Within e)
form_return Within rest ahead e = longer_line 13 rest return_no_feed (ahead Within e)
form_return Behind rest ahead e = ahead BehindReturn e
form_return BehindReturn rest ahead e = tail_of_return 13 rest return_no_feed (ahead Within e)

form_other : (p : Place) (b : ℕ) (rest : List ℕ) → ¬ (b ≡ 10) → ¬ (b ≡ 13) → LineTail rest → Form p (b ∷ rest)
form_other Blank b rest feed return l = unit_of_other b rest feed return l
form_other BlankReturn b rest feed return l = unit_of_return b rest feed l
form_other Within b rest feed return l = longer_line b rest feed l
form_other Behind b rest feed return l = tail_of_other b rest feed return l
form_other BehindReturn b rest feed return l = tail_of_return b rest feed l

form_step : (p : Place) (b : ℕ) (rest : List ℕ) → Ahead rest → Ends p (b ∷ rest)
    → (b ≡ 10) ⊎ ((b ≡ 13) ⊎ ((¬ (b ≡ 10)) × ¬ (b ≡ 13))) → Form p (b ∷ rest)
form_step p b rest ahead e (inl feed) =
    let P : ℕ → Type 0 = λ k. Ends p (k ∷ rest) in
    let Q : ℕ → Type 0 = λ k. Form p (k ∷ rest) in
    subst Q (sym feed) (form_feed p rest ahead (subst P feed e))
form_step p b rest ahead e (inr (inl return)) =
    let P : ℕ → Type 0 = λ k. Ends p (k ∷ rest) in
    let Q : ℕ → Type 0 = λ k. Form p (k ∷ rest) in
    subst Q (sym return) (form_return p rest ahead (subst P return e))
form_step p b rest ahead e (inr (inr other)) =
    let G : Option Place → Type 0 = λ o. goes (λ q. Ends q rest) rest o in
    form_other p b rest other.0 other.1 (ahead Within (subst G (step_other p b other.0 other.1) e))

form_of : (p : Place) (text : List ℕ) → Ends p text → Form p text
form_of p [] e = absurd e
form_of p (b ∷ rest) e = form_step p b rest (λ q. form_of q rest) e (octet_cases b)

-- From lines to the machine.

ends_step : (p q : Place) (b : ℕ) (rest : List ℕ) → step p b ≡ Some q → Ends q rest → Ends p (b ∷ rest)
ends_step p q b rest s e =
    let G : Option Place → Type 0 = λ o. goes (λ q. Ends q rest) rest o in
    subst G (sym s) e

within_ends : (line rest : List ℕ) → IsInLine line → Ends Behind rest → Ends Within (line ++ 10 ∷ rest)
within_ends [] rest is e = e
within_ends (b ∷ line) rest is e =
    let feed = All-head (λ octet. ¬ (octet ≡ 10)) b line is in
    let later = All-tail (λ octet. ¬ (octet ≡ 10)) b line is in
    ends_step Within Within b (line ++ 10 ∷ rest) (rw (other_octet b 10 feed) refl) (within_ends line rest later e)

-- a line that isn't empty is within, behind its first octet or its second
full_ends : (first return : Place) (line rest : List ℕ) → IsFullLine line → Ends Behind rest
    → step first 13 ≡ Some return → ((b : ℕ) → ¬ (b ≡ 10) → ¬ (b ≡ 13) → step first b ≡ Some Within)
    → ((b : ℕ) → ¬ (b ≡ 10) → step return b ≡ Some Within)
    → Ends first (line ++ 10 ∷ rest)
full_ends first return [] rest full e at_return at_other at_second = absurd (full.1 (inl refl))
full_ends first return (b ∷ line) rest full e at_return at_other at_second = by_octet (octet_cases b)
  where
    feed : ¬ (b ≡ 10)
    feed = All-head (λ octet. ¬ (octet ≡ 10)) b line full.0

    later : IsInLine line
    later = All-tail (λ octet. ¬ (octet ≡ 10)) b line full.0

    second : (line : List ℕ) → IsInLine line → ¬ (IsEmptyLine (13 ∷ line)) → Ends return (line ++ 10 ∷ rest)
    second [] is full = absurd (full (inr refl))
    second (c ∷ line) is full =
        let feed = All-head (λ octet. ¬ (octet ≡ 10)) c line is in
        let later = All-tail (λ octet. ¬ (octet ≡ 10)) c line is in
        ends_step return Within c (line ++ 10 ∷ rest) (at_second c feed) (within_ends line rest later e)

    by_octet : (b ≡ 10) ⊎ ((b ≡ 13) ⊎ ((¬ (b ≡ 10)) × ¬ (b ≡ 13))) → Ends first (b ∷ line ++ 10 ∷ rest)
    by_octet (inl is) = absurd (feed is)
    by_octet (inr (inl is)) =
        let P : ℕ → Type 0 = λ k. Ends first (k ∷ line ++ 10 ∷ rest) in
        let Q : ℕ → Type 0 = λ k. ¬ (IsEmptyLine (k ∷ line)) in
        subst P (sym is) (ends_step first return 13 (line ++ 10 ∷ rest) at_return (second line later (subst Q is full.1)))
    by_octet (inr (inr other)) =
        ends_step first Within b (line ++ 10 ∷ rest) (at_other b other.0 other.1) (within_ends line rest later e)

behind_full : (line rest : List ℕ) → IsFullLine line → Ends Behind rest → Ends Behind (line ++ 10 ∷ rest)
behind_full line rest full e = full_ends Behind BehindReturn line rest full e refl (λ b. step_other Behind b) (λ b feed. rw (other_octet b 10 feed) refl)

blank_full : (line rest : List ℕ) → IsFullLine line → Ends Behind rest → Ends Blank (line ++ 10 ∷ rest)
blank_full line rest full e = full_ends Blank BlankReturn line rest full e refl (λ b. step_other Blank b) (λ b feed. rw (other_octet b 10 feed) refl)

last_ends : (line : List ℕ) → IsEmptyLine line → Ends Behind (line ++ 10 ∷ [])
last_ends line (inl e) = let P : List ℕ → Type 0 = λ l. Ends Behind (l ++ 10 ∷ []) in subst P (sym e) refl
last_ends line (inr e) = let P : List ℕ → Type 0 = λ l. Ends Behind (l ++ 10 ∷ []) in subst P (sym e) refl

blank_ends : (line rest : List ℕ) → IsEmptyLine line → Ends Blank rest → Ends Blank (line ++ 10 ∷ rest)
blank_ends line rest (inl e) ends = let P : List ℕ → Type 0 = λ l. Ends Blank (l ++ 10 ∷ rest) in subst P (sym e) ends
blank_ends line rest (inr e) ends = let P : List ℕ → Type 0 = λ l. Ends Blank (l ++ 10 ∷ rest) in subst P (sym e) ends

-- the text of lines begins with the first one
ends_lines : (p : Place) (line : List ℕ) (lines : List (List ℕ)) → Ends p (line ++ 10 ∷ lines_text lines) → Ends p (lines_text (line ∷ lines))
ends_lines p line lines e =
    let P : List ℕ → Type 0 = λ t. Ends p t in
    subst P (line_before line (lines_text lines) lines refl) e

tail_ends : (full : List (List ℕ)) (last : List ℕ) → All IsFullLine full → IsEmptyLine last → Ends Behind (lines_text (full ++ last ∷ []))
tail_ends [] last each empty = ends_lines Behind last [] (last_ends last empty)
tail_ends (line ∷ full) last each empty =
    ends_lines Behind line (full ++ last ∷ [])
    (behind_full line _ (All-head IsFullLine line full each) (tail_ends full last (All-tail IsFullLine line full each) empty))

full_lines_end : (full : List (List ℕ)) (last : List ℕ) → 0 < length full → All IsFullLine full → IsEmptyLine last → Ends Blank (lines_text (full ++ last ∷ []))
full_lines_end [] last some each empty = absurd (omega arith)
full_lines_end (line ∷ full) last some each empty =
    ends_lines Blank line (full ++ last ∷ [])
    (blank_full line _ (All-head IsFullLine line full each) (tail_ends full last (All-tail IsFullLine line full each) empty))

lines_end : (blank full : List (List ℕ)) (last : List ℕ) → AreHeadLines blank full last → Ends Blank (lines_text (blank ++ full ++ last ∷ []))
lines_end [] full last are = full_lines_end full last are.are_some are.are_full are.ends
lines_end (line ∷ blank) full last are =
    ends_lines Blank line (blank ++ full ++ last ∷ [])
    (blank_ends line _ (All-head IsEmptyLine line blank are.are_blank)
    (lines_end blank full last (record { are_blank = All-tail IsEmptyLine line blank are.are_blank; are_some = are.are_some; are_full = are.are_full; ends = are.ends })))

unit_ends : (unit : List ℕ) → IsHeadUnit unit → Ends Blank unit
unit_ends unit u =
    let P : List ℕ → Type 0 = λ t. Ends Blank t in
    subst P (sym u.4) (lines_end u.0 u.1 u.2 u.3)

-- What the loop needs.

pub unit_found : (bytes : List ℕ) (n : ℕ) → left Blank bytes ≡ Some n → BeginsWithUnit bytes n
unit_found bytes n e =
    let h = left_sound Blank bytes n e in
    (h.0, form_of Blank (take n bytes) h.1)

pub found_unit : (bytes : List ℕ) (n : ℕ) → BeginsWithUnit bytes n → left Blank bytes ≡ Some n
found_unit bytes n u = left_complete Blank bytes n u.0 (unit_ends (take n bytes) u.1)

-- bytes begin with one unit at most
pub unit_unique : (bytes : List ℕ) (n m : ℕ) → BeginsWithUnit bytes n → BeginsWithUnit bytes m → n ≡ m
unit_unique bytes n m u v =
    let one = found_unit bytes n u in
    let other = found_unit bytes m v in
    cc

-- the clauses of the code's step are the machine's step
pub step_is : (p : Place) (b : ℕ) (o : Option Place)
    → (p ≡ Blank → o ≡ step Blank b) → (p ≡ BlankReturn → o ≡ step BlankReturn b) → (p ≡ Within → o ≡ step Within b)
    → (p ≡ Behind → o ≡ step Behind b) → (p ≡ BehindReturn → o ≡ step BehindReturn b)
    → o ≡ step p b
step_is Blank b o first second third fourth fifth = first refl
step_is BlankReturn b o first second third fourth fifth = second refl
step_is Within b o first second third fourth fifth = third refl
step_is Behind b o first second third fourth fifth = fourth refl
step_is BehindReturn b o first second third fourth fifth = fifth refl

pub end_here : (p : Place) (bytes : List ℕ) (i d : ℕ) → i < length bytes → step p (get_or bytes i d) ≡ None
    → left Blank bytes ≡ option_map (λ n. n + i) (left p (drop i bytes)) → BeginsWithUnit bytes (i + 1)
end_here p bytes i d lt s e =
    let more : Option Place → Option ℕ = λ o. more_or_last (λ q. left q (drop (i + 1) bytes)) o in
    unit_found bytes (i + 1)
    (e ∙ ap (λ o. option_map (λ n. n + i) o) (ap (λ t. left p t) (drop_more bytes i d lt) ∙ ap more s)
    ∙ ap (λ k. Some k) (omega arith))

pub end_nowhere : (p : Place) (bytes : List ℕ) (i : ℕ) → length bytes ≤ i
    → left Blank bytes ≡ option_map (λ n. n + i) (left p (drop i bytes)) → HasNoUnit bytes
end_nowhere p bytes i past e n u =
    let none : left Blank bytes ≡ None = e ∙ ap (λ t. option_map (λ n. n + i) (left p t)) (drop_all i bytes past) in
    let found = found_unit bytes n u in
    cc
