-- Lines, read one behind the other, and the lines that are the separator.
use Rattle.std.proofs.Common.{◌≡◌, ◌≢◌, ◌+◌, ℕ, List, [], ◌∷◌, ◌++◌, length, take, inl, inr, refl, sym, ap, subst, ◌∙◌, append_assoc, length-append, arith}
use Rattle.std.proofs.lemmas.List.Elements.{All-head, All-tail}
use Rattle.std.proofs.Math.Seq.{take-append_seam}
use Rattle.std.specs.Prelude.{codes}
use Rattle.plain_values.specs.Lines.{IsInLine}
use Rattle.journal_replay.specs.Pairs.{separator, EndsLine, PartsAt, HasNoSeparator, IsPair}

abbrev IsOther : ℕ → Type 0
IsOther b = b ≢ 10

-- where octets stand that begin with a whole line, behind which such a front stands
record Behind (line behind front tail : List ℕ) : Type 0 where
  rest : List ℕ
  front_is : front ≡ line ++ 10 ∷ rest
  ends : EndsLine rest
  text : behind ≡ rest ++ tail

-- a front that ends with LF has the first line whole
has_first : (line behind text tail : List ℕ) → IsInLine line → line ++ 10 ∷ behind ≡ (text ++ 10 ∷ []) ++ tail
    → Behind line behind (text ++ 10 ∷ []) tail
has_first [] behind [] tail in_line is = record { rest = []; front_is = refl; ends = inl refl; text = cc }
has_first [] behind (t ∷ ts) tail in_line is = record {
  rest = ts ++ 10 ∷ [];
  front_is = let e : 10 ≡ t = cc in ap (λ (x : ℕ). x ∷ ts ++ 10 ∷ []) (sym e);
  ends = inr (ts, refl);
  text = cc;
}
has_first (l ∷ ls) behind [] tail in_line is = let e : l ≡ 10 = cc in absurd (All-head IsOther l ls in_line e)
has_first (l ∷ ls) behind (t ∷ ts) tail in_line is =
    let head : l ≡ t = cc in
    let h : Behind ls behind (ts ++ 10 ∷ []) tail = has_first ls behind ts tail (All-tail IsOther l ls in_line) (let e : ls ++ 10 ∷ behind ≡ (ts ++ 10 ∷ []) ++ tail = cc in e) in
    record {
      rest = h.rest;
      front_is = let e : ts ++ 10 ∷ [] ≡ ls ++ 10 ∷ h.rest = h.front_is in cc (e, head);
      ends = h.ends;
      text = h.text;
    }

-- a first line that is followed by the separator's own octets is the separator
is_separator : (line behind tail : List ℕ) → IsInLine line → line ++ 10 ∷ behind ≡ separator ++ tail → line ≡ codes "--"
is_separator [] behind tail in_line is = absurd (cc is)
is_separator (a ∷ []) behind tail in_line is = absurd (cc is)
is_separator (a ∷ b ∷ []) behind tail in_line is = cc is
is_separator (a ∷ b ∷ d ∷ ds) behind tail in_line is = let e : d ≡ 10 = cc is in absurd (All-head IsOther d ds (All-tail IsOther b (d ∷ ds) (All-tail IsOther a (b ∷ d ∷ ds) in_line)) e)

-- where the separator stands behind a front, another first line is in the front
behind_other : (line behind front tail : List ℕ) → IsInLine line → line ≢ codes "--" → PartsAt (line ++ 10 ∷ behind) front tail
    → Behind line behind front (separator ++ tail)
behind_other line behind front tail in_line other (is, inl none) =
    let e : line ++ 10 ∷ behind ≡ separator ++ tail = is ∙ ap (λ (f : List ℕ). f ++ (separator ++ tail)) none in
    absurd (other (is_separator line behind tail in_line e))
behind_other line behind front tail in_line other (is, inr (text, ends)) =
    let e : line ++ 10 ∷ behind ≡ (text ++ 10 ∷ []) ++ (separator ++ tail) = is ∙ ap (λ (f : List ℕ). f ++ (separator ++ tail)) ends in
    let P : List ℕ → Type 0 = λ f. Behind line behind f (separator ++ tail) in
    subst P (sym ends) (has_first line behind text (separator ++ tail) in_line e)

-- so many octets are read, which end a line, and none of their lines is the separator
pub record HasRead (bytes : List ℕ) (read : ℕ) (rest : List ℕ) : Type 0 where
  pub front : List ℕ
  pub text : bytes ≡ front ++ rest
  pub count : read ≡ length front
  pub ends : EndsLine front
  pub none : (other tail : List ℕ) → PartsAt bytes other tail → (more : List ℕ) × (other ≡ front ++ more) × PartsAt rest more tail

pub read_none : (bytes : List ℕ) → HasRead bytes 0 bytes
read_none bytes = record { front = []; text = refl; count = refl; ends = inl refl; none = λ other tail parts. (other, refl, parts) }

-- one more line is read, which isn't the separator
pub read_more : (bytes rest line behind : List ℕ) (read more : ℕ) → HasRead bytes read rest → rest ≡ line ++ 10 ∷ behind → IsInLine line → line ≢ codes "--"
    → more ≡ read + (length line + 1) → HasRead bytes more behind
read_more bytes rest line behind read more before is in_line other sum = record {
  front = before.front ++ (line ++ 10 ∷ []);
  text = before.text ∙ ap (λ (t : List ℕ). before.front ++ t) is ∙ sym (append_assoc before.front (line ++ 10 ∷ []) behind ∙ ap (λ (t : List ℕ). before.front ++ t) (append_assoc line (10 ∷ []) behind));
  count = let l = length-append before.front (line ++ 10 ∷ []) in let m = length-append line (10 ∷ []) in omega (arith, before.count, l, m);
  ends = inr (before.front ++ line, sym (append_assoc before.front line (10 ∷ [])));
  none = λ other_front tail parts.
      let p = before.none other_front tail parts in
      let b = behind_other line behind p.0 tail in_line other (subst (λ (t : List ℕ). PartsAt t p.0 tail) is p.2) in (
        b.rest,
        p.1 ∙ ap (λ (t : List ℕ). before.front ++ t) b.front_is
            ∙ sym (append_assoc before.front (line ++ 10 ∷ []) b.rest ∙ ap (λ (t : List ℕ). before.front ++ t) (append_assoc line (10 ∷ []) b.rest)),
        (b.text, b.ends),
      );
}

-- the next line is the separator
pub read_pair : (bytes rest line behind : List ℕ) (read : ℕ) → HasRead bytes read rest → rest ≡ line ++ 10 ∷ behind → line ≡ codes "--"
    → IsPair bytes (take read bytes) behind
read_pair bytes rest line behind read before is same =
    let front : take read bytes ≡ before.front =
    ap (λ (n : ℕ). take n bytes) before.count ∙ ap (take (length before.front)) before.text ∙ take-append_seam before.front rest in
    let found : IsPair bytes before.front behind = record {
      parts = (before.text ∙ ap (λ (t : List ℕ). before.front ++ t) (is ∙ ap (λ (t : List ℕ). t ++ 10 ∷ behind) same), before.ends);
      first = λ other tail parts.
          let p = before.none other tail parts in
          let l : length other ≡ length before.front + length p.0 = ap length p.1 ∙ length-append before.front p.0 in
          omega arith;
    } in
    subst (λ (f : List ℕ). IsPair bytes f behind) (sym front) found

-- the separator stands in no text without LF
none_within : (front tail : List ℕ) → ¬ (IsInLine (front ++ (separator ++ tail)))
none_within [] tail in_line = All-head IsOther 10 tail (All-tail IsOther 45 (10 ∷ tail) (All-tail IsOther 45 (45 ∷ 10 ∷ tail) in_line)) refl
none_within (x ∷ xs) tail in_line = none_within xs tail (All-tail IsOther x (xs ++ (separator ++ tail)) in_line)

-- no line is left
pub read_all : (bytes rest : List ℕ) (read : ℕ) → HasRead bytes read rest → IsInLine rest → HasNoSeparator bytes
read_all bytes rest read before in_line = λ front tail parts.
    let p = before.none front tail parts in
    none_within p.0 tail (subst IsInLine p.2.0 in_line)
