-- Digits that are read one by one.
use Rattle.std.proofs.Common.{◌≡◌, ℕ, ◌+◌, ◌*◌, ◌<◌, ◌≤◌, List, [], ◌∷◌, length, drop, get_or, refl, ap, sym, ◌∙◌, subst, arith, lit≤}
use Rattle.std.specs.Char.{digit_value}
use Rattle.std.specs.Str.Parse.{AllDigits, IsNumeral, digits_value, digits_value_after}
use Rattle.std.proofs.lemmas.List.{drop_more, drop_all}

-- what is left to read after i digits, whose number is the value
pub record Reads (text : List ℕ) (i value : ℕ) : Type 0 where
  pub whole : digits_value 10 text ≡ digits_value_after 10 value (drop i text)
  pub to : AllDigits 10 text → AllDigits 10 (drop i text)
  pub from : AllDigits 10 (drop i text) → AllDigits 10 text
  pub small : value ≤ 18446744073709551615

pub reads_none : (text : List ℕ) → Reads text 0 0
reads_none text = record { whole = refl; to = λ h. h; from = λ h. h; small = lit≤ tt }

pub reads_more : (text : List ℕ) (i value digit next : ℕ) → i < length text → digit ≡ get_or text i digit
    → (digit_value digit < 10) × (value * 10 + digit_value digit ≤ 18446744073709551615) → value * 10 + digit_value digit ≡ next → Reads text i value → Reads text (i + 1) next
reads_more text i value digit next lt is fits e r =
    let front : drop i text ≡ digit ∷ drop (i + 1) text = drop_more text i digit lt ∙ ap (λ b. b ∷ drop (i + 1) text) (sym is) in
    record {
      whole = r.whole ∙ ap (λ s. digits_value_after 10 value s) front ∙ ap (λ n. digits_value_after 10 n (drop (i + 1) text)) e;
      to = λ h. (subst (AllDigits 10) front (r.to h)).1;
      from = λ h. r.from (subst (AllDigits 10) (sym front) (fits.0, h));
      small = omega (arith, fits.1, e);
    }

grows : (n : ℕ) (text : List ℕ) → n ≤ digits_value_after 10 n text
grows n [] = omega arith
grows n (c ∷ cs) = let h : n * 10 + digit_value c ≤ digits_value_after 10 (n * 10 + digit_value c) cs = grows (n * 10 + digit_value c) cs in omega (arith, h)

-- a digit that isn't one, or is one too many
pub reads_no_more : (text : List ℕ) (i value digit : ℕ) → i < length text → digit ≡ get_or text i digit
    → ¬ ((digit_value digit < 10) × (value * 10 + digit_value digit ≤ 18446744073709551615)) → Reads text i value
    → ¬ (IsNumeral 10 text × (digits_value 10 text ≤ 18446744073709551615))
reads_no_more text i value digit lt is fails r h =
    let front : drop i text ≡ digit ∷ drop (i + 1) text = drop_more text i digit lt ∙ ap (λ b. b ∷ drop (i + 1) text) (sym is) in
    let all = subst (AllDigits 10) front (r.to h.0.1) in
    let whole : digits_value 10 text ≡ digits_value_after 10 (value * 10 + digit_value digit) (drop (i + 1) text) = r.whole ∙ ap (λ s. digits_value_after 10 value s) front in
    let le = grows (value * 10 + digit_value digit) (drop (i + 1) text) in
    fails (all.0, omega (arith, h.1, whole, le))

pub reads_all : (text : List ℕ) (i value : ℕ) → length text ≤ i → 0 < length text → Reads text i value
    → (IsNumeral 10 text × (digits_value 10 text ≤ 18446744073709551615)) × (value ≡ digits_value 10 text)
reads_all text i value le some r =
    let end : drop i text ≡ [] = drop_all i text le in
    let whole : digits_value 10 text ≡ value = r.whole ∙ ap (λ s. digits_value_after 10 value s) end in
    (((some, r.from (subst (AllDigits 10) (sym end) tt)), omega (arith, whole, r.small)), sym whole)
