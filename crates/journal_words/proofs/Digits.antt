-- The octets of numbers in decimal and of octets in hexadecimal: digits, which are no marks.
use Rattle.std.proofs.Common.{◌≡◌, ◌≢◌, refl, ap, ℕ, suc, ◌+◌, ◌/◌, ◌%◌, ◌<◌, ◌≤◌, ◌^◌, nat_lt, ◌&&◌, not, ◌==◌, true, List, [], ◌∷◌, length, slice_index, All, decimal, arith, ltb-true}
use Rattle.std.proofs.lemmas.Bool.{and_parts}
use Rattle.std.proofs.lemmas.Fmt.{decimal_by_steps}
use Rattle.std.proofs.lemmas.List.Elements.{All-cons, All-nil, All-push, All-weaker}
use Rattle.std.proofs.lemmas.List.Sums.{AllPass-from_list_all}
use Rattle.hex.specs.Hex.{IsBytes, encode_lower, encode_with, lower_digits}
use Rattle.hex.proofs.HexLemmas.{length-encode_with}
use Rattle.journal_words.specs.Ranges.{Fits64}
use Rattle.journal_words.proofs.Marks.{Apart}
use Rattle.journal_words.proofs.Steps.{other_test}

-- above the marks `+`, `,`, `-` and `/`, and not the mark `:`
pub record IsDigit (b : ℕ) : Type 0 where
  pub high : 47 < b
  pub named : b ≢ 58

pub digit_apart : (mark : ℕ) → mark < 48 → (text : List ℕ) → All IsDigit text → Apart mark text
digit_apart mark low text all = All-weaker IsDigit (λ b. b ≢ mark) (λ b d is. let high = d.high in absurd (omega arith)) text all

pub digit_colon : (text : List ℕ) → All IsDigit text → Apart 58 text
digit_colon text all = All-weaker IsDigit (λ b. b ≢ 58) (λ b d. d.named) text all

pub digit_above : (text : List ℕ) → All IsDigit text → All (λ b. 32 < b) text
digit_above text all = All-weaker IsDigit (λ b. 32 < b) (λ b d. let high = d.high in omega arith) text all

-- ---- decimal

pub below_64 : (n : ℕ) → Fits64 n → n < 2 ^ 64
below_64 n fits = omega arith

last_digit : (n : ℕ) → n < 10 → IsDigit (48 + n)
last_digit n lt = record { high = omega arith; named = λ is. absurd (omega arith) }

pub decimal_digits : (n : ℕ) → n ≤ 18446744073709551615 → All IsDigit (decimal n)
decimal_digits n fits =
    decimal_by_steps (λ m ds. All IsDigit ds)
    (λ m lt. All-cons IsDigit (48 + m) [] (last_digit m lt) (All-nil IsDigit))
    (λ m ds le all. All-push IsDigit ds (48 + m % 10) all (last_digit (m % 10) (omega arith)))
    n (below_64 n fits)

-- ---- hexadecimal

digit_by : (b : ℕ) → (nat_lt 47 b && not (b == 58)) ≡ true → IsDigit b
digit_by b h = let both = and_parts _ _ h in record { high = ltb-true 47 b both.0; named = other_test b 58 both.1 }

lower_digit : (d : ℕ) → d < 16 → IsDigit (slice_index lower_digits d)
lower_digit d lt = digit_by _ (AllPass-from_list_all (λ b. nat_lt 47 b && not (b == 58)) lower_digits refl d 0 lt)

digit_pair : (b : ℕ) (rest : List ℕ) → b < 256 → All IsDigit rest
    → All IsDigit (slice_index lower_digits (b / 16) ∷ slice_index lower_digits (b % 16) ∷ rest)
digit_pair b rest small all =
    All-cons IsDigit (slice_index lower_digits (b / 16)) (slice_index lower_digits (b % 16) ∷ rest) (lower_digit (b / 16) (omega arith))
    (All-cons IsDigit (slice_index lower_digits (b % 16)) rest (lower_digit (b % 16) (omega arith)) all)

pub hex_digits : (xs : List ℕ) → IsBytes xs → All IsDigit (encode_lower xs)
unfolding encode_with
hex_digits [] bytes = All-nil IsDigit
hex_digits (b ∷ xs) bytes = digit_pair b (encode_lower xs) (bytes 0) (hex_digits xs (λ i. bytes (suc i)))

-- the text of octets has two digits for each
pub hex_other : (xs other : List ℕ) → length other ≡ 1 → encode_lower xs ≢ other
hex_other xs other one is =
    let even = length-encode_with lower_digits xs in
    let same : length (encode_lower xs) ≡ length other = ap (λ (t : List ℕ). length t) is in
    absurd (omega arith)
