-- The digits of a length, read one by one.
use Rattle.std.proofs.Common.{◌≡◌, ℕ, ◌+◌, ◌*◌, ◌-◌, ◌<◌, ◌≤◌, true, List, length, take, get_or, arith}
use Rattle.std.specs.List.{AllPass}
use Rattle.std.specs.Char.{is_ascii_digit}
use Rattle.std.specs.Str.Parse.{digits_value}
use Rattle.std.proofs.lemmas.Grind.{common_steps}
use Rattle.std.proofs.lemmas.Bool.Decides.{nat_tests}
use Rattle.std.proofs.lemmas.Int.Digits.{digits_value_more}
use Rattle.std.proofs.lemmas.Str.Parse.{digits_value-take-le}
use Rattle.std.proofs.lemmas.Str.{digit_value_digit}

in_range : (c : ℕ) → is_ascii_digit c ≡ true → (48 ≤ c) × (c ≤ 57)
in_range c h = grind (arith, common_steps, nat_tests)

-- a digit
pub is_digit_at : (ds : List ℕ) (i : ℕ) → AllPass is_ascii_digit ds → i < length ds → (48 ≤ get_or ds i 0) × (get_or ds i 0 ≤ 57)
is_digit_at ds i all lt = in_range (get_or ds i 0) (all i 0 lt)

-- one digit more
pub one_digit : (ds : List ℕ) (i n : ℕ) → AllPass is_ascii_digit ds → i < length ds → n ≡ digits_value 10 (take i ds)
    → n * 10 + (get_or ds i 0 - 48) ≡ digits_value 10 (take (i + 1) ds)
one_digit ds i n all lt is =
    let r = is_digit_at ds i all lt in
    let d = digit_value_digit (get_or ds i 0) r in
    omega (arith, digits_value_more 10 ds i lt, is, d)

-- the digits so far write no greater number than all
pub front_within : (ds : List ℕ) (i : ℕ) → digits_value 10 (take i ds) ≤ digits_value 10 ds
front_within ds i = digits_value-take-le 10 ds i (omega arith)
