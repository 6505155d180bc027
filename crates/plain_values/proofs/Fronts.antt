-- Fronts of octets, and what lies behind them.
use Rattle.std.proofs.Common.{◌≡◌, ℕ, zero, suc, ◌+◌, ◌-◌, ◌≤◌, List, [], ◌∷◌, ◌++◌, length, take, drop, refl, ap, sym, ◌∙◌, arith, length-take, length-drop, suc-add, zero-add}
use Rattle.std.proofs.lemmas.Grind.{common_steps}
use Rattle.std.proofs.Math.Seq.{take-append_seam}
use Rattle.plain_values.specs.Fronts.{IsFrontOf}

-- a front, and the front of what lies behind it
pub take_more : {A : Type 0} (s : List A) (i n : ℕ) → take (i + n) s ≡ take i s ++ take n (drop i s)
take_more [] i n = grind (arith, common_steps)
take_more (x ∷ xs) zero n = rw zero-add refl
take_more (x ∷ xs) (suc i) n = rw suc-add (ap (λ l. x ∷ l) (take_more xs i n))

-- a front, and the front of all that is left
pub piece_more : (s : List ℕ) (i n : ℕ) → n ≤ length (take (length s - i) (drop i s)) → take i s ++ take n (take (length s - i) (drop i s)) ≡ take (i + n) s
piece_more s i n le = grind (arith, common_steps, take_more s i n)

pub piece_fits : (s : List ℕ) (i n : ℕ) → i ≤ length s → n ≤ length (take (length s - i) (drop i s)) → i + n ≤ length s
piece_fits s i n h le = omega (arith, length-take (length s - i) (drop i s), length-drop i s)

pub front_same : (xs : List ℕ) → IsFrontOf xs xs
front_same xs = grind (arith, common_steps)

pub front_none : (xs ys : List ℕ) → xs ≡ [] → IsFrontOf xs ys
front_none xs ys e = rw e (grind (arith, common_steps))

pub front_more : (xs ys : List ℕ) → IsFrontOf xs (xs ++ ys)
front_more xs ys = take-append_seam xs ys

front_length : (xs ys : List ℕ) → IsFrontOf xs ys → length xs ≤ length ys
front_length xs ys f = omega (arith, length-take (length xs) ys, ap length f)

take_take : (n m : ℕ) (xs : List ℕ) → n ≤ m → take n (take m xs) ≡ take n xs
take_take n m xs le = grind (arith, common_steps)

pub front_on : (xs ys zs : List ℕ) → IsFrontOf xs ys → IsFrontOf ys zs → IsFrontOf xs zs
front_on xs ys zs f g =
    sym (take_take (length xs) (length ys) zs (front_length xs ys f)) ∙ ap (take (length xs)) g ∙ f

take_length : (n : ℕ) (xs : List ℕ) → take (length (take n xs)) xs ≡ take n xs
take_length n [] = grind (arith, common_steps)
take_length zero (x ∷ xs) = refl
take_length (suc n) (x ∷ xs) = grind (arith, common_steps, take_length n xs)

pub take_front : (xs ys : List ℕ) (n : ℕ) → IsFrontOf xs ys → IsFrontOf (xs ++ take n (drop (length xs) ys)) ys
take_front xs ys n f =
    let all : take (length xs + n) ys ≡ xs ++ take n (drop (length xs) ys) = take_more ys (length xs) n ∙ ap (λ s. s ++ take n (drop (length xs) ys)) f in
    rw (← all) (take_length (length xs + n) ys)

pub front_whole : (xs ys : List ℕ) → IsFrontOf xs ys → length ys ≤ length xs → ys ≡ xs
front_whole xs ys f le = grind (arith, common_steps, f)
