-- Items of which each may have a fault, one after another: what those so far gave, in front of what the rest gives.
use Rattle.std.proofs.Common.{◌≡◌, List, [], ◌∷◌, ◌++◌, Result, Ok, Err, append_assoc, append-nil, refl, ap, sym, ◌∙◌}
use Rattle.net_base.specs.Results.{◌>>=◌}

-- what the items so far gave, in front of what the rest gives
abbrev pub behind : {A E : Type 0} → List A → Result (List A) E → Result (List A) E
behind all rest = rest >>= λ xs. Ok (all ++ xs)

-- what an item gives, in front of what the rest gives
abbrev pub with_rest : {A E : Type 0} → Result (List A) E → Result A E → Result (List A) E
with_rest rest here = here >>= λ x. rest >>= λ xs. Ok (x ∷ xs)

pub behind_none : {A E : Type 0} (rest : Result (List A) E) → rest ≡ behind [] rest
behind_none (Ok xs) = refl
behind_none (Err e) = refl

pub item_and_rest : {A E : Type 0} (all : List A) (x : A) (rest : Result (List A) E) → behind all (rest >>= λ xs. Ok (x ∷ xs)) ≡ behind (all ++ x ∷ []) rest
item_and_rest all x (Ok xs) = ap (λ ys. Ok ys) (sym (append_assoc all (x ∷ []) xs))
item_and_rest all x (Err e) = refl

-- the next item gave this
pub rest_more : {A E : Type 0} (all : List A) (x : A) (here : Result A E) (whole rest next : Result (List A) E)
    → rest ≡ with_rest next here → here ≡ Ok x → whole ≡ behind all rest → whole ≡ behind (all ++ x ∷ []) next
rest_more all x here whole rest next step gives so_far =
    so_far ∙ ap (λ r. behind all r) (step ∙ ap (λ r. with_rest next r) gives) ∙ item_and_rest all x next

-- the next item has this fault
pub rest_stop : {A E : Type 0} (all : List A) (e : E) (here : Result A E) (whole rest next : Result (List A) E)
    → rest ≡ with_rest next here → here ≡ Err e → whole ≡ behind all rest → whole ≡ Err e
rest_stop all e here whole rest next step gives so_far = so_far ∙ ap (λ r. behind all r) (step ∙ ap (λ r. with_rest next r) gives)

-- there is no next item
pub rest_done : {A E : Type 0} (all : List A) (whole rest : Result (List A) E) → rest ≡ Ok [] → whole ≡ behind all rest → whole ≡ Ok all
rest_done all whole rest none so_far = so_far ∙ ap (λ r. behind all r) none ∙ ap (λ ys. Ok ys) (append-nil all)
