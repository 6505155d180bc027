-- The list of the links that are out, as a dialer in memory keeps it.
use Rattle.std.proofs.Common.{◌≡◌, ℕ, zero, suc, ◌+◌, List, [], ◌∷◌, ◌++◌, get_or, map, sum_by, remove, slice_get, Some, refl, sym, ap, ◌∙◌, arith}
use Rattle.std.proofs.lemmas.Option.{slice_get_within, get_or_from_slice_get}
use Rattle.std.proofs.lemmas.List.Sums.{sum_by-remove, sum_by-cons, sum_by_push}
use Rattle.edge_traits.specs.Links.{Place}
use Rattle.edge_traits.specs.Dialers.{TakenOut}
use Rattle.edge_traits.specs.BookLinks.{place_of, allowances}
use Rattle.edge_traits.specs.declared.book_links.OutLink.{OutLink}

map_sum : {A B : Type 0} (g : A → B) (f : B → ℕ) (xs : List A) → sum_by f (map g xs) ≡ sum_by (λ a. f (g a)) xs
map_sum g f [] = refl
map_sum g f (x ∷ xs) = rw (sum_by-cons f, sum_by-cons (λ a. f (g a)), map_sum g f xs) refl

pub was_taken : (xs ys : List OutLink) (i : ℕ) (p : OutLink) → slice_get xs i ≡ Some p → ys ≡ remove xs i → TakenOut (map place_of xs) (Some (place_of p)) (map place_of ys)
was_taken xs ys i p is e f =
    let s = sum_by-remove (λ (q : OutLink). f (place_of q)) xs i p (slice_get_within xs i p is) in
    rw (map_sum place_of f xs, map_sum place_of f ys, e, ← s, get_or_from_slice_get xs i p p is) (omega arith)

pub sum_taken : (xs ys : List OutLink) (i : ℕ) (p : OutLink) → slice_get xs i ≡ Some p → ys ≡ remove xs i
    → allowances xs ≡ allowances ys + p.allowance
sum_taken xs ys i p is e =
    let s = sum_by-remove (λ (q : OutLink). q.allowance) xs i p (slice_get_within xs i p is) in
    rw e (sym s ∙ rw (get_or_from_slice_get xs i p p is) refl)

place_back : (o p : OutLink) → place_of o ≡ place_of p → o ≡ p
place_back o p e = let c = ap (λ (q : Place). q.conn) e in let a = ap (λ (q : Place). get_or q.mark 0 0) e in λ i. record { conn = c i; allowance = a i }

pub stands : (xs : List OutLink) (at : ℕ) (p : OutLink) → slice_get (map place_of xs) at ≡ Some (place_of p) → slice_get xs at ≡ Some p
stands [] at p e = cc
stands (x ∷ xs) zero p e = let f : place_of x ≡ place_of p = cc in ap Some (place_back x p f)
stands (x ∷ xs) (suc at) p e = stands xs at p e

pub allowances_push : (xs : List OutLink) (p : OutLink) → allowances (xs ++ p ∷ []) ≡ allowances xs + p.allowance
allowances_push xs p = sum_by_push (λ (q : OutLink). q.allowance) xs p
