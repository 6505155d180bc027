-- Lists of words, one after another, the last mark in a text, and keys.
use Rattle.std.proofs.Common.{◌≡◌, ◌≢◌, ◌⊎◌, inl, inr, ◌&&◌, ℕ, ◌+◌, ◌^◌, ◌<◌, ◌≤◌, ◌==◌, nat_le, bytes_eq, not, List, [], ◌∷◌, ◌++◌, Bool, true, false, Option, Some, None, Result, Ok, Err, map, length, take, drop, get_or, IfSome, IsUtf8, if◌then◌else◌, refl, ap, sym, subst, ◌∙◌, arith}
use Rattle.std.specs.Borrow.{Bor}
use Rattle.std.specs.Fmt.{decimal}
use Rattle.std.proofs.lemmas.Bool.Decides.{Decides-eqb, leb_tells}
use Rattle.std.proofs.lemmas.Fmt.{decimal_is_IsNumeral}
use Rattle.std.proofs.lemmas.Slice.Eq.{bytes_eq-Decides}
use Rattle.std.proofs.lemmas.List.{drop_more, drop_all, length-take-le, take_more}
use Rattle.std.proofs.lemmas.Str.{IsUtf8-from_is_utf8, is_utf8-from_IsUtf8}
use Rattle.std.specs.Str.{is_utf8}
use Rattle.net_base.proofs.Rests.{behind, with_rest, rest_more, rest_stop, rest_done}
use Rattle.partition_keys.specs.Sites.{site_of}
use Rattle.journal_words.specs.Readers.{Reader, each, last_place, later, key, key_in, number, number_if, unreadable}
use Rattle.journal_words.specs.declared.faults.WordFault.{WordFault}

-- ---- words

module _ {A : Type 0} (read : Reader A) (ws : List (Bor (List ℕ))) where
  -- what the words from this place on give
  abbrev pub from : ℕ → Result (List A) WordFault
  from i = each read (map (λ w. w.now) (drop i ws))

  from_step : (i : ℕ) (w : Bor (List ℕ)) → i < length ws → w ≡ get_or ws i w → from i ≡ with_rest (from (i + 1)) (read w.now)
  from_step i w lt is = ap (λ t. each read (map (λ v. v.now) t)) (drop_more ws i w lt ∙ ap (λ y. y ∷ drop (i + 1) ws) (sym is))

  pub each_more : (i : ℕ) (w : Bor (List ℕ)) (all : List A) (x : A) (whole : Result (List A) WordFault)
      → i < length ws → w ≡ get_or ws i w → read w.now ≡ Ok x → whole ≡ behind all (from i) → whole ≡ behind (all ++ x ∷ []) (from (i + 1))
  each_more i w all x whole lt is = rest_more all x (read w.now) whole (from i) (from (i + 1)) (from_step i w lt is)

  pub each_stop : (i : ℕ) (w : Bor (List ℕ)) (all : List A) (e : WordFault) (whole : Result (List A) WordFault)
      → i < length ws → w ≡ get_or ws i w → read w.now ≡ Err e → whole ≡ behind all (from i) → whole ≡ Err e
  each_stop i w all e whole lt is = rest_stop all e (read w.now) whole (from i) (from (i + 1)) (from_step i w lt is)

  pub each_done : (i : ℕ) (all : List A) (whole : Result (List A) WordFault) → length ws ≤ i → whole ≡ behind all (from i) → whole ≡ Ok all
  each_done i all whole le = rest_done all whole (from i) (ap (λ t. each read (map (λ v. v.now) t)) (drop_all i ws le))

-- ---- the last mark

-- the place of the last mark, with one more octet behind so many
abbrev pub place_after : ℕ → Bool → Option ℕ → Option ℕ
place_after n true before = Some n
place_after n false before = before

first_place : (here : Bool) → later None here ≡ place_after 0 here None
first_place true = refl
first_place false = refl

later_place : (n : ℕ) (here first : Bool) (before : Option ℕ) → later (place_after n here before) first ≡ place_after (n + 1) here (later before first)
later_place n true first before = refl
later_place n false first before = refl

last_behind : (mark : ℕ) (bs : List ℕ) (b : ℕ) → last_place mark (bs ++ b ∷ []) ≡ place_after (length bs) (b == mark) (last_place mark bs)
last_behind mark [] b = first_place (b == mark)
last_behind mark (c ∷ cs) b =
    ap (λ o. later o (c == mark)) (last_behind mark cs b) ∙ later_place (length cs) (b == mark) (c == mark) (last_place mark cs)
    ∙ ap (λ n. place_after n (b == mark) (later (last_place mark cs) (c == mark))) (omega arith)

last_more : (mark : ℕ) (text : List ℕ) (i : ℕ) → i < length text
    → last_place mark (take (i + 1) text) ≡ place_after i (get_or text i 0 == mark) (last_place mark (take i text))
last_more mark text i lt =
    ap (λ t. last_place mark t) (take_more text i 0 lt) ∙ last_behind mark (take i text) (get_or text i 0)
    ∙ ap (λ n. place_after n (get_or text i 0 == mark) (last_place mark (take i text))) (length-take-le i text (omega arith))

is_false : (b : Bool) → b ≢ true → b ≡ false
is_false true other = absurd (other refl)
is_false false other = refl

pub last_here : (mark : ℕ) (text : List ℕ) (i : ℕ) (place : Option ℕ) → i < length text → get_or text i 0 ≡ mark → place ≡ Some i
    → (place ≡ last_place mark (take (i + 1) text)) × IfSome place (λ p. p < length text)
last_here mark text i place lt is at = (
  at ∙ ap (λ t. place_after i t (last_place mark (take i text))) (sym ((Decides-eqb (get_or text i 0) mark).1 is)) ∙ sym (last_more mark text i lt),
  subst (λ (o : Option ℕ). IfSome o (λ p. p < length text)) (sym at) lt,
)

pub last_before : (mark : ℕ) (text : List ℕ) (i : ℕ) (old place : Option ℕ) → i < length text → get_or text i 0 ≢ mark → place ≡ old
    → (old ≡ last_place mark (take i text)) × IfSome old (λ p. p < length text)
    → (place ≡ last_place mark (take (i + 1) text)) × IfSome place (λ p. p < length text)
last_before mark text i old place lt other same so_far = (
  same ∙ so_far.0
      ∙ ap (λ t. place_after i t (last_place mark (take i text))) (sym (is_false (get_or text i 0 == mark) (λ h. other ((Decides-eqb (get_or text i 0) mark).0 h))))
      ∙ sym (last_more mark text i lt),
  subst (λ (o : Option ℕ). IfSome o (λ p. p < length text)) (sym same) so_far.1,
)

-- ---- keys

pub key_of_utf8 : (word : List ℕ) → IsUtf8 word → key_in (site_of word) ≡ key word
key_of_utf8 word u = ap (λ b. if b then key_in (site_of word) else unreadable) (sym (is_utf8-from_IsUtf8 word u))

pub key_of_others : (word : List ℕ) → ¬ (IsUtf8 word) → key word ≡ unreadable
key_of_others word other =
    ap (λ b. if b then key_in (site_of word) else unreadable) (is_false (is_utf8 word) (λ h. other (IsUtf8-from_is_utf8 word h)))

-- ---- numbers

le_told : (n most : ℕ) → n ≤ most → ((nat_le n most ≡ true) × (n ≤ most)) ⊎ ((nat_le n most ≡ false) × (most < n)) → nat_le n most ≡ true
le_told n most le (inl h) = h.0
le_told n most le (inr h) = absurd (omega (arith, le, h.1))

pub number_of_decimal : (most n : ℕ) → n ≤ most → most < 2 ^ 64 → number most (decimal n) ≡ Ok n
number_of_decimal most n le small =
    ap (λ m. number_if most (decimal n) m) (decimal_is_IsNumeral n (omega arith)).1
    ∙ ap (λ b. if b && bytes_eq (decimal n) (decimal n) then Ok n else unreadable) (le_told n most le (leb_tells n most))
    ∙ ap (λ b. if b then Ok n else unreadable) ((bytes_eq-Decides (decimal n) (decimal n)).1 refl)

pub number_of_written : (most n : ℕ) (word written : List ℕ) → n ≤ most → most < 2 ^ 64 → written ≡ decimal n → bytes_eq written word ≡ true
    → number most word ≡ Ok n
number_of_written most n word written le small is same =
    ap (λ w. number most w) (sym ((bytes_eq-Decides written word).0 same) ∙ is) ∙ number_of_decimal most n le small

pub not_false : (b : Bool) → false ≡ not b → b ≡ true
not_false true h = refl
not_false false h = absurd (cc)
