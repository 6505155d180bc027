-- The test of a host against an identity tells whether the identity covers it.
use Rattle.std.proofs.Common.{◌≡◌, ◌≢◌, ◌↔◌, inl, inr, ◌∙◌, sym, refl, ap, subst, ℕ, ◌+◌, ◌<◌, ◌≤◌, List, ◌∷◌, ◌++◌, IsTrue, nat_eq, nat_lt, cond, length, take, drop, get_or, codes, Option, Some, None, arith}
use Rattle.std.specs.List.{position, position_or_len, starts_with}
use Rattle.std.proofs.lemmas.Bool.{and_parts, and_from, or_cases, or_left, or_right, ltb-true, lt-ltb, eqb-true, eqb-false, ne_eqb, cases_Bool, cond-true, cond-false}
use Rattle.std.proofs.lemmas.Bool.Decides.{Decides-eqb}
use Rattle.std.proofs.lemmas.Slice.Eq.{bytes_eq-Decides, starts_is}
use Rattle.std.proofs.lemmas.List.{drop_at, drop-drop, drop_more, get_or-take, get_or_at, get_or_append_left, length-take-le, length-append, take-append-drop}
use Rattle.std.proofs.lemmas.List.Sums.{position_or_len_is}
use Rattle.std.proofs.lemmas.List.Quantifiers.{position-Some}
use Rattle.std.proofs.lemmas.List.Folds.{Any-from_list_any, list_any-from_Any}
use Rattle.std.specs.Str.{str_to_ascii_lowercase, str_eq_ignore_ascii_case}
use Rattle.net_base.specs.declared.identity.Identity.{Identity}
use Rattle.peer_identity.specs.Covers.{IsSameInAnyCase, IsLabel, MatchesByLabel, MatchesHost, Covers, is_dot, behind_label, behind_dot, is_wildcard_over, matches_by_label, matches_host, is_covered}

same_in_any_case : (a b : List ℕ) → IsTrue (str_eq_ignore_ascii_case a b) ↔ IsSameInAnyCase a b
same_in_any_case a b = bytes_eq-Decides (str_to_ascii_lowercase a) (str_to_ascii_lowercase b)

-- ---- the first label

-- the host is one label, a dot and this
IsBehindLabel : List ℕ → List ℕ → Type 0
IsBehindLabel host tail = (label : List ℕ) × (host ≡ label ++ 46 ∷ tail) × IsLabel label

no_dot_before : (host : List ℕ) (dot : ℕ) → position is_dot host ≡ Some dot → (k d : ℕ) → k < length (take dot host) → get_or (take dot host) k d ≢ 46
no_dot_before host dot found k d short is =
    let at = position-Some is_dot host dot d found in
    let within : dot < length host = at.0 in
    let size : length (take dot host) ≡ dot = length-take-le dot host (omega arith) in
    let before : k < dot = omega arith in
    eqb-false (get_or host k d) 46 (at.2 k before) (sym (get_or-take dot host k d before) ∙ is)

label_at : (host : List ℕ) (dot : ℕ) → 0 < dot → position is_dot host ≡ Some dot → IsBehindLabel host (drop (dot + 1) host)
unfolding IsBehindLabel
label_at host dot above found =
    let at = position-Some is_dot host dot 0 found in
    let within : dot < length host = at.0 in
    let long : dot ≤ length host = omega arith in
    let is : get_or host dot 0 ≡ 46 = eqb-true (get_or host dot 0) 46 at.1 in
    let split : host ≡ take dot host ++ 46 ∷ drop (dot + 1) host =
    sym (take-append-drop dot host) ∙ ap (λ xs. take dot host ++ xs) (drop_more host dot 0 within ∙ ap (λ b. b ∷ drop (dot + 1) host) is) in
    let filled : 0 < length (take dot host) = omega (arith, length-take-le dot host long) in
    (take dot host, split, (filled, no_dot_before host dot found))

behind_found : (host tail : List ℕ) (o : Option ℕ) → position is_dot host ≡ o → behind_dot host o ≡ Some tail → IsBehindLabel host tail
behind_found host tail None found e = absurd (cc)
behind_found host tail (Some dot) found e =
    elim (cases_Bool (nat_lt 0 dot)) [
      | inl t ↦
          let is : Some (drop (dot + 1) host) ≡ Some tail = sym (cond-true (nat_lt 0 dot) (Some (drop (dot + 1) host)) None t) ∙ e in
          let same : drop (dot + 1) host ≡ tail = cc in
          subst (λ (x : List ℕ). IsBehindLabel host x) same (label_at host dot (ltb-true 0 dot t) found)
      | inr f ↦
          let is : None ≡ Some tail = sym (cond-false (nat_lt 0 dot) (Some (drop (dot + 1) host)) None f) ∙ e in absurd (cc)
    ]

behind_from : (label tail : List ℕ) → IsLabel label → behind_label (label ++ 46 ∷ tail) ≡ Some tail
behind_from label tail h =
    let host = label ++ 46 ∷ tail in
    let n = length label in
    let size : length host ≡ n + length (46 ∷ tail) = length-append label (46 ∷ tail) in
    let room : n < length host = omega (arith, size) in
    let fits : n ≤ length host = omega arith in
    let none = λ (k : ℕ) (short : k < n). ne_eqb (get_or host k 0) 46 (λ e. h.1 k 0 short (sym (get_or_append_left label (46 ∷ tail) 0 k short) ∙ e)) in
    let some = λ (more : n < length host). ap is_dot (get_or_at label 46 tail 0 n refl) in
    let at : position_or_len is_dot host ≡ n = position_or_len_is is_dot host n 0 fits none some in
    let found : position is_dot host ≡ Some n =
    ap (λ i. cond (nat_lt i (length host)) (Some i) None) at ∙ cond-true (nat_lt n (length host)) (Some n) None (lt-ltb n (length host) room) in
    let rest : drop (n + 1) host ≡ tail = sym (drop-drop 1 n host) ∙ ap (λ xs. drop 1 xs) (drop_at label (46 ∷ tail) n refl) in
    ap (λ o. behind_dot host o) found ∙ cond-true (nat_lt 0 n) (Some (drop (n + 1) host)) None (lt-ltb 0 n h.0) ∙ ap (λ xs. Some xs) rest

-- ---- a name and a host

wildcard_over : (name : List ℕ) (o : Option (List ℕ)) → IsTrue (is_wildcard_over name o) → (tail : List ℕ) × (o ≡ Some tail) × (name ≡ codes "*." ++ drop 2 name) × IsSameInAnyCase (drop 2 name) tail
wildcard_over name None h = absurd (cc)
wildcard_over name (Some tail) h =
    let both = and_parts (starts_with nat_eq name (codes "*.")) (str_eq_ignore_ascii_case (drop 2 name) tail) h in
    let starts = starts_is Decides-eqb name (codes "*.") (starts_with nat_eq name (codes "*.")) refl in
    (tail, refl, starts.0 both.0, (same_in_any_case (drop 2 name) tail).0 both.1)

by_label_to : (name host : List ℕ) → IsTrue (matches_by_label name host) → MatchesByLabel name host
unfolding IsBehindLabel
by_label_to name host h =
    let over = wildcard_over name (behind_label host) h in
    let behind = behind_found host over.0 (position is_dot host) refl over.1 in
    (drop 2 name, over.2, (behind.0, (over.0, behind.1, behind.2, over.3)))

by_label_from : (name host : List ℕ) → MatchesByLabel name host → IsTrue (matches_by_label name host)
by_label_from name host h =
    let rest = h.0 in
    let label = h.2.0 in
    let tail = h.2.1.0 in
    let starts = starts_is Decides-eqb name (codes "*.") (starts_with nat_eq name (codes "*.")) refl in
    let under = h.2.1 in
    let behind : behind_label host ≡ Some tail = ap behind_label under.1 ∙ behind_from label tail under.2 in
    let is : drop 2 name ≡ rest = ap (λ xs. drop 2 xs) h.1 in
    let same : IsTrue (str_eq_ignore_ascii_case (drop 2 name) tail) =
    (same_in_any_case (drop 2 name) tail).1 (ap str_to_ascii_lowercase is ∙ under.3) in
    ap (λ o. is_wildcard_over name o) behind ∙ and_from _ _ (starts.1 rest h.1) same

matches_to : (name host : List ℕ) → IsTrue (matches_host name host) → MatchesHost name host
matches_to name host h =
    elim (or_cases (str_eq_ignore_ascii_case name host) (matches_by_label name host) h) [
      | inl t ↦ inl ((same_in_any_case name host).0 t)
      | inr t ↦ inr (by_label_to name host t)
    ]

matches_from : (name host : List ℕ) → MatchesHost name host → IsTrue (matches_host name host)
matches_from name host (inl h) = or_left (str_eq_ignore_ascii_case name host) (matches_by_label name host) ((same_in_any_case name host).1 h)
matches_from name host (inr h) = or_right (str_eq_ignore_ascii_case name host) (matches_by_label name host) (by_label_from name host h)

-- ---- an identity and a host

covers_to : (id : Identity) (host : List ℕ) → IsTrue (is_covered id host) → Covers id host
covers_to id host h =
    let some = Any-from_list_any (λ name. matches_host name host) id.names h in
    (some.0, some.1, some.2, some.3, matches_to some.1 host some.4)

covers_from : (id : Identity) (host : List ℕ) → Covers id host → IsTrue (is_covered id host)
covers_from id host h =
    list_any-from_Any (λ name. matches_host name host) id.names (h.0, h.1, h.2, h.3, matches_from h.1 host h.4)

pub covers_is_covered : (id : Identity) (host : List ℕ) → IsTrue (is_covered id host) ↔ Covers id host
covers_is_covered id host = (covers_to id host, covers_from id host)
