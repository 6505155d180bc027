-- The item of least key and number that passes a test: what computes it is what defines it.
use Rattle.std.proofs.Common.{◌≡◌, ◌<◌, ◌≤◌, ◌+◌, ◌⊎◌, ℕ, suc, List, [], ◌∷◌, Option, Some, None, Bool, true, false, cond, inl, inr, refl, sym, ap, subst, ◌∙◌, arith, slice_get, IsTrue}
use Rattle.std.specs.Prelude.{◌&&◌}
use Rattle.std.proofs.lemmas.Bool.{cases_order, ltb-true, ltb-false}
use Rattle.model_authority.proofs.NumberLemmas.{option_cases, numbered_at, place_of, passing, passing_at, passes, each_item}
use Rattle.model_settling.specs.Due.{is_better, least_from, least_of}
use Rattle.model_authority.specs.Lists.{numbered, Passes, GoesBefore, IsLeast}
use Rattle.model_settling.specs.declared.kinds.Best.{Best}

-- where the items are numbered from first, the best is of the item at this place
pub record IsOfItem {A : Type 0} (test : ℕ → A → Bool) (key : A → ℕ) (first : ℕ) (xs : List A) (b : Best) : Type 0 where
  pub at : ℕ
  pub x : A
  pub is_item : slice_get xs at ≡ Some x
  pub is_number : b.number ≡ first + at
  pub is_key : b.key ≡ key x
  pub passes : test b.number x ≡ true

-- what comes out of the best before and the items after it
pub record IsBestOf {A : Type 0} (test : ℕ → A → Bool) (key : A → ℕ) (before : Option Best) (first : ℕ) (xs : List A) (b : Best) : Type 0 where
  pub origin : (before ≡ Some b) ⊎ IsOfItem test key first xs b
  pub none_less : (k : ℕ) (y : A) → slice_get xs k ≡ Some y → test (first + k) y ≡ true → ¬ GoesBefore (key y) (first + k) b.key b.number
  pub no_worse : (old : Best) → before ≡ Some old → (b ≡ old) ⊎ (b.key < old.key)

-- the item is taken, or the best stays
taken_or_not : (p t : Bool) (x y : Option Best) → ((p ≡ true) × (t ≡ true) × (cond (p && t) x y ≡ x)) ⊎ ((cond (p && t) x y ≡ y) × (t ≡ true → p ≡ false))
taken_or_not true true x y = inl (refl, refl, refl)
taken_or_not true false x y = inr (refl, λ e. absurd cc)
taken_or_not false t x y = inr (refl, λ e. refl)

better_key : (k : ℕ) (before : Option Best) → is_better k before ≡ true → (old : Best) → before ≡ Some old → k < old.key
better_key k None h old e = absurd cc
better_key k (Some best) h old e = let s : best ≡ old = cc in subst (λ (b : Best). k < b.key) s (ltb-true k best.key h)

not_better : (k : ℕ) (before : Option Best) → is_better k before ≡ false → (old : Best) × (before ≡ Some old) × (old.key ≤ k)
not_better k None h = absurd cc
not_better k (Some best) h = (best, refl, ltb-false k best.key h)

-- the item of this number as the best
abbrev as_best : {A : Type 0} → (A → ℕ) → ℕ → A → Best
as_best key number x = record { number = number; key = key x }

module _ {A : Type 0} (test : ℕ → A → Bool) (key : A → ℕ) where
  later : (first : ℕ) (x : A) (xs : List A) (b : Best) → IsOfItem test key (first + 1) xs b → IsOfItem test key first (x ∷ xs) b
  later first x xs b h = record { at = suc h.at; x = h.x; is_item = h.is_item; is_number = omega (arith, h.is_number); is_key = h.is_key; passes = h.passes }

  -- the first item is taken
  best_taken : (before : Option Best) (first : ℕ) (x : A) (xs : List A) (b : Best) → is_better (key x) before ≡ true → test first x ≡ true →
      IsBestOf test key (Some (as_best key first x)) (first + 1) xs b → IsBestOf test key before first (x ∷ xs) b
  best_taken before first x xs b p t r = record {
    origin = elim r.origin [
      | inl e ↦
          let n : first ≡ b.number = ap (λ (o : Option Best). elim o [ None ↦ 0 | Some c ↦ c.number ]) e in
          let k : key x ≡ b.key = ap (λ (o : Option Best). elim o [ None ↦ 0 | Some c ↦ c.key ]) e in
          inr (record { at = 0; x = x; is_item = refl; is_number = omega (arith, n); is_key = sym k; passes = ap (λ i. test i x) (sym n) ∙ t })
      | inr h ↦ inr (later first x xs b h)
    ];
    none_less = each_item (λ i y. test i y ≡ true → ¬ GoesBefore (key y) i b.key b.number) first x xs (λ t g. elim (r.no_worse (as_best key first x) refl) [
      | inl e ↦
          let n : b.number ≡ first = ap (λ (c : Best). c.number) e in
          let k : b.key ≡ key x = ap (λ (c : Best). c.key) e in
          elim g [ inl l ↦ absurd (omega (arith, k, l)) | inr l ↦ absurd (omega (arith, n, l.1)) ]
      | inr k ↦ elim g [ inl l ↦ absurd (omega (arith, k, l)) | inr l ↦ absurd (omega (arith, k, l.0)) ]
    ]) r.none_less;
    no_worse = λ old e.
        let l = better_key (key x) before p old e in
        elim (r.no_worse (as_best key first x) refl) [
          | inl s ↦ let k : b.key ≡ key x = ap (λ (c : Best). c.key) s in inr (omega (arith, k, l))
          | inr k ↦ inr (omega (arith, k, l))
        ];
  }

  -- the best stays
  best_stays : (before : Option Best) (first : ℕ) (x : A) (xs : List A) (b : Best) → ((old : Best) → before ≡ Some old → old.number < first) →
      (test first x ≡ true → is_better (key x) before ≡ false) → IsBestOf test key before (first + 1) xs b → IsBestOf test key before first (x ∷ xs) b
  best_stays before first x xs b lower p r = record {
    origin = elim r.origin [ inl e ↦ inl e | inr h ↦ inr (later first x xs b h) ];
    none_less = each_item (λ i y. test i y ≡ true → ¬ GoesBefore (key y) i b.key b.number) first x xs (λ t g.
        let old = not_better (key x) before (p t) in
        let low = lower old.0 old.1 in
        elim (r.no_worse old.0 old.1) [
          | inl e ↦
              let n : b.number ≡ old.0.number = ap (λ (c : Best). c.number) e in
              let k : b.key ≡ old.0.key = ap (λ (c : Best). c.key) e in
              elim g [ inl l ↦ absurd (omega (arith, k, l, old.2)) | inr l ↦ absurd (omega (arith, n, l.1, low)) ]
          | inr k ↦ elim g [ inl l ↦ absurd (omega (arith, k, l, old.2)) | inr l ↦ absurd (omega (arith, k, l.0, old.2)) ]
        ]) r.none_less;
    no_worse = r.no_worse;
  }

  pub least_from_is : (before : Option Best) (first : ℕ) (xs : List A) (b : Best) → ((old : Best) → before ≡ Some old → old.number < first) →
      least_from test key before first xs ≡ Some b → IsBestOf test key before first xs b
  unfolding least_from
  least_from_is before first [] b lower h = record {
    origin = inl h;
    none_less = λ k y e t g. absurd cc;
    no_worse = λ old e. let s : b ≡ old = cc in inl s;
  }
  least_from_is before first (x ∷ xs) b lower h =
      elim (taken_or_not (is_better (key x) before) (test first x) (Some (as_best key first x)) before) [
        | inl k ↦
            let r : least_from test key (Some (as_best key first x)) (first + 1) xs ≡ Some b = ap (λ o. least_from test key o (first + 1) xs) (sym k.2) ∙ h in
            let low : (old : Best) → ◌≡◌ {A = Option Best} (Some (as_best key first x)) (Some old) → old.number < first + 1 =
            λ old e. let n : first ≡ old.number = ap (λ (o : Option Best). elim o [ None ↦ 0 | Some c ↦ c.number ]) e in omega (arith, n) in
            best_taken before first x xs b k.0 k.1 (least_from_is (Some (as_best key first x)) (first + 1) xs b low r)
        | inr k ↦
            let r : least_from test key before (first + 1) xs ≡ Some b = ap (λ o. least_from test key o (first + 1) xs) (sym k.0) ∙ h in
            let low : (old : Best) → before ≡ Some old → old.number < first + 1 = λ old e. omega (arith, lower old e) in
            best_stays before first x xs b lower k.1 (least_from_is before (first + 1) xs b low r)
      ]

  pub least_from_none : (before : Option Best) (first : ℕ) (xs : List A) → least_from test key before first xs ≡ None →
      (before ≡ None) × ((k : ℕ) (y : A) → slice_get xs k ≡ Some y → test (first + k) y ≡ true → ⊥)
  unfolding least_from
  least_from_none before first [] h = (h, λ k y e t. absurd cc)
  least_from_none before first (x ∷ xs) h =
      elim (taken_or_not (is_better (key x) before) (test first x) (Some (as_best key first x)) before) [
        | inl k ↦
            let r : least_from test key (Some (as_best key first x)) (first + 1) xs ≡ None = ap (λ o. least_from test key o (first + 1) xs) (sym k.2) ∙ h in
            let n = (least_from_none (Some (as_best key first x)) (first + 1) xs r).0 in
            absurd cc
        | inr k ↦
            let r : least_from test key before (first + 1) xs ≡ None = ap (λ o. least_from test key o (first + 1) xs) (sym k.0) ∙ h in
            let n = least_from_none before (first + 1) xs r in
            (n.0, each_item (λ i y. test i y ≡ true → ⊥) first x xs (λ t. let q = not_better (key x) before (k.1 t) in absurd (cc (n.0, q.1))) n.1)
      ]

  pub least_is : (xs : List A) (b : Best) → least_of test key xs ≡ Some b → IsLeast test key xs b.number
  least_is xs b h =
      let r = least_from_is None 1 xs b (λ old e. absurd cc) h in
      elim r.origin [
        | inl e ↦ absurd cc
        | inr o ↦
            let at : b.number ≡ suc o.at = omega (arith, o.is_number) in
            let item : numbered b.number xs ≡ Some o.x = ap (λ i. numbered i xs) at ∙ numbered_at xs o.at ∙ o.is_item in
            record {
              passes = passes test xs b.number o.x item o.passes;
              none_less = λ x y other ex ey t g.
                  let q = place_of xs other y ey in
                  let s : 1 + q.0 ≡ other = omega (arith, q.1) in
                  let same : x ≡ o.x = cc in
                  let k : key x ≡ b.key = ap key same ∙ sym o.is_key in
                  let g1 : GoesBefore (key y) other b.key b.number = subst (λ i. GoesBefore (key y) other i b.number) k g in
                  r.none_less q.0 y q.2 (ap (λ i. test i y) s ∙ t) (subst (λ i. GoesBefore (key y) i b.key b.number) (sym s) g1);
            }
      ]

  pub least_item : (xs : List A) (b : Best) → least_of test key xs ≡ Some b → (x : A) × (numbered b.number xs ≡ Some x) × IsTrue (test b.number x)
  least_item xs b h = passing test xs b.number (least_is xs b h).passes

  pub least_none : (xs : List A) → least_of test key xs ≡ None → (m : ℕ) → ¬ Passes test xs m
  least_none xs h m p =
      let q = passing_at test xs m p in
      let s : 1 + q.0 ≡ m = omega (arith, q.2) in
      (least_from_none None 1 xs h).1 q.0 q.1 q.3 (ap (λ i. test i q.1) s ∙ q.4)

  pub least_unique : (xs : List A) (n m : ℕ) → IsLeast test key xs n → IsLeast test key xs m → n ≡ m
  least_unique xs n m h k =
      let x = passing test xs n h.passes in
      let y = passing test xs m k.passes in
      elim (cases_order (key x.0) (key y.0)) [
        | inl e ↦ elim (cases_order n m) [
          | inl s ↦ s
          | inr (inl l) ↦ absurd (k.none_less y.0 x.0 n y.1 x.1 x.2 (inr (e, l)))
          | inr (inr l) ↦ absurd (h.none_less x.0 y.0 m x.1 y.1 y.2 (inr (sym e, l)))
        ]
        | inr (inl l) ↦ absurd (k.none_less y.0 x.0 n y.1 x.1 x.2 (inl l))
        | inr (inr l) ↦ absurd (h.none_less x.0 y.0 m x.1 y.1 y.2 (inl l))
      ]

  pub least_back : (xs : List A) (n : ℕ) → IsLeast test key xs n → (b : Best) × (least_of test key xs ≡ Some b) × (b.number ≡ n)
  least_back xs n h =
      elim (option_cases (least_of test key xs)) [
        | inl e ↦ absurd (least_none xs e n h.passes)
        | inr k ↦ (k.0, k.1, least_unique xs k.0.number n (least_is xs k.0 k.1) h)
      ]
