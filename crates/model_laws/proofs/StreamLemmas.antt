-- Lists of streams: what holds of each and of each two where one list stands behind another, and which streams are left where orders are taken back.
use Rattle.std.proofs.Common.{[], ◌≡◌, ◌<◌, ◌+◌, List, ◌∷◌, ◌++◌, Bool, true, false, cond, inl, inr, refl, sym, ap, subst, ◌∙◌, arith, length, get_or, filter, All, AllPairs, Contains}
use Rattle.std.specs.Prelude.{not}
use Rattle.std.proofs.lemmas.List.{length-append, get_or_append_left, get_or-append-add, get_or_default}
use Rattle.std.proofs.lemmas.List.Elements.{All-contains, Contains-get_or, Contains-append_right, Contains-append_cases, Contains-push_cases}
use Rattle.std.proofs.lemmas.List.Kept.{AllPairs-cons}
use Rattle.net_base.specs.declared.numbers.ExchangeNo.{ExchangeNo}
use Rattle.net_base.specs.declared.numbers.StreamNo.{StreamNo}
use Rattle.model_changes.specs.Connections.{is_stream, is_start, is_start_of, is_reset_of, streams_started, other_streams}
use Rattle.model_laws.proofs.StartSteps.{none_started}
use Rattle.model_values.specs.declared.order.OrderMark.{OrderMark}
use Rattle.model_values.specs.declared.order.OrderMark.TheVariants as mark

-- ---- each

-- what holds of each one that is there
pub all_each : {A : Type 0} (P : A → Type 0) (xs : List A) → ((x : A) → Contains xs x → P x) → All P xs
all_each P xs each k d below = each (get_or xs k d) (Contains-get_or xs k d below)

-- and of each of fewer
pub all_fewer : {A : Type 0} (P : A → Type 0) (xs ys : List A) → ((x : A) → Contains ys x → Contains xs x) → All P xs → All P ys
all_fewer P xs ys fewer all = all_each P ys (λ x h. All-contains P xs x all (fewer x h))

-- ---- each two

-- those of the first list
pub pairs_front : {A : Type 0} (R : A → A → Type 0) (xs ys : List A) → AllPairs R (xs ++ ys) → AllPairs R xs
pairs_front R xs ys pairs i j d before within =
    let first : i < length xs = omega (arith, before, within) in
    let longer = length-append xs ys in
    subst (λ a. R a (get_or xs j d)) (get_or_append_left xs ys d i first)
    (subst (R (get_or (xs ++ ys) i d)) (get_or_append_left xs ys d j within) (pairs i j d before (omega (arith, within, longer))))

-- those of the second
pub pairs_back : {A : Type 0} (R : A → A → Type 0) (xs ys : List A) → AllPairs R (xs ++ ys) → AllPairs R ys
pairs_back R xs ys pairs i j d before within =
    let longer = length-append xs ys in
    subst (λ a. R a (get_or ys j d)) (get_or-append-add xs ys i d)
    (subst (R (get_or (xs ++ ys) (length xs + i) d)) (get_or-append-add xs ys j d)
    (pairs (length xs + i) (length xs + j) d (omega (arith, before)) (omega (arith, within, longer))))

-- one of the first with one of the second
pub pairs_across : {A : Type 0} (R : A → A → Type 0) (xs ys : List A) (x y : A) → AllPairs R (xs ++ ys) → Contains xs x → Contains ys y → R x y
pairs_across R xs ys x y pairs front back =
    let longer = length-append xs ys in
    let first : front.0 < length xs = front.1 in
    let second : back.0 < length ys = back.1 in
    let is_first : get_or (xs ++ ys) front.0 x ≡ x = get_or_append_left xs ys x front.0 first ∙ front.2 in
    let is_second : get_or (xs ++ ys) (length xs + back.0) x ≡ y = get_or-append-add xs ys back.0 x ∙ get_or_default ys back.0 x y second ∙ back.2 in
    subst (λ a. R a y) is_first
    (subst (R (get_or (xs ++ ys) front.0 x)) is_second (pairs front.0 (length xs + back.0) x (omega (arith, first)) (omega (arith, second, longer))))

-- all of these are those of the whole
pub pairs_append : {A : Type 0} (R : A → A → Type 0) (xs ys : List A) → AllPairs R xs → AllPairs R ys →
    ((x y : A) → Contains xs x → Contains ys y → R x y) → AllPairs R (xs ++ ys)
pairs_append R [] ys front back across = back
pairs_append {A} R (x ∷ xs) ys front back across =
    AllPairs-cons R x (xs ++ ys) (all_each (R x) (xs ++ ys) first)
    (pairs_append R xs ys (pairs_back R (x ∷ []) xs front) back (λ a b h k. across a b (Contains-append_right (x ∷ []) xs a h) k))
  where
    first : (y : A) → Contains (xs ++ ys) y → R x y
    first y h = elim (Contains-append_cases xs ys y h) [
      | inl here ↦ pairs_across R (x ∷ []) xs x y front (0, omega arith, refl) here
      | inr later ↦ across x y (0, omega arith, refl) later
    ]

-- ---- the streams of orders

-- without the starts of one stream
pub starts_of_others : (r : StreamNo) (orders : List OrderMark) →
    streams_started (filter (λ m. not (is_start_of r m)) orders) ≡ other_streams r (streams_started orders)
starts_of_others r [] = refl
starts_of_others r (mark.Start e t ∷ orders) = by (not (is_stream r t)) (starts_of_others r orders)
  where
    by : (b : Bool) → streams_started (filter (λ m. not (is_start_of r m)) orders) ≡ other_streams r (streams_started orders) →
        streams_started (cond b (mark.Start e t ∷ filter (λ m. not (is_start_of r m)) orders) (filter (λ m. not (is_start_of r m)) orders)) ≡
        cond b (t ∷ other_streams r (streams_started orders)) (other_streams r (streams_started orders))
    by true same = ap (λ (rs : List StreamNo). t ∷ rs) same
    by false same = same
starts_of_others r (mark.Reset t ∷ orders) = starts_of_others r orders
starts_of_others r (mark.Close ∷ orders) = starts_of_others r orders

-- without the resets of one stream
pub starts_beside_resets : (r : StreamNo) (orders : List OrderMark) → streams_started (filter (λ m. not (is_reset_of r m)) orders) ≡ streams_started orders
starts_beside_resets r [] = refl
starts_beside_resets r (mark.Start e t ∷ orders) = ap (λ (rs : List StreamNo). t ∷ rs) (starts_beside_resets r orders)
starts_beside_resets r (mark.Reset t ∷ orders) = by (not (is_stream r t)) (starts_beside_resets r orders)
  where
    by : (b : Bool) → streams_started (filter (λ m. not (is_reset_of r m)) orders) ≡ streams_started orders →
        streams_started (cond b (mark.Reset t ∷ filter (λ m. not (is_reset_of r m)) orders) (filter (λ m. not (is_reset_of r m)) orders)) ≡ streams_started orders
    by true same = same
    by false same = same
starts_beside_resets r (mark.Close ∷ orders) = starts_beside_resets r orders

-- without the starts
pub starts_of_none : (orders : List OrderMark) → streams_started (filter (λ m. not (is_start m)) orders) ≡ []
starts_of_none [] = refl
starts_of_none (mark.Start e t ∷ orders) = starts_of_none orders
starts_of_none (mark.Reset t ∷ orders) = starts_of_none orders
starts_of_none (mark.Close ∷ orders) = starts_of_none orders

-- a stream that is ordered to start has its start among the orders
pub start_among : (r : StreamNo) (orders : List OrderMark) → Contains (streams_started orders) r → (e : ExchangeNo) × Contains orders (mark.Start e r)
start_among r [] h = absurd (none_started r h)
start_among r (mark.Start e t ∷ orders) h = elim (Contains-append_cases (t ∷ []) (streams_started orders) r h) [
  | inl here ↦ elim (Contains-push_cases [] t r here) [
    | inl none ↦ absurd (none_started r none)
    | inr same ↦ (e, subst (λ (u : StreamNo). Contains (mark.Start e u ∷ orders) (mark.Start e r)) (sym same) (0, omega arith, refl))
  ]
  | inr later ↦ let among = start_among r orders later in (among.0, Contains-append_right (mark.Start e t ∷ []) orders (mark.Start among.0 r) among.1)
]
start_among r (mark.Reset t ∷ orders) h =
    let among = start_among r orders h in (among.0, Contains-append_right (mark.Reset t ∷ []) orders (mark.Start among.0 r) among.1)
start_among r (mark.Close ∷ orders) h =
    let among = start_among r orders h in (among.0, Contains-append_right (mark.Close ∷ []) orders (mark.Start among.0 r) among.1)
