-- Where what a caller says stands in a history: each of its entries as it is read, with those before it and behind it.
use Rattle.std.proofs.Common.{◌≡◌, ℕ, zero, suc, List, [], ◌∷◌, ◌++◌, Some, Bool, true, false, cond, refl, sym, ap, subst, ◌∙◌, arith, append_assoc, append-nil, take, drop, drop-cons, take-append-drop, slice_get, All, Contains}
use Rattle.std.specs.Prelude.{◌==◌}
use Rattle.std.proofs.lemmas.Bool.{cond-true, cond_both}
use Rattle.std.proofs.lemmas.List.Elements.{All-nil, All-cons, All-head, All-tail, All-contains, All-contains_itself, Contains-append_right}
use Rattle.std.proofs.lemmas.Option.{slice_get_within, get_or_from_slice_get}
use Rattle.net_base.specs.declared.numbers.CallerNo.{CallerNo}
use Rattle.model_histories.proofs.SaidLemmas.{read_behind, own_from-append}
use Rattle.model_histories.specs.Reading.{Own, own_from}
use Rattle.model_values.specs.declared.entry.Entry.{Entry}

pub own_none : (before : List Entry) (who : CallerNo) → own_from before who [] ≡ []
unfolding own_from
own_none before who = refl

own_cons : (before : List Entry) (who : CallerNo) (x : Entry) (xs : List Entry) → let rest : List Own = own_from (before ++ x ∷ []) who xs in
    own_from before who (x ∷ xs) ≡ cond (x.who.0 == who.0) (read_behind before x ∷ rest) rest
unfolding own_from
own_cons before who x xs = refl

-- one entry of the caller
pub own_one : (before : List Entry) (who : CallerNo) (x : Entry) → own_from before who (x ∷ []) ≡ cond (x.who.0 == who.0) (read_behind before x ∷ []) []
unfolding own_from
own_one before who x = refl

-- an entry of the caller stands in all that it says
pub own_split : (before : List Entry) (who : CallerNo) (es : List Entry) (i : ℕ) (y : Entry) → slice_get es i ≡ Some y → (y.who.0 == who.0) ≡ true →
    own_from before who es ≡ own_from before who (take i es) ++ read_behind (before ++ take i es) y ∷ own_from ((before ++ take i es) ++ y ∷ []) who (drop (suc i) es)
own_split before who es i y is_entry mine =
    let front : List Entry = before ++ take i es in
    let rest : List Entry = drop (suc i) es in
    let behind : drop i es ≡ y ∷ rest = drop-cons es i y (slice_get_within es i y is_entry) ∙ ap (λ (x : Entry). x ∷ rest) (get_or_from_slice_get es i y y is_entry) in
    let next : List Own = own_from (front ++ y ∷ []) who rest in
    ap (own_from before who) (sym (take-append-drop i es))
    ∙ own_from-append before who (take i es) (drop i es)
    ∙ ap (λ (l : List Entry). own_from before who (take i es) ++ own_from front who l) behind
    ∙ ap (λ (l : List Own). own_from before who (take i es) ++ l) (own_cons front who y rest ∙ cond-true (y.who.0 == who.0) (read_behind front y ∷ next) next mine)

-- so it is one of them
pub own_there : (before : List Entry) (who : CallerNo) (es : List Entry) (i : ℕ) (y : Entry) → slice_get es i ≡ Some y → (y.who.0 == who.0) ≡ true →
    Contains (own_from before who es) (read_behind (before ++ take i es) y)
own_there before who es i y is_entry mine =
    let o : Own = read_behind (before ++ take i es) y in
    let next : List Own = own_from ((before ++ take i es) ++ y ∷ []) who (drop (suc i) es) in
    subst (λ (l : List Own). Contains l o) (sym (own_split before who es i y is_entry mine)) (Contains-append_right (own_from before who (take i es)) (o ∷ next) o (zero, omega arith, refl))

-- and each is an entry of the caller, with the caller's entries before it in front
pub record IsPlaced (before : List Entry) (who : CallerNo) (es : List Entry) (front : List Own) (o : Own) : Type 0 where
  pub place : ℕ
  pub entry : Entry
  pub is_entry : slice_get es place ≡ Some entry
  pub mine : (entry.who.0 == who.0) ≡ true
  pub read : o ≡ read_behind (before ++ take place es) entry
  pub is_front : front ≡ own_from before who (take place es)

none_split : (front behind : List Own) (o : Own) → [] ≡ front ++ o ∷ behind → ⊥
none_split [] behind o is = absurd cc
none_split (p ∷ front) behind o is = absurd cc

-- behind one more entry of the caller, or of another
placed_on : (before : List Entry) (who : CallerNo) (x : Entry) (xs : List Entry) (front : List Own) (o : Own) (b : Bool) → (x.who.0 == who.0) ≡ b →
    IsPlaced (before ++ x ∷ []) who xs front o →
    IsPlaced before who (x ∷ xs) (cond b (read_behind before x ∷ front) front) o
placed_on before who x xs front o b is p = record {
  place = suc p.place;
  entry = p.entry;
  is_entry = p.is_entry;
  mine = p.mine;
  read = p.read ∙ ap (λ (l : List Entry). read_behind l p.entry) (append_assoc before (x ∷ []) (take p.place xs));
  is_front = ap (λ (l : List Own). cond b (read_behind before x ∷ l) l) p.is_front
      ∙ ap (λ (c : Bool). cond c (read_behind before x ∷ own_from (before ++ x ∷ []) who (take p.place xs)) (own_from (before ++ x ∷ []) who (take p.place xs))) (sym is)
      ∙ sym (own_cons before who x (take p.place xs));
}

-- the first of them is this entry, or they are those of the rest
placed_by : (before : List Entry) (who : CallerNo) (x : Entry) (xs : List Entry) (behind : List Own) (o : Own) →
    let rest : List Own = own_from (before ++ x ∷ []) who xs in
    ((front : List Own) → rest ≡ front ++ o ∷ behind → IsPlaced (before ++ x ∷ []) who xs front o) →
    (b : Bool) → (x.who.0 == who.0) ≡ b → (front : List Own) → cond b (read_behind before x ∷ rest) rest ≡ front ++ o ∷ behind → IsPlaced before who (x ∷ xs) front o
placed_by before who x xs behind o again true mine [] split = record {
  place = 0;
  entry = x;
  is_entry = refl;
  mine = mine;
  read = let first : read_behind before x ≡ o = cc in sym first ∙ ap (λ (l : List Entry). read_behind l x) (sym (append-nil before));
  is_front = sym (own_none before who);
}
placed_by before who x xs behind o again true mine (p ∷ front) split =
    let first : read_behind before x ≡ p = cc in
    let later : own_from (before ++ x ∷ []) who xs ≡ front ++ o ∷ behind = cc in
    subst (λ (q : Own). IsPlaced before who (x ∷ xs) (q ∷ front) o) first (placed_on before who x xs front o true mine (again front later))
placed_by before who x xs behind o again false other front split = placed_on before who x xs front o false other (again front split)

pub own_place : (before : List Entry) (who : CallerNo) (es : List Entry) (front behind : List Own) (o : Own) → own_from before who es ≡ front ++ o ∷ behind →
    IsPlaced before who es front o
own_place before who [] front behind o is = absurd (none_split front behind o (sym (own_none before who) ∙ is))
own_place before who (x ∷ xs) front behind o is =
    placed_by before who x xs behind o (λ f split. own_place (before ++ x ∷ []) who xs f behind o split) (x.who.0 == who.0) refl front (sym (own_cons before who x xs) ∙ is)

-- what holds of each entry holds of those of the caller
own_each : (P : Entry → Type 0) (before : List Entry) (who : CallerNo) (es : List Entry) → All P es → All (λ o. P o.entry) (own_from before who es)
own_each P before who [] all = subst (All (λ (o : Own). P o.entry)) (sym (own_none before who)) (All-nil (λ (o : Own). P o.entry))
own_each P before who (x ∷ xs) all =
    let rest : List Own = own_from (before ++ x ∷ []) who xs in
    let later : All (λ o. P o.entry) rest = own_each P (before ++ x ∷ []) who xs (All-tail P x xs all) in
    subst (All (λ (o : Own). P o.entry)) (sym (own_cons before who x xs))
    (cond_both (x.who.0 == who.0) (read_behind before x ∷ rest) rest (All (λ (o : Own). P o.entry))
    (λ t. All-cons (λ (o : Own). P o.entry) (read_behind before x) rest (All-head P x xs all) later) (λ f. later))

-- so each is one of the entries
pub own_among : (before : List Entry) (who : CallerNo) (es : List Entry) (o : Own) → Contains (own_from before who es) o → Contains es o.entry
own_among before who es o has = All-contains (λ (p : Own). Contains es p.entry) (own_from before who es) o (own_each (Contains es) before who es (All-contains_itself es)) has
