-- The walk's names in order, and its lists item by item.
use Rattle.std.proofs.Common.{◌≡◌, ℕ, ◌+◌, ◌<◌, ◌≤◌, List, [], ◌∷◌, ◌++◌, Bool, true, false, ◌||◌, not, Option, Some, Result, Ok, Err, option_map, String, string_bytes, decimal, find, cond, map, length, take, drop, get_or, if◌then◌else◌, refl, ap, sym, ◌∙◌, arith}
use Rattle.std.specs.declared.alloc.Global.{Global}
use Rattle.std.specs.List.{list_any}
use Rattle.std.specs.Map.{keys_of}
use Rattle.std.proofs.lemmas.List.{drop_more, drop_all, map_more, length-map, length-take-le}
use Rattle.serde_json.specs.declared.value.Value.{Value}
use Rattle.serde_json.specs.Data.{Data}
use Rattle.serde_json.specs.View.{view, items_of, members_view}
use Rattle.net_base.proofs.Rests.{behind, with_rest, rest_more, rest_stop, rest_done}
use Rattle.scenario_walk.specs.Faults.{Reader, first_unknown, is_among, each_behind, below, list_of}
use Rattle.scenario_walk.specs.declared.fault.ScenarioFault.{ScenarioFault}

-- ---- names

pub any_of_mapped : {A B : Type 0} (p : B → Bool) (f : A → B) (xs : List A) → list_any (λ x. p (f x)) xs ≡ list_any p (map f xs)
any_of_mapped p f [] = refl
any_of_mapped p f (x ∷ xs) = ap (λ b. p (f x) || b) (any_of_mapped p f xs)

choose : (b : Bool) (k : String Global) (rest : Option (String Global))
    → (if b then option_map string_bytes rest else Some (string_bytes k)) ≡ option_map string_bytes (cond (not b) (Some k) rest)
choose true k rest = refl
choose false k rest = refl

pub first_unknown_key : (names : List (List ℕ)) (es : List (String Global × Value))
    → first_unknown names (members_view es) ≡ option_map string_bytes (find (λ k. not (is_among names (string_bytes k))) (keys_of es))
first_unknown_key names [] = refl
first_unknown_key names (e ∷ es) =
    ap (λ o. if is_among names (string_bytes e.0) then o else Some (string_bytes e.0)) (first_unknown_key names es)
    ∙ choose (is_among names (string_bytes e.0)) e.0 (find (λ k. not (is_among names (string_bytes k))) (keys_of es))

-- ---- items

pub list_of_items_of : (ds : List Data) → list_of (items_of ds) ≡ ds
list_of_items_of [] = refl
list_of_items_of (d ∷ ds) = ap (λ es. d ∷ es) (list_of_items_of ds)

module _ {A : Type 0} (read : List Data → Reader A) (path : List ℕ) (vs : List Value) where
  -- what the items from this place on give
  abbrev pub from : ℕ → Result (List A) ScenarioFault
  from i = each_behind read path (map view (take i vs)) (map view (drop i vs))

  -- what the item at this place gives
  abbrev pub item_at : ℕ → Value → Result A ScenarioFault
  item_at i v = read (map view (take i vs)) (below path (decimal i)) (view v)

  from_step : (i : ℕ) (v : Value) → i < length vs → v ≡ get_or vs i v → from i ≡ with_rest (from (i + 1)) (item_at i v)
  from_step i v lt is =
      let before = map view (take i vs) in
      let after = map view (drop (i + 1) vs) in
      let place : length before ≡ i = length-map (take i vs) view ∙ length-take-le i vs (omega arith) in
      let more : before ++ view v ∷ [] ≡ map view (take (i + 1) vs) = ap (λ y. before ++ view y ∷ []) is ∙ sym (map_more view vs i v lt) in
      ap (λ t. each_behind read path before (map view t)) (drop_more vs i v lt ∙ ap (λ y. y ∷ drop (i + 1) vs) (sym is))
      ∙ ap (λ n. with_rest (each_behind read path (before ++ view v ∷ []) after) (read before (below path (decimal n)) (view v))) place
      ∙ ap (λ b. with_rest (each_behind read path b after) (item_at i v)) more

  pub each_more : (i : ℕ) (v : Value) (all : List A) (x : A) (whole : Result (List A) ScenarioFault)
      → i < length vs → v ≡ get_or vs i v → item_at i v ≡ Ok x → whole ≡ behind all (from i) → whole ≡ behind (all ++ x ∷ []) (from (i + 1))
  each_more i v all x whole lt is = rest_more all x (item_at i v) whole (from i) (from (i + 1)) (from_step i v lt is)

  pub each_stop : (i : ℕ) (v : Value) (all : List A) (e : ScenarioFault) (whole : Result (List A) ScenarioFault)
      → i < length vs → v ≡ get_or vs i v → item_at i v ≡ Err e → whole ≡ behind all (from i) → whole ≡ Err e
  each_stop i v all e whole lt is = rest_stop all e (item_at i v) whole (from i) (from (i + 1)) (from_step i v lt is)

  pub each_done : (i : ℕ) (all : List A) (whole : Result (List A) ScenarioFault) → length vs ≤ i → whole ≡ behind all (from i) → whole ≡ Ok all
  each_done i all whole le = rest_done all whole (from i) (ap (λ t. each_behind read path (map view (take i vs)) (map view t)) (drop_all i vs le))
