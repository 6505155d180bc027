-- The submissions among the calls so far.
use Rattle.std.proofs.Common.{◌≡◌, ℕ, ◌+◌, ◌<◌, List, [], ◌∷◌, ◌++◌, Bool, true, false, cond, map, length, take, get_or, if◌then◌else◌, refl, ap, sym, ◌∙◌, arith, decimal, Result}
use Rattle.std.proofs.lemmas.List.{map_more}
use Rattle.std.proofs.lemmas.List.Sums.{sum_by_push}
use Rattle.serde_json.specs.Data.{Data}
use Rattle.serde_json.specs.View.{view}
use Rattle.serde_json.specs.declared.value.Value.{Value}
use Rattle.model_values.specs.declared.script.ScriptCall.{ScriptCall}
use Rattle.scenario_text.specs.Calls.{call_behind, count_submits, is_submit, script_call}
use Rattle.scenario_walk.specs.Faults.{below}
use Rattle.scenario_walk.specs.declared.fault.ScenarioFault.{ScenarioFault}
use Rattle.scenario_walk.proofs.WalkLemmas.{item_at}

one_more : (b : Bool) (n : ℕ) → (if b then n + 1 else n) ≡ n + cond b 1 0
one_more true n = refl
one_more false n = omega arith

pub submits_more : (vs : List Value) (i : ℕ) (v : Value) (n m : ℕ) → i < length vs → v ≡ get_or vs i v
    → n ≡ count_submits (map view (take i vs)) → m ≡ (if is_submit (view v) then n + 1 else n) → m ≡ count_submits (map view (take (i + 1) vs))
submits_more vs i v n m lt is so_far step =
    let before = map view (take i vs) in
    let more : map view (take (i + 1) vs) ≡ before ++ view v ∷ [] = map_more view vs i v lt ∙ ap (λ y. before ++ view y ∷ []) (sym is) in
    step ∙ one_more (is_submit (view v)) n ∙ ap (λ k. k + cond (is_submit (view v)) 1 0) so_far
    ∙ sym (ap count_submits more ∙ sum_by_push (λ (d : Data). cond (is_submit d) 1 0) before (view v))

-- what the call at a place gives, behind the submissions before it
pub call_at : (path at : List ℕ) (vs : List Value) (i n : ℕ) (v : Value) (r : Result ScriptCall ScenarioFault)
    → n ≡ count_submits (map view (take i vs)) → at ≡ below path (decimal i) → call_behind n at (view v) ≡ r → item_at script_call path vs i v ≡ r
call_at path at vs i n v r count place gives =
    ap (λ m. call_behind m (below path (decimal i)) (view v)) (sym count) ∙ ap (λ p. call_behind n p (view v)) (sym place) ∙ gives
