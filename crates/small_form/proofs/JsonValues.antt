-- Objects whose members have given names, and lists of one item.
use Rattle.std.proofs.Common.{◌≡◌, ℕ, List, [], ◌∷◌, ◌&&◌, ◌≤◌, length, None, String, string_bytes, refl, ap, arith}
use Rattle.std.specs.declared.alloc.Global.{Global}
use Rattle.std.specs.List.{list_all}
use Rattle.std.specs.Map.{keys_of}
use Rattle.serde_json.specs.declared.value.Value.{Value}
use Rattle.serde_json.specs.View.{items_view, members_view}
use Rattle.scenario_walk.specs.Faults.{is_among}
use Rattle.small_form.specs.Forms.{are_only, the_one}

pub are_only_names : (names : List (List ℕ)) (es : List (String Global × Value))
    → list_all (λ k. is_among names (string_bytes k)) (keys_of es) ≡ are_only names (members_view es)
are_only_names names [] = refl
are_only_names names (e ∷ es) = ap (λ b. is_among names (string_bytes e.0) && b) (are_only_names names es)

pub the_one_of_more : (vs : List Value) → 2 ≤ length vs → the_one (items_view vs) ≡ None
the_one_of_more [] h = absurd (omega arith)
the_one_of_more (v ∷ []) h = absurd (omega arith)
the_one_of_more (v ∷ w ∷ vs) h = refl
