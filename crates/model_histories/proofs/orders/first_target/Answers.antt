use Rattle.std.proofs.Common.{◌≡◌, ◌<◌, ◌≤◌, ◌+◌, ◌++◌, ◌∷◌, [], ℕ, suc, List, Option, Some, None, length, drop, get_or, slice_get, refl, sym, ap, ◌∙◌, arith}
use Rattle.std.proofs.lemmas.List.{drop_all}
use Rattle.net_base.specs.declared.numbers.ConnNo.{ConnNo}
use Rattle.net_base.specs.declared.target.Target.{Target}
use Rattle.model_histories.proofs.OrderLemmas.{at_place}
use Rattle.model_histories.specs.Reading.{dialed_by, targets_of}
use Rattle.model_values.specs.declared.entry.Entry.{Entry}
use Rattle.model_histories.proofs.orders.first_target.Goals as goal

-- an entry that doesn't dial the connection is passed over
passed : (c : ConnNo) (x : Entry) (rest : List Entry) → [] ≡ dialed_by c x.act → slice_get (targets_of (x ∷ rest) c) 0 ≡ slice_get (targets_of rest c) 0
passed c x rest none = ap (λ (l : List Target). slice_get (l ++ targets_of rest c) 0) (sym none)

found : (c : ConnNo) (t : Target) (x : Entry) (rest : List Entry) → t ∷ [] ≡ dialed_by c x.act → slice_get (targets_of (x ∷ rest) c) 0 ≡ Some t
found c t x rest some = ap (λ (l : List Target). slice_get (l ++ targets_of rest c) 0) (sym some)
