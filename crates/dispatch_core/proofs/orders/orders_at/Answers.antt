use Rattle.std.proofs.Common.{◌≡◌, ◌<◌, ◌+◌, ◌++◌, ◌∷◌, [], ℕ, List, length, take, get_or, sym, ap, ◌∙◌}
use Rattle.std.specs.List.{flat_map}
use Rattle.std.proofs.lemmas.Grind.{flat_map-append}
use Rattle.std.proofs.lemmas.List.{append-nil, take_more}
use Rattle.model_values.specs.declared.order.Order.{Order}
use Rattle.model_values.specs.declared.order.OrderMark.{OrderMark}

-- the orders of one more mark
orders_more : (f : OrderMark → List Order) (marks : List OrderMark) (i : ℕ) (x : OrderMark) → i < length marks → x ≡ get_or marks i x →
    flat_map f (take i marks) ++ f x ≡ flat_map f (take (i + 1) marks)
orders_more f marks i x lt is =
    sym (ap (flat_map f) (take_more marks i x lt)
    ∙ ap (λ (y : OrderMark). flat_map f (take i marks ++ y ∷ [])) (sym is)
    ∙ flat_map-append f (take i marks) (x ∷ [])
    ∙ ap (λ (l : List Order). flat_map f (take i marks) ++ l) (append-nil (f x)))
