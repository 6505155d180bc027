-- What the state tells of a connection's orders is what its history tells.
use Rattle.std.proofs.Common.{◌≡◌, ◌∙◌, ℕ, List, [], ◌∷◌, ◌++◌, Some, refl, sym, ap, subst, arith, length, take, slice_get, Contains}
use Rattle.std.specs.List.{flat_map}
use Rattle.std.proofs.Math.Seq.{take-append_seam}
use Rattle.std.proofs.lemmas.List.Elements.{Contains-append_right}
use Rattle.net_base.specs.Dressing.{dressed_for}
use Rattle.net_base.specs.declared.numbers.CallerNo.{CallerNo}
use Rattle.net_base.specs.declared.numbers.ConnNo.{ConnNo}
use Rattle.net_base.specs.declared.numbers.Moment.{Moment}
use Rattle.dispatch_core.proofs.StepLemmas.{at_end}
use Rattle.dispatch_core.specs.Pools.{PoolView, Enters}
use Rattle.dispatch_core.specs.Told.{start_for, start_over, told_at}
use Rattle.model_authority.proofs.NumberLemmas.{value_and}
use Rattle.model_authority.specs.Lists.{numbered}
use Rattle.model_histories.specs.Histories.{run}
use Rattle.model_histories.specs.Reading.{order_of}
use Rattle.model_laws.specs.Courses.{OfConnection}
use Rattle.model_laws.specs.TextLaws.{IsToldAt, HasOneOrder, MarksHaveOneOrder}
use Rattle.model_steps.specs.After.{noted}
use Rattle.model_values.specs.declared.config.Config.{Config}
use Rattle.model_values.specs.declared.entry.Act.TheVariants.{Orders}
use Rattle.model_values.specs.declared.entry.Entry.{Entry}
use Rattle.model_values.specs.declared.order.Order.{Order}
use Rattle.model_values.specs.declared.order.Order.TheVariants as order
use Rattle.model_values.specs.declared.order.OrderMark.{OrderMark}
use Rattle.model_values.specs.declared.order.OrderMark.TheVariants as mark
use Rattle.model_values.specs.declared.state.AbstractPool.{AbstractPool}
use Rattle.model_values.specs.declared.state.Connection.{Connection}
use Rattle.model_values.specs.declared.state.Exchange.{Exchange}

-- maps that agree on each item of a list
maps_agree : {A B : Type 0} (f g : A → List B) (xs : List A) → ((x : A) → Contains xs x → f x ≡ g x) → flat_map f xs ≡ flat_map g xs
maps_agree f g [] same = refl
maps_agree f g (x ∷ xs) same =
    ap (λ l. l ++ flat_map f xs) (same x (0, omega arith, refl)) ∙ ap (λ l. g x ++ l) (maps_agree f g xs (λ y there. same y (Contains-append_right (x ∷ []) xs y there)))

told_is : (s : AbstractPool) (c : ConnNo) (m : OrderMark) (told : Order) → IsToldAt s c m told → told_at s c m ≡ told ∷ []
told_is s c (mark.Start e r) told is =
    let start : Exchange → Connection → Order = λ exchange connection. order.Start e r (dressed_for exchange.ask.request connection.group.target) exchange.ask.probe in
    let x = value_and (numbered e.0 s.exchanges) (λ (exchange : Exchange). OfConnection s c (λ (connection : Connection). told ≡ start exchange connection)) is in
    let y = value_and (numbered c.0 s.connections) (λ (connection : Connection). told ≡ start x.0 connection) x.2 in
    ap (λ o. start_for e r o (numbered c.0 s.connections)) x.1 ∙ ap (start_over e r x.0) y.1 ∙ ap (λ (o : Order). o ∷ []) (sym y.2)
told_is s c (mark.Reset r) told is = ap (λ (o : Order). o ∷ []) (sym is)
told_is s c mark.Close told is = ap (λ (o : Order). o ∷ []) (sym is)

-- the moment isn't looked at
told_noted : (s : AbstractPool) (m : Moment) (c : ConnNo) (k : OrderMark) → told_at (noted s m) c k ≡ told_at s c k
unfolding noted
told_noted s m c (mark.Start e r) = refl
told_noted s m c (mark.Reset r) = refl
told_noted s m c mark.Close = refl

-- each mark that is taken has one order, at the state where it is taken
told_once : MarksHaveOneOrder → (v w : PoolView) (who : CallerNo) (moment : Moment) (c : ConnNo) (sent : ℕ) (marks : List OrderMark) (m : OrderMark) →
    Enters v who moment (Orders c sent marks) w → Contains marks m → told_at (run v.config v.history) c m ≡ order_of v.history c m
told_once law v w who moment c sent marks m enters there =
    let x : Entry = record { who = who; moment = moment; act = Orders c sent marks } in
    let n : ℕ = length v.history in
    let at : slice_get w.history n ≡ Some x = ap (λ (h : List Entry). slice_get h n) enters.adds.history ∙ at_end v.history x enters.adds.behind in
    let cut : take n w.history ≡ v.history = ap (take n) enters.adds.history ∙ take-append_seam v.history (x ∷ enters.adds.behind) in
    let one : HasOneOrder w.config w.history n c m = law w.config w.history n x c sent marks m (record { history = enters.history; is_entry = at }) refl there in
    let then : IsToldAt (run w.config v.history) c m one.told = subst (λ (h : List Entry). IsToldAt (run w.config h) c m one.told) cut one.is_told in
    let now : IsToldAt (run v.config v.history) c m one.told = subst (λ (config : Config). IsToldAt (run config v.history) c m one.told) enters.config then in
    let read : order_of v.history c m ≡ one.told ∷ [] = subst (λ (h : List Entry). order_of h c m ≡ one.told ∷ []) cut (one.is_read n (omega arith)) in
    told_is (run v.config v.history) c m one.told now ∙ sym read

pub are_told : MarksHaveOneOrder → (v w : PoolView) (s : AbstractPool) (who : CallerNo) (moment : Moment) (c : ConnNo) (sent : ℕ) (marks : List OrderMark) (list : List Order) →
    s ≡ noted (run v.config v.history) moment → Enters v who moment (Orders c sent marks) w → list ≡ flat_map (told_at s c) marks → list ≡ flat_map (order_of v.history c) marks
are_told law v w s who moment c sent marks list at enters is =
    is ∙ maps_agree (told_at s c) (order_of v.history c) marks
    (λ m there. ap (λ (t : AbstractPool). told_at t c m) at ∙ told_noted (run v.config v.history) moment c m ∙ told_once law v w who moment c sent marks m enters there)
