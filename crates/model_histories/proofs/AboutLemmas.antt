-- What a caller says of one connection, and what it holds by that.
use Rattle.std.proofs.Common.{◌≡◌, zero, List, [], ◌∷◌, ◌++◌, true, false, cond, Option, Some, None, refl, sym, ap, subst, ◌∙◌, append-nil, arith, map}
use Rattle.std.specs.Prelude.{◌==◌, All, Contains, slice_get}
use Rattle.std.specs.List.{flat_map}
use Rattle.std.proofs.lemmas.Bool.{cond_both, cond-true, cond-false}
use Rattle.std.proofs.lemmas.Grind.{flat_map-append}
use Rattle.std.proofs.lemmas.List.Elements.{All-nil, All-cons, All-append, All-weaker, Contains-append_left, Contains-append_right, filter-append}
use Rattle.net_base.specs.declared.numbers.ConnNo.{ConnNo}
use Rattle.net_base.specs.declared.numbers.ExchangeNo.{ExchangeNo}
use Rattle.net_base.specs.declared.numbers.StreamNo.{StreamNo}
use Rattle.net_base.specs.declared.target.Target.{Target}
use Rattle.model_changes.specs.Connections.{started_by, streams_started}
use Rattle.model_histories.proofs.SaidLemmas.{own_from_calls}
use Rattle.model_histories.specs.Port.{PortView, said, Held, held_after, held_from, held_by}
use Rattle.model_histories.specs.Reading.{Own, about, is_about, order_of, start_of, stream_started, streams_of, submissions_of, targets_of}
use Rattle.model_authority.specs.Lists.{numbered}
use Rattle.model_values.specs.declared.entry.Act.{Act}
use Rattle.model_values.specs.declared.entry.Act.TheVariants.{Dial, Orders, Reported, Closed}
use Rattle.model_values.specs.declared.entry.Entry.{Entry}
use Rattle.model_values.specs.declared.order.Order.{Order}
use Rattle.model_values.specs.declared.order.OrderMark.{OrderMark}
use Rattle.model_values.specs.declared.order.OrderMark.TheVariants as mark
use Rattle.model_values.specs.declared.submission.Submission.{Submission}

-- ---- the entries about a connection

about_one : (c : ConnNo) (own : List Own) (o : Own) (l : List Own) → cond (is_about c o.entry.act) (o ∷ []) [] ≡ l → about c (own ++ o ∷ []) ≡ about c own ++ l
unfolding about
about_one c own o l is = filter-append (λ (x : Own). is_about c x.entry.act) own (o ∷ []) ∙ ap (λ (rest : List Own). about c own ++ rest) is

-- an entry about the connection comes behind those that were
pub about_more : (c : ConnNo) (own : List Own) (o : Own) → is_about c o.entry.act ≡ true → about c (own ++ o ∷ []) ≡ about c own ++ o ∷ []
about_more c own o is = about_one c own o (o ∷ []) (cond-true (is_about c o.entry.act) (o ∷ []) [] is)

-- an entry about another connection leaves them
pub about_other : (c : ConnNo) (own : List Own) (o : Own) → is_about c o.entry.act ≡ false → about c (own ++ o ∷ []) ≡ about c own
about_other c own o other = about_one c own o [] (cond-false (is_about c o.entry.act) (o ∷ []) [] other) ∙ append-nil (about c own)

-- ---- what is held

pub held_from-append : (c : ConnNo) (h : Option Held) (xs ys : List Entry) → held_from c h (xs ++ ys) ≡ held_from c (held_from c h xs) ys
unfolding held_from
held_from-append c h [] ys = refl
held_from-append c h (x ∷ xs) ys = held_from-append c (held_after c h x.act) xs ys

-- an act about another connection leaves what is held
pub held_other : (c : ConnNo) (h : Option Held) (act : Act) → is_about c act ≡ false → held_after c h act ≡ h
held_other c h (Dial conn target) other = cond-false (conn.0 == c.0) _ h other
held_other c h (Orders conn sent orders) other = cond-false (conn.0 == c.0) _ h other
held_other c h (Reported conn sent r) other = cond-false (conn.0 == c.0) _ h other
held_other c h (Closed conn sent end heard) other = cond-false (conn.0 == c.0) _ h other
held_other c h _ other = refl

held_about : (c : ConnNo) (h : Option Held) (own : List Own) → held_from c h (map (λ (o : Own). o.entry) own) ≡ held_from c h (map (λ (o : Own). o.entry) (about c own))
unfolding held_from about
held_about c h [] = refl
held_about c h (o ∷ own) =
    let left : Option Held = held_after c h o.entry.act in
    cond_both (is_about c o.entry.act) (o ∷ about c own) (about c own) (λ (l : List Own). held_from c left (map (λ (x : Own). x.entry) own) ≡ held_from c h (map (λ (x : Own). x.entry) l))
    (λ is. held_about c left own)
    (λ other. ap (λ (k : Option Held). held_from c k (map (λ (x : Own). x.entry) own)) (held_other c h o.entry.act other) ∙ held_about c h own)

-- what a port's caller holds of a connection is read off what it says of it
pub held_at : (v : PortView) (c : ConnNo) → held_by v c ≡ held_from c None (map (λ o. o.entry) (about c (said v)))
held_at v c = ap (λ (l : List Entry). held_from c None l) (sym (own_from_calls [] v.mine v.seen)) ∙ held_about c None (said v)

-- ---- streams that orders start

abbrev AreIn : List StreamNo → List Order → Type 0
AreIn rs orders = All (Contains rs) (streams_of orders)

none_started : (rs : List StreamNo) → AreIn rs []
none_started rs = All-nil (Contains rs)

start_started : (e : ExchangeNo) (r : StreamNo) (ask : Option Submission) (target : Option Target) → AreIn (r ∷ []) (start_of e r ask target)
start_started e r None target = none_started (r ∷ [])
start_started e r (Some ask) None = none_started (r ∷ [])
start_started e r (Some ask) (Some target) = All-cons (Contains (r ∷ [])) r [] (zero, omega arith, refl) (none_started (r ∷ []))

mark_started : (h : List Entry) (c : ConnNo) (m : OrderMark) → AreIn (started_by m) (order_of h c m)
mark_started h c (mark.Start e r) = start_started e r (numbered e.0 (submissions_of h)) (slice_get (targets_of h c) 0)
mark_started h c (mark.Reset r) = none_started []
mark_started h c mark.Close = none_started []

-- the orders of marks start no other streams than the marks
pub streams_marked : (h : List Entry) (c : ConnNo) (marks : List OrderMark) → All (λ r. Contains (streams_started marks) r) (streams_of (flat_map (order_of h c) marks))
streams_marked h c [] = none_started []
streams_marked h c (m ∷ marks) =
    let all : List StreamNo = started_by m ++ streams_started marks in
    let first : List Order = order_of h c m in
    let rest : List Order = flat_map (order_of h c) marks in
    let here : AreIn all first =
    All-weaker (Contains (started_by m)) (Contains all) (λ r has. Contains-append_left (started_by m) (streams_started marks) r has) (streams_of first) (mark_started h c m) in
    let later : AreIn all rest =
    All-weaker (Contains (streams_started marks)) (Contains all) (λ r has. Contains-append_right (started_by m) (streams_started marks) r has) (streams_of rest) (streams_marked h c marks) in
    subst (All (Contains all)) (sym (flat_map-append stream_started first rest)) (All-append (Contains all) (streams_of first) (streams_of rest) here later)
