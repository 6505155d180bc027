-- Each mark of an Orders of a history has one order, which no further entry changes; who dials a connection takes them all; and which
-- of them are starts.
use Rattle.std.proofs.Common.{◌≡◌, ◌≢◌, ◌≤◌, ℕ, suc, List, [], ◌∷◌, ◌++◌, Option, Some, None, Bool, true, false, cond, refl, sym, ap, subst, ◌∙◌, arith, append_assoc, append-nil, length, take, drop, slice_get, IsTrue, IsSome, zero, ◌↔◌, map, inl, inr}
use Rattle.std.specs.Prelude.{◌==◌, Contains, filter}
use Rattle.std.specs.List.{flat_map}
use Rattle.std.proofs.lemmas.Bool.{cond-true, eqb-true, eq-eqb, cond_both}
use Rattle.std.proofs.lemmas.Grind.{flat_map-append}
use Rattle.std.proofs.lemmas.List.{take_all, take-take, take-append-drop}
use Rattle.std.proofs.lemmas.Option.{slice_get_within}
use Rattle.std.proofs.lemmas.List.Elements.{Contains-append_left, Contains-append_right, Contains-push, All-contains, All-filter, All-contains_itself, filter_passes, Contains-append_cases, Contains-push_cases}
use Rattle.net_base.specs.Dressing.{dressed_for}
use Rattle.net_base.specs.declared.numbers.CallerNo.{CallerNo}
use Rattle.net_base.specs.declared.numbers.ConnNo.{ConnNo}
use Rattle.net_base.specs.declared.numbers.ExchangeNo.{ExchangeNo}
use Rattle.net_base.specs.declared.numbers.StreamNo.{StreamNo}
use Rattle.net_base.specs.declared.target.Target.{Target}
use Rattle.model_laws.proofs.AskedLemmas.{numbered_front, exchanges_are_submissions}
use Rattle.model_laws.proofs.DialedLemmas.{conn_is, dial_about, targets_have, one_speaker}
use Rattle.model_laws.proofs.PendingLemmas.{pending_there}
use Rattle.model_laws.proofs.WorkerLemmas.{may_order}
use Rattle.model_laws.specs.Courses.{state_at, Comes, OfConnection}
use Rattle.model_laws.specs.TextLaws.{AreOne, IsToldAt, MarksHaveOneOrder, given_to, OrdersAreTheDialers, IsStart, StartsAreOrders, OwnEntriesAreCalls}
use Rattle.model_histories.specs.Histories.{IsHistory}
use Rattle.model_histories.specs.Legal.{IsWorkersEntry, MayTake}
use Rattle.model_histories.specs.Reading.{is_about, accepted_by, submissions_of, dialed_by, targets_of, marks_by, start_of, order_of, given_by, Own, own_from, calls_of, orders_of, is_start_order}
use Rattle.model_authority.proofs.NumberLemmas.{value_and, and_value}
use Rattle.model_authority.specs.Lists.{numbered}
use Rattle.model_values.specs.declared.config.Config.{Config}
use Rattle.model_values.specs.declared.entry.Act.{Act}
use Rattle.model_values.specs.declared.entry.Act.TheVariants.{Orders}
use Rattle.model_values.specs.declared.entry.Entry.{Entry}
use Rattle.model_values.specs.declared.order.Order.{Order}
use Rattle.model_values.specs.declared.order.Order.TheVariants as order
use Rattle.model_values.specs.declared.order.OrderMark.{OrderMark}
use Rattle.model_values.specs.declared.order.OrderMark.TheVariants as mark
use Rattle.model_values.specs.declared.state.AbstractPool.{AbstractPool}
use Rattle.model_values.specs.declared.state.Connection.{Connection}
use Rattle.model_values.specs.declared.state.Exchange.{Exchange}
use Rattle.model_values.specs.declared.submission.Submission.{Submission}

-- ---- an order that is there stays

get_front : {A : Type 0} (xs ys : List A) (k : ℕ) (x : A) → slice_get xs k ≡ Some x → slice_get (xs ++ ys) k ≡ Some x
get_front [] ys k x is = absurd cc
get_front (z ∷ xs) ys zero x is = is
get_front (z ∷ xs) ys (suc k) x is = get_front xs ys k x is

submissions_front : (es more : List Entry) (e : ExchangeNo) (ask : Submission) → numbered e.0 (submissions_of es) ≡ Some ask → numbered e.0 (submissions_of (es ++ more)) ≡ Some ask
submissions_front es more e ask is =
    ap (λ xs. numbered e.0 xs) (flat_map-append (λ (x : Entry). accepted_by x.act) es more) ∙ numbered_front e.0 (submissions_of es) (submissions_of more) ask is

targets_front : (es more : List Entry) (c : ConnNo) (t : Target) → slice_get (targets_of es c) 0 ≡ Some t → slice_get (targets_of (es ++ more) c) 0 ≡ Some t
targets_front es more c t is =
    ap (λ (ts : List Target). slice_get ts 0) (flat_map-append (λ (x : Entry). dialed_by c x.act) es more) ∙ get_front (targets_of es c) (targets_of more c) 0 t is

-- once a mark has its order, more entries change nothing of it
pub order_stays : (es more : List Entry) (c : ConnNo) (m : OrderMark) (told : Order) → order_of es c m ≡ told ∷ [] → order_of (es ++ more) c m ≡ told ∷ []
order_stays es more c (mark.Reset r) told is = is
order_stays es more c mark.Close told is = is
order_stays es more c (mark.Start e r) told is = by (numbered e.0 (submissions_of es)) refl (slice_get (targets_of es c) 0) refl is
  where
    by : (o : Option Submission) → numbered e.0 (submissions_of es) ≡ o → (p : Option Target) → slice_get (targets_of es c) 0 ≡ p → start_of e r o p ≡ told ∷ [] →
        order_of (es ++ more) c (mark.Start e r) ≡ told ∷ []
    by None none p q k = absurd cc
    by (Some ask) some None none k = absurd cc
    by (Some ask) some (Some t) goes k =
        ap (λ o. start_of e r o (slice_get (targets_of (es ++ more) c) 0)) (submissions_front es more e ask some)
        ∙ ap (λ p. start_of e r (Some ask) p) (targets_front es more c t goes)
        ∙ k

-- ---- the order of a mark

-- the connection whose orders are taken, which a caller has
record IsTaking (s : AbstractPool) (c : ConnNo) (orders : List OrderMark) : Type 0 where
  connection : Connection
  is_connection : numbered c.0 s.connections ≡ Some connection
  has : connection.caller.0 ≢ 0
  taken : orders ≡ connection.orders

taking : (config : Config) (h : List Entry) (n : ℕ) (x : Entry) (c : ConnNo) (sent : ℕ) (orders : List OrderMark) → Comes config h n x → x.act ≡ Orders c sent orders →
    IsTaking (state_at config h n) c orders
taking config h n x c sent orders comes is =
    let s : AbstractPool = state_at config h n in
    let may = may_order s x c sent orders is (comes.history.each n x comes.is_entry).legal in
    let v = value_and (numbered c.0 s.connections) (λ y. IsWorkersEntry y x.who sent × MayTake y orders) may.1 in
    record {
      connection = v.0;
      is_connection = v.1;
      has = λ none. may.0 (ap (λ (k : CallerNo). k.0) (sym v.2.0.caller) ∙ none);
      taken = v.2.1.1;
    }

some_value : {A : Type 0} (o : Option A) → IsSome o → (x : A) × (o ≡ Some x)
some_value None there = absurd cc
some_value (Some x) there = (x, refl)

-- a start of an exchange that is there, for a connection that was dialed
start_is : (es : List Entry) (c : ConnNo) (e : ExchangeNo) (r : StreamNo) (u : Exchange) (t : Target) (o : Option Submission) → numbered e.0 (submissions_of es) ≡ o → AreOne o (Some u) →
    targets_of es c ≡ t ∷ [] → order_of es c (mark.Start e r) ≡ order.Start e r (dressed_for u.ask.request t) u.ask.probe ∷ []
start_is es c e r u t None none one goes = absurd one
start_is es c e r u t (Some ask) some one goes =
    ap (λ o. start_of e r o (slice_get (targets_of es c) 0)) some
    ∙ ap (λ (ts : List Target). start_of e r (Some ask) (slice_get ts 0)) goes
    ∙ ap (λ (a : Submission). order.Start e r (dressed_for a.request t) a.probe ∷ []) (sym asked)
  where
    asked : record u.ask { urgency = ask.urgency } ≡ ask
    asked = ap (λ (a : Submission). record a { urgency = ask.urgency }) one

-- the mark has the order that the state says, read with the entries so far
record IsRead (config : Config) (h : List Entry) (n : ℕ) (c : ConnNo) (m : OrderMark) : Type 0 where
  told : Order
  is_told : IsToldAt (state_at config h n) c m told
  is_read : order_of (take n h) c m ≡ told ∷ []

read_mark : (config : Config) (h : List Entry) (n : ℕ) (c : ConnNo) (orders : List OrderMark) (m : OrderMark) → IsHistory config h → IsTaking (state_at config h n) c orders → Contains orders m →
    IsRead config h n c m
read_mark config h n c orders (mark.Reset r) history taking has = record { told = order.Reset r; is_told = refl; is_read = refl }
read_mark config h n c orders mark.Close history taking has = record { told = order.Close; is_told = refl; is_read = refl }
read_mark config h n c orders (mark.Start e r) history taking has =
    let s : AbstractPool = state_at config h n in
    let y : Connection = taking.connection in
    let there = pending_there config h n c.0 y e r history taking.is_connection (subst (λ (ms : List OrderMark). Contains ms (mark.Start e r)) taking.taken has) in
    let v = some_value (numbered e.0 s.exchanges) there in
    let u : Exchange = v.0 in
    let one : AreOne (numbered e.0 (submissions_of (take n h))) (Some u) = subst (AreOne (numbered e.0 (submissions_of (take n h)))) v.1 (exchanges_are_submissions config (take n h) e.0) in
    let told : Order = order.Start e r (dressed_for u.ask.request y.group.target) u.ask.probe in
    record {
      told = told;
      is_told = and_value (numbered e.0 s.exchanges)
          (λ x. OfConnection s c (λ connection. told ≡ order.Start e r (dressed_for x.ask.request connection.group.target) x.ask.probe)) u v.1
          (and_value (numbered c.0 s.connections) (λ connection. told ≡ order.Start e r (dressed_for u.ask.request connection.group.target) u.ask.probe) y taking.is_connection refl);
      is_read = start_is (take n h) c e r u y.group.target (numbered e.0 (submissions_of (take n h))) refl one (targets_have config h n c y history taking.is_connection taking.has);
    }

-- more of the history begins with less
take_on : {A : Type 0} (h : List A) (n k : ℕ) → n ≤ k → take n h ++ drop n (take k h) ≡ take k h
take_on h n k most = ap (λ front. front ++ drop n (take k h)) (sym (take-take n k h most)) ∙ take-append-drop n (take k h)

pub marks_have_one_order : MarksHaveOneOrder
marks_have_one_order config h n x c sent orders m comes is has =
    let one = read_mark config h n c orders m comes.history (taking config h n x c sent orders comes is) has in
    record {
      told = one.told;
      is_told = one.is_told;
      is_read = λ k most. subst (λ (es : List Entry). order_of es c m ≡ one.told ∷ []) (take_on h n k most) (order_stays (take n h) (drop n (take k h)) c m one.told one.is_read);
    }

-- ---- all orders of a connection

flat_map_same : {A B : Type 0} (f g : A → List B) (xs : List A) → ((x : A) → Contains xs x → f x ≡ g x) → flat_map f xs ≡ flat_map g xs
flat_map_same f g [] same = refl
flat_map_same f g (x ∷ xs) same =
    ap (λ ys. ys ++ flat_map f xs) (same x (Contains-append_left (x ∷ []) xs x (Contains-push [] x)))
    ∙ ap (λ ys. g x ++ ys) (flat_map_same f g xs (λ y h. same y (Contains-append_right (x ∷ []) xs y h)))

-- the orders of the entry, read with the whole list, are those of an own entry of this caller, read with the entries before
abbrev IsOwnPart : List Entry → ConnNo → CallerNo → List Entry → Entry → Type 0
IsOwnPart h c who before e = flat_map (order_of h c) (marks_by c e.act) ≡ cond (e.who.0 == who.0) (given_to c (record { entry = e; orders = given_by before e.act })) []

one_own : (c : ConnNo) (b : Bool) (o : Own) (os : List Own) → flat_map (given_to c) (cond b (o ∷ os) os) ≡ cond b (given_to c o) [] ++ flat_map (given_to c) os
one_own c true o os = refl
one_own c false o os = refl

own_parts : (h : List Entry) (c : ConnNo) (who : CallerNo) (before es : List Entry) → ((i : ℕ) (e : Entry) → slice_get es i ≡ Some e → IsOwnPart h c who (before ++ take i es) e) →
    flat_map (order_of h c) (flat_map (λ (x : Entry). marks_by c x.act) es) ≡ flat_map (given_to c) (own_from before who es)
unfolding own_from
own_parts h c who before [] each = refl
own_parts h c who before (e ∷ es) each =
    let own : Own = record { entry = e; orders = given_by before e.act } in
    let rest : List Own = own_from (before ++ e ∷ []) who es in
    let first : IsOwnPart h c who before e = subst (λ (front : List Entry). IsOwnPart h c who front e) (append-nil before) (each 0 e refl) in
    flat_map-append (order_of h c) (marks_by c e.act) (flat_map (λ (x : Entry). marks_by c x.act) es)
    ∙ ap (λ ys. ys ++ flat_map (order_of h c) (flat_map (λ (x : Entry). marks_by c x.act) es)) first
    ∙ ap (λ ys. cond (e.who.0 == who.0) (given_to c own) [] ++ ys)
    (own_parts h c who (before ++ e ∷ []) es
    (λ i x is. subst (λ (front : List Entry). IsOwnPart h c who front x) (sym (append_assoc before (e ∷ []) (take i es))) (each (suc i) x is)))
    ∙ sym (one_own c (e.who.0 == who.0) own rest)

nothing : (a b : Bool) (none : List Order) → none ≡ [] → [] ≡ cond a (cond b none []) []
nothing true true none is = sym is
nothing true false none is = refl
nothing false b none is = refl

-- an entry that takes orders of this connection is of the one who dials it
taken_part : (config : Config) (h : List Entry) (i : ℕ) (e : Entry) (c conn : ConnNo) (sent : ℕ) (orders : List OrderMark) (who : CallerNo) → Comes config h i e → e.act ≡ Orders conn sent orders →
    (IsTrue (is_about c e.act) → e.who ≡ who) → (b : Bool) → (conn.0 == c.0) ≡ b →
    flat_map (order_of h c) (cond b orders []) ≡ cond (e.who.0 == who.0) (cond b (flat_map (order_of (take i h) conn) orders) []) []
taken_part config h i e c conn sent orders who comes is own true at =
    let same : conn ≡ c = conn_is conn c (eqb-true conn.0 c.0 at) in
    let mine : e.who ≡ who = own (subst (λ (act : Act). IsTrue (is_about c act)) (sym is) at) in
    let here : e.act ≡ Orders c sent orders = subst (λ (d : ConnNo). e.act ≡ Orders d sent orders) same is in
    let whole : take (length h) h ≡ h = take_all (length h) h (omega arith) in
    flat_map_same (order_of h c) (order_of (take i h) c) orders
    (λ m has.
    let one = marks_have_one_order config h i e c sent orders m comes here has in
    let most = slice_get_within h i e comes.is_entry in
    subst (λ (es : List Entry). order_of es c m ≡ one.told ∷ []) whole (one.is_read (length h) (omega arith)) ∙ sym (one.is_read i (omega arith)))
    ∙ ap (λ (d : ConnNo). flat_map (order_of (take i h) d) orders) (sym same)
    ∙ sym (cond-true (e.who.0 == who.0) (flat_map (order_of (take i h) conn) orders) [] (eq-eqb e.who.0 who.0 (ap (λ (k : CallerNo). k.0) mine)))
taken_part config h i e c conn sent orders who comes is own false at = nothing (e.who.0 == who.0) false [] refl

own_part : (config : Config) (h : List Entry) (i : ℕ) (e : Entry) (c : ConnNo) (who : CallerNo) → Comes config h i e → (IsTrue (is_about c e.act) → e.who ≡ who) → IsOwnPart h c who (take i h) e
own_part config h i e c who comes own = by e.act refl
  where
    by : (act : Act) → e.act ≡ act → flat_map (order_of h c) (marks_by c act) ≡ cond (e.who.0 == who.0) (cond (is_about c act) (given_by (take i h) act) []) []
    by (Orders conn sent orders) is = taken_part config h i e c conn sent orders who comes is own (conn.0 == c.0) refl
    by act is = nothing (e.who.0 == who.0) (is_about c act) [] refl

pub orders_are_the_dialers : OrdersAreTheDialers
orders_are_the_dialers config h n x c goes_to comes is =
    own_parts h c x.who [] h
    (λ i e is_entry. own_part config h i e c x.who (record { history = comes.history; is_entry = is_entry })
    (λ about. one_speaker config h n i x e c comes.history comes.is_entry is_entry (dial_about c x.act goes_to is) about))

-- ---- starts

-- what a filter leaves
pub kept_in : {A : Type 0} (test : A → Bool) (xs : List A) (x : A) → Contains (filter test xs) x → Contains xs x × (test x ≡ true)
kept_in test xs x h = (
  All-contains (λ y. Contains xs y) (filter test xs) x (All-filter test (λ y. Contains xs y) xs (All-contains_itself xs)) h,
  All-contains (λ y. test y ≡ true) (filter test xs) x (filter_passes test xs) h,
)

pub in_kept : {A : Type 0} (test : A → Bool) (xs : List A) (x : A) → Contains xs x → test x ≡ true → Contains (filter test xs) x
in_kept test [] x h t = h
in_kept {A} test (y ∷ xs) x h t =
    let rest : Contains xs x → Contains (filter test xs) x = λ later. in_kept test xs x later t in
    cond_both (test y) (y ∷ filter test xs) (filter test xs) (λ (ys : List A). Contains ys x)
    (λ k. elim (Contains-append_cases (y ∷ []) xs x h) [
      | inl first ↦ Contains-append_left (y ∷ []) (filter test xs) x first
      | inr later ↦ Contains-append_right (y ∷ []) (filter test xs) x (rest later)
    ])
    (λ f. elim (Contains-append_cases (y ∷ []) xs x h) [
      | inl first ↦ elim (Contains-push_cases [] y x first) [
        | inl none ↦ absurd (omega (arith, none.1))
        | inr same ↦ let never : false ≡ true = sym f ∙ ap test same ∙ t in absurd cc
      ]
      | inr later ↦ rest later
    ])

start_is_tested : (told : Order) → (is_start_order told ≡ true) ↔ IsStart told
start_is_tested (order.Start e r request probe) = ((λ t. tt), (λ s. refl))
start_is_tested (order.Reset r) = ((λ t. absurd cc), (λ s. absurd s))
start_is_tested order.Close = ((λ t. absurd cc), (λ s. absurd s))

pub starts_are_orders : StartsAreOrders
starts_are_orders h c told = (
  (λ h_start. let both = kept_in is_start_order (orders_of h c) told h_start in (both.0, (start_is_tested told).0 both.1)),
  (λ both. in_kept is_start_order (orders_of h c) told both.0 ((start_is_tested told).1 both.1)),
)

-- ---- own entries

one_entry : (b : Bool) (own : Own) (owns : List Own) (es : List Entry) → map (λ (o : Own). o.entry) owns ≡ es → map (λ (o : Own). o.entry) (cond b (own ∷ owns) owns) ≡ cond b (own.entry ∷ es) es
one_entry true own owns es same = ap (λ (l : List Entry). own.entry ∷ l) same
one_entry false own owns es same = same

own_calls : (before : List Entry) (who : CallerNo) (es : List Entry) → map (λ (o : Own). o.entry) (own_from before who es) ≡ calls_of es who
unfolding own_from
own_calls before who [] = refl
own_calls before who (e ∷ es) =
    one_entry (e.who.0 == who.0) (record { entry = e; orders = given_by before e.act }) (own_from (before ++ e ∷ []) who es) (calls_of es who) (own_calls (before ++ e ∷ []) who es)

pub own_entries_are_calls : OwnEntriesAreCalls
own_entries_are_calls h who = own_calls [] who h
