-- The streams that were started on a connection are those of the starts that its worker was handed, in order; so these rise.
use Rattle.std.proofs.Common.{◌≡◌, ◌<◌, ◌≤◌, ℕ, zero, suc, List, [], ◌∷◌, ◌++◌, Option, Some, None, Bool, true, false, cond, inl, inr, refl, sym, ap, subst, ◌∙◌, arith, append-nil, length, take, slice_get, IsTrue, Contains, AllPairs, filter}
use Rattle.std.specs.Prelude.{◌==◌}
use Rattle.std.specs.List.{flat_map}
use Rattle.std.proofs.lemmas.Bool.{cond-true, eqb-true, eq-eqb, both_ways}
use Rattle.std.proofs.lemmas.Grind.{flat_map-append}
use Rattle.std.proofs.lemmas.List.{take_all}
use Rattle.std.proofs.lemmas.List.Elements.{Contains-append_right}
use Rattle.std.proofs.lemmas.Option.{slice_get_within}
use Rattle.net_base.specs.declared.numbers.CallerNo.{CallerNo}
use Rattle.net_base.specs.declared.numbers.ConnNo.{ConnNo}
use Rattle.net_base.specs.declared.numbers.StreamNo.{StreamNo}
use Rattle.net_base.specs.declared.target.Target.{Target}
use Rattle.model_changes.specs.Connections.{started_by, streams_started, with_start}
use Rattle.model_laws.proofs.CourseLemmas.{each_beginning}
use Rattle.model_laws.proofs.DialedLemmas.{conn_is}
use Rattle.model_laws.proofs.OrderLemmas.{marks_have_one_order}
use Rattle.model_laws.proofs.RowLemmas.{pairs_none}
use Rattle.model_laws.proofs.SoundLemmas.{reached_is_sound}
use Rattle.model_laws.proofs.StartLemmas.{like_reported}
use Rattle.model_laws.proofs.StartSteps.{like_leaves}
use Rattle.model_laws.proofs.WorkerLemmas.{may_order}
use Rattle.model_laws.proofs.StreamLemmas.{pairs_front}
use Rattle.model_laws.specs.Courses.{state_at, Comes}
use Rattle.model_laws.specs.StartLaws.{StartsRise}
use Rattle.model_laws.specs.TextLaws.{HasOneOrder}
use Rattle.model_histories.proofs.EditLemmas.{none_numbered}
use Rattle.model_histories.proofs.EffectLemmas.{Changes, OneChanges, effect_act, effect_at}
use Rattle.model_histories.proofs.RunLemmas.{run_none, run-push}
use Rattle.model_histories.specs.Histories.{run, MayStand, IsHistory}
use Rattle.model_histories.specs.Legal.{IsWorkersEntry, MayTake}
use Rattle.model_histories.specs.Reading.{submissions_of, targets_of, marks_by, marks_of, start_of, order_of, orders_of, is_start_order, stream_started, streams_of, given_by, is_about}
use Rattle.model_steps.specs.After.{noted, after_act, after}
use Rattle.model_authority.proofs.NumberLemmas.{option_cases, value_and}
use Rattle.model_authority.specs.Lists.{numbered}
use Rattle.model_values.specs.declared.config.Config.{Config}
use Rattle.model_values.specs.declared.entry.Act.{Act}
use Rattle.model_values.specs.declared.entry.Act.TheVariants.{Dial, Orders, Reported, Closed, Assign}
use Rattle.model_values.specs.declared.entry.Entry.{Entry}
use Rattle.model_values.specs.declared.order.Order.{Order}
use Rattle.model_values.specs.declared.order.Order.TheVariants as order
use Rattle.model_values.specs.declared.order.OrderMark.{OrderMark}
use Rattle.model_values.specs.declared.order.OrderMark.TheVariants as mark
use Rattle.model_values.specs.declared.state.AbstractPool.{AbstractPool}
use Rattle.model_values.specs.declared.state.Connection.{Connection}
use Rattle.model_values.specs.declared.submission.Submission.{Submission}

-- ---- the streams of orders

-- those of the starts among them
starts_streams : (orders : List Order) → streams_of (filter is_start_order orders) ≡ streams_of orders
starts_streams [] = refl
starts_streams (order.Start e r request probe ∷ orders) = ap (λ (rs : List StreamNo). r ∷ rs) (starts_streams orders)
starts_streams (order.Reset r ∷ orders) = starts_streams orders
starts_streams (order.Close ∷ orders) = starts_streams orders

-- a mark that has one order starts the same
mark_streams : (es : List Entry) (c : ConnNo) (m : OrderMark) (told : Order) → order_of es c m ≡ told ∷ [] → streams_of (order_of es c m) ≡ started_by m
mark_streams es c (mark.Start e r) told is = by (numbered e.0 (submissions_of es)) (slice_get (targets_of es c) 0) is
  where
    by : (o : Option Submission) (p : Option Target) → start_of e r o p ≡ told ∷ [] → streams_of (start_of e r o p) ≡ r ∷ []
    by None p none = absurd cc
    by (Some ask) None none = absurd cc
    by (Some ask) (Some t) one = refl
mark_streams es c (mark.Reset r) told is = refl
mark_streams es c mark.Close told is = refl

marks_streams : (es : List Entry) (c : ConnNo) (ms : List OrderMark) → ((m : OrderMark) → Contains ms m → (told : Order) × (order_of es c m ≡ told ∷ [])) →
    streams_of (flat_map (order_of es c) ms) ≡ streams_started ms
marks_streams es c [] each = refl
marks_streams es c (m ∷ ms) each =
    let one = each m (zero, omega arith, refl) in
    flat_map-append stream_started (order_of es c m) (flat_map (order_of es c) ms)
    ∙ ap (λ (rs : List StreamNo). rs ++ streams_of (flat_map (order_of es c) ms)) (mark_streams es c m one.0 one.1)
    ∙ ap (λ (rs : List StreamNo). started_by m ++ rs) (marks_streams es c ms (λ n has. each n (Contains-append_right (m ∷ []) ms n has)))

-- the orders of an entry that takes some, read with the entries before it in hand or with more
orders_streams : (config : Config) (h : List Entry) (n k : ℕ) (x : Entry) (c : ConnNo) (sent : ℕ) (orders : List OrderMark) → Comes config h n x →
    x.act ≡ Orders c sent orders → n ≤ k →
    streams_of (flat_map (order_of (take k h) c) orders) ≡ streams_started orders
orders_streams config h n k x c sent orders comes is later =
    marks_streams (take k h) c orders
    (λ m has. let one : HasOneOrder config h n c m = marks_have_one_order config h n x c sent orders m comes is has in (one.told, one.is_read k later))

act_streams : (config : Config) (h : List Entry) (n k : ℕ) (x : Entry) (c : ConnNo) → Comes config h n x → n ≤ k →
    streams_of (flat_map (order_of (take k h) c) (marks_by c x.act)) ≡ streams_started (marks_by c x.act)
act_streams config h n k x c comes later = by x.act refl
  where
    at : (conn : ConnNo) (sent : ℕ) (orders : List OrderMark) → x.act ≡ Orders conn sent orders → (b : Bool) → (conn.0 == c.0) ≡ b →
        streams_of (flat_map (order_of (take k h) c) (cond b orders [])) ≡ streams_started (cond b orders [])
    at conn sent orders is true here =
        orders_streams config h n k x c sent orders comes (is ∙ ap (λ (d : ConnNo). Orders d sent orders) (conn_is conn c (eqb-true conn.0 c.0 here))) later
    at conn sent orders is false apart = refl

    by : (act : Act) → x.act ≡ act → streams_of (flat_map (order_of (take k h) c) (marks_by c act)) ≡ streams_started (marks_by c act)
    by (Orders conn sent orders) is = at conn sent orders is (conn.0 == c.0) refl
    by _ is = refl

-- of an entry about the connection, with the entries before it in hand
pub given_streams : (config : Config) (h : List Entry) (n : ℕ) (x : Entry) (c : ConnNo) → Comes config h n x → IsTrue (is_about c x.act) →
    streams_of (given_by (take n h) x.act) ≡ streams_started (marks_by c x.act)
given_streams config h n x c comes about = by x.act refl about
  where
    by : (act : Act) → x.act ≡ act → IsTrue (is_about c act) → streams_of (given_by (take n h) act) ≡ streams_started (marks_by c act)
    by (Orders conn sent orders) is here =
        let same : conn ≡ c = conn_is conn c (eqb-true conn.0 c.0 here) in
        orders_streams config h n n x conn sent orders comes is (omega arith) ∙ ap streams_started (sym (cond-true (conn.0 == c.0) orders [] here))
    by _ is here = refl

-- ---- the streams that were started

abbrev pub started_of : Option Connection → List StreamNo
started_of None = []
started_of (Some y) = y.started

abbrev TakesNone : Act → Type 0
TakesNone (Orders c sent orders) = ⊥
TakesNone _ = Unit {0}

same_change : (s : AbstractPool) (who : CallerNo) (act : Act) (x y : Connection) → Changes s who act x y → TakesNone act → y.started ≡ x.started
unfolding with_start
same_change s who (Orders c sent orders) x y is none = absurd none
same_change s who (Dial c target) x y is none = ap (λ (z : Connection). z.started) is
same_change s who (Reported c sent r) x y is none = like_reported s sent r x y is
same_change s who (Closed c sent cause heard) x y is none = ap (λ (z : Connection). z.started) is
same_change s who (Assign e c r by) x y is none = ap (λ (z : Connection). z.started) is
same_change s who _ x y is none = like_leaves x y is

-- an act that takes no orders starts nothing
same_act : (s : AbstractPool) (who : CallerNo) (act : Act) (c : ConnNo) → TakesNone act →
    started_of (numbered c.0 (after_act s who act).connections) ≡ started_of (numbered c.0 s.connections)
same_act s who act c none =
    effect_at (λ n o p. started_of p ≡ started_of o) s who act (λ n. refl) (λ n x y k. like_leaves x y k) (λ adds n y new. ap (λ (z : Connection). z.started) new.is_new)
    (λ x y is_item is. same_change s who act x y is none) c.0

-- one that takes orders of a connection that is there starts their streams on it
taken_act : (s : AbstractPool) (who : CallerNo) (conn : ConnNo) (sent : ℕ) (orders : List OrderMark) (x : Connection) (c : ConnNo) →
    numbered conn.0 s.connections ≡ Some x → (b : Bool) → (conn.0 == c.0) ≡ b →
    started_of (numbered c.0 (after_act s who (Orders conn sent orders)).connections) ≡ started_of (numbered c.0 s.connections) ++ streams_started (cond b orders [])
taken_act s who conn sent orders x c is_item true here =
    let effect : OneChanges s who (Orders conn sent orders) (after_act s who (Orders conn sent orders)).connections = effect_act s who (Orders conn sent orders) in
    let left = effect.changed x is_item in
    let same : conn.0 ≡ c.0 = eqb-true conn.0 c.0 here in
    ap (λ (n : ℕ). started_of (numbered n (after_act s who (Orders conn sent orders)).connections)) (sym same)
    ∙ ap started_of left.1
    ∙ ap (λ (z : Connection). z.started) left.2
    ∙ ap (λ (rs : List StreamNo). rs ++ streams_started orders) (sym (ap (λ (n : ℕ). started_of (numbered n s.connections)) (sym same) ∙ ap started_of is_item))
taken_act s who conn sent orders x c is_item false apart =
    let effect : OneChanges s who (Orders conn sent orders) (after_act s who (Orders conn sent orders)).connections = effect_act s who (Orders conn sent orders) in
    ap started_of (effect.others c.0 (λ same. both_ways (conn.0 == c.0) apart (eq-eqb conn.0 c.0 (sym same)))) ∙ sym (append-nil (started_of (numbered c.0 s.connections)))

started_after : (s : AbstractPool) (e : Entry) (c : ConnNo) → MayStand s e →
    started_of (numbered c.0 (after s e).connections) ≡ started_of (numbered c.0 s.connections) ++ streams_started (marks_by c e.act)
unfolding after noted
started_after s e c stand = by e.act refl
  where
    t : AbstractPool
    t = noted s e.moment

    none : (act : Act) → TakesNone act → marks_by c act ≡ [] →
        started_of (numbered c.0 (after_act t e.who act).connections) ≡ started_of (numbered c.0 s.connections) ++ streams_started (marks_by c act)
    none act takes is =
        same_act t e.who act c takes
        ∙ sym (append-nil (started_of (numbered c.0 s.connections)))
        ∙ ap (λ (ms : List OrderMark). started_of (numbered c.0 s.connections) ++ streams_started ms) (sym is)

    by : (act : Act) → e.act ≡ act → started_of (numbered c.0 (after_act t e.who act).connections) ≡ started_of (numbered c.0 s.connections) ++ streams_started (marks_by c act)
    by (Orders conn sent orders) is =
        let may = (may_order s e conn sent orders is stand.legal).1 in
        let v = value_and (numbered conn.0 s.connections) (λ y. IsWorkersEntry y e.who sent × MayTake y orders) may in
        taken_act t e.who conn sent orders v.0 c v.1 (conn.0 == c.0) refl
    by act is = none act tt refl

-- ---- at each state of a history

marks_push : (es : List Entry) (e : Entry) (c : ConnNo) → marks_of (es ++ e ∷ []) c ≡ marks_of es c ++ marks_by c e.act
marks_push es e c = flat_map-append (λ (x : Entry). marks_by c x.act) es (e ∷ []) ∙ ap (λ (ms : List OrderMark). marks_of es c ++ ms) (append-nil (marks_by c e.act))

pub streams_push : (es : List Entry) (e : Entry) (c : ConnNo) →
    streams_started (marks_of (es ++ e ∷ []) c) ≡ streams_started (marks_of es c) ++ streams_started (marks_by c e.act)
streams_push es e c = ap streams_started (marks_push es e c) ∙ flat_map-append started_by (marks_of es c) (marks_by c e.act)

pub started_marks : (config : Config) (h : List Entry) (n : ℕ) (c : ConnNo) → IsHistory config h →
    started_of (numbered c.0 (state_at config h n).connections) ≡ streams_started (marks_of (take n h) c)
started_marks config h n c history =
    each_beginning config h (λ es. started_of (numbered c.0 (run config es).connections) ≡ streams_started (marks_of es c)) history
    (ap (λ (s : AbstractPool). started_of (numbered c.0 s.connections)) (run_none config) ∙ ap started_of (none_numbered Connection c.0))
    (λ es e stand before.
    ap (λ (s : AbstractPool). started_of (numbered c.0 s.connections)) (run-push config es e)
    ∙ started_after (run config es) e c stand
    ∙ ap (λ (rs : List StreamNo). rs ++ streams_started (marks_by c e.act)) before
    ∙ sym (streams_push es e c)) n

abbrev pub Rises : List StreamNo → Type 0
Rises rs = AllPairs (λ a b. a.0 < b.0) rs

pub started_rise : (config : Config) (h : List Entry) (n : ℕ) (c : ConnNo) → IsHistory config h → Rises (started_of (numbered c.0 (state_at config h n).connections))
started_rise config h n c history = elim (option_cases (numbered c.0 (state_at config h n).connections)) [
  | inl none ↦ subst Rises (sym (ap started_of none)) (pairs_none (λ (a b : StreamNo). a.0 < b.0))
  | inr some ↦
      subst Rises (sym (ap started_of some.1))
      (pairs_front (λ a b. a.0 < b.0) some.0.started (streams_started some.0.orders) ((reached_is_sound config h n history).given c.0 some.0 some.1).rising)
]

-- ---- all starts of a connection

each_marked : (h es : List Entry) (c : ConnNo) → ((i : ℕ) (e : Entry) → slice_get es i ≡ Some e → streams_of (flat_map (order_of h c) (marks_by c e.act)) ≡ streams_started (marks_by c e.act)) →
    streams_of (flat_map (order_of h c) (marks_of es c)) ≡ streams_started (marks_of es c)
each_marked h [] c each = refl
each_marked h (e ∷ es) c each =
    let here : List OrderMark = marks_by c e.act in
    let rest : List OrderMark = marks_of es c in
    ap streams_of (flat_map-append (order_of h c) here rest)
    ∙ flat_map-append stream_started (flat_map (order_of h c) here) (flat_map (order_of h c) rest)
    ∙ ap (λ (rs : List StreamNo). rs ++ streams_of (flat_map (order_of h c) rest)) (each 0 e refl)
    ∙ ap (λ (rs : List StreamNo). streams_started here ++ rs) (each_marked h es c (λ i x is. each (suc i) x is))
    ∙ sym (flat_map-append started_by here rest)

pub starts_rise : StartsRise
starts_rise config h c history =
    let whole : take (length h) h ≡ h = take_all (length h) h (omega arith) in
    let read : streams_of (orders_of h c) ≡ streams_started (marks_of h c) =
    each_marked h h c
    (λ i e is_entry.
    let within = slice_get_within h i e is_entry in
    subst (λ (es : List Entry). streams_of (flat_map (order_of es c) (marks_by c e.act)) ≡ streams_started (marks_by c e.act)) whole
    (act_streams config h i (length h) e c (record { history = history; is_entry = is_entry }) (omega arith))) in
    let started : started_of (numbered c.0 (state_at config h (length h)).connections) ≡ streams_started (marks_of h c) =
    started_marks config h (length h) c history ∙ ap (λ (es : List Entry). streams_started (marks_of es c)) whole in
    subst Rises (started ∙ sym read ∙ sym (starts_streams (orders_of h c))) (started_rise config h (length h) c history)
