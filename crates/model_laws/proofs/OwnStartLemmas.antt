-- The streams that a caller was handed by its own entries are those that were started on its connection, and what one more entry of it
-- hands are those that are ordered.
use Rattle.std.proofs.Common.{◌≡◌, ◌+◌, ◌⊎◌, ℕ, zero, suc, List, [], ◌∷◌, ◌++◌, Some, Bool, true, false, cond, inl, inr, refl, sym, ap, subst, ◌∙◌, arith, append-nil, take, slice_get, IsTrue}
use Rattle.std.specs.Prelude.{◌==◌}
use Rattle.std.specs.List.{flat_map}
use Rattle.std.proofs.lemmas.Bool.{cond_both, cond-true, cond-false, eqb-true}
use Rattle.std.proofs.lemmas.Grind.{flat_map-append}
use Rattle.std.proofs.lemmas.List.{take_all}
use Rattle.std.proofs.lemmas.List.Elements.{filter-append}
use Rattle.std.proofs.lemmas.Option.{slice_get_cases}
use Rattle.net_base.specs.declared.numbers.CallerNo.{CallerNo}
use Rattle.net_base.specs.declared.numbers.ConnNo.{ConnNo}
use Rattle.net_base.specs.declared.numbers.StreamNo.{StreamNo}
use Rattle.model_changes.specs.Connections.{streams_started}
use Rattle.model_laws.proofs.CourseLemmas.{take_entry}
use Rattle.model_laws.proofs.DialedLemmas.{conn_is}
use Rattle.model_laws.proofs.OwnPlaceLemmas.{own_none, own_one}
use Rattle.model_laws.proofs.RisingLemmas.{given_streams, started_of, streams_push, started_marks}
use Rattle.model_laws.proofs.WorkerLemmas.{may_order}
use Rattle.model_laws.specs.Courses.{state_at, Comes}
use Rattle.model_laws.specs.StartLaws.{streams_handed}
use Rattle.model_histories.proofs.SaidLemmas.{read_behind, own_from-append}
use Rattle.model_histories.specs.Histories.{IsHistory}
use Rattle.model_histories.specs.Legal.{IsWorkersEntry, MayTake}
use Rattle.model_histories.specs.Reading.{Own, about, own_of, is_about, marks_by, marks_of, given_by, streams_of}
use Rattle.model_authority.proofs.NumberLemmas.{value_and}
use Rattle.model_authority.specs.Lists.{numbered}
use Rattle.model_authority.specs.Statuses.{is_busy}
use Rattle.model_values.specs.declared.config.Config.{Config}
use Rattle.model_values.specs.declared.entry.Act.{Act}
use Rattle.model_values.specs.declared.entry.Act.TheVariants.{Orders}
use Rattle.model_values.specs.declared.entry.Entry.{Entry}
use Rattle.model_values.specs.declared.order.OrderMark.{OrderMark}
use Rattle.model_values.specs.declared.state.AbstractPool.{AbstractPool}
use Rattle.model_values.specs.declared.state.Connection.{Connection}

-- ---- one entry

abbrev handed_by_own : Own → List StreamNo
handed_by_own o = streams_of o.orders

handed_none : (c : ConnNo) → streams_handed c [] ≡ []
unfolding about
handed_none c = refl

handed_append : (c : ConnNo) (xs ys : List Own) → streams_handed c (xs ++ ys) ≡ streams_handed c xs ++ streams_handed c ys
unfolding about
handed_append c xs ys =
    ap (flat_map handed_by_own) (filter-append (λ (o : Own). is_about c o.entry.act) xs ys) ∙ flat_map-append handed_by_own (about c xs) (about c ys)

-- an entry about the connection hands its starts
pub handed_one : (c : ConnNo) (o : Own) → is_about c o.entry.act ≡ true → streams_handed c (o ∷ []) ≡ streams_of o.orders
unfolding about
handed_one c o is = ap (flat_map handed_by_own) (cond-true (is_about c o.entry.act) (o ∷ []) [] is) ∙ append-nil (streams_of o.orders)

handed_other : (c : ConnNo) (o : Own) → is_about c o.entry.act ≡ false → streams_handed c (o ∷ []) ≡ []
unfolding about
handed_other c o other = ap (flat_map handed_by_own) (cond-false (is_about c o.entry.act) (o ∷ []) [] other)

pub silent_marks : (c : ConnNo) (act : Act) → is_about c act ≡ false → marks_by c act ≡ []
silent_marks c (Orders conn sent orders) other = cond-false (conn.0 == c.0) orders [] other
silent_marks c _ other = refl

-- ---- the entries of the caller that has the connection

-- all entries of the history about the connection are the caller's
abbrev pub AreAllOf : List Entry → ConnNo → CallerNo → Type 0
AreAllOf h c who = (n : ℕ) (x : Entry) → slice_get h n ≡ Some x → IsTrue (is_about c x.act) → (x.who.0 == who.0) ≡ true

module _ (config : Config) (h : List Entry) (c : ConnNo) (who : CallerNo) (history : IsHistory config h) (all : AreAllOf h c who) where
  part : (n : ℕ) (x : Entry) → slice_get h n ≡ Some x → streams_handed c (cond (x.who.0 == who.0) (read_behind (take n h) x ∷ []) []) ≡ streams_started (marks_by c x.act)
  part n x is_entry = by (is_about c x.act) refl
    where
      by : (b : Bool) → is_about c x.act ≡ b → streams_handed c (cond (x.who.0 == who.0) (read_behind (take n h) x ∷ []) []) ≡ streams_started (marks_by c x.act)
      by true is =
          ap (streams_handed c) (cond-true (x.who.0 == who.0) (read_behind (take n h) x ∷ []) [] (all n x is_entry is))
          ∙ handed_one c (read_behind (take n h) x) is
          ∙ given_streams config h n x c (record { history = history; is_entry = is_entry }) is
      by false other =
          cond_both (x.who.0 == who.0) (read_behind (take n h) x ∷ []) [] (λ (own : List Own). streams_handed c own ≡ []) (λ t. handed_other c (read_behind (take n h) x) other) (λ f. handed_none c)
          ∙ sym (ap streams_started (silent_marks c x.act other))

  handed_marks : (n : ℕ) → streams_handed c (own_of (take n h) who) ≡ streams_started (marks_of (take n h) c)
  handed_marks zero = ap (streams_handed c) (own_none [] who) ∙ handed_none c
  handed_marks (suc n) =
      let next : n + 1 ≡ suc n = omega arith in
      elim (slice_get_cases h n).1 [
        | inl is ↦
            let x : Entry = is.0 in
            let more : take (suc n) h ≡ take n h ++ x ∷ [] = ap (λ (k : ℕ). take k h) (sym next) ∙ take_entry h n x is.2 in
            ap (λ (es : List Entry). streams_handed c (own_of es who)) more
            ∙ ap (streams_handed c) (own_from-append [] who (take n h) (x ∷ []) ∙ ap (λ (l : List Own). own_of (take n h) who ++ l) (own_one (take n h) who x))
            ∙ handed_append c (own_of (take n h) who) (cond (x.who.0 == who.0) (read_behind (take n h) x ∷ []) [])
            ∙ ap (λ (rs : List StreamNo). rs ++ streams_handed c (cond (x.who.0 == who.0) (read_behind (take n h) x ∷ []) [])) (handed_marks n)
            ∙ ap (λ (rs : List StreamNo). streams_started (marks_of (take n h) c) ++ rs) (part n x is.2)
            ∙ sym (streams_push (take n h) x c)
            ∙ ap (λ (es : List Entry). streams_started (marks_of es c)) (sym more)
        | inr past ↦
            let same : take n h ≡ take (suc n) h = take_all n h past.0 ∙ sym (take_all (suc n) h (omega arith)) in
            subst (λ (es : List Entry). streams_handed c (own_of es who) ≡ streams_started (marks_of es c)) same (handed_marks n)
      ]

  -- the streams that the caller was handed by its entries among the first n were started, and no others were
  pub handed_are_started : (n : ℕ) → streams_handed c (own_of (take n h) who) ≡ started_of (numbered c.0 (state_at config h n).connections)
  handed_are_started n = handed_marks n ∙ sym (started_marks config h n c history)

-- ---- what one entry of the caller hands

-- the act takes the orders of a connection that was opened, whose starts it hands
pub record HandsAll (s : AbstractPool) (act : Act) (c : ConnNo) (handed : List StreamNo) : Type 0 where
  pub sent : ℕ
  pub orders : List OrderMark
  pub is_orders : act ≡ Orders c sent orders
  pub connection : Connection
  pub is_connection : numbered c.0 s.connections ≡ Some connection
  pub busy : is_busy connection.phase ≡ true
  pub is_all : handed ≡ streams_started connection.orders

pub none_or_all : (config : Config) (h : List Entry) (n : ℕ) (x : Entry) (c : ConnNo) → Comes config h n x → IsTrue (is_about c x.act) →
    (streams_started (marks_by c x.act) ≡ []) ⊎ HandsAll (state_at config h n) x.act c (streams_started (marks_by c x.act))
none_or_all config h n x c comes about = by x.act refl about
  where
    by : (act : Act) → x.act ≡ act → IsTrue (is_about c act) →
        (streams_started (marks_by c act) ≡ []) ⊎ HandsAll (state_at config h n) x.act c (streams_started (marks_by c act))
    by (Orders conn sent orders) is here =
        let same : conn ≡ c = conn_is conn c (eqb-true conn.0 c.0 here) in
        let taken : x.act ≡ Orders c sent orders = is ∙ ap (λ (d : ConnNo). Orders d sent orders) same in
        let may = (may_order (state_at config h n) x c sent orders taken (comes.history.each n x comes.is_entry).legal).1 in
        let v = value_and (numbered c.0 (state_at config h n).connections) (λ y. IsWorkersEntry y x.who sent × MayTake y orders) may in
        inr (record {
          sent = sent;
          orders = orders;
          is_orders = taken;
          connection = v.0;
          is_connection = v.1;
          busy = v.2.1.0;
          is_all = ap streams_started (cond-true (conn.0 == c.0) orders [] here ∙ v.2.1.1);
        })
    by _ is here = inl refl

pub hands_none_or_all : (config : Config) (h : List Entry) (n : ℕ) (x : Entry) (c : ConnNo) → Comes config h n x → IsTrue (is_about c x.act) →
    let handed : List StreamNo = streams_of (given_by (take n h) x.act) in (handed ≡ []) ⊎ HandsAll (state_at config h n) x.act c handed
hands_none_or_all config h n x c comes about =
    let s : AbstractPool = state_at config h n in
    subst (λ (rs : List StreamNo). (rs ≡ []) ⊎ HandsAll s x.act c rs) (sym (given_streams config h n x c comes about)) (none_or_all config h n x c comes about)
