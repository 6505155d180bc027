-- What holds of a connection whose worker keeps its word holds at each state of the history.
use Rattle.std.proofs.Common.{[], ◌≡◌, ◌⊎◌, ◌∷◌, ◌++◌, ◌+◌, ◌<◌, ℕ, zero, suc, List, Option, Some, None, Bool, true, false, cond, inl, inr, refl, sym, ap, subst, ◌∙◌, arith, append-nil, length, take, drop, slice_get, IsTrue, Contains}
use Rattle.std.specs.Prelude.{◌==◌}
use Rattle.std.specs.List.{flat_map}
use Rattle.std.proofs.Math.Seq.{drop-cons}
use Rattle.std.proofs.lemmas.Bool.{cond-true, both_ways, eq-eqb, eqb-true}
use Rattle.std.proofs.lemmas.Grind.{flat_map-append}
use Rattle.std.proofs.lemmas.List.{take_all, take-append-drop}
use Rattle.std.proofs.lemmas.List.Elements.{Contains-append_left, Contains-append_right, Contains-append_cases, Contains-push, Contains-push_cases}
use Rattle.std.proofs.lemmas.Option.{slice_get_cases, slice_get_within, slice_get-get_or, get_or_from_slice_get}
use Rattle.net_base.specs.declared.numbers.CallerNo.{CallerNo}
use Rattle.net_base.specs.declared.numbers.ConnNo.{ConnNo}
use Rattle.net_base.specs.declared.numbers.ExchangeNo.{ExchangeNo}
use Rattle.net_base.specs.declared.numbers.StreamNo.{StreamNo}
use Rattle.net_base.specs.declared.target.Target.{Target}
use Rattle.model_laws.proofs.CourseLemmas.{take_entry, state_after}
use Rattle.model_laws.proofs.DialedLemmas.{conn_is, dial_about, one_speaker}
use Rattle.model_laws.proofs.FairActs.{IsFairAt, fair_after}
use Rattle.model_laws.proofs.FairLemmas.{HoldsAt, Rests, TakesReset, Says}
use Rattle.model_laws.proofs.FreeLemmas.{AreFree}
use Rattle.model_laws.proofs.OverSteps.{over_after}
use Rattle.model_laws.proofs.PendingLemmas.{none_there}
use Rattle.model_laws.proofs.SoundLemmas.{reached_is_sound}
use Rattle.model_laws.specs.Courses.{state_at}
use Rattle.model_laws.specs.OverLaws.{orders_given, IsFair}
use Rattle.model_laws.specs.Sound.{IsSound}
use Rattle.model_histories.proofs.AboutLemmas.{about_more, about_other}
use Rattle.model_histories.proofs.EditLemmas.{none_numbered}
use Rattle.model_histories.proofs.RunLemmas.{run_none}
use Rattle.model_histories.proofs.SaidLemmas.{read_behind, own_from-append}
use Rattle.model_histories.specs.Histories.{opening, run}
use Rattle.model_histories.specs.Reading.{is_about, is_over_by, start_of, submissions_of, targets_of, order_of, given_by, Own, own_from, own_of, about}
use Rattle.model_authority.specs.Lists.{numbered}
use Rattle.model_values.specs.declared.config.Config.{Config}
use Rattle.model_values.specs.declared.entry.Act.{Act}
use Rattle.model_values.specs.declared.entry.Act.TheVariants.{Orders}
use Rattle.model_values.specs.declared.entry.Entry.{Entry}
use Rattle.model_values.specs.declared.order.Order.{Order}
use Rattle.model_values.specs.declared.order.Order.TheVariants as order
use Rattle.model_values.specs.declared.order.OrderMark.{OrderMark}
use Rattle.model_values.specs.declared.order.OrderMark.TheVariants as mark
use Rattle.model_values.specs.declared.state.AbstractPool.{AbstractPool}
use Rattle.model_values.specs.declared.state.Connection.{Connection}
use Rattle.model_values.specs.declared.submission.Submission.{Submission}

-- ---- orders to reset a stream

no_reset : (e : ExchangeNo) (t r : StreamNo) (ask : Option Submission) (target : Option Target) → Contains (start_of e t ask target) (order.Reset r) → ⊥
no_reset e t r None target h = none_there (order.Reset r) h
no_reset e t r (Some ask) None h = none_there (order.Reset r) h
no_reset e t r (Some ask) (Some target) h = elim (Contains-push_cases [] _ (order.Reset r) h) [ inl none ↦ none_there (order.Reset r) none | inr same ↦ absurd cc ]

-- it is the order of a mark to do so
reset_of : (es : List Entry) (c : ConnNo) (m : OrderMark) (r : StreamNo) → Contains (order_of es c m) (order.Reset r) → m ≡ mark.Reset r
reset_of es c (mark.Start e t) r h = absurd (no_reset e t r (numbered e.0 (submissions_of es)) (slice_get (targets_of es c) 0) h)
reset_of es c (mark.Reset t) r h = elim (Contains-push_cases [] (order.Reset t) (order.Reset r) h) [ inl none ↦ absurd (none_there (order.Reset r) none) | inr same ↦ cc ]
reset_of es c mark.Close r h = elim (Contains-push_cases [] order.Close (order.Reset r) h) [ inl none ↦ absurd (none_there (order.Reset r) none) | inr same ↦ absurd cc ]

reset_marked : (es : List Entry) (c : ConnNo) (ms : List OrderMark) (r : StreamNo) → Contains (flat_map (order_of es c) ms) (order.Reset r) → Contains ms (mark.Reset r)
reset_marked es c [] r h = absurd (none_there (order.Reset r) h)
reset_marked es c (m ∷ ms) r h = elim (Contains-append_cases (order_of es c m) (flat_map (order_of es c) ms) (order.Reset r) h) [
  | inl here ↦ subst (Contains (m ∷ ms)) (reset_of es c m r here) (zero, omega arith, refl)
  | inr later ↦ Contains-append_right (m ∷ []) ms (mark.Reset r) (reset_marked es c ms r later)
]

-- and an act that gives it, about the connection, takes the mark
takes_reset : (es : List Entry) (c : ConnNo) (act : Act) (r : StreamNo) → is_about c act ≡ true → Contains (given_by es act) (order.Reset r) → TakesReset c r act
takes_reset es c (Orders conn sent orders) r is h = record {
  sent = sent;
  orders = orders;
  is_orders = ap (λ (d : ConnNo). Orders d sent orders) (conn_is conn c (eqb-true conn.0 c.0 is));
  has = reset_marked es conn orders r h;
}
takes_reset es c _ r is h = absurd (none_there (order.Reset r) h)

-- ---- an entry of the caller, read behind these

given_more : (c : ConnNo) (own : List Own) (o : Own) (r : StreamNo) → Contains (orders_given c (own ++ o ∷ [])) (order.Reset r) →
    Contains (orders_given c own) (order.Reset r) ⊎ ((is_about c o.entry.act ≡ true) × Contains o.orders (order.Reset r))
given_more c own o r = by (is_about c o.entry.act) refl
  where
    orders : Own → List Order
    orders p = p.orders

    by : (b : Bool) → is_about c o.entry.act ≡ b → Contains (orders_given c (own ++ o ∷ [])) (order.Reset r) →
        Contains (orders_given c own) (order.Reset r) ⊎ ((is_about c o.entry.act ≡ true) × Contains o.orders (order.Reset r))
    by true is h =
        let split : orders_given c (own ++ o ∷ []) ≡ orders_given c own ++ o.orders =
        ap (flat_map (λ (p : Own). p.orders)) (about_more c own o is) ∙ flat_map-append (λ (p : Own). p.orders) (about c own) (o ∷ [])
        ∙ ap (λ l. orders_given c own ++ l) (append-nil o.orders) in
        elim (Contains-append_cases (orders_given c own) o.orders (order.Reset r) (subst (λ l. Contains l (order.Reset r)) split h)) [ inl before ↦ inl before | inr new ↦ inr (is, new) ]
    by false other h = inl (subst (λ l. Contains l (order.Reset r)) (ap (flat_map (λ (p : Own). p.orders)) (about_other c own o other)) h)

module _ (config : Config) (h : List Entry) (c : ConnNo) (fair : IsFair config h c) where
  -- what the dialer says by the first n entries
  abbrev said_by : ℕ → List Own
  said_by n = own_of (take n h) fair.who

  dialers : (n : ℕ) (x : Entry) → slice_get h n ≡ Some x → IsTrue (is_about c x.act) → x.who ≡ fair.who
  dialers n x is_entry about =
      let d = fair.dials in
      let k : ℕ = d.is_entry.0 in
      let there : slice_get h k ≡ Some d.entry = slice_get-get_or h k d.entry d.is_entry.1 ∙ ap (λ (y : Entry). Some y) d.is_entry.2 in
      one_speaker config h k n d.entry x c fair.history there is_entry (dial_about c d.entry.act d.goes_to d.dials) about ∙ d.caller

  -- the caller's own entry as it is read stands in all that it says
  own_split : (n : ℕ) (x : Entry) → slice_get h n ≡ Some x → (x.who.0 == fair.who.0) ≡ true →
      own_of h fair.who ≡ said_by n ++ read_behind (take n h) x ∷ own_from (take n h ++ x ∷ []) fair.who (drop (suc n) h)
  unfolding own_from
  own_split n x is_entry mine =
      let within : n < length h = slice_get_within h n x is_entry in
      let rest : List Entry = drop (suc n) h in
      let behind : drop n h ≡ x ∷ rest = drop-cons h n x within ∙ ap (λ (y : Entry). y ∷ rest) (get_or_from_slice_get h n x x is_entry) in
      let next : List Own = own_from (take n h ++ x ∷ []) fair.who rest in
      ap (λ (es : List Entry). own_of es fair.who) (sym (take-append-drop n h)) ∙ own_from-append [] fair.who (take n h) (drop n h)
      ∙ ap (λ (es : List Entry). said_by n ++ own_from (take n h) fair.who es) behind
      ∙ ap (λ (l : List Own). said_by n ++ l) (cond-true (x.who.0 == fair.who.0) (read_behind (take n h) x ∷ next) next mine)

  one_more : (n : ℕ) (x : Entry) → own_of (take n h ++ x ∷ []) fair.who ≡ said_by n ++ cond (x.who.0 == fair.who.0) (read_behind (take n h) x ∷ []) []
  unfolding own_from
  one_more n x = own_from-append [] fair.who (take n h) (x ∷ [])

  -- one entry more, of the dialer or of another
  says_more : (n : ℕ) (x : Entry) → slice_get h n ≡ Some x → (b : Bool) → (x.who.0 == fair.who.0) ≡ b →
      Says c (said_by n) (said_by n ++ cond b (read_behind (take n h) x ∷ []) []) x.act
  says_more n x is_entry true mine =
      let own : List Own = said_by n in
      let o : Own = read_behind (take n h) x in
      record {
        more = λ p has. Contains-append_left own (o ∷ []) p has;
        resets = λ r has. elim (given_more c own o r has) [ inl before ↦ inl before | inr new ↦ inr (takes_reset (take n h) c x.act r new.0 new.1) ];
        word = λ about. (
          o,
          refl,
          Contains-push own o,
          fair.fairly own (own_from (take n h ++ x ∷ []) fair.who (drop (suc n) h)) o (own_split n x is_entry mine),
        );
      }
  says_more n x is_entry false other =
      let own : List Own = said_by n in
      record {
        more = λ p has. Contains-append_left own [] p has;
        resets = λ r has. inl (subst (λ l. Contains (orders_given c l) (order.Reset r)) (append-nil own) has);
        word = λ about. absurd (both_ways (x.who.0 == fair.who.0) other (eq-eqb x.who.0 fair.who.0 (ap (λ (k : CallerNo). k.0) (dialers n x is_entry about))));
      }

  says_at : (n : ℕ) (x : Entry) → slice_get h n ≡ Some x → Says c (said_by n) (said_by (n + 1)) x.act
  says_at n x is_entry =
      let all : said_by (n + 1) ≡ said_by n ++ cond (x.who.0 == fair.who.0) (read_behind (take n h) x ∷ []) [] =
      ap (λ (es : List Entry). own_of es fair.who) (take_entry h n x is_entry) ∙ one_more n x in
      subst (λ (own : List Own). Says c (said_by n) own x.act) (sym all) (says_more n x is_entry (x.who.0 == fair.who.0) refl)

  rests : (n : ℕ) → Rests config (state_at config h n)
  rests n =
      let sound : IsSound config (state_at config h n) = reached_is_sound config h n fair.history in
      record { carried = sound.carried; apart = sound.apart; sent = sound.sent; orderly = sound.orderly; given = sound.given }

  fair_none : IsFairAt c (said_by 0) (state_at config h 0)
  unfolding own_from about
  fair_none = subst (IsFairAt c []) (sym (run_none config)) (record {
    said = λ r has. absurd (none_there (order.Reset r) has);
    holds = subst (HoldsAt c [] (opening config)) (sym (none_numbered Connection c.0)) tt;
  })

  pub fair_each : (n : ℕ) → IsFairAt c (said_by n) (state_at config h n)
  fair_each zero = fair_none
  fair_each (suc n) =
      let before : IsFairAt c (said_by n) (state_at config h n) = fair_each n in
      let next : n + 1 ≡ suc n = omega arith in
      elim (slice_get_cases h n).1 [
        | inl is ↦
            subst (λ k. IsFairAt c (said_by k) (state_at config h k)) next
            (subst (IsFairAt c (said_by (n + 1))) (sym (state_after config h n is.0 is.2))
            (fair_after config (state_at config h n) is.0 c (said_by n) (said_by (n + 1)) (fair.history.each n is.0 is.2) (rests n) (says_at n is.0 is.2) before))
        | inr past ↦
            let same : take n h ≡ take (suc n) h = take_all n h past.0 ∙ sym (take_all (suc n) h (omega arith)) in
            subst (λ (es : List Entry). IsFairAt c (own_of es fair.who) (run config es)) same before
      ]

  -- behind an entry that ends a stream no exchange has a lease on it
  pub over_free : (n : ℕ) (x : Entry) (r : StreamNo) → slice_get h n ≡ Some x → is_over_by c r x.act ≡ true → AreFree c r (state_at config h (n + 1)).exchanges
  over_free n x r is_entry over =
      subst (λ (s : AbstractPool). AreFree c r s.exchanges) (sym (state_after config h n x is_entry))
      (over_after (state_at config h n) x c (said_by n) (said_by (n + 1)) r (fair.history.each n x is_entry) (says_at n x is_entry) (fair_each n) over)
