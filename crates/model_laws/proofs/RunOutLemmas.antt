-- A stream that was handed to a caller and isn't live any more was ended by a later entry of the caller.
use Rattle.std.proofs.Common.{◌≡◌, ◌<◌, ◌≤◌, ◌+◌, ◌-◌, ◌⊎◌, ℕ, zero, suc, List, [], ◌∷◌, ◌++◌, Some, Bool, true, false, cond, inl, inr, refl, sym, ap, subst, ◌∙◌, arith, length, take, drop, slice_get, get_or, IsTrue, Contains, take-take, length-take, length-drop, get_or-take, get_or-drop}
use Rattle.std.specs.Prelude.{◌==◌, ◌&&◌, ◌||◌}
use Rattle.std.specs.List.{list_any}
use Rattle.std.proofs.lemmas.Bool.{and_parts}
use Rattle.std.proofs.lemmas.Grind.{flat_map-append}
use Rattle.std.proofs.lemmas.List.{take_all}
use Rattle.std.proofs.lemmas.List.Elements.{All-contains, Contains-append_cases, Contains-append_right}
use Rattle.std.proofs.lemmas.Option.{slice_get_cases, slice_get_within, slice_get-get_or, get_or_from_slice_get}
use Rattle.net_base.specs.declared.numbers.CallerNo.{CallerNo}
use Rattle.net_base.specs.declared.numbers.ConnNo.{ConnNo}
use Rattle.net_base.specs.declared.numbers.StreamNo.{StreamNo}
use Rattle.model_changes.specs.Connections.{is_start_of, is_reset_of, started_by, streams_started}
use Rattle.model_laws.proofs.CourseLemmas.{state_after}
use Rattle.model_laws.proofs.LiveLemmas.{IsLiveIn, live_taken, live_after}
use Rattle.model_laws.proofs.OwnPlaceLemmas.{own_split, own_there}
use Rattle.model_laws.proofs.OwnStartLemmas.{AreAllOf, handed_one, silent_marks, none_or_all}
use Rattle.model_laws.proofs.ReleaseLemmas.{HasUnsent}
use Rattle.model_laws.proofs.RisingLemmas.{given_streams, started_of, started_marks}
use Rattle.model_laws.proofs.ShownLemmas.{entry_at}
use Rattle.model_laws.proofs.SoundLemmas.{reached_is_sound}
use Rattle.model_laws.proofs.StartSteps.{none_started, start_found}
use Rattle.model_laws.proofs.SentLemmas as sent
use Rattle.model_laws.specs.Courses.{state_at, Comes}
use Rattle.model_laws.specs.Sound.{GivesStreamsInOrder}
use Rattle.model_laws.specs.StartLaws.{IsRunOut}
use Rattle.model_histories.proofs.SaidLemmas.{read_behind}
use Rattle.model_histories.specs.Histories.{run, IsHistory}
use Rattle.model_histories.specs.Reading.{Own, own_from, own_of, is_about, marks_by, marks_of, hands_by, IsHandingOf, is_close, is_over_by_report, is_over_by}
use Rattle.model_authority.proofs.NumberLemmas.{numbered_at, value_and}
use Rattle.model_authority.specs.Lists.{numbered}
use Rattle.model_authority.specs.Statuses.{is_unsent_at}
use Rattle.model_values.specs.declared.config.Config.{Config}
use Rattle.model_values.specs.declared.entry.Act.{Act}
use Rattle.model_values.specs.declared.entry.Act.TheVariants.{Orders, Reported, Closed}
use Rattle.model_values.specs.declared.entry.Entry.{Entry}
use Rattle.model_values.specs.declared.state.AbstractPool.{AbstractPool}
use Rattle.model_values.specs.declared.state.Exchange.{Exchange}

-- ---- places in a part of a list

got : {A : Type 0} (xs : List A) (i : ℕ) (x : A) → i < length xs → get_or xs i x ≡ x → slice_get xs i ≡ Some x
got {A} xs i x within is = slice_get-get_or xs i x within ∙ ap (λ (y : A). Some y) is

got_front : {A : Type 0} (xs : List A) (n i : ℕ) (x : A) → i < n → slice_get xs i ≡ Some x → slice_get (take n xs) i ≡ Some x
got_front xs n i x front is = got (take n xs) i x (omega (arith, front, slice_get_within xs i x is, length-take n xs)) (get_or-take n xs i x front ∙ get_or_from_slice_get xs i x x is)

got_behind : {A : Type 0} (xs : List A) (n i : ℕ) (x : A) → n ≤ i → slice_get xs i ≡ Some x → slice_get (drop n xs) (i - n) ≡ Some x
got_behind xs n i x behind is =
    let at : n + (i - n) ≡ i = omega arith in
    got (drop n xs) (i - n) x (omega (arith, behind, slice_get_within xs i x is, length-drop n xs))
    (get_or-drop n xs (i - n) x ∙ ap (λ k. get_or xs k x) at ∙ get_or_from_slice_get xs i x x is)

-- ---- the entry that hands the start

-- a stream that was started is started by an entry
started_entry : (es : List Entry) (c : ConnNo) (r : StreamNo) → Contains (streams_started (marks_of es c)) r →
    (x : Entry) × Contains es x × Contains (streams_started (marks_by c x.act)) r
started_entry [] c r has = absurd (none_started r has)
started_entry (x ∷ es) c r has =
    let here : List StreamNo = streams_started (marks_by c x.act) in
    let split : streams_started (marks_of (x ∷ es) c) ≡ here ++ streams_started (marks_of es c) = flat_map-append started_by (marks_by c x.act) (marks_of es c) in
    elim (Contains-append_cases here (streams_started (marks_of es c)) r (subst (λ rs. Contains rs r) split has)) [
      | inl first ↦ (x, (zero, omega arith, refl), first)
      | inr later ↦ let p = started_entry es c r later in (p.0, Contains-append_right (x ∷ []) es p.0 p.1, p.2)
    ]

-- an entry that starts a stream is about its connection
starts_about : (c : ConnNo) (act : Act) (r : StreamNo) → Contains (streams_started (marks_by c act)) r → IsTrue (is_about c act)
starts_about c act r has = by (is_about c act) refl
  where
    by : (b : Bool) → is_about c act ≡ b → is_about c act ≡ true
    by true is = is
    by false other = absurd (none_started r (subst (λ ms. Contains (streams_started ms) r) (silent_marks c act other) has))

-- it is behind k others, before the n-th, and behind it the stream is live
record IsStartedBy (config : Config) (h : List Entry) (n : ℕ) (c : ConnNo) (r : StreamNo) : Type 0 where
  place : ℕ
  before : place < n
  entry : Entry
  is_entry : slice_get h place ≡ Some entry
  starts : Contains (streams_started (marks_by c entry.act)) r
  handing : IsHandingOf h c r (suc place)
  live : IsLiveIn r (numbered c.0 (state_at config h (place + 1)).connections)

hands_start : (c : ConnNo) (r : StreamNo) (act : Act) → Contains (streams_started (marks_by c act)) r → hands_by c r act ≡ true
hands_start c r (Orders conn sent orders) has = by (conn.0 == c.0) has
  where
    by : (b : Bool) → Contains (streams_started (cond b orders [])) r → (b && list_any (is_start_of r) orders) ≡ true
    by true starts = start_found r orders starts
    by false none = absurd (none_started r none)
hands_start c r _ has = absurd (none_started r has)

started_by_entry : (config : Config) (h : List Entry) (n : ℕ) (c : ConnNo) (r : StreamNo) → IsHistory config h →
    Contains (started_of (numbered c.0 (state_at config h n).connections)) r →
    IsStartedBy config h n c r
started_by_entry config h n c r history started =
    let e = started_entry (take n h) c r (subst (λ rs. Contains rs r) (started_marks config h n c history) started) in
    let x : Entry = e.0 in
    let at = entry_at h n x e.1 in
    let k : ℕ = at.0 in
    let comes : Comes config h k x = record { history = history; is_entry = at.2 } in
    elim (none_or_all config h k x c comes (starts_about c x.act r e.2)) [
      | inl none ↦ absurd (none_started r (subst (λ rs. Contains rs r) none e.2))
      | inr all ↦
          let given : GivesStreamsInOrder config all.connection = (reached_is_sound config h k history).given c.0 all.connection all.is_connection in
          let live : Contains all.connection.live r =
          All-contains (λ (t : StreamNo). Contains all.connection.live t) (streams_started all.connection.orders) r given.ordered (subst (λ rs. Contains rs r) all.is_all e.2) in
          record {
            place = k;
            before = at.1;
            entry = x;
            is_entry = at.2;
            starts = e.2;
            handing = (x, numbered_at h k ∙ at.2, hands_start c r x.act e.2);
            live = subst (λ (s : AbstractPool). IsLiveIn r (numbered c.0 s.connections)) (sym (state_after config h k x at.2))
                (live_taken (state_at config h k) x c r all.sent all.orders all.connection all.is_orders all.is_connection live);
          }
    ]

-- ---- the entry that ends the stream

-- one behind k others, before the n-th, ends it
record WasEnded (h : List Entry) (c : ConnNo) (r : StreamNo) (k n : ℕ) : Type 0 where
  place : ℕ
  behind : k < place
  before : place < n
  entry : Entry
  is_entry : slice_get h place ≡ Some entry
  ends : is_over_by c r entry.act ≡ true

ended_on : (h : List Entry) (c : ConnNo) (r : StreamNo) (k n m : ℕ) → n ≤ m → WasEnded h c r k n → WasEnded h c r k m
ended_on h c r k n m later w =
    let before : w.place < n = w.before in
    record { place = w.place; behind = w.behind; before = omega arith; entry = w.entry; is_entry = w.is_entry; ends = w.ends }

module _ (config : Config) (h : List Entry) (c : ConnNo) (r : StreamNo) (k : ℕ) (history : IsHistory config h) (handing : IsHandingOf h c r (suc k))
    (live : IsLiveIn r (numbered c.0 (state_at config h (k + 1)).connections)) where
  LiveOrEnded : ℕ → Type 0
  LiveOrEnded n = IsLiveIn r (numbered c.0 (state_at config h n).connections) ⊎ WasEnded h c r k n

  -- no exchange has an unsent lease on it
  all_sent : (n : ℕ) → k < n → (m : ℕ) × HasUnsent c r (numbered m (state_at config h n).exchanges) → ⊥
  all_sent n behind unsent =
      let s : AbstractPool = state_at config h n in
      let u = value_and (numbered unsent.0 s.exchanges) (λ (x : Exchange). IsTrue (is_unsent_at c r x.status)) unsent.1 in
      let v = value_and (numbered c.0 s.connections) (λ y. Contains y.started r) (sent.started_by config h n c r history (suc k, omega arith, handing)) in
      (reached_is_sound config h n history).sent unsent.0 u.0 c r v.0 u.1 u.2 v.1 v.2

  live_next : (n : ℕ) → k < n → IsLiveIn r (numbered c.0 (state_at config h n).connections) → LiveOrEnded (n + 1)
  unfolding LiveOrEnded
  live_next n behind lives = elim (slice_get_cases h n).1 [
    | inl is ↦ elim (live_after (state_at config h n) is.0 c r lives) [
      | inl still ↦ inl (subst (λ (s : AbstractPool). IsLiveIn r (numbered c.0 s.connections)) (sym (state_after config h n is.0 is.2)) still)
      | inr (inl over) ↦ inr (record { place = n; behind = behind; before = omega arith; entry = is.0; is_entry = is.2; ends = over })
      | inr (inr unsent) ↦ absurd (all_sent n behind unsent)
    ]
    | inr past ↦
        let same : take n h ≡ take (n + 1) h = take_all n h past.0 ∙ sym (take_all (n + 1) h (omega arith)) in
        inl (subst (λ (es : List Entry). IsLiveIn r (numbered c.0 (run config es).connections)) same lives)
  ]

  live_on : (m : ℕ) → LiveOrEnded (k + 1 + m)
  unfolding LiveOrEnded
  live_on zero = let at : k + 1 ≡ k + 1 + 0 = omega arith in inl (subst (λ n. IsLiveIn r (numbered c.0 (state_at config h n).connections)) at live)
  live_on (suc m) =
      let next : k + 1 + m + 1 ≡ k + 1 + suc m = omega arith in
      subst LiveOrEnded next
      (elim (live_on m) [
        | inl lives ↦ live_next (k + 1 + m) (omega arith) lives
        | inr w ↦ inr (ended_on h c r k (k + 1 + m) (k + 1 + m + 1) (omega arith) w)
      ])

  -- so it was ended where it isn't live
  ended_before : (n : ℕ) → k < n → (IsLiveIn r (numbered c.0 (state_at config h n).connections) → ⊥) → WasEnded h c r k n
  unfolding LiveOrEnded
  ended_before n behind dead =
      let at : k + 1 + (n - (k + 1)) ≡ n = omega arith in
      elim (subst LiveOrEnded at (live_on (n - (k + 1)))) [
        | inl lives ↦ absurd (dead lives)
        | inr w ↦ w
      ]

-- ---- by the caller's entries

over_about : (c : ConnNo) (r : StreamNo) (act : Act) → is_over_by c r act ≡ true → IsTrue (is_about c act)
over_about c r (Orders conn sent orders) over = (and_parts (conn.0 == c.0) (list_any (is_reset_of r) orders || list_any is_close orders) over).0
over_about c r (Reported conn sent told) over = (and_parts (conn.0 == c.0) (is_over_by_report r told) over).0
over_about c r (Closed conn sent cause heard) over = over
over_about c r _ over = absurd cc

pub run_out : (config : Config) (h : List Entry) (n : ℕ) (who : CallerNo) (c : ConnNo) (r : StreamNo) → IsHistory config h → AreAllOf h c who →
    Contains (started_of (numbered c.0 (state_at config h n).connections)) r → (IsLiveIn r (numbered c.0 (state_at config h n).connections) → ⊥) → IsRunOut c (own_of (take n h) who) r
run_out config h n who c r history all started dead =
    let by : IsStartedBy config h n c r = started_by_entry config h n c r history started in
    let k : ℕ = by.place in
    let first : k < n = by.before in
    let x : Entry = by.entry in
    let about : IsTrue (is_about c x.act) = starts_about c x.act r by.starts in
    let w : WasEnded h c r k n = ended_before config h c r k history by.handing by.live n first dead in
    let m : ℕ = w.place in
    let later : k < m = w.behind in
    let handing : Own = read_behind (take k h) x in
    let rest : List Entry = drop (suc k) (take n h) in
    let over_there : slice_get rest (m - suc k) ≡ Some w.entry = got_behind (take n h) (suc k) m w.entry (omega arith) (got_front h n m w.entry w.before w.is_entry) in
    let front : take k (take n h) ≡ take k h = take-take k n h (omega arith) in
    record {
      before = own_of (take k h) who;
      handing = handing;
      behind = own_from (take k h ++ x ∷ []) who rest;
      is_split = subst (λ (l : List Entry). own_of (take n h) who ≡ own_of l who ++ read_behind l x ∷ own_from (l ++ x ∷ []) who rest) front
          (own_split [] who (take n h) k x (got_front h n k x first by.is_entry) (all k x by.is_entry about));
      hands = subst (λ rs. Contains rs r) (sym (handed_one c handing about ∙ given_streams config h k x c (record { history = history; is_entry = by.is_entry }) about)) by.starts;
      over = read_behind ((take k h ++ x ∷ []) ++ take (m - suc k) rest) w.entry;
      is_behind = own_there (take k h ++ x ∷ []) who rest (m - suc k) w.entry over_there (all m w.entry w.is_entry (over_about c r w.entry.act w.ends));
      ends = w.ends;
    }
