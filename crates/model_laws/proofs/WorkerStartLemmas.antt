-- By its own entries a worker is handed starts on streams that rise, up to the last one; on HTTP/2 they are odd, and on HTTP/1.1 one
-- comes at a time.
use Rattle.std.proofs.Common.{◌≡◌, ◌<◌, ◌≤◌, ◌+◌, ℕ, zero, List, [], ◌∷◌, ◌++◌, Some, Bool, true, false, inl, inr, refl, sym, ap, subst, ◌∙◌, arith, append-nil, length, take, slice_get, length-append, get_or-append-add, IsTrue, Contains, All}
use Rattle.std.specs.Prelude.{◌==◌}
use Rattle.std.proofs.lemmas.Bool.{both_ways}
use Rattle.std.proofs.lemmas.List.Elements.{All-nil, All-weaker, All-contains, All-contains_itself, Contains-append_right}
use Rattle.net_base.specs.declared.numbers.CallerNo.{CallerNo}
use Rattle.net_base.specs.declared.numbers.ConnNo.{ConnNo}
use Rattle.net_base.specs.declared.numbers.StreamNo.{StreamNo}
use Rattle.net_base.specs.declared.target.Proto.TheVariants.{H1, H2}
use Rattle.model_changes.specs.Connections.{streams_started}
use Rattle.model_laws.proofs.DialedLemmas.{one_speaker}
use Rattle.model_laws.proofs.LiveLemmas.{IsLiveIn}
use Rattle.model_laws.proofs.OwnPlaceLemmas.{IsPlaced, own_place}
use Rattle.model_laws.proofs.OwnStartLemmas.{AreAllOf, handed_are_started, HandsAll, hands_none_or_all}
use Rattle.model_laws.proofs.RisingLemmas.{started_of, Rises, started_rise}
use Rattle.model_laws.proofs.StreamLemmas.{pairs_back, pairs_across}
use Rattle.model_laws.proofs.RunOutLemmas.{run_out}
use Rattle.model_laws.proofs.ShownLemmas.{speaks_by}
use Rattle.model_laws.proofs.SoundLemmas.{reached_is_sound}
use Rattle.model_laws.specs.Courses.{state_at}
use Rattle.model_laws.specs.Sound.{HasStreamsInOrder, streams_given, IsOdd, IsThrough, GivesStreamsInOrder, IsSound}
use Rattle.model_laws.specs.StartLaws.{streams_handed, IsOpenedWith, IsRunOut, StartsInOrder, WorkersStartInOrder}
use Rattle.model_histories.proofs.SaidLemmas.{read_behind}
use Rattle.model_histories.specs.Histories.{IsHistory}
use Rattle.model_histories.specs.Reading.{Own, own_of, is_about, given_by, streams_of}
use Rattle.model_authority.proofs.PhaseLemmas.{excludes}
use Rattle.model_authority.specs.Lists.{numbered}
use Rattle.model_authority.specs.Statuses.{is_busy, is_closing, is_gone, speaks_h2}
use Rattle.model_values.specs.declared.config.Config.{Config}
use Rattle.model_values.specs.declared.entry.Entry.{Entry}
use Rattle.model_values.specs.declared.state.AbstractPool.{AbstractPool}
use Rattle.model_values.specs.declared.state.Connection.{Connection}

-- ---- lists

all_back : {A : Type 0} (P : A → Type 0) (xs ys : List A) → All P (xs ++ ys) → All P ys
all_back P xs ys all k d within = subst P (get_or-append-add xs ys k d) (all (length xs + k) d (omega (arith, within, length-append xs ys)))

-- where streams rise and none is above another, there is one at most
one_at_most : (rs : List StreamNo) → Rises rs → ((a b : StreamNo) → Contains rs a → Contains rs b → b.0 ≤ a.0) → length rs ≤ 1
one_at_most [] rises flat = omega arith
one_at_most (a ∷ []) rises flat = omega arith
one_at_most (a ∷ b ∷ rs) rises flat =
    let less : a.0 < b.0 = rises 0 1 a (omega arith) (omega arith) in
    let most : b.0 ≤ a.0 = flat a b (0, omega arith, refl) (1, omega arith, refl) in
    absurd (omega arith)

first_of_some : (rs : List StreamNo) → (rs ≡ [] → ⊥) → (r : StreamNo) × Contains rs r
first_of_some [] some = absurd (some refl)
first_of_some (r ∷ rs) some = (r, (zero, omega arith, refl))

-- ---- on HTTP/1.1

-- of a connection that was opened, which gives streams in order
module _ (config : Config) (y : Connection) (orderly : HasStreamsInOrder config y) (given : GivesStreamsInOrder config y) (busy : is_busy y.phase ≡ true) (h1 : speaks_h2 y ≡ false) where
  abbrev ordered : List StreamNo
  ordered = streams_started y.orders

  not_through : is_closing y.phase ≡ false → IsThrough y → ⊥
  not_through up through = elim through [
    | inl closing ↦ both_ways (is_closing y.phase) up closing
    | inr gone ↦ both_ways (is_gone y.phase) (excludes is_busy is_gone refl y.phase busy) gone
  ]

  -- none was given behind one that is live
  none_behind : is_closing y.phase ≡ false → (r t : StreamNo) → Contains y.live r → Contains (streams_given y) t → t.0 ≤ r.0
  none_behind up r t live among =
      All-contains (λ (u : StreamNo). u.0 ≤ r.0) (streams_given y) t
      (All-contains (λ (u : StreamNo). All (λ v. v.0 ≤ u.0) (streams_given y)) y.live r (given.last (λ h2. both_ways (speaks_h2 y) h1 h2) (not_through up)) live) among

  is_live : (r : StreamNo) → Contains ordered r → Contains y.live r
  is_live r among = All-contains (λ (t : StreamNo). Contains y.live t) ordered r given.ordered among

  one_ordered : length ordered ≤ 1
  one_ordered = by (is_closing y.phase) refl
    where
      by : (b : Bool) → is_closing y.phase ≡ b → length (streams_started y.orders) ≤ 1
      by true closing = let none : length (streams_started y.orders) ≡ 0 = ap (λ (rs : List StreamNo). length rs) (orderly.closing closing) in omega arith
      by false up =
          one_at_most (streams_started y.orders) (pairs_back (λ a b. a.0 < b.0) y.started (streams_started y.orders) given.rising)
          (λ a b first second. none_behind up a b (is_live a first) (Contains-append_right y.started (streams_started y.orders) b second))

  -- so none that was started is live where one is ordered
  none_live : (ordered ≡ [] → ⊥) → (r : StreamNo) → Contains y.started r → Contains y.live r → ⊥
  none_live some r started live = by (is_closing y.phase) refl
    where
      by : (b : Bool) → is_closing y.phase ≡ b → ⊥
      by true closing = some (orderly.closing closing)
      by false up =
          let next = first_of_some (streams_started y.orders) some in
          let rises : r.0 < next.0.0 = pairs_across (λ a b. a.0 < b.0) y.started (streams_started y.orders) r next.0 given.rising started next.1 in
          let most : next.0.0 ≤ r.0 = none_behind up r next.0 live (Contains-append_right y.started (streams_started y.orders) next.0 next.1) in
          absurd (omega arith)

-- ---- one entry of the caller, behind n others

module _ (config : Config) (h : List Entry) (who : CallerNo) (c : ConnNo) (n : ℕ) (x : Entry) (history : IsHistory config h) (is_entry : slice_get h n ≡ Some x)
    (mine : (x.who.0 == who.0) ≡ true) (about : IsTrue (is_about c x.act)) where
  abbrev s : AbstractPool
  s = state_at config h n

  abbrev own : List Own
  own = own_of (take n h) who

  abbrev handed : List StreamNo
  handed = streams_of (given_by (take n h) x.act)

  all : AreAllOf h c who
  all m z is_z also = ap (λ (k : CallerNo). k.0 == who.0) (one_speaker config h n m x z c history is_entry is_z about also) ∙ mine

  started : streams_handed c own ≡ started_of (numbered c.0 s.connections)
  started = handed_are_started config h c who history all n

  -- one that hands no start
  hands_none : handed ≡ [] → StartsInOrder config c own (read_behind (take n h) x)
  hands_none none = record {
    rising = subst (λ (rs : List StreamNo). Rises (streams_handed c own ++ rs)) (sym none)
        (subst Rises (sym (append-nil (streams_handed c own))) (subst Rises (sym started) (started_rise config h n c history)));
    within = subst (All (λ (r : StreamNo). r.0 ≤ config.last_stream)) (sym none) (All-nil (λ (r : StreamNo). r.0 ≤ config.last_stream));
    odd = λ opened. subst (All (λ (r : StreamNo). IsOdd r.0)) (sym none) (All-nil (λ (r : StreamNo). IsOdd r.0));
    alone = λ opened. subst (λ (rs : List StreamNo). length rs ≤ 1) (sym none) (omega arith);
    run_out = λ opened some. absurd (some none);
  }

  -- one that hands all starts that are ordered
  hands_all : HandsAll s x.act c handed → StartsInOrder config c own (read_behind (take n h) x)
  hands_all takes =
      let y : Connection = takes.connection in
      let ordered : List StreamNo = streams_started y.orders in
      let sound : IsSound config s = reached_is_sound config h n history in
      let orderly : HasStreamsInOrder config y = sound.orderly c.0 y takes.is_connection in
      let given : GivesStreamsInOrder config y = sound.given c.0 y takes.is_connection in
      let before : streams_handed c own ≡ y.started = started ∙ ap started_of takes.is_connection in
      let h1 : IsOpenedWith c H1 own → speaks_h2 y ≡ false = λ opened. speaks_by config h n who c H1 y history opened takes.is_connection in
      record {
        rising = subst (λ (rs : List StreamNo). Rises (rs ++ handed)) (sym before) (subst (λ (rs : List StreamNo). Rises (y.started ++ rs)) (sym takes.is_all) given.rising);
        within = subst (All (λ (r : StreamNo). r.0 ≤ config.last_stream)) (sym takes.is_all) (all_back (λ (r : StreamNo). r.0 ≤ config.last_stream) y.started ordered given.within);
        odd = λ opened.
            subst (All (λ (r : StreamNo). IsOdd r.0)) (sym takes.is_all)
            (all_back (λ (r : StreamNo). IsOdd r.0) y.started ordered (given.odd (speaks_by config h n who c H2 y history opened takes.is_connection)));
        alone = λ opened. subst (λ (rs : List StreamNo). length rs ≤ 1) (sym takes.is_all) (one_ordered config y orderly given takes.busy (h1 opened));
        run_out = λ opened some.
            All-weaker (Contains (streams_handed c own)) (IsRunOut c own)
            (λ r has.
            let was : Contains y.started r = subst (λ (rs : List StreamNo). Contains rs r) before has in
            run_out config h n who c r history all (subst (λ (rs : List StreamNo). Contains rs r) started has)
            (λ live. none_live config y orderly given takes.busy (h1 opened) (λ none. some (takes.is_all ∙ none)) r was (subst (IsLiveIn r) takes.is_connection live)))
            (streams_handed c own) (All-contains_itself (streams_handed c own));
      }

  in_order : StartsInOrder config c own (read_behind (take n h) x)
  in_order = elim (hands_none_or_all config h n x c (record { history = history; is_entry = is_entry }) about) [ inl none ↦ hands_none none | inr takes ↦ hands_all takes ]

pub workers_start_in_order : WorkersStartInOrder
workers_start_in_order config h who c before behind o history split about =
    let p : IsPlaced [] who h before o = own_place [] who h before behind o split in
    let here : IsTrue (is_about c p.entry.act) = subst (λ (q : Own). IsTrue (is_about c q.entry.act)) p.read about in
    subst (λ (own : List Own). StartsInOrder config c own o) (sym p.is_front)
    (subst (StartsInOrder config c (own_of (take p.place h) who)) (sym p.read) (in_order config h who c p.place p.entry history p.is_entry p.mine here))
