-- Each call of a port has an answer, and a call that leaves no entry changes nothing where nobody else calls.
use Rattle.std.proofs.Common.{◌≡◌, ◌≢◌, ◌<◌, ℕ, List, [], ◌∷◌, ◌++◌, Option, Some, None, Bool, true, inl, inr, refl, sym, ap, subst, ◌∙◌, arith, length, slice_get, get_or, ◌==◌, IsTrue}
use Rattle.std.specs.Prelude.{All}
use Rattle.std.specs.List.{flat_map}
use Rattle.std.proofs.Math.Seq.{take-append_seam}
use Rattle.std.proofs.lemmas.List.{append-nil, append_cancel_left}
use Rattle.std.proofs.lemmas.List.Elements.{All-nil, All-cons, All-head, All-filter}
use Rattle.net_base.specs.declared.numbers.CallerNo.{CallerNo}
use Rattle.net_base.specs.declared.numbers.ConnNo.{ConnNo}
use Rattle.net_base.specs.declared.numbers.ExchangeNo.{ExchangeNo}
use Rattle.net_base.specs.declared.numbers.Moment.{Moment}
use Rattle.model_laws.proofs.LongerLemmas.{calls_make_histories}
use Rattle.model_laws.proofs.SettlingLemmas.{settling_ends}
use Rattle.model_laws.specs.PortLaws.{IsPort, CanLeave, EachCallHasAnAnswer, WhatLeavesNoneChangesNothing}
use Rattle.model_laws.specs.SettlingLaws.{AreSettling}
use Rattle.model_histories.proofs.AllowedLemmas.{reports_as_state_says, ends_as_state_says, works_as_state_says}
use Rattle.model_histories.proofs.ReplyLemmas.{submit_is, cancel_is, change_is, preconnect_is, resolved_is, shut_is, dial_is}
use Rattle.model_histories.proofs.WantedLemmas.{wanted_are_untouched}
use Rattle.model_histories.specs.Histories.{run, MayStand, IsHistory}
use Rattle.model_histories.specs.Legal.{IsReply, IsWorkersEntry}
use Rattle.model_histories.specs.Looks.{HasEndedBy, IsLook, IsLateAt, NoneWanted}
use Rattle.model_histories.specs.Port.{PortView, LeavesNone, IsLookAt, IsSeekAt, IsOrdersAt, IsNewTo, MayWorkBy}
use Rattle.model_histories.specs.Reading.{is_about, order_of}
use Rattle.model_histories.specs.Replies.{own_exchange, submit_reply, cancel_reply, change_reply, preconnect_reply, resolved_reply, shut_reply, waits_for_dial, dial_of}
use Rattle.model_authority.proofs.NumberLemmas.{option_cases, value_and, and_value, passing}
use Rattle.model_authority.specs.Lists.{numbered}
use Rattle.model_authority.specs.Statuses.{has_ended, is_wanted, is_busy}
use Rattle.model_authority.specs.Ways.{group_for}
use Rattle.model_settling.proofs.DueLemmas.{due_late, settled_none}
use Rattle.model_settling.proofs.LowestLemmas.{lowest_none}
use Rattle.model_settling.specs.Due.{due_of}
use Rattle.model_steps.specs.After.{noted, after}
use Rattle.model_values.specs.declared.config.Config.{Config}
use Rattle.model_values.specs.declared.entry.Act.{Act}
use Rattle.model_values.specs.declared.entry.Act.TheVariants.{Submit, Cancel, Reprioritise, Preconnect, Resolved, Network, Tick, Shutdown, Dial, Orders, Reported, Closed}
use Rattle.model_values.specs.declared.entry.Entry.{Entry}
use Rattle.model_values.specs.declared.order.OrderMark.{OrderMark}
use Rattle.model_values.specs.declared.reply.Look.{Look}
use Rattle.model_values.specs.declared.reply.Look.TheVariants as look
use Rattle.model_values.specs.declared.reply.OrdersReply.{OrdersReply}
use Rattle.model_values.specs.declared.reply.OrdersReply.TheVariants as orders
use Rattle.model_values.specs.declared.reply.Seek.{Seek}
use Rattle.model_values.specs.declared.reply.Seek.TheVariants as seek
use Rattle.model_values.specs.declared.state.AbstractPool.{AbstractPool}
use Rattle.model_values.specs.declared.state.Connection.{Connection}
use Rattle.model_values.specs.declared.state.Exchange.{Exchange}
use Rattle.model_values.specs.declared.state.Status.{Status}
use Rattle.model_values.specs.declared.state.Status.TheVariants.{Waiting, Leased, Ended}

-- ---- a call that leaves its entry

abbrev IsPools : Entry → Type 0
IsPools x = x.who.0 ≡ 0

settling_own : (s : AbstractPool) (xs : List Entry) → AreSettling s xs → All IsPools xs
settling_own s [] own = All-nil IsPools
settling_own s (x ∷ xs) own = All-cons IsPools x xs own.0.caller (settling_own (after s x) xs own.1)

-- what holds of each entry of the pool itself holds of each of these
of_pools : (P : Entry → Type 0) (xs : List Entry) → ((x : Entry) → IsPools x → P x) → All IsPools xs → All P xs
of_pools P xs by own = λ k d less. by (get_or xs k d) (own k d less)

other_caller : (who : CallerNo) (x : Entry) → who.0 ≢ 0 → IsPools x → x.who ≢ who
other_caller who x caller own same = caller (sym (ap (λ (w : CallerNo). w.0) same) ∙ own)

-- a reply that the state gives can be left
leave : (v : PortView) (m : Moment) (act : Act) → IsPort v → IsReply (noted (run v.config v.seen) m) v.mine act → CanLeave v m act
leave v m act port reply =
    let s : AbstractPool = run v.config v.seen in
    let x : Entry = record { who = v.mine; moment = m; act = act } in
    let ends = settling_ends (after s x) in
    let longer : IsHistory v.config (v.seen ++ x ∷ ends.0) = calls_make_histories v.config v.seen x ends.0 port.history (record { caller = port.caller; reply = reply }) ends.1 in
    let own : All IsPools ends.0 = settling_own (after s x) ends.0 ends.1.own in
    let adds : Entry → Type 0 = λ y. IsTrue (v.adds y.who) in
    let w : PortView = record { config = v.config; mine = v.mine; seen = v.seen ++ x ∷ ends.0; adds = v.adds; lender = v.lender } in (
      w,
      record {
        grows = record {
          config = refl;
          mine = refl;
          adds = refl;
          lender = refl;
          more = x ∷ ends.0;
          seen = refl;
          by = All-cons adds x ends.0 port.own (of_pools adds ends.0 (λ y. port.pools y.who) own);
          history = λ before. longer;
        };
        history = longer;
        before = [];
        behind = ends.0;
        seen = ap (λ (l : List Entry). l ++ x ∷ ends.0) (sym (append-nil v.seen));
        none_before = All-nil (λ (y : Entry). y.who ≢ v.mine);
        none_behind = of_pools (λ y. y.who ≢ v.mine) ends.0 (λ y. other_caller v.mine y port.caller) own;
        settles = own;
      },
    )

-- ---- calls that leave nothing

leaves_none : (v : PortView) → IsPort v → LeavesNone v v
leaves_none v port = record {
  grows = record {
    config = refl;
    mine = refl;
    adds = refl;
    lender = refl;
    more = [];
    seen = sym (append-nil v.seen);
    by = All-nil (λ (x : Entry). IsTrue (v.adds x.who));
    history = λ before. before;
  };
  history = port.history;
  others = [];
  seen = sym (append-nil v.seen);
  none_own = All-nil (λ (x : Entry). x.who ≢ v.mine);
}

-- ---- looks

look_status : (s : AbstractPool) (who : CallerNo) (e : ExchangeNo) (x : Exchange) → own_exchange s who e ≡ Some x → (status : Status) → x.status ≡ status → (reply : Look) × IsLook s who e reply
look_status s who e x found Waiting is =
    (look.Pending s.entries, (and_value (own_exchange s who e) (λ (y : Exchange). ¬ IsTrue (has_ended y.status)) x found (λ t. let f : has_ended Waiting ≡ true = ap (λ (q : Status). has_ended q) (sym is) ∙ t in absurd cc), refl))
look_status s who e x found (Leased c r by handed) is =
    (look.Pending s.entries, (and_value (own_exchange s who e) (λ (y : Exchange). ¬ IsTrue (has_ended y.status)) x found (λ t. let f : has_ended (Leased c r by handed) ≡ true = ap (λ (q : Status). has_ended q) (sym is) ∙ t in absurd cc), refl))
look_status s who e x found (Ended how) is =
    (look.Ended how, and_value (own_exchange s who e) (λ (y : Exchange). HasEndedBy how y.status) x found (subst (HasEndedBy how) (sym is) refl))

look_at : (s : AbstractPool) (who : CallerNo) (e : ExchangeNo) (o : Option Exchange) → own_exchange s who e ≡ o → (reply : Look) × IsLook s who e reply
look_at s who e None is = (look.Unknown, is)
look_at s who e (Some x) is = look_status s who e x is x.status refl

look_late : (v : PortView) (m : Moment) (e : ExchangeNo) → IsPort v → IsLateAt (run v.config v.seen) m → (reply : Look) × (w : PortView) × IsLookAt v m e reply w
look_late v m e port late =
    let left = leave v m Tick port late in
    let t : AbstractPool = run v.config left.0.seen in
    let answer = look_at t v.mine e (own_exchange t v.mine e) refl in
    (answer.0, left.0, record { answers = answer.1; leaves = inr left.1 })

look_in_time : (v : PortView) (m : Moment) (e : ExchangeNo) → IsPort v → (¬ IsLateAt (run v.config v.seen) m) → (reply : Look) × (w : PortView) × IsLookAt v m e reply w
look_in_time v m e port in_time =
    let s : AbstractPool = run v.config v.seen in
    let answer = look_at s v.mine e (own_exchange s v.mine e) refl in
    (answer.0, v, record { answers = answer.1; leaves = inl (leaves_none v port, in_time) })

looks : (v : PortView) (m : Moment) (e : ExchangeNo) → IsPort v → (reply : Look) × (w : PortView) × IsLookAt v m e reply w
looks v m e port =
    let n : AbstractPool = noted (run v.config v.seen) m in
    elim (option_cases (due_of n)) [
      | inl none ↦ look_in_time v m e port (λ late. settled_none n none late.0 late.1)
      | inr some ↦ look_late v m e port (due_late n some.0 some.1)
    ]

-- ---- dials

none_wanted : (s : AbstractPool) → dial_of s ≡ None → NoneWanted s
unfolding dial_of
none_wanted s none number = lowest_none waits_for_dial s.connections none number

rests : (v : PortView) (m : Moment) → IsPort v → NoneWanted (run v.config v.seen) → (o : Option ℕ) → (run v.config v.seen).shutdown ≡ o → (reply : Seek) × (w : PortView) × IsSeekAt v m reply w
rests v m port none None is = (seek.Nothing (run v.config v.seen).entries, v, (leaves_none v port, (none, is, refl)))
rests v m port none (Some place) is = (seek.Stop place, v, (leaves_none v port, (none, is)))

-- the dial that is computed is the same once a moment is counted
dial_same : (s : AbstractPool) (m : Moment) → dial_of (noted s m) ≡ dial_of s
unfolding dial_of noted
dial_same s m = refl

-- nobody has dialed it
new_to : (v : PortView) (c : ConnNo) (x : Connection) → IsPort v → numbered c.0 (run v.config v.seen).connections ≡ Some x → IsTrue (is_wanted x.phase) → IsNewTo v c
new_to v c x port found wanted = All-filter (λ y. y.who.0 == v.mine.0) (λ (y : Entry). ¬ IsTrue (is_about c y.act)) v.seen (wanted_are_untouched v.config v.seen c x port.history found wanted)

dials : (v : PortView) (m : Moment) → IsPort v → (n : ℕ) → dial_of (run v.config v.seen) ≡ Some n → (reply : Seek) × (w : PortView) × IsSeekAt v m reply w
unfolding noted
dials v m port n is =
    let s : AbstractPool = run v.config v.seen in
    let c : ConnNo = record { 0 = n } in
    let d = dial_is (noted s m) n (dial_same s m ∙ is) in
    let left = leave v m (Dial c d.0.group.target) port d.2 in
    let lowest = passing waits_for_dial s.connections n d.2.lowest.passes in
    (seek.Dial c d.0.group.target, left.0, (new_to v c lowest.0 port lowest.1 lowest.2, left.1))

seeks : (v : PortView) (m : Moment) → IsPort v → (reply : Seek) × (w : PortView) × IsSeekAt v m reply w
seeks v m port =
    let s : AbstractPool = run v.config v.seen in
    elim (option_cases (dial_of s)) [
      | inl none ↦ rests v m port (none_wanted s none) s.shutdown refl
      | inr some ↦ dials v m port some.0 some.1
    ]

-- ---- orders

ordered : (v : PortView) (m : Moment) (c : ConnNo) (sent : ℕ) (x : Connection) → IsPort v → numbered c.0 (run v.config v.seen).connections ≡ Some x →
    IsWorkersEntry x v.mine sent × IsTrue (is_busy x.phase) → (marks : List OrderMark) → x.orders ≡ marks → (reply : OrdersReply) × (w : PortView) × IsOrdersAt v m c sent reply w
unfolding noted leave
ordered v m c sent x port found may [] is =
    let s : AbstractPool = run v.config v.seen in
    (orders.Nothing s.entries, v, (leaves_none v port, (and_value (numbered c.0 s.connections) (λ (y : Connection). y.orders ≡ []) x found is, refl)))
ordered v m c sent x port found may (first ∷ marks) is =
    let s : AbstractPool = run v.config v.seen in
    let all : List OrderMark = first ∷ marks in
    let takes : IsReply (noted s m) v.mine (Orders c sent all) =
    and_value (numbered c.0 s.connections) (λ (y : Connection). IsWorkersEntry y v.mine sent × (IsTrue (is_busy y.phase) × (all ≡ y.orders) × (0 < length all))) x found
    (may.0, (may.1, sym is, omega arith)) in
    let left = leave v m (Orders c sent all) port takes in
    (orders.Orders (flat_map (order_of (v.seen ++ []) c) all), left.0, record { marks = all; leaves = left.1; are_orders = refl })

takes_orders : (v : PortView) (m : Moment) (c : ConnNo) (sent : ℕ) → IsPort v → MayWorkBy v c sent → (reply : OrdersReply) × (w : PortView) × IsOrdersAt v m c sent reply w
takes_orders v m c sent port may =
    let s : AbstractPool = run v.config v.seen in
    let x = value_and (numbered c.0 s.connections) (λ (y : Connection). IsWorkersEntry y v.mine sent × IsTrue (is_busy y.phase)) ((works_as_state_says v c sent port.history).0 may) in
    ordered v m c sent x.0 port x.1 x.2 x.0.orders refl

-- ---- all calls

pub each_call_has_an_answer : EachCallHasAnAnswer
unfolding noted
each_call_has_an_answer v m port =
    let n : AbstractPool = noted (run v.config v.seen) m in
    record {
      submit = λ ask urgency key. (submit_reply n ask, leave v m (Submit ask (submit_reply n ask)) port (urgency, key, submit_is n ask));
      look = λ e. looks v m e port;
      cancel = λ e. (cancel_reply n v.mine e, leave v m (Cancel e (cancel_reply n v.mine e)) port (cancel_is n v.mine e));
      reprioritise = λ e urgency few. (change_reply n v.mine e, leave v m (Reprioritise e urgency (change_reply n v.mine e)) port (few, change_is n v.mine e));
      preconnect = λ key credentials origin count one part.
          let g = group_for n key credentials origin in
          (preconnect_reply n g count, leave v m (Preconnect key credentials origin count (preconnect_reply n g count)) port (one, part, preconnect_is n g count));
      resolved = λ key host addresses part. (resolved_reply n addresses, leave v m (Resolved key host addresses (resolved_reply n addresses)) port (part, resolved_is n addresses));
      network = leave v m Network port tt;
      shutdown = (shut_reply n, leave v m (Shutdown (shut_reply n)) port (shut_is n));
      seek = seeks v m port;
      orders = λ c sent may. takes_orders v m c sent port may;
      report = λ c sent r may. leave v m (Reported c sent r) port ((reports_as_state_says v c sent r port.history).0 may);
      closed = λ c sent cause heard may. leave v m (Closed c sent cause heard) port ((ends_as_state_says v c sent cause port.history).0 may);
    }

-- ---- a call that leaves nothing changes nothing

next_at : (h : List Entry) (x : Entry) (xs : List Entry) → slice_get (h ++ x ∷ xs) (length h) ≡ Some x
next_at [] x xs = refl
next_at (y ∷ h) x xs = next_at h x xs

abbrev view : Config → CallerNo → List Entry → (CallerNo → Bool) → ℕ → PortView
view config mine seen adds lender = record { config = config; mine = mine; seen = seen; adds = adds; lender = lender }

same_view : (v w : PortView) → w.config ≡ v.config → w.mine ≡ v.mine → w.seen ≡ v.seen → w.adds ≡ v.adds → w.lender ≡ v.lender → w ≡ v
same_view v w config mine seen adds lender =
    ap (λ (c : Config). view c w.mine w.seen w.adds w.lender) config
    ∙ ap (λ (m : CallerNo). view v.config m w.seen w.adds w.lender) mine
    ∙ ap (λ (l : List Entry). view v.config v.mine l w.adds w.lender) seen
    ∙ ap (λ (f : CallerNo → Bool). view v.config v.mine v.seen f w.lender) adds
    ∙ ap (view v.config v.mine v.seen v.adds) lender

-- no entry of the pool itself comes behind a history
none_follows : (config : Config) (h : List Entry) (x : Entry) (xs : List Entry) → IsHistory config h → IsHistory config (h ++ x ∷ xs) → IsPools x → ⊥
none_follows config h x xs before longer own =
    let stands : MayStand (run config h) x =
    subst (λ (l : List Entry). MayStand (run config l) x) (take-append_seam h (x ∷ xs)) (longer.each (length h) x (next_at h x xs)) in
    elim stands.legal [ inl due ↦ before.settled x.act due.due | inr call ↦ call.caller own ]

pub what_leaves_none_changes_nothing : WhatLeavesNoneChangesNothing
what_leaves_none_changes_nothing v w history alone none = by none.others none.seen none.none_own
  where
    -- the entries that came are of the pool itself
    pools : (xs : List Entry) → w.seen ≡ v.seen ++ xs → (x : Entry) (rest : List Entry) → xs ≡ x ∷ rest → x.who ≢ v.mine → IsPools x
    pools xs seen x rest is other =
        let more : none.grows.more ≡ x ∷ rest = append_cancel_left v.seen none.grows.more (x ∷ rest) (sym none.grows.seen ∙ seen ∙ ap (λ (l : List Entry). v.seen ++ l) is) in
        let adds : IsTrue (v.adds x.who) = All-head (λ (y : Entry). IsTrue (v.adds y.who)) x rest (subst (All (λ (y : Entry). IsTrue (v.adds y.who))) more none.grows.by) in
        elim (alone x.who adds) [ inl mine ↦ absurd (other mine) | inr own ↦ own ]

    by : (xs : List Entry) → w.seen ≡ v.seen ++ xs → All (λ (x : Entry). x.who ≢ v.mine) xs → w ≡ v
    by [] seen others =
        let same : w.seen ≡ v.seen = seen ∙ append-nil v.seen in
        same_view v w none.grows.config none.grows.mine same none.grows.adds none.grows.lender
    by (x ∷ xs) seen others =
        absurd (none_follows v.config v.seen x xs history (subst (IsHistory v.config) seen none.history) (pools (x ∷ xs) seen x xs refl (All-head (λ (y : Entry). y.who ≢ v.mine) x xs others)))
