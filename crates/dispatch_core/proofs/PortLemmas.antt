-- What a port straight to a pool owes.
use Rattle.std.proofs.Common.{◌≡◌, ◌≢◌, ℕ, List, [], ◌∷◌, ◌++◌, Bool, true, false, inl, inr, refl, sym, ap, subst, ◌∙◌, get_or, IsTrue}
use Rattle.std.specs.Prelude.{◌==◌, ◌||◌, ◌↔◌, All, MatchResult, IfOk, OnOk, OnErr, Result}
use Rattle.std.specs.Result.{IfErr}
use Rattle.std.specs.declared.result.Result.TheVariants.{Ok, Err}
use Rattle.std.proofs.lemmas.Bool.{eq-eqb}
use Rattle.std.proofs.lemmas.List.{append-nil}
use Rattle.std.proofs.lemmas.List.Elements.{All-nil, All-cons}
use Rattle.net_base.specs.declared.numbers.CallerNo.{CallerNo}
use Rattle.net_base.specs.declared.numbers.ConnNo.{ConnNo}
use Rattle.net_base.specs.declared.numbers.ExchangeNo.{ExchangeNo}
use Rattle.net_base.specs.declared.numbers.Moment.{Moment}
use Rattle.model_histories.specs.Histories.{IsHistory, run}
use Rattle.model_histories.specs.Port.{LeavesNone, Leaves, IsLookAt, IsSeekAt, IsOrdersAt}
use Rattle.model_histories.specs.Reading.{order_of}
use Rattle.std.specs.List.{flat_map}
use Rattle.model_histories.specs.Looks.{IsLook, IsLateAt, IsStop, IsNothingWanted, IsNothingOrdered}
use Rattle.model_values.specs.declared.config.Config.{Config}
use Rattle.model_values.specs.declared.entry.Act.{Act}
use Rattle.model_values.specs.declared.entry.Act.TheVariants.{Tick, Dial, Orders}
use Rattle.model_values.specs.declared.reply.TicketKept.{TicketKept}
use Rattle.model_values.specs.declared.entry.Entry.{Entry}
use Rattle.model_values.specs.declared.reply.Look.{Look}
use Rattle.model_values.specs.declared.reply.OrdersReply.{OrdersReply}
use Rattle.model_values.specs.declared.reply.OrdersReply.TheVariants as orders
use Rattle.model_values.specs.declared.reply.Seek.{Seek}
use Rattle.model_values.specs.declared.reply.Seek.TheVariants as seek
use Rattle.dispatch_core.specs.Pools.{PoolView, seen_by, IsAsBefore, Enters, IsLookOf, IsSeekOf, IsOrdersOf}

or_left : (a b : Bool) → IsTrue a → IsTrue (a || b)
or_left true b t = refl
or_left false b t = absurd cc

or_right : (a b : Bool) → IsTrue b → IsTrue (a || b)
or_right true b t = refl
or_right false b t = t

-- what holds of each entry by its caller holds of those of the pool itself
of_own : (P : Entry → Type 0) (es : List Entry) → ((x : Entry) → x.who.0 ≡ 0 → P x) → All (λ (x : Entry). x.who.0 ≡ 0) es → All P es
of_own P es by own = λ k d less. by (get_or es k d) (own k d less)

other_caller : (who : CallerNo) (x : Entry) → who.0 ≢ 0 → x.who.0 ≡ 0 → x.who ≢ who
other_caller who x caller own same = caller (sym (ap (λ (w : CallerNo). w.0) same) ∙ own)

-- a call that leaves its entry
entered_first : (v w : PoolView) (who : CallerNo) (l : ℕ) (moment : Moment) (act : Act) → who.0 ≢ 0 → Enters v who moment act w → (left : Leaves (seen_by v who l) moment act (seen_by w who l)) × (left.before ≡ [])
entered_first v w who l moment act caller f =
    let e : Entry = record { who = who; moment = moment; act = act } in
    let adds = λ (x : Entry). IsTrue (x.who.0 == who.0 || x.who.0 == 0) in
    let here : IsHistory v.config w.history = subst (λ c. IsHistory c w.history) f.config f.history in (
      record {
        grows = record {
          config = f.config;
          mine = refl;
          adds = refl;
          lender = refl;
          more = e ∷ f.adds.behind;
          seen = f.adds.history;
          by = All-cons adds e f.adds.behind (or_left (who.0 == who.0) (who.0 == 0) (eq-eqb who.0 who.0 refl))
              (of_own adds f.adds.behind (λ x own. or_right (x.who.0 == who.0) (x.who.0 == 0) (eq-eqb x.who.0 0 own)) f.adds.settles);
          history = λ old. here;
        };
        history = here;
        before = [];
        behind = f.adds.behind;
        seen = f.adds.history ∙ ap (λ (h : List Entry). h ++ e ∷ f.adds.behind) (sym (append-nil v.history));
        none_before = All-nil (λ (x : Entry). x.who ≢ who);
        none_behind = of_own (λ (x : Entry). x.who ≢ who) f.adds.behind (λ x own. other_caller who x caller own) f.adds.settles;
        settles = f.adds.settles;
      },
      refl,
    )

pub entered : (v w : PoolView) (who : CallerNo) (l : ℕ) (moment : Moment) (act : Act) → who.0 ≢ 0 → Enters v who moment act w → Leaves (seen_by v who l) moment act (seen_by w who l)
entered v w who l moment act caller f = (entered_first v w who l moment act caller f).0

-- a call that leaves nothing
pub stayed : (v w : PoolView) (who : CallerNo) (l : ℕ) → IsAsBefore v w → LeavesNone (seen_by v who l) (seen_by w who l)
stayed v w who l before =
    let history : IsHistory v.config w.history = subst (λ (c : Config). IsHistory c w.history) before.config before.history in
    let seen : w.history ≡ v.history ++ [] = before.same ∙ sym (append-nil v.history) in
    record {
      grows = record {
        config = before.config;
        mine = refl;
        adds = refl;
        lender = refl;
        more = [];
        seen = seen;
        by = All-nil (λ (x : Entry). IsTrue (x.who.0 == who.0 || x.who.0 == 0));
        history = λ old. history;
      };
      history = history;
      others = [];
      seen = seen;
      none_own = All-nil (λ (x : Entry). x.who ≢ who);
    }

-- ---- whole answers

pub answers : {T E : Type 0} (r : Result T E) (v w : PoolView) (who : CallerNo) (l : ℕ) (moment : Moment) (act : T → Act) → who.0 ≢ 0 →
    IfOk r (λ x. Enters v who moment (act x) w) → OnErr r (IsAsBefore v w) → MatchResult r (λ x. Leaves (seen_by v who l) moment (act x) (seen_by w who l)) (λ _. LeavesNone (seen_by v who l) (seen_by w who l))
answers (Ok x) v w who l moment act caller ok err = entered v w who l moment (act x) caller ok
answers (Err e) v w who l moment act caller ok err = stayed v w who l err

pub does : {T E : Type 0} (r : Result T E) (v w : PoolView) (who : CallerNo) (l : ℕ) (moment : Moment) (act : Act) → who.0 ≢ 0 →
    OnOk r (Enters v who moment act w) → OnErr r (IsAsBefore v w) → MatchResult r (λ _. Leaves (seen_by v who l) moment act (seen_by w who l)) (λ _. LeavesNone (seen_by v who l) (seen_by w who l))
does (Ok x) v w who l moment act caller ok err = entered v w who l moment act caller ok
does (Err e) v w who l moment act caller ok err = stayed v w who l err

pub ticket_kept : {T : Type 0} (r : Result T TicketKept) (v w : PoolView) (who : CallerNo) (l : ℕ) (moment : Moment) (act : Act) (conn : ConnNo) → who.0 ≢ 0 →
    OnOk r (Enters v who moment act w) → IfErr r (λ kept. (kept.0 ≡ conn) × IsAsBefore v w) →
    MatchResult r (λ _. Leaves (seen_by v who l) moment act (seen_by w who l)) (λ kept. (kept.0 ≡ conn) × LeavesNone (seen_by v who l) (seen_by w who l))
ticket_kept (Ok x) v w who l moment act conn caller ok err = entered v w who l moment act caller ok
ticket_kept (Err e) v w who l moment act conn caller ok err = (err.0, stayed v w who l err.1)

-- ---- looks

look_at : (v w : PoolView) (who : CallerNo) (l : ℕ) (moment : Moment) (e : ExchangeNo) (reply : Look) → who.0 ≢ 0 → IsLookOf v who moment e reply w →
    IsLookAt (seen_by v who l) moment e reply (seen_by w who l)
look_at v w who l moment e reply caller (answer, inl (rests, in_time)) = record {
  answers = subst (λ (c : Config). IsLook (run c w.history) who e reply) rests.before.config answer;
  leaves = inl (stayed v w who l rests.before, subst (λ (h : List Entry). ¬ IsLateAt (run v.config h) moment) (sym rests.before.same) in_time);
}
look_at v w who l moment e reply caller (answer, inr enters) = record {
  answers = subst (λ (c : Config). IsLook (run c w.history) who e reply) enters.config answer;
  leaves = inr (entered v w who l moment Tick caller enters);
}

pub looks : {E : Type 0} (r : Result Look E) (v w : PoolView) (who : CallerNo) (l : ℕ) (moment : Moment) (e : ExchangeNo) → who.0 ≢ 0 → IfOk r (λ x. IsLookOf v who moment e x w) →
    OnErr r (IsAsBefore v w) → MatchResult r (λ x. IsLookAt (seen_by v who l) moment e x (seen_by w who l)) (λ _. LeavesNone (seen_by v who l) (seen_by w who l))
looks (Ok x) v w who l moment e caller ok err = look_at v w who l moment e x caller ok
looks (Err x) v w who l moment e caller ok err = stayed v w who l err

-- ---- dials

seek_at : (v w : PoolView) (who : CallerNo) (l : ℕ) (moment : Moment) (reply : Seek) → who.0 ≢ 0 → IsSeekOf v who moment reply w → IsSeekAt (seen_by v who l) moment reply (seen_by w who l)
seek_at v w who l moment (seek.Dial conn target) caller (new, enters) = (new, entered v w who l moment (Dial conn target) caller enters)
seek_at v w who l moment (seek.Stop place) caller (rests, rest) =
    (stayed v w who l rests.before, subst (λ (h : List Entry). IsStop (run v.config h) place) (sym rests.before.same) rest)
seek_at v w who l moment (seek.Nothing n) caller (rests, rest) =
    (stayed v w who l rests.before, subst (λ (h : List Entry). IsNothingWanted (run v.config h) n) (sym rests.before.same) rest)

pub seeks : {E : Type 0} (r : Result Seek E) (v w : PoolView) (who : CallerNo) (l : ℕ) (moment : Moment) → who.0 ≢ 0 → IfOk r (λ x. IsSeekOf v who moment x w) →
    OnErr r (IsAsBefore v w) → MatchResult r (λ x. IsSeekAt (seen_by v who l) moment x (seen_by w who l)) (λ _. LeavesNone (seen_by v who l) (seen_by w who l))
seeks (Ok x) v w who l moment caller ok err = seek_at v w who l moment x caller ok
seeks (Err x) v w who l moment caller ok err = stayed v w who l err

-- ---- orders

orders_at : (v w : PoolView) (who : CallerNo) (l : ℕ) (moment : Moment) (c : ConnNo) (sent : ℕ) (reply : OrdersReply) → who.0 ≢ 0 → IsOrdersOf v who moment c sent reply w →
    IsOrdersAt (seen_by v who l) moment c sent reply (seen_by w who l)
orders_at v w who l moment c sent (orders.Orders list) caller hands =
    let left = entered_first v w who l moment (Orders c sent hands.marks) caller hands.enters in
    record {
      marks = hands.marks;
      leaves = left.0;
      are_orders = hands.are_orders ∙ ap (λ (h : List Entry). flat_map (order_of h c) hands.marks) (sym (append-nil v.history) ∙ ap (λ (es : List Entry). v.history ++ es) (sym left.1));
    }
orders_at v w who l moment c sent (orders.Nothing n) caller (rests, none) =
    (stayed v w who l rests.before, subst (λ (h : List Entry). IsNothingOrdered (run v.config h) c n) (sym rests.before.same) none)

pub hands_over : {E : Type 0} (r : Result OrdersReply E) (v w : PoolView) (who : CallerNo) (l : ℕ) (moment : Moment) (c : ConnNo) (sent : ℕ) → who.0 ≢ 0 →
    IfOk r (λ x. IsOrdersOf v who moment c sent x w) → OnErr r (IsAsBefore v w) → MatchResult r (λ x. IsOrdersAt (seen_by v who l) moment c sent x (seen_by w who l)) (λ _. LeavesNone (seen_by v who l) (seen_by w who l))
hands_over (Ok x) v w who l moment c sent caller ok err = orders_at v w who l moment c sent x caller ok
hands_over (Err x) v w who l moment c sent caller ok err = stayed v w who l err

-- ---- what a worker may say

-- what the state allows is what the port does
pub tells : {E Said Legal : Type 0} (r : Result Bool E) → Said ↔ Legal → IfOk r (λ b. IsTrue b ↔ Legal) → IfOk r (λ b. IsTrue b ↔ Said)
tells (Ok b) law is = (λ t. law.1 (is.0 t), λ h. is.1 (law.0 h))
tells (Err e) law is = tt
