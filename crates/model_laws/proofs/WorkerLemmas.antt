-- What a worker may say stays so while others go on, since it is read off the worker's own entries.
use Rattle.std.proofs.Common.{◌≡◌, ◌≢◌, ◌≤◌, ◌<◌, ◌⊎◌, length, arith, Some, IsTrue, inl, inr, ℕ, List, [], ◌∷◌, ◌++◌, None, true, refl, sym, ap, subst, ◌∙◌, append-nil, IsSomeAnd}
use Rattle.std.specs.Prelude.{◌==◌}
use Rattle.std.proofs.lemmas.Bool.{cond-false}
use Rattle.std.proofs.lemmas.List.Elements.{All-tail, filter-append}
use Rattle.net_base.specs.declared.end_cause.EndCause.{EndCause}
use Rattle.net_base.specs.declared.numbers.CallerNo.{CallerNo}
use Rattle.net_base.specs.declared.numbers.ConnNo.{ConnNo}
use Rattle.net_base.specs.declared.numbers.Moment.{Moment}
use Rattle.model_laws.specs.WorkerLaws.{GoesOn, IsWorkersWord, WorkersWordsStayLegal, WorkersMayGoOnTaking, WorkersMayGoOnAsking, OthersChangeNoOwnCalls}
use Rattle.model_histories.proofs.AllowedLemmas.{reports_as_state_says, ends_as_state_says, works_as_state_says}
use Rattle.model_histories.proofs.SaidLemmas.{not_own, own_same}
use Rattle.model_histories.specs.Histories.{run}
use Rattle.model_histories.specs.Legal.{IsWorkersEntry, MayTake, MayTakeAt, MayReportAt, MayCloseAt, IsReply, IsLegal}
use Rattle.model_histories.specs.Port.{PortView, NoneOf, Held, held_from, MayWork, IsReportable, IsEndable}
use Rattle.model_histories.specs.Reading.{calls_of}
use Rattle.model_histories.specs.Working.{MayWorkAt}
use Rattle.model_settling.specs.Settling.{IsDue}
use Rattle.model_steps.specs.After.{noted}
use Rattle.model_values.specs.declared.config.Config.{Config}
use Rattle.model_values.specs.declared.entry.Act.{Act}
use Rattle.model_values.specs.declared.entry.Act.TheVariants.{Orders, Reported, Closed}
use Rattle.model_values.specs.declared.entry.Entry.{Entry}
use Rattle.model_values.specs.declared.order.OrderMark.{OrderMark}
use Rattle.model_values.specs.declared.report.Report.{Report}
use Rattle.model_values.specs.declared.state.AbstractPool.{AbstractPool}
use Rattle.model_values.specs.declared.state.Connection.{Connection}
use Rattle.model_authority.proofs.NumberLemmas.{and_value, value_and}
use Rattle.model_authority.specs.Lists.{numbered}
use Rattle.model_authority.specs.Statuses.{is_busy}

-- ---- what is read off a history

no_calls : (who : CallerNo) (es : List Entry) → NoneOf who es → calls_of es who ≡ []
no_calls who [] none = refl
no_calls who (e ∷ es) none =
    cond-false (e.who.0 == who.0) (e ∷ calls_of es who) (calls_of es who) (not_own who e es none)
    ∙ no_calls who es (All-tail (λ e. e.who ≢ who) e es none)

same_calls : (who : CallerNo) (h more : List Entry) → NoneOf who more → calls_of (h ++ more) who ≡ calls_of h who
same_calls who h more none =
    filter-append (λ (e : Entry). e.who.0 == who.0) h more
    ∙ ap (λ es. calls_of h who ++ es) (no_calls who more none)
    ∙ append-nil (calls_of h who)

pub others_change_no_own_calls : OthersChangeNoOwnCalls
others_change_no_own_calls who h more none = record { calls = same_calls who h more none; own = own_same who h more none }

-- ---- what a worker may say, by what it holds

-- a caller that has seen this history
view : Config → CallerNo → List Entry → PortView
view config who h = record { config = config; mine = who; seen = h; adds = λ k. true; lender = 0 }

-- what holds of what the caller holds holds of it behind entries of others
still_held : (who : CallerNo) (c : ConnNo) (h more : List Entry) (P : Held → Type 0) → NoneOf who more → IsSomeAnd (held_from c None (calls_of h who)) P →
    IsSomeAnd (held_from c None (calls_of (h ++ more) who)) P
still_held who c h more P none holds = subst (λ calls. IsSomeAnd (held_from c None calls) P) (sym (same_calls who h more none)) holds

still_tells : (config : Config) (who : CallerNo) (h more : List Entry) (c : ConnNo) (sent : ℕ) (r : Report) → GoesOn config who h more →
    MayReportAt (run config h) who c sent r → MayReportAt (run config (h ++ more)) who c sent r
unfolding view
still_tells config who h more c sent r goes tells =
    let held = (reports_as_state_says (view config who h) c sent r goes.history).1 tells in
    (reports_as_state_says (view config who (h ++ more)) c sent r goes.later).0
    (still_held who c h more (λ k. (k.sent ≤ sent) × IsReportable k r) goes.others held)

still_ends : (config : Config) (who : CallerNo) (h more : List Entry) (c : ConnNo) (sent : ℕ) (end : EndCause) → GoesOn config who h more →
    MayCloseAt (run config h) who c sent end → MayCloseAt (run config (h ++ more)) who c sent end
unfolding view
still_ends config who h more c sent end goes ends =
    let held = (ends_as_state_says (view config who h) c sent end goes.history).1 ends in
    (ends_as_state_says (view config who (h ++ more)) c sent end goes.later).0
    (still_held who c h more (λ k. (k.sent ≤ sent) × IsEndable k end) goes.others held)

pub workers_may_go_on_asking : WorkersMayGoOnAsking
unfolding view
workers_may_go_on_asking config h more who c sent goes works =
    let held = (works_as_state_says (view config who h) c sent goes.history).1 works in
    (works_as_state_says (view config who (h ++ more)) c sent goes.later).0
    (still_held who c h more (λ k. MayWork k sent) goes.others held)

-- ---- whether a worker's word is legal

-- it is no act of the pool itself
not_due : (s : AbstractPool) (act : Act) → IsWorkersWord act → IsDue s act → ⊥
not_due s (Reported c sent report) word due = due
not_due s (Closed c sent cause heard) word due = due
not_due s _ word due = word

-- the moment of an entry changes no connection
still_replies : (config : Config) (who : CallerNo) (h more : List Entry) (m : Moment) (act : Act) → GoesOn config who h more → IsWorkersWord act →
    IsReply (noted (run config h) m) who act → IsReply (noted (run config (h ++ more)) m) who act
unfolding noted
still_replies config who h more m (Reported c sent report) goes word reply = still_tells config who h more c sent report goes reply
still_replies config who h more m (Closed c sent cause heard) goes word reply = still_ends config who h more c sent cause goes reply
still_replies config who h more m _ goes word r = absurd word

pub workers_words_stay_legal : WorkersWordsStayLegal
workers_words_stay_legal config h more e goes word legal = elim legal [
  | inl pools ↦ absurd (not_due (run config h) e.act word pools.due)
  | inr calls ↦ inr (record { caller = calls.caller; reply = still_replies config e.who h more e.moment e.act goes word calls.reply })
]

-- ---- what a worker may take

order_item : (x : OrderMark) (xs : List OrderMark) → 0 < length (x ∷ xs)
order_item x xs = omega arith

-- the orders of a connection are none, or may be taken
none_or_taken : (s : AbstractPool) (who : CallerNo) (c : ConnNo) (sent : ℕ) (y : Connection) → numbered c.0 s.connections ≡ Some y → IsWorkersEntry y who sent → IsTrue (is_busy y.phase) →
    (y.orders ≡ []) ⊎ MayTakeAt s who c sent y.orders
none_or_taken s who c sent y is_item own busy = by y.orders refl
  where
    by : (orders : List OrderMark) → orders ≡ y.orders → (orders ≡ []) ⊎ MayTakeAt s who c sent orders
    by [] same = inl refl
    by (x ∷ xs) same = inr (and_value (numbered c.0 s.connections) (λ z. IsWorkersEntry z who sent × MayTake z (x ∷ xs)) y is_item (own, (busy, same, order_item x xs)))

-- whoever may take orders may ask for them
asks : (s : AbstractPool) (who : CallerNo) (c : ConnNo) (sent : ℕ) (orders : List OrderMark) → MayTakeAt s who c sent orders → MayWorkAt s who c sent
asks s who c sent orders may =
    let v = value_and (numbered c.0 s.connections) (λ x. IsWorkersEntry x who sent × MayTake x orders) may in
    and_value (numbered c.0 s.connections) (λ x. IsWorkersEntry x who sent × IsTrue (is_busy x.phase)) v.0 v.1 (v.2.0, v.2.1.0)

-- an entry that takes orders, and what its legality asks of the state
pub may_order : (s : AbstractPool) (e : Entry) (c : ConnNo) (sent : ℕ) (orders : List OrderMark) → e.act ≡ Orders c sent orders → IsLegal s e → (e.who.0 ≢ 0) × MayTakeAt s e.who c sent orders
unfolding noted
may_order s e c sent orders is legal = elim legal [
  | inl pools ↦ let due : IsDue s (Orders c sent orders) = subst (IsDue s) is pools.due in absurd due
  | inr calls ↦ (calls.caller, subst (IsReply (noted s e.moment) e.who) is calls.reply)
]

takes_legally : (s : AbstractPool) (e : Entry) (c : ConnNo) (sent : ℕ) (orders : List OrderMark) → e.who.0 ≢ 0 → MayTakeAt s e.who c sent orders → IsLegal s (record e { act = Orders c sent orders })
unfolding noted
takes_legally s e c sent orders caller may = inr (record { caller = caller; reply = may })

pub workers_may_go_on_taking : WorkersMayGoOnTaking
workers_may_go_on_taking config h more e c sent orders goes is legal =
    let s : AbstractPool = run config (h ++ more) in
    let may = may_order (run config h) e c sent orders is legal in
    let works = workers_may_go_on_asking config h more e.who c sent goes (asks (run config h) e.who c sent orders may.1) in
    let v = value_and (numbered c.0 s.connections) (λ x. IsWorkersEntry x e.who sent × IsTrue (is_busy x.phase)) works in
    and_value (numbered c.0 s.connections) (λ y. (y.orders ≡ []) ⊎ IsLegal s (record e { act = Orders c sent y.orders })) v.0 v.1
    (elim (none_or_taken s e.who c sent v.0 v.1 v.2.0 v.2.1) [
      | inl none ↦ inl none
      | inr taken ↦ inr (takes_legally s e c sent v.0.orders may.0 taken)
    ])
