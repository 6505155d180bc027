-- A history with one more entry, and with what the pool does by itself behind it.
use Rattle.std.proofs.Common.{◌≡◌, ◌≢◌, ◌<◌, ◌≤◌, ℕ, zero, suc, Bool, true, false, if◌then◌else◌, List, [], ◌∷◌, ◌++◌, Some, None, inl, inr, refl, sym, ap, subst, ◌∙◌, arith, append_assoc, length, length-append, take, slice_get}
use Rattle.std.specs.Prelude.{◌==◌, ◌↔◌, max, All, IsTrue, IsSomeAnd}
use Rattle.std.proofs.lemmas.List.{append-nil, take_all, take-append-le}
use Rattle.std.proofs.lemmas.Bool.{cases_order}
use Rattle.std.proofs.lemmas.Option.{slice_get_within}
use Rattle.std.proofs.Math.Seq.{take-append_seam}
use Rattle.std.proofs.lemmas.List.Elements.{All-nil, All-cons, All-append, All-filter}
use Rattle.model_histories.proofs.RunLemmas.{run-push, run_none}
use Rattle.model_histories.specs.Histories.{run, opening, MayStand, IsHistory}
use Rattle.net_base.specs.declared.numbers.Moment.{Moment}
use Rattle.model_histories.specs.Legal.{IsReply, IsWorkersEntry, MayTake, MayReportAt, MayCloseAt, MayTakeAt}
use Rattle.model_histories.specs.Working.{MayWorkAt, WantedAreUntouched}
use Rattle.net_base.specs.declared.end_cause.EndCause.{EndCause}
use Rattle.net_base.specs.declared.numbers.CallerNo.{CallerNo}
use Rattle.net_base.specs.declared.numbers.ConnNo.{ConnNo}
use Rattle.model_values.specs.declared.order.OrderMark.{OrderMark}
use Rattle.model_values.specs.declared.report.Report.{Report}
use Rattle.model_authority.specs.Statuses.{is_busy}
use Rattle.model_histories.specs.Looks.{NoneWanted, IsLateAt}
use Rattle.model_laws.specs.LongerLaws.{LateIgnoresEntries}
use Rattle.model_laws.specs.Sound.{ReachedIsSound}
use Rattle.model_values.specs.Limits.{most_connections, most_judged}
use Rattle.net_base.specs.declared.target.Target.{Target}
use Rattle.model_histories.proofs.DialLemmas.{dial_goes}
use Rattle.model_histories.specs.Replies.{dial_of, waits_for_dial, IsDial}
use Rattle.model_histories.specs.Reading.{calls_of, is_about}
use Rattle.model_settling.proofs.DueLemmas.{settled_none}
use Rattle.model_values.specs.declared.state.Connection.{Connection}
use Rattle.model_authority.proofs.NumberLemmas.{and_value, passing, value_and}
use Rattle.model_authority.specs.Lists.{numbered, Passes}
use Rattle.model_settling.proofs.LowestLemmas.{lowest_none}
use Rattle.model_settling.specs.Due.{IsNext, act_of, due_of, expire_due, lapse_due, assign_due, want_due, evict_due, must_evict, lowest_from, least_from}
use Rattle.model_settling.specs.Settling.{IsSettled, IsLate}
use Rattle.model_settling.specs.declared.kinds.Due.{Due}
use Rattle.model_steps.specs.After.{after, after_act, noted}
use Rattle.model_values.specs.declared.config.Config.{Config}
use Rattle.model_values.specs.declared.entry.Act.{Act}
use Rattle.model_values.specs.declared.entry.Entry.{Entry}
use Rattle.model_values.specs.declared.state.AbstractPool.{AbstractPool}
use Rattle.dispatch_core.specs.Pools.{PoolView, Stands, IsAsBefore, Rests, Enters}
use Rattle.dispatch_core.specs.Ranges.{AreWithinRanges}
use Rattle.dispatch_core.specs.Steps.{Reaches, Extends, Goes, Settles, Follows}

-- ---- what was there

pub extends_none : (h : List Entry) → Extends h h
extends_none h = record { behind = []; seen = sym (append-nil h) }

pub extends_then : (a b d : List Entry) → Extends a b → Extends b d → Extends a d
extends_then a b d s t = record { behind = s.behind ++ t.behind; seen = t.seen ∙ ap (λ (l : List Entry). l ++ t.behind) s.seen ∙ append_assoc a s.behind t.behind }

pub extends_by : (a b : List Entry) (e : Entry) → b ≡ a ++ e ∷ [] → Extends a b
extends_by a b e is = record { behind = e ∷ []; seen = is }

-- what was cut back is what was there
pub cut_back : (a b : List Entry) → Extends a b → take (length a) b ≡ a
cut_back a b x = ap (take (length a)) x.seen ∙ take-append_seam a x.behind

-- ---- one more

some_same : {A : Type 0} (x y : A) → Some x ≡ Some y → x ≡ y
some_same x y e = cc

pub at_end : {A : Type 0} (xs : List A) (x : A) (behind : List A) → slice_get (xs ++ x ∷ behind) (length xs) ≡ Some x
at_end [] x behind = refl
at_end (y ∷ ys) x behind = at_end ys x behind

at_left : {A : Type 0} (xs ys : List A) (i : ℕ) → i < length xs → slice_get (xs ++ ys) i ≡ slice_get xs i
at_left [] ys i lt = absurd (omega arith)
at_left (x ∷ xs) ys zero lt = refl
at_left (x ∷ xs) ys (suc i) lt = at_left xs ys i (omega arith)

pub reaches_more : (config : Config) (h : List Entry) (s : AbstractPool) (e : Entry) → Reaches config h s → MayStand s e → Reaches config (h ++ e ∷ []) (after s e)
reaches_more config h s e r stands = record {
  each = λ i x is_entry. elim (cases_order i (length h)) [
    | inl here ↦
        let at : slice_get (h ++ e ∷ []) (length h) ≡ Some x = ap (slice_get (h ++ e ∷ [])) (sym here) ∙ is_entry in
        let same : e ≡ x = some_same e x (sym (at_end h e []) ∙ at) in
        let before : take i (h ++ e ∷ []) ≡ h = ap (λ (k : ℕ). take k (h ++ e ∷ [])) here ∙ take-append_seam h (e ∷ []) in
        subst (λ (l : List Entry). MayStand (run config l) x) (sym before) (subst (MayStand (run config h)) same (subst (λ (t : AbstractPool). MayStand t e) r.state stands))
    | inr (inl earlier) ↦
        let there : slice_get h i ≡ Some x = sym (at_left h (e ∷ []) i earlier) ∙ is_entry in
        let le : i ≤ length h = omega (arith, earlier) in
        subst (λ (l : List Entry). MayStand (run config l) x) (sym (take-append-le i h (e ∷ []) le)) (r.each i x there)
    | inr (inr later) ↦
        let within : i < length (h ++ e ∷ []) = slice_get_within (h ++ e ∷ []) i x is_entry in
        absurd (omega (arith, later, within, length-append h (e ∷ [])))
  ];
  state = ap (λ (t : AbstractPool). after t e) r.state ∙ sym (run-push config h e);
}

pub stepped : (config : Config) (h g : List Entry) (s t : AbstractPool) (e : Entry) → Reaches config h s → MayStand s e → t ≡ after s e → g ≡ h ++ e ∷ [] → Reaches config g t
stepped config h g s t e r stands left seen = subst (λ (l : List Entry). Reaches config l t) (sym seen) (subst (Reaches config (h ++ e ∷ [])) (sym left) (reaches_more config h s e r stands))

-- ---- what the pool does by itself

pub goes_none : (config : Config) (h : List Entry) (s : AbstractPool) → Reaches config h s → Goes config h h s
goes_none config h s r = record { reaches = r; behind = []; seen = sym (append-nil h); own = All-nil (λ (x : Entry). x.who.0 ≡ 0) }

pub goes_then : (config : Config) (a b d : List Entry) (s t : AbstractPool) → Goes config a b s → Goes config b d t → Goes config a d t
goes_then config a b d s t g f = record {
  reaches = f.reaches;
  behind = g.behind ++ f.behind;
  seen = f.seen ∙ ap (λ (l : List Entry). l ++ f.behind) g.seen ∙ append_assoc a g.behind f.behind;
  own = All-append (λ (x : Entry). x.who.0 ≡ 0) g.behind f.behind g.own f.own;
}

pub goes_one : (config : Config) (h g : List Entry) (s : AbstractPool) (e : Entry) → Reaches config g s → e.who.0 ≡ 0 → g ≡ h ++ e ∷ [] → Goes config h g s
goes_one config h g s e r own is = record { reaches = r; behind = e ∷ []; seen = is; own = All-cons (λ (x : Entry). x.who.0 ≡ 0) e [] own (All-nil (λ (x : Entry). x.who.0 ≡ 0)) }

-- what is due may stand
pub due_stands : (s : AbstractPool) (d : Due) (act : Act) → IsNext s d → act_of s d ≡ Some act → MayStand s (record { who = record { 0 = 0 }; moment = s.latest; act = act })
due_stands s d act next is = record { legal = inl (record { caller = refl; moment = refl; due = (next.only act).1 is }); settled = λ not_pool. absurd (not_pool refl) }

-- ---- a call

after_is : (s : AbstractPool) (e : Entry) → after s e ≡ after_act (noted s e.moment) e.who e.act
unfolding after
after_is s e = refl

pub reaches_history : (config : Config) (h : List Entry) → IsHistory config h → Reaches config h (run config h)
reaches_history config h is = record { each = is.each; state = refl }

-- a call's entry that has the reply of the settled state may stand there
pub call_stands : (s : AbstractPool) (e : Entry) → IsSettled s → e.who.0 ≢ 0 → IsReply (noted s e.moment) e.who e.act → MayStand s e
call_stands s e settled caller reply = record { legal = inr (record { caller = caller; reply = reply }); settled = λ c. settled }

pub call_reaches : (config : Config) (h g : List Entry) (e : Entry) (s t : AbstractPool) → IsHistory config h → e.who.0 ≢ 0 → s ≡ noted (run config h) e.moment → IsReply s e.who e.act →
    t ≡ after_act s e.who e.act → g ≡ h ++ e ∷ [] → Reaches config g t
call_reaches config h g e s t is caller at reply done seen =
    let stands : MayStand (run config h) e = call_stands (run config h) e is.settled caller (subst (λ (x : AbstractPool). IsReply x e.who e.act) at reply) in
    let more : Reaches config (h ++ e ∷ []) (after (run config h) e) = reaches_more config h (run config h) e (reaches_history config h is) stands in
    let left : t ≡ after (run config h) e = done ∙ ap (λ (x : AbstractPool). after_act x e.who e.act) at ∙ sym (after_is (run config h) e) in
    subst (λ (l : List Entry). Reaches config l t) (sym seen) (subst (Reaches config (h ++ e ∷ [])) (sym left) more)

pub call_follows : (config : Config) (h g k : List Entry) (e : Entry) (t : AbstractPool) → g ≡ h ++ e ∷ [] → Settles config g k t → Follows config h e k t
call_follows config h g k e t seen s = record {
  behind = s.goes.behind;
  seen = s.goes.seen ∙ ap (λ (l : List Entry). l ++ s.goes.behind) seen ∙ append_assoc h (e ∷ []) s.goes.behind;
  own = s.goes.own;
  history = record { each = s.goes.reaches.each; settled = subst IsSettled s.goes.reaches.state s.settled };
  state = s.goes.reaches.state;
}

-- ---- dials

pub none_wanted : (s : AbstractPool) → dial_of s ≡ None → NoneWanted s
unfolding dial_of
none_wanted s none number = lowest_none waits_for_dial s.connections none number

pub dial_noted : (s : AbstractPool) (m : Moment) → dial_of (noted s m) ≡ dial_of s
unfolding dial_of noted
dial_noted s m = refl

pub dial_target : (s : AbstractPool) (number : ℕ) (c : Connection) (target : Target) → dial_of s ≡ Some number → numbered number s.connections ≡ Some c → target ≡ c.group.target →
    IsDial s (record { 0 = number }) target
dial_target s number c target next found goes = dial_goes s number target next (and_value (numbered number s.connections) (λ (x : Connection). target ≡ x.group.target) c found goes)

-- ---- a pool that nothing was asked of

if_same : {A : Type 0} (b : Bool) (x : A) → (if b then x else x) ≡ x
if_same true x = refl
if_same false x = refl

opening_evict : (config : Config) → evict_due (opening config) ≡ None
unfolding evict_due least_from
opening_evict config = if_same (must_evict (opening config)) None

opening_due : (config : Config) → due_of (opening config) ≡ None
unfolding due_of expire_due lapse_due assign_due want_due lowest_from least_from
opening_due config = opening_evict config

pub new_history : (config : Config) → IsHistory config []
new_history config = record { each = λ i e is_entry. absurd cc; settled = subst IsSettled (sym (run_none config)) (settled_none (opening config) (opening_due config)) }

pub new_stands : (config : Config) (h : List Entry) (s : AbstractPool) → AreWithinRanges config → h ≡ [] → s ≡ run config [] → Stands config h (Some s)
new_stands config h s ranges none left = subst (λ (l : List Entry). Stands config l (Some s)) (sym none) (record { ranges = ranges; history = new_history config; state = left })

-- ---- a worker's words: they are judged by the connections alone

pub may_tell_noted : (s t : AbstractPool) (m : Moment) (who : CallerNo) (c : ConnNo) (sent : ℕ) (r : Report) → t ≡ noted s m → MayReportAt s who c sent r → MayReportAt t who c sent r
unfolding noted
may_tell_noted s t m who c sent r at may = subst (λ (x : AbstractPool). MayReportAt x who c sent r) (sym at) may

pub may_end_noted : (s t : AbstractPool) (m : Moment) (who : CallerNo) (c : ConnNo) (sent : ℕ) (end : EndCause) → t ≡ noted s m → MayCloseAt s who c sent end → MayCloseAt t who c sent end
unfolding noted
may_end_noted s t m who c sent end at may = subst (λ (x : AbstractPool). MayCloseAt x who c sent end) (sym at) may

may_order_noted : (s t : AbstractPool) (m : Moment) (who : CallerNo) (c : ConnNo) (sent : ℕ) (marks : List OrderMark) → t ≡ noted s m → MayTakeAt s who c sent marks → MayTakeAt t who c sent marks
unfolding noted
may_order_noted s t m who c sent marks at may = subst (λ (x : AbstractPool). MayTakeAt x who c sent marks) (sym at) may

-- who may ask for the orders of a connection may take those that are pending
pub may_take_noted : (s t : AbstractPool) (m : Moment) (who : CallerNo) (c : ConnNo) (sent : ℕ) (marks : List OrderMark) → t ≡ noted s m → MayWorkAt s who c sent →
    IsSomeAnd (numbered c.0 s.connections) (λ x. marks ≡ x.orders) → 0 < length marks → MayTakeAt t who c sent marks
may_take_noted s t m who c sent marks at works pending some =
    let x = value_and (numbered c.0 s.connections) (λ (y : Connection). IsWorkersEntry y who sent × IsTrue (is_busy y.phase)) works in
    let y = value_and (numbered c.0 s.connections) (λ (z : Connection). marks ≡ z.orders) pending in
    let same : y.0 ≡ x.0 = some_same y.0 x.0 (sym y.1 ∙ x.1) in
    let are : marks ≡ x.0.orders = y.2 ∙ ap (λ (z : Connection). z.orders) same in
    may_order_noted s t m who c sent marks at
    (and_value (numbered c.0 s.connections) (λ (z : Connection). IsWorkersEntry z who sent × MayTake z marks) x.0 x.1 (x.2.0, (x.2.1, are, some)))

-- who is to dial a connection has said nothing of it
pub new_to : (config : Config) (h : List Entry) (s : AbstractPool) (m : Moment) (who : CallerNo) (c : ConnNo) (target : Target) → WantedAreUntouched → IsHistory config h → s ≡ noted (run config h) m → IsDial s c target →
    All (λ (e : Entry). ¬ IsTrue (is_about c e.act)) (calls_of h who)
unfolding noted
new_to config h s m who c target law history at dial =
    let there : Passes waits_for_dial (run config h).connections c.0 = subst (λ (t : AbstractPool). Passes waits_for_dial t.connections c.0) at dial.lowest.passes in
    let x = passing waits_for_dial (run config h).connections c.0 there in
    All-filter (λ (e : Entry). e.who.0 == who.0) (λ (e : Entry). ¬ IsTrue (is_about c e.act)) h (law config h c x.0 history x.1 x.2)

-- ---- what a call leaves, by the pool before it

pub before_same : (v : PoolView) → IsHistory v.config v.history → IsAsBefore v v
before_same v history = record { config = refl; same = refl; history = history }

pub before_then : (u v w : PoolView) → IsAsBefore u v → IsAsBefore v w → IsAsBefore u w
before_then u v w first second = record { config = second.config ∙ first.config; same = second.same ∙ first.same; history = second.history }

pub rests_behind : (u v w : PoolView) → IsAsBefore u v → Rests v w → Rests u w
rests_behind u v w first second = record { before = before_then u v w first second.before; at_hand = second.at_hand }

pub enters_behind : (u v w : PoolView) (who : CallerNo) (moment : Moment) (act : Act) → IsAsBefore u v → Enters v who moment act w → Enters u who moment act w
enters_behind u v w who moment act first second = record {
  config = second.config ∙ first.config;
  adds = record {
    behind = second.adds.behind;
    history = second.adds.history ∙ ap (λ (h : List Entry). h ++ record { who = who; moment = moment; act = act } ∷ second.adds.behind) first.same;
    settles = second.adds.settles;
  };
  history = second.history;
  at_hand = second.at_hand;
}

-- ---- looks

-- a look is late where something is due once the greatest moment alone is raised to its own
pub late_by : LateIgnoresEntries → (s : AbstractPool) (m : Moment) (n : ℕ) (b : Bool) → n ≡ max s.latest.0 m.0 → (IsTrue b ↔ IsLate (record s { latest = record { 0 = n } })) → IsTrue b ↔ IsLateAt s m
late_by law s m n b is late =
    let here : IsTrue b ↔ IsLate (record s { latest = record { 0 = max s.latest.0 m.0 } }) = subst (λ (k : ℕ). IsTrue b ↔ IsLate (record s { latest = record { 0 = k } })) is late in
    (λ t. (law s m).1 (here.0 t), λ t. here.1 ((law s m).0 t))

-- a state that a history leaves has few connections
pub few_now : ReachedIsSound → (v w : PoolView) (s : AbstractPool) → IsAsBefore v w → s ≡ run v.config v.history → length s.connections ≤ most_judged
few_now law v w s before is =
    let there : IsHistory v.config w.history = subst (λ (config : Config). IsHistory config w.history) before.config before.history in
    let history : IsHistory v.config v.history = subst (IsHistory v.config) before.same there in
    let few : length (run v.config (take (length v.history) v.history)).connections ≤ most_connections = (law v.config v.history (length v.history) history).connections in
    let here : length (run v.config v.history).connections ≤ most_connections = subst (λ (h : List Entry). length (run v.config h).connections ≤ most_connections) (take_all (length v.history) v.history (omega arith)) few in
    let at : length s.connections ≤ most_connections = subst (λ (t : AbstractPool). length t.connections ≤ most_connections) (sym is) here in
    omega (arith, at)
