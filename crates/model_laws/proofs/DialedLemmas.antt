-- What the entries so far say of each connection: none is about one that no caller has, and who has one dialed it, once.
use Rattle.std.proofs.Common.{◌≡◌, ◌≢◌, ◌≤◌, ◌⊎◌, ℕ, List, [], ◌∷◌, ◌++◌, Option, Some, None, Bool, true, false, inl, inr, refl, sym, ap, subst, ◌∙◌, arith, append-nil, length, take, slice_get, is_some, IsTrue, IsSomeAnd}
use Rattle.std.specs.Prelude.{◌==◌, ◌&&◌, not, nat_lt, All, Contains}
use Rattle.std.proofs.lemmas.Bool.{cond_both, cond-true, cond-false, both_ways, eqb-true, eq-eqb, cases_eq, false_from_ne_true}
use Rattle.std.proofs.lemmas.Grind.{flat_map-append}
use Rattle.std.proofs.lemmas.List.{take_all}
use Rattle.std.proofs.lemmas.Option.{slice_get_within, get_or_from_slice_get}
use Rattle.std.proofs.lemmas.List.Elements.{All-nil, All-head, All-tail, All-push, All-weaker, All-contains, Contains-append_left, Contains-push}
use Rattle.net_base.specs.declared.identity.Identity.{Identity}
use Rattle.net_base.specs.declared.numbers.CallerNo.{CallerNo}
use Rattle.net_base.specs.declared.numbers.ConnNo.{ConnNo}
use Rattle.net_base.specs.declared.numbers.ExchangeNo.{ExchangeNo}
use Rattle.net_base.specs.declared.numbers.Moment.{Moment}
use Rattle.net_base.specs.declared.numbers.StreamNo.{StreamNo}
use Rattle.net_base.specs.declared.target.Target.{Target}
use Rattle.model_changes.specs.Connections.{closing, dialing_by, suits, opened_with, refused_with, after_opened, stream_after, with_start, with_sent}
use Rattle.model_laws.proofs.CourseLemmas.{each_beginning}
use Rattle.model_laws.specs.Courses.{state_at, OfConnection}
use Rattle.model_laws.specs.DialLaws.{AreSilentOf, WantedOnesAreUntouched, IsToDial, DialsAreFirst, ConnectionsAreDialedOnce, AreTargetsOf, TargetsAreOfGroups, WasDialed, EntriesAreTheDialers, CallersHaveDialed}
use Rattle.model_histories.proofs.EditLemmas.{none_numbered, edit_here}
use Rattle.model_histories.proofs.EffectLemmas.{Lasting, Leaves, going_by, leaves_closing, IsReported, conn_of, Changes, effect_at}
use Rattle.model_histories.proofs.RunLemmas.{run_none, run-push}
use Rattle.model_histories.specs.Histories.{run, MayStand, IsHistory}
use Rattle.model_histories.specs.Legal.{IsWorkersEntry, MayReport, MayClose, MayTake, IsReply}
use Rattle.model_histories.specs.Reading.{is_about, dialed_by, targets_of}
use Rattle.model_histories.specs.Replies.{IsDial, waits_for_dial}
use Rattle.model_settling.specs.Settling.{IsDue}
use Rattle.model_steps.specs.After.{noted, after_dial, after_act, after}
use Rattle.model_authority.proofs.NumberLemmas.{value_and, and_value, passing}
use Rattle.model_authority.proofs.PhaseLemmas.{same_phase}
use Rattle.model_authority.specs.Lists.{numbered}
use Rattle.model_authority.specs.Statuses.{stage_of, is_wanted}
use Rattle.model_values.specs.declared.config.Config.{Config}
use Rattle.model_values.specs.declared.entry.Act.{Act}
use Rattle.model_values.specs.declared.entry.Act.TheVariants.{Dial, Orders, Reported, Closed, Expire, Lapse, Assign, Want, Evict}
use Rattle.model_values.specs.declared.entry.Entry.{Entry}
use Rattle.model_values.specs.declared.report.Report.{Report}
use Rattle.model_values.specs.declared.report.Report.TheVariants as report
use Rattle.model_values.specs.declared.state.AbstractPool.{AbstractPool}
use Rattle.model_values.specs.declared.state.Connection.{Connection}
use Rattle.model_values.specs.declared.state.Phase.{Phase}
use Rattle.model_values.specs.declared.state.Phase.TheVariants.{Wanted, Draining}

-- ---- what no entry but its Dial changes of a connection

abbrev is_dialed : Phase → Bool
is_dialed p = not (is_wanted p)

-- its group and its caller stay, and it isn't wanted again
pub record Lasts (x y : Connection) : Type 0 where
  pub group : y.group ≡ x.group
  pub caller : y.caller ≡ x.caller
  pub dialed : is_dialed x.phase ≡ true → is_dialed y.phase ≡ true

lasts_leaves : (x y : Connection) → Leaves x y → Lasts x y
lasts_leaves x y k = record {
  group = ap (λ (l : Lasting). l.group) k.lasts;
  caller = ap (λ (l : Lasting). l.caller) k.lasts;
  dialed = going_by (λ p q. is_dialed p) (λ p q. is_dialed q) refl x.phase y.phase k.phase;
}

lasts_opened : (is_shut : Bool) (now : Moment) (id : Identity) (c : Connection) → Lasts c (after_opened is_shut now id c)
unfolding after_opened
lasts_opened is_shut now id c =
    let shown : Connection = record c { identity = Some id } in
    let told : Lasts shown (closing shown) = lasts_leaves shown (closing shown) (leaves_closing shown) in
    cond_both (not is_shut && suits c.group id) (opened_with now id c) (refused_with id c) (Lasts c)
    (λ t. record { group = refl; caller = refl; dialed = λ d. refl }) (λ f. record { group = told.group; caller = told.caller; dialed = told.dialed })

lasts_reported : (s : AbstractPool) (sent : ℕ) (r : Report) (x y : Connection) → IsReported s r (with_sent sent x) y → Lasts x y
lasts_reported s sent (report.Opened id) x y is =
    let k : Lasts (with_sent sent x) (after_opened (is_some s.shutdown) s.latest id (with_sent sent x)) = lasts_opened (is_some s.shutdown) s.latest id (with_sent sent x) in
    subst (Lasts x) (sym is) (record { group = k.group; caller = k.caller; dialed = k.dialed })
lasts_reported s sent r x y is = let k : Lasts (with_sent sent x) y = lasts_leaves (with_sent sent x) y is in record { group = k.group; caller = k.caller; dialed = k.dialed }

lasts_with_start : (last : ℕ) (e : ExchangeNo) (r : StreamNo) (c : Connection) → Lasts c (with_start last e r c)
unfolding with_start
lasts_with_start last e r c = record {
  group = refl;
  caller = refl;
  dialed = λ d. cond_both (nat_lt last (stream_after r c)) Draining c.phase (λ (p : Phase). is_dialed p ≡ true) (λ t. refl) (λ f. d);
}

abbrev LastsAt : Option Connection → Option Connection → Type 0
LastsAt None None = Unit {0}
LastsAt None (Some y) = y.caller.0 ≡ 0
LastsAt (Some x) None = ⊥
LastsAt (Some x) (Some y) = Lasts x y

-- the act dials the connection of this number
abbrev dials : Act → ℕ → Bool
dials (Dial c goes_to) n = c.0 == n
dials _ n = false

lasts_change : (s : AbstractPool) (who : CallerNo) (act : Act) (x y : Connection) → Changes s who act x y → dials act (conn_of act) ≡ false → Lasts x y
lasts_change s who (Dial c goes_to) x y is none = absurd (both_ways (c.0 == c.0) none (eq-eqb c.0 c.0 refl))
lasts_change s who (Orders c sent orders) x y is none = subst (Lasts x) (sym is) (record { group = refl; caller = refl; dialed = λ d. d })
lasts_change s who (Reported c sent r) x y is none = lasts_reported s sent r x y is
lasts_change s who (Closed c sent cause heard) x y is none = subst (Lasts x) (sym is) (record { group = refl; caller = refl; dialed = λ d. refl })
lasts_change s who (Assign e c r by) x y is none = subst (Lasts x) (sym is) (lasts_with_start s.config.last_stream e r x)
lasts_change s who _ x y is none = lasts_leaves x y is

lasts_act : (s : AbstractPool) (who : CallerNo) (act : Act) (n : ℕ) → dials act n ≡ false → LastsAt (numbered n s.connections) (numbered n (after_act s who act).connections)
lasts_act s who act =
    effect_at (λ n o p. dials act n ≡ false → LastsAt o p) s who act (λ n none. tt) (λ n x y k none. lasts_leaves x y k)
    (λ adds n y new none. ap (λ (c : Connection). c.caller.0) new.is_new) (λ x y is_item is none. lasts_change s who act x y is none)

-- ---- what the entries so far say of a connection

-- the caller has the connection
abbrev IsOf : CallerNo → Connection → Type 0
IsOf who x = x.caller ≡ who

-- the entry is of this caller where it is about the connection
abbrev IsBy : ConnNo → CallerNo → Entry → Type 0
IsBy c who x = IsTrue (is_about c x.act) → x.who ≡ who

pub record IsSaid (es : List Entry) (c : ConnNo) (y : Connection) : Type 0 where
  pub untouched : y.caller.0 ≡ 0 → AreSilentOf es c
  pub by : All (IsBy c y.caller) es
  pub dialed : y.caller.0 ≢ 0 → (is_dialed y.phase ≡ true) × WasDialed es c y.caller × (targets_of es c ≡ y.group.target ∷ [])

abbrev SaidAt : List Entry → ConnNo → Option Connection → Type 0
SaidAt es c None = AreSilentOf es c
SaidAt es c (Some y) = IsSaid es c y

silent_on : (es : List Entry) (e : Entry) (c : ConnNo) → AreSilentOf es c → (¬ IsTrue (is_about c e.act)) → AreSilentOf (es ++ e ∷ []) c
silent_on es e c silent none = All-push (λ (x : Entry). ¬ IsTrue (is_about c x.act)) es e silent none

was_on : (es : List Entry) (e : Entry) (c : ConnNo) (who : CallerNo) → WasDialed es c who → WasDialed (es ++ e ∷ []) c who
was_on es e c who was = record { entry = was.entry; is_entry = Contains-append_left es (e ∷ []) was.entry was.is_entry; goes_to = was.goes_to; dials = was.dials; caller = was.caller }

targets_push : (es : List Entry) (e : Entry) (c : ConnNo) → targets_of (es ++ e ∷ []) c ≡ targets_of es c ++ dialed_by c e.act
targets_push es e c =
    flat_map-append (λ (x : Entry). dialed_by c x.act) es (e ∷ []) ∙ ap (λ ts. targets_of es c ++ ts) (append-nil (dialed_by c e.act))

none_dialed : (act : Act) (c : ConnNo) → dials act c.0 ≡ false → dialed_by c act ≡ []
none_dialed (Dial conn goes_to) c none = cond-false (conn.0 == c.0) (goes_to ∷ []) [] none
none_dialed _ c none = refl

targets_on : (es : List Entry) (e : Entry) (c : ConnNo) → dials e.act c.0 ≡ false → targets_of (es ++ e ∷ []) c ≡ targets_of es c
targets_on es e c none = targets_push es e c ∙ ap (λ ts. targets_of es c ++ ts) (none_dialed e.act c none) ∙ append-nil (targets_of es c)

silent_dialed : (act : Act) (c : ConnNo) → (¬ IsTrue (is_about c act)) → dials act c.0 ≡ false
silent_dialed (Dial conn goes_to) c none = false_from_ne_true (conn.0 == c.0) none
silent_dialed _ c none = refl

silent_targets : (es : List Entry) (c : ConnNo) → AreSilentOf es c → targets_of es c ≡ []
silent_targets [] c silent = refl
silent_targets (e ∷ es) c silent =
    let P : Entry → Type 0 = λ x. ¬ IsTrue (is_about c x.act) in
    ap (λ ts. ts ++ targets_of es c) (none_dialed e.act c (silent_dialed e.act c (All-head P e es silent))) ∙ silent_targets es c (All-tail P e es silent)

silent_by : (es : List Entry) (c : ConnNo) (who : CallerNo) → AreSilentOf es c → All (IsBy c who) es
silent_by es c who silent = All-weaker (λ (x : Entry). ¬ IsTrue (is_about c x.act)) (IsBy c who) (λ x none about. absurd (none about)) es silent

-- behind an entry that doesn't dial it, and is about it only where its caller has it
said_on : (es : List Entry) (e : Entry) (c : ConnNo) (o p : Option Connection) → dials e.act c.0 ≡ false → LastsAt o p → (IsTrue (is_about c e.act) → (e.who.0 ≢ 0) × IsSomeAnd o (IsOf e.who)) →
    SaidAt es c o → SaidAt (es ++ e ∷ []) c p
said_on es e c None None none lasts has said = silent_on es e c said (λ about. absurd (has about).1)
said_on es e c None (Some y) none lasts has said =
    let silent : AreSilentOf (es ++ e ∷ []) c = silent_on es e c said (λ about. absurd (has about).1) in
    record { untouched = λ free. silent; by = silent_by (es ++ e ∷ []) c y.caller silent; dialed = λ called. absurd (called lasts) }
said_on es e c (Some x) None none lasts has said = absurd lasts
said_on es e c (Some x) (Some y) none lasts has said =
    let caller : y.caller.0 ≡ x.caller.0 = ap (λ (k : CallerNo). k.0) lasts.caller in
    record {
      untouched = λ free. silent_on es e c (said.untouched (sym caller ∙ free)) (λ about. let h = has about in h.0 (ap (λ (k : CallerNo). k.0) (sym h.1) ∙ sym caller ∙ free));
      by = subst (λ who. All (IsBy c who) (es ++ e ∷ [])) (sym lasts.caller) (All-push (IsBy c x.caller) es e said.by (λ about. sym (has about).1));
      dialed = λ called.
          let before = said.dialed (λ free. called (caller ∙ free)) in (
            lasts.dialed before.0,
            subst (WasDialed (es ++ e ∷ []) c) (sym lasts.caller) (was_on es e c x.caller before.1),
            targets_on es e c none ∙ before.2 ∙ ap (λ t. t ∷ []) (ap (λ g. g.target) (sym lasts.group)),
          );
    }

-- ---- what a worker's entry asks

about_not_due : (s : AbstractPool) (act : Act) (c : ConnNo) → IsTrue (is_about c act) → IsDue s act → ⊥
about_not_due s (Expire e) c about due = absurd cc
about_not_due s (Lapse e) c about due = absurd cc
about_not_due s (Assign e d r by) c about due = absurd cc
about_not_due s (Want e d t) c about due = absurd cc
about_not_due s (Evict d) c about due = absurd cc
about_not_due s _ c about due = due

called : (s : AbstractPool) (e : Entry) (c : ConnNo) → IsTrue (is_about c e.act) → MayStand s e → (e.who.0 ≢ 0) × IsReply (noted s e.moment) e.who e.act
called s e c about stand = elim stand.legal [
  | inl pools ↦ absurd (about_not_due s e.act c about pools.due)
  | inr calls ↦ (calls.caller, calls.reply)
]

-- but for its Dial it is of the caller that has the connection
worked : (s : AbstractPool) (who : CallerNo) (act : Act) (c : ConnNo) → IsTrue (is_about c act) → dials act c.0 ≡ false → IsReply s who act → OfConnection s c (IsOf who)
worked s who (Dial conn goes_to) c about none reply = absurd (both_ways (conn.0 == c.0) none about)
worked s who (Orders conn sent orders) c about none reply =
    let v = value_and (numbered conn.0 s.connections) (λ x. IsWorkersEntry x who sent × MayTake x orders) reply in
    subst (λ n. IsSomeAnd (numbered n s.connections) (IsOf who)) (eqb-true conn.0 c.0 about) (and_value (numbered conn.0 s.connections) (IsOf who) v.0 v.1 v.2.0.caller)
worked s who (Reported conn sent report) c about none reply =
    let v = value_and (numbered conn.0 s.connections) (λ x. IsWorkersEntry x who sent × MayReport x report) reply in
    subst (λ n. IsSomeAnd (numbered n s.connections) (IsOf who)) (eqb-true conn.0 c.0 about) (and_value (numbered conn.0 s.connections) (IsOf who) v.0 v.1 v.2.0.caller)
worked s who (Closed conn sent cause heard) c about none reply =
    let v = value_and (numbered conn.0 s.connections) (λ x. IsWorkersEntry x who sent × MayClose x cause) reply in
    subst (λ n. IsSomeAnd (numbered n s.connections) (IsOf who)) (eqb-true conn.0 c.0 about) (and_value (numbered conn.0 s.connections) (IsOf who) v.0 v.1 v.2.0.caller)
worked s who _ c about none reply = absurd cc

worked_here : (s : AbstractPool) (e : Entry) (c : ConnNo) → IsTrue (is_about c e.act) → dials e.act c.0 ≡ false → MayStand s e → (e.who.0 ≢ 0) × OfConnection s c (IsOf e.who)
unfolding noted
worked_here s e c about none stand =
    let call = called s e c about stand in
    (call.0, worked (noted s e.moment) e.who e.act c about none call.1)

-- the act that dials it
pub conn_is : (c d : ConnNo) → c.0 ≡ d.0 → c ≡ d
conn_is c d same = let whole : ℕ → ConnNo = λ n. record { 0 = n } in ap whole same

dialing : (act : Act) (c : ConnNo) → dials act c.0 ≡ true → (goes_to : Target) × (act ≡ Dial c goes_to)
dialing (Dial conn goes_to) c is = (goes_to, ap (λ (d : ConnNo). Dial d goes_to) (conn_is conn c (eqb-true conn.0 c.0 is)))
dialing _ c is = absurd cc

pub dial_about : (c : ConnNo) (act : Act) (goes_to : Target) → act ≡ Dial c goes_to → IsTrue (is_about c act)
dial_about c act goes_to is = subst (λ (a : Act). IsTrue (is_about c a)) (sym is) (eq-eqb c.0 c.0 refl)

not_both : (p : Phase) → is_wanted p ≡ true → is_dialed p ≡ true → ⊥
not_both p wanted dialed = absurd (cc (wanted, dialed))

-- nobody has one that is wanted
free : (es : List Entry) (c : ConnNo) (x : Connection) → IsSaid es c x → is_wanted x.phase ≡ true → AreSilentOf es c
free es c x said wanted = elim (cases_eq x.caller.0 0) [
  | inl none ↦ said.untouched none
  | inr has ↦ absurd (not_both x.phase wanted (said.dialed has).0)
]

said_of : (es : List Entry) (c : ConnNo) (o : Option Connection) (x : Connection) → o ≡ Some x → SaidAt es c o → IsSaid es c x
said_of es c o x is said = subst (SaidAt es c) is said

to_dial : (s : AbstractPool) (es : List Entry) (c : ConnNo) (goes_to : Target) (d : IsDial s c goes_to) → SaidAt es c (numbered c.0 s.connections) → IsToDial es c goes_to d.connection
to_dial s es c goes_to d said =
    let x : Connection = d.connection in
    let p = passing waits_for_dial s.connections c.0 d.lowest.passes in
    let here : numbered c.0 s.connections ≡ Some x = d.is_connection in
    let same : p.0 ≡ x = cc (p.1, here) in
    let wanted : is_wanted x.phase ≡ true = subst (λ (y : Connection). is_wanted y.phase ≡ true) same p.2 in
    record {
      phase = same_phase x.phase Wanted (eqb-true (stage_of x.phase) 0 wanted);
      target = d.is_target;
      untouched = free es c x (said_of es c (numbered c.0 s.connections) x here said) wanted;
    }

dial_here : (s : AbstractPool) (e : Entry) (c : ConnNo) (goes_to : Target) → e.act ≡ Dial c goes_to → MayStand s e → (e.who.0 ≢ 0) × IsDial s c goes_to
unfolding noted
dial_here s e c goes_to is stand =
    let call = called s e c (dial_about c e.act goes_to is) stand in
    let d : IsDial (noted s e.moment) c goes_to = subst (IsReply (noted s e.moment) e.who) is call.1 in
    (call.0, record { lowest = d.lowest; connection = d.connection; is_connection = d.is_connection; is_target = d.is_target })

-- ---- behind any entry

-- behind its Dial
said_dialed : (es : List Entry) (e : Entry) (c : ConnNo) (goes_to : Target) (x : Connection) → e.act ≡ Dial c goes_to → e.who.0 ≢ 0 → IsToDial es c goes_to x → IsSaid (es ++ e ∷ []) c (dialing_by e.who x)
said_dialed es e c goes_to x is caller new = record {
  untouched = λ none. absurd (caller none);
  by = All-push (IsBy c e.who) es e (silent_by es c e.who new.untouched) (λ about. refl);
  dialed = λ has. (
    refl,
    record { entry = e; is_entry = Contains-push es e; goes_to = goes_to; dials = is; caller = refl },
    targets_push es e c
        ∙ ap (λ ts. ts ++ dialed_by c e.act) (silent_targets es c new.untouched)
        ∙ ap (λ (act : Act). dialed_by c act) is
        ∙ cond-true (c.0 == c.0) (goes_to ∷ []) [] (eq-eqb c.0 c.0 refl)
        ∙ ap (λ t. t ∷ []) new.target,
  );
}

dialed_at : (s : AbstractPool) (e : Entry) (c : ConnNo) (goes_to : Target) (x : Connection) → e.act ≡ Dial c goes_to → numbered c.0 s.connections ≡ Some x →
    numbered c.0 (after s e).connections ≡ Some (dialing_by e.who x)
unfolding after noted after_dial
dialed_at s e c goes_to x is is_item =
    ap (λ (act : Act). numbered c.0 (after_act (noted s e.moment) e.who act).connections) is ∙ edit_here c.0 (dialing_by e.who) s.connections x is_item

said_after : (s : AbstractPool) (es : List Entry) (e : Entry) (c : ConnNo) → MayStand s e → SaidAt es c (numbered c.0 s.connections) → SaidAt (es ++ e ∷ []) c (numbered c.0 (after s e).connections)
unfolding after noted
said_after s es e c stand said = by (dials e.act c.0) refl
  where
    by : (b : Bool) → dials e.act c.0 ≡ b → SaidAt (es ++ e ∷ []) c (numbered c.0 (after s e).connections)
    by true is =
        let act = dialing e.act c is in
        let d = dial_here s e c act.0 act.1 stand in
        subst (SaidAt (es ++ e ∷ []) c) (sym (dialed_at s e c act.0 d.1.connection act.1 d.1.is_connection))
        (said_dialed es e c act.0 d.1.connection act.1 d.0 (to_dial s es c act.0 d.1 said))
    by false none =
        said_on es e c (numbered c.0 s.connections) (numbered c.0 (after s e).connections) none (lasts_act (noted s e.moment) e.who e.act c.0 none)
        (λ about. worked_here s e c about none stand) said

said_none : (config : Config) (c : ConnNo) → SaidAt [] c (numbered c.0 (run config []).connections)
said_none config c =
    subst (λ (s : AbstractPool). SaidAt [] c (numbered c.0 s.connections)) (sym (run_none config))
    (subst (SaidAt [] c) (sym (none_numbered Connection c.0)) (All-nil (λ (x : Entry). ¬ IsTrue (is_about c x.act))))

-- at each state of a history
pub said_each : (config : Config) (h : List Entry) (n : ℕ) (c : ConnNo) → IsHistory config h → SaidAt (take n h) c (numbered c.0 (state_at config h n).connections)
said_each config h n c history =
    each_beginning config h (λ es. SaidAt es c (numbered c.0 (run config es).connections)) history (said_none config c)
    (λ es e stand said. subst (λ (s : AbstractPool). SaidAt (es ++ e ∷ []) c (numbered c.0 s.connections)) (sym (run-push config es e)) (said_after (run config es) es e c stand said)) n

-- ---- the laws

pub wanted_ones_are_untouched : WantedOnesAreUntouched
wanted_ones_are_untouched config h n c x history is_item wanted =
    free (take n h) c x (said_of (take n h) c (numbered c.0 (state_at config h n).connections) x is_item (said_each config h n c history)) (ap (λ (p : Phase). is_wanted p) wanted)

pub dials_are_first : DialsAreFirst
dials_are_first config h n e c goes_to comes is =
    let s : AbstractPool = state_at config h n in
    let d = (dial_here s e c goes_to is (comes.history.each n e comes.is_entry)).1 in
    and_value (numbered c.0 s.connections) (IsToDial (take n h) c goes_to) d.connection d.is_connection (to_dial s (take n h) c goes_to d (said_each config h n c comes.history))

targets_said : (es : List Entry) (c : ConnNo) (o : Option Connection) → SaidAt es c o → AreTargetsOf (targets_of es c) o
targets_said es c None said = silent_targets es c said
targets_said es c (Some y) said = record { none = λ free_one. silent_targets es c (said.untouched free_one); one = λ has. (said.dialed has).2 }

pub targets_are_of_groups : TargetsAreOfGroups
targets_are_of_groups config h n c history = targets_said (take n h) c (numbered c.0 (state_at config h n).connections) (said_each config h n c history)

most_one : (ts : List Target) (o : Option Connection) → AreTargetsOf ts o → length ts ≤ 1
most_one ts None are = let none : length ts ≡ 0 = ap (λ (us : List Target). length us) are in omega arith
most_one ts (Some y) are = elim (cases_eq y.caller.0 0) [
  | inl none ↦ let e : length ts ≡ 0 = ap (λ (us : List Target). length us) (are.none none) in omega arith
  | inr has ↦ let e : length ts ≡ 1 = ap (λ (us : List Target). length us) (are.one has) in omega arith
]

pub connections_are_dialed_once : ConnectionsAreDialedOnce
connections_are_dialed_once config h c history =
    let whole : take (length h) h ≡ h = take_all (length h) h (omega arith) in
    subst (λ (es : List Entry). length (targets_of es c) ≤ 1) whole
    (most_one (targets_of (take (length h) h) c) (numbered c.0 (state_at config h (length h)).connections) (targets_are_of_groups config h (length h) c history))

pub callers_have_dialed : CallersHaveDialed
callers_have_dialed config h n c x history is_item has =
    ((said_of (take n h) c (numbered c.0 (state_at config h n).connections) x is_item (said_each config h n c history)).dialed has).1

pub entries_are_the_dialers : EntriesAreTheDialers
entries_are_the_dialers config h n e c comes about = by (dials e.act c.0) refl
  where
    by : (b : Bool) → dials e.act c.0 ≡ b → ((goes_to : Target) × (e.act ≡ Dial c goes_to)) ⊎ WasDialed (take n h) c e.who
    by true is = inl (dialing e.act c is)
    by false none =
        let s : AbstractPool = state_at config h n in
        let w = worked_here s e c about none (comes.history.each n e comes.is_entry) in
        let v = value_and (numbered c.0 s.connections) (IsOf e.who) w.1 in
        inr (subst (WasDialed (take n h) c) v.2
        (callers_have_dialed config h n c v.0 comes.history v.1 (λ zero_caller. w.0 (ap (λ (k : CallerNo). k.0) (sym v.2) ∙ zero_caller))))

-- ---- what is used elsewhere

pub targets_have : (config : Config) (h : List Entry) (n : ℕ) (c : ConnNo) (y : Connection) → IsHistory config h → numbered c.0 (state_at config h n).connections ≡ Some y →
    y.caller.0 ≢ 0 → targets_of (take n h) c ≡ y.group.target ∷ []
targets_have config h n c y history is_item has =
    ((said_of (take n h) c (numbered c.0 (state_at config h n).connections) y is_item (said_each config h n c history)).dialed has).2

is_in : (h : List Entry) (i : ℕ) (x : Entry) → slice_get h i ≡ Some x → Contains h x
is_in h i x is_entry = (i, slice_get_within h i x is_entry, get_or_from_slice_get h i x x is_entry)

speaker : (es : List Entry) (c : ConnNo) (o : Option Connection) (x y : Entry) → SaidAt es c o → Contains es x → Contains es y → IsTrue (is_about c x.act) → IsTrue (is_about c y.act) → y.who ≡ x.who
speaker es c None x y said first second about also = absurd (All-contains (λ (z : Entry). ¬ IsTrue (is_about c z.act)) es x said first about)
speaker es c (Some z) x y said first second about also =
    All-contains (IsBy c z.caller) es y said.by second also ∙ sym (All-contains (IsBy c z.caller) es x said.by first about)

-- all entries of a history about a connection are of one caller
pub one_speaker : (config : Config) (h : List Entry) (n m : ℕ) (x y : Entry) (c : ConnNo) → IsHistory config h → slice_get h n ≡ Some x → slice_get h m ≡ Some y →
    IsTrue (is_about c x.act) → IsTrue (is_about c y.act) → y.who ≡ x.who
one_speaker config h n m x y c history first second about also =
    let whole : take (length h) h ≡ h = take_all (length h) h (omega arith) in
    let said : SaidAt h c (numbered c.0 (state_at config h (length h)).connections) =
    subst (λ (es : List Entry). SaidAt es c (numbered c.0 (state_at config h (length h)).connections)) whole (said_each config h (length h) c history) in
    speaker h c (numbered c.0 (state_at config h (length h)).connections) x y said (is_in h n x first) (is_in h m y second) about also
