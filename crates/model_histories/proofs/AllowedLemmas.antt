-- What a worker may say at a port by what it holds is what is legal for it at the state.
use Rattle.std.proofs.Common.{◌≡◌, ◌≤◌, ◌↔◌, Option, Some, None, Bool, true, false, cond, refl, sym, ap, subst, IsTrue, IsSomeAnd}
use Rattle.std.specs.Prelude.{◌==◌, ◌||◌}
use Rattle.std.proofs.lemmas.Bool.{and_parts, and_from, eqb-true, eq-eqb, both_ways}
use Rattle.net_base.specs.declared.end_cause.EndCause.{EndCause}
use Rattle.net_base.specs.declared.end_cause.EndCause.TheVariants as cause
use Rattle.net_base.specs.declared.numbers.CallerNo.{CallerNo}
use Rattle.net_base.specs.declared.numbers.ConnNo.{ConnNo}
use Rattle.model_histories.proofs.HeldLemmas.{report_phase}
use Rattle.model_authority.proofs.PhaseLemmas.{excludes}
use Rattle.model_histories.proofs.OwnLemmas.{busy_live, reported_in, closed_live}
use Rattle.model_histories.proofs.WorkingLemmas.{holds_as_state_says}
use Rattle.model_histories.specs.Histories.{IsHistory, run}
use Rattle.model_histories.specs.Legal.{IsWorkersEntry, MayReport, MayClose}
use Rattle.model_histories.specs.Port.{PortView, Held, held_by, MayWork, is_opening_report, IsReportable, IsEndable}
use Rattle.model_histories.specs.Working.{works_on, holding, held_of, held_in, ReportsAsStateSays, EndsAsStateSays, WorksAsStateSays}
use Rattle.model_authority.specs.Lists.{numbered}
use Rattle.model_authority.specs.Statuses.{is_dialing, is_busy}
use Rattle.model_values.specs.declared.report.Report.{Report}
use Rattle.model_values.specs.declared.report.Report.TheVariants as report
use Rattle.model_values.specs.declared.state.Connection.{Connection}
use Rattle.model_values.specs.declared.state.Phase.{Phase}

-- ---- a fact of what is held, and a fact of the connection

-- dialed or opened
abbrev IsLive : Connection → Type 0
IsLive x = (is_dialing x.phase || is_busy x.phase) ≡ true

-- of a connection that this caller has dialed or opened, one holds where the other does, and the other only of such
record GoTogether (who : CallerNo) (P : Held → Type 0) (Q : Connection → Type 0) : Type 0 where
  there : (x : Connection) → x.caller ≡ who → IsLive x → P (holding x) → Q x
  back : (x : Connection) → Q x → (x.caller ≡ who) × IsLive x × P (holding x)

some_where : (b : Bool) (h : Held) (P : Held → Type 0) → IsSomeAnd (cond b (Some h) None) P → (b ≡ true) × P h
some_where true h P k = (refl, k)
some_where false h P k = absurd k

where_some : (b : Bool) (h : Held) (P : Held → Type 0) → b ≡ true → P h → IsSomeAnd (cond b (Some h) None) P
where_some b h P e k = subst (λ d. IsSomeAnd (cond d (Some h) None) P) (sym e) k

told_there : (who : CallerNo) (P : Held → Type 0) (Q : Connection → Type 0) (o : Option Connection) → GoTogether who P Q → IsSomeAnd (held_of who o) P → IsSomeAnd o Q
told_there who P Q None g h = absurd h
told_there who P Q (Some x) g h =
    let w = some_where (works_on who x) (holding x) P h in
    let p = and_parts (x.caller.0 == who.0) (is_dialing x.phase || is_busy x.phase) w.0 in
    g.there x (ap (λ n. record { 0 = n }) (eqb-true x.caller.0 who.0 p.0)) p.1 w.1

told_back : (who : CallerNo) (P : Held → Type 0) (Q : Connection → Type 0) (o : Option Connection) → GoTogether who P Q → IsSomeAnd o Q → IsSomeAnd (held_of who o) P
told_back who P Q None g h = absurd h
told_back who P Q (Some x) g h =
    let b = g.back x h in
    let mine : (x.caller.0 == who.0) ≡ true = eq-eqb x.caller.0 who.0 (ap (λ (k : CallerNo). k.0) b.0) in
    where_some (works_on who x) (holding x) P (and_from (x.caller.0 == who.0) (is_dialing x.phase || is_busy x.phase) mine b.1) b.2

-- in each history
told : (v : PortView) (c : ConnNo) (P : Held → Type 0) (Q : Connection → Type 0) → IsHistory v.config v.seen → GoTogether v.mine P Q →
    IsSomeAnd (held_by v c) P ↔ IsSomeAnd (numbered c.0 (run v.config v.seen).connections) Q
unfolding held_in
told v c P Q history g =
    let o : Option Connection = numbered c.0 (run v.config v.seen).connections in
    let same : held_by v c ≡ held_of v.mine o = holds_as_state_says v.config v.seen v.mine c history in
    (λ h. told_there v.mine P Q o g (subst (λ k. IsSomeAnd k P) same h), λ h. subst (λ k. IsSomeAnd k P) (sym same) (told_back v.mine P Q o g h))

-- ---- phases

-- what is dialed or opened and wasn't opened is dialed
is_dialed : (d b : Bool) → (d || b) ≡ true → (IsTrue b → ⊥) → IsTrue d
is_dialed true b live not_opened = refl
is_dialed false b live not_opened = absurd (not_opened live)

not_opened_yet : (p : Phase) → IsTrue (is_dialing p) → IsTrue (is_busy p) → ⊥
not_opened_yet p dialing opened = both_ways (is_busy p) (excludes is_dialing is_busy refl p dialing) opened

-- ---- reports

reported_there : (x : Connection) (r : Report) → IsLive x → IsReportable (holding x) r → MayReport x r
reported_there x (report.Opened id) live h = is_dialed (is_dialing x.phase) (is_busy x.phase) live h
reported_there x (report.Limit n) live h = h
reported_there x (report.Answered stream response keep alt proof) live h = h
reported_there x (report.Refused stream) live h = h
reported_there x (report.Reset stream code) live h = h
reported_there x (report.TooLarge stream) live h = h
reported_there x (report.StreamClosed stream) live h = h
reported_there x (report.Goaway last) live h = h
reported_there x (report.AltSeen origin alt) live h = h

reported_back : (x : Connection) (r : Report) → MayReport x r → IsReportable (holding x) r
reported_back x (report.Opened id) h = not_opened_yet x.phase h
reported_back x (report.Limit n) h = h
reported_back x (report.Answered stream response keep alt proof) h = h
reported_back x (report.Refused stream) h = h
reported_back x (report.Reset stream code) h = h
reported_back x (report.TooLarge stream) h = h
reported_back x (report.StreamClosed stream) h = h
reported_back x (report.Goaway last) h = h
reported_back x (report.AltSeen origin alt) h = h

report_live : (x : Connection) (r : Report) → MayReport x r → IsLive x
report_live x r h = (report_phase (is_dialing x.phase) (is_busy x.phase) (is_opening_report r) (reported_in x r h)).0

pub reports_as_state_says : ReportsAsStateSays
reports_as_state_says v c sent r history =
    told v c (λ h. (h.sent ≤ sent) × IsReportable h r) (λ x. IsWorkersEntry x v.mine sent × MayReport x r) history (record {
      there = λ x caller live h. (record { caller = caller; never_falls = h.0 }, reported_there x r live h.1);
      back = λ x h. (h.0.caller, report_live x r h.1, (h.0.never_falls, reported_back x r h.1));
    })

-- ---- ends

ended_there : (x : Connection) (end : EndCause) → IsLive x → IsEndable (holding x) end → MayClose x end
ended_there x cause.DialFailed live h = is_dialed (is_dialing x.phase) (is_busy x.phase) live h
ended_there x cause.End live h = h
ended_there x cause.LinkFault live h = h
ended_there x (cause.Broken code place) live h = h
ended_there x cause.Done live h = h

ended_back : (x : Connection) (end : EndCause) → MayClose x end → IsEndable (holding x) end
ended_back x cause.DialFailed h = not_opened_yet x.phase h
ended_back x cause.End h = h
ended_back x cause.LinkFault h = h
ended_back x (cause.Broken code place) h = h
ended_back x cause.Done h = h

pub ends_as_state_says : EndsAsStateSays
ends_as_state_says v c sent end history =
    told v c (λ h. (h.sent ≤ sent) × IsEndable h end) (λ x. IsWorkersEntry x v.mine sent × MayClose x end) history (record {
      there = λ x caller live h. (record { caller = caller; never_falls = h.0 }, ended_there x end live h.1);
      back = λ x h. (h.0.caller, closed_live x end h.1, (h.0.never_falls, ended_back x end h.1));
    })

-- ---- orders

pub works_as_state_says : WorksAsStateSays
works_as_state_says v c sent history =
    told v c (λ h. MayWork h sent) (λ x. IsWorkersEntry x v.mine sent × IsTrue (is_busy x.phase)) history (record {
      there = λ x caller live h. (record { caller = caller; never_falls = h.1 }, h.0);
      back = λ x h. (h.0.caller, busy_live x.phase h.1, (h.1, h.0.never_falls));
    })
