-- What a worker's own entry leaves of its connection.
use Rattle.std.proofs.Common.{[], ◌≡◌, ◌∷◌, true, false, cond, refl, sym, ap, subst, is_some, Some, Bool}
use Rattle.std.specs.Prelude.{◌&&◌, ◌||◌, not}
use Rattle.std.proofs.lemmas.Bool.{cond_both, or_right}
use Rattle.net_base.specs.declared.end_cause.EndCause.{EndCause}
use Rattle.net_base.specs.declared.end_cause.EndCause.TheVariants as cause
use Rattle.net_base.specs.declared.identity.Identity.{Identity}
use Rattle.net_base.specs.declared.numbers.Moment.{Moment}
use Rattle.model_changes.specs.Connections.{closing, suits, opened_with, refused_with, after_opened}
use Rattle.model_histories.proofs.EffectLemmas.{Lasting, Leaves, going_by, IsReported}
use Rattle.model_histories.specs.Legal.{MayReport, MayClose}
use Rattle.model_histories.specs.Port.{is_opening_report}
use Rattle.model_authority.proofs.PhaseLemmas.{excludes}
use Rattle.model_authority.specs.Statuses.{is_dialing, is_closing, is_gone, is_busy}
use Rattle.model_values.specs.declared.order.OrderMark.TheVariants as mark
use Rattle.model_values.specs.declared.report.Report.{Report}
use Rattle.model_values.specs.declared.report.Report.TheVariants as report
use Rattle.model_values.specs.declared.state.AbstractPool.{AbstractPool}
use Rattle.model_values.specs.declared.state.Connection.{Connection}
use Rattle.model_values.specs.declared.state.Phase.{Phase}
use Rattle.model_values.specs.declared.state.Phase.TheVariants.{Closing, Gone}

-- ---- reports

-- it was opened, and is still its worker's
pub record MayWorkBy (x y : Connection) : Type 0 where
  pub caller : y.caller ≡ x.caller
  pub sent : y.sent ≡ x.sent
  pub started : y.started ≡ x.started
  pub busy : is_busy y.phase ≡ true

worked_leaves : (x y : Connection) → Leaves x y → is_busy x.phase ≡ true → MayWorkBy x y
worked_leaves x y k busy = record {
  caller = ap (λ (l : Lasting). l.caller) k.lasts;
  sent = ap (λ (l : Lasting). l.sent) k.lasts;
  started = ap (λ (l : Lasting). l.started) k.lasts;
  busy = going_by (λ p q. is_busy p) (λ p q. is_busy q) refl x.phase y.phase k.phase busy;
}

-- one that is dialed is told to close where its identity isn't good
worked_refused : (id : Identity) (c : Connection) → is_dialing c.phase ≡ true → MayWorkBy c (refused_with id c)
unfolding closing
worked_refused id c dialing =
    let shown : Connection = record c { identity = Some id } in
    let stays : (is_closing c.phase || is_gone c.phase) ≡ false = excludes is_dialing (λ p. is_closing p || is_gone p) refl c.phase dialing in
    cond_both (is_closing c.phase || is_gone c.phase) shown (record shown { phase = Closing; orders = mark.Close ∷ [] }) (MayWorkBy c)
    (λ t. absurd cc) (λ f. record { caller = refl; sent = refl; started = refl; busy = refl })

worked_opened : (is_shut : Bool) (now : Moment) (id : Identity) (c : Connection) → is_dialing c.phase ≡ true → MayWorkBy c (after_opened is_shut now id c)
unfolding after_opened
worked_opened is_shut now id c dialing =
    cond_both (not is_shut && suits c.group id) (opened_with now id c) (refused_with id c) (MayWorkBy c)
    (λ t. record { caller = refl; sent = refl; started = refl; busy = refl }) (λ f. worked_refused id c dialing)

-- a connection is dialed where it is reported to be opened, and was opened where anything else is reported
abbrev pub IsReportedIn : Phase → Report → Type 0
IsReportedIn p r = cond (is_opening_report r) (is_dialing p) (is_busy p) ≡ true

pub reported_in : (c : Connection) (r : Report) → MayReport c r → IsReportedIn c.phase r
reported_in c (report.Opened id) h = h
reported_in c (report.Limit n) h = h
reported_in c (report.Answered r response keep alt proof) h = h.0
reported_in c (report.Refused r) h = h.0
reported_in c (report.Reset r code) h = h.0
reported_in c (report.TooLarge r) h = h.0
reported_in c (report.StreamClosed r) h = h.0
reported_in c (report.Goaway last) h = h
reported_in c (report.AltSeen origin alt) h = h

-- a report keeps the connection its worker's
pub worked_report : (s : AbstractPool) (r : Report) (x y : Connection) → IsReported s r x y → IsReportedIn x.phase r → MayWorkBy x y
worked_report s (report.Opened id) x y is h = subst (MayWorkBy x) (sym is) (worked_opened (is_some s.shutdown) s.latest id x h)
worked_report s r x y is h = worked_leaves x y is h

-- ---- ends

pub busy_live : (p : Phase) → is_busy p ≡ true → (is_dialing p || is_busy p) ≡ true
busy_live p h = or_right (is_dialing p) (is_busy p) h

-- its worker has it, dialed or opened
pub closed_live : (c : Connection) (end : EndCause) → MayClose c end → (is_dialing c.phase || is_busy c.phase) ≡ true
closed_live c cause.DialFailed h = ap (λ b. b || is_busy c.phase) h
closed_live c cause.End h = busy_live c.phase h
closed_live c cause.LinkFault h = busy_live c.phase h
closed_live c (cause.Broken code place) h = busy_live c.phase h
closed_live c cause.Done h = busy_live c.phase h

abbrev pub IsGivenUp : Connection → Connection → Type 0
IsGivenUp x y = y.phase ≡ Gone
