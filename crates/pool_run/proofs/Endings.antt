-- How a command ended, and what the top call says of it.
use Rattle.std.proofs.Common.{◌≡◌, ◌≢◌, Bool, true, false, ◌==◌, ℕ, ◌+◌, ◌<◌, lit<, List, [], ◌∷◌, map, codes, length, slice_index_or, slice_set, String, Global, Option, None, Some, Result, Ok, Err, IfOk, inl, inr, refl, sym, ap, subst, ◌∙◌, arith}
use Rattle.plain_values.specs.declared.memory.NoMem.{NoMem}
use Rattle.edge_traits.specs.Told.{Grew}
use Rattle.edge_traits.specs.Sources.{SourceView}
use Rattle.edge_traits.specs.Sinks.{SinkView}
use Rattle.edge_traits.specs.Dialers.{DialerView}
use Rattle.scenario_walk.specs.declared.fault.ScenarioFault.{ScenarioFault}
use Rattle.scenario_walk.specs.declared.fault.ScenarioFault.TheVariants as faults
use Rattle.scenario_text.specs.declared.scenario.Scenario.{Scenario}
use Rattle.small_form.specs.declared.form.SmallForm.{SmallForm}
use Rattle.scenario_text.specs.Scenarios.{IsScenario, RefusesScenario}
use Rattle.small_form.specs.Forms.{IsForm, IsNoForm}
use Rattle.pool_run.specs.declared.report.Report.{Report}
use Rattle.pool_run.specs.declared.report.Report.TheVariants as report
use Rattle.pool_run.specs.declared.ending.Command.{Command}
use Rattle.pool_run.specs.declared.ending.Command.TheVariants as commands
use Rattle.pool_run.specs.declared.ending.Ending.{Ending}
use Rattle.pool_run.specs.declared.ending.Ending.TheVariants as ending
use Rattle.pool_run.specs.declared.streams.TheConstants.{MOST_INPUT}
use Rattle.pool_run.specs.declared.streams.Input.{Input}
use Rattle.pool_run.specs.declared.streams.Input.TheVariants.{TooMany}
use Rattle.journal_replay.specs.Pairs.{IsVerdict, RefusesPair}
use Rattle.journal_replay.specs.declared.verdict.ReplayFault.{ReplayFault}
use Rattle.journal_replay.specs.declared.verdict.ReplayFault.TheVariants as pair_faults
use Rattle.journal_replay.specs.declared.verdict.Verdict.{Verdict}
use Rattle.journal_replay.specs.declared.verdict.Verdict.TheVariants as verdict
use Rattle.pool_run.specs.Check.{refusal_line}
use Rattle.pool_run.specs.Replay.{verdict_report, pair_refusal_line}
use Rattle.pool_run.specs.Streams.{IsInput, HasTooMany, ReadsInput}
use Rattle.pool_run.specs.Serial.{Reports, RunsForm}
use Rattle.pool_run.specs.Desk.{IsCommand, ReportsOn, Ends, DeskDid, AnswersExchange, ChecksScenario, JudgesPair, FindsIllegal, RefusesInput, FailsReading, FailsWriting, LacksMemory, LeavesUnbuilt, status_of, report_status, IsRunStatus}

of_report : (told : Report) → IsRunStatus (report_status told)
of_report (report.Answered text) = inl refl
of_report (report.Checked text) = inl refl
of_report (report.Judged text) = inl refl
of_report (report.Illegal text) = inr (inl refl)
of_report (report.Refused text) = inr (inr (inl refl))
of_report (report.Unbuilt word) = inr (inr (inr (inr (inr (inr refl)))))

pub run_status : (e : Ending) → IsRunStatus (status_of e)
run_status (ending.Told told) = of_report told
run_status ending.SourceFailed = inr (inr (inr (inl refl)))
run_status (ending.SinkFailed told) = inr (inr (inr (inr (inl refl))))
run_status (ending.LacksMemory told) = inr (inr (inr (inr (inr (inl refl)))))

-- where the first dialer hasn't changed, none has
same_dialers : (v w : DialerView) (others before after : List DialerView) → before ≡ v ∷ others → after ≡ w ∷ others → w ≡ v → after ≡ before
same_dialers v w others before after b a is = a ∙ ap (λ (x : DialerView). x ∷ others) is ∙ sym b

-- one of two, by a test
abbrev chosen : Bool → Type 0 → Type 0 → Type 0
chosen true A B = A
chosen false A B = B

-- what the top call says of a command that ended with this status
abbrev DidAt : Command → SourceView → SourceView → SinkView → SinkView → List DialerView → List DialerView → ℕ → Type 0
DidAt c s r k n before after i =
    chosen (i == 0) (
    (c ≡ commands.Serial → AnswersExchange s k before n after)
    × (c ≡ commands.Check → ChecksScenario s k before n after)
    × (c ≡ commands.Replay → JudgesPair s k before n after)
    ) (chosen (i == 1) ((c ≡ commands.Replay) × FindsIllegal s k before n after)
    (chosen (i == 3) (RefusesInput c s k before n after)
    (chosen (i == 4) (FailsReading s r k before n after)
    (chosen (i == 5) (FailsWriting c s k before n after)
    (chosen (i == 6) (LacksMemory c s k before n after)
    (chosen (i == 8) ((c ≡ commands.Serial) × LeavesUnbuilt s k before n after) (Unit {0})))))))

did_by : (c : Command) (s r : SourceView) (k n : SinkView) (before after : List DialerView) (status : ℕ)
    → DidAt c s r k n before after status → DeskDid c status s r k n before after
did_by c s r k n before after status said =
    let here : (i : ℕ) → status ≡ i → DidAt c s r k n before after i = λ i is. subst (DidAt c s r k n before after) is said in
    record {
      answered = λ is. (here 0 is).0;
      checked = λ is. (here 0 is).1;
      judged = λ is. (here 0 is).2;
      illegal = here 1;
      refused = here 3;
      source_failed = here 4;
      sink_failed = here 5;
      memory = here 6;
      unbuilt = here 8;
    }

told_did : (c : Command) (told : Report) (s r : SourceView) (k n : SinkView) (v w : DialerView) (others before after : List DialerView)
    → before ≡ v ∷ others → after ≡ w ∷ others → Ends c s k v (ending.Told told) r n w → DidAt c s r k n before after (report_status told)
told_did c (report.Answered text) s r k n v w others before after b a e = (
  λ is. (e.0.1.0, text, e.0.1.1, (v, w, others, b, a, e.0.1.2), e.1),
  λ is. let serial : c ≡ commands.Serial = e.0.0 in absurd (cc (serial, is)),
  λ is. let serial : c ≡ commands.Serial = e.0.0 in absurd (cc (serial, is)),
)
told_did c (report.Checked text) s r k n v w others before after b a e = (
  λ is. let check : c ≡ commands.Check = e.0.0 in absurd (cc (check, is)),
  λ is. (e.0.1.0, e.0.1.1, same_dialers v w others before after b a e.0.2, subst (λ (t : List ℕ). Grew k.written t n.written) e.0.1.2 e.1),
  λ is. let check : c ≡ commands.Check = e.0.0 in absurd (cc (check, is)),
)
told_did c (report.Judged text) s r k n v w others before after b a e = (
  λ is. let replay : c ≡ commands.Replay = e.0.0 in absurd (cc (replay, is)),
  λ is. let replay : c ≡ commands.Replay = e.0.0 in absurd (cc (replay, is)),
  λ is. (e.0.1.0, e.0.1.1, same_dialers v w others before after b a e.0.2, subst (λ (t : List ℕ). Grew k.written t n.written) e.0.1.2 e.1),
)
told_did c (report.Illegal text) s r k n v w others before after b a e =
    (e.0.0, (e.0.1.0, e.0.1.1, same_dialers v w others before after b a e.0.2, subst (λ (t : List ℕ). Grew k.written t n.written) e.0.1.2 e.1))
told_did c (report.Refused text) s r k n v w others before after b a e = (text, e.0.0, same_dialers v w others before after b a e.0.1, e.1)
told_did c (report.Unbuilt word) s r k n v w others before after b a e =
    (e.0.0, (e.0.1.0, word, e.0.1.1, (v, w, others, b, a, e.0.1.2), e.1))

ended_did : (c : Command) (e : Ending) (s r : SourceView) (k n : SinkView) (v w : DialerView) (others before after : List DialerView)
    → before ≡ v ∷ others → after ≡ w ∷ others → Ends c s k v e r n w → DidAt c s r k n before after (status_of e)
ended_did c (ending.Told told) s r k n v w others before after b a e = told_did c told s r k n v w others before after b a e
ended_did c ending.SourceFailed s r k n v w others before after b a e = (e.0, e.1, same_dialers v w others before after b a e.2)
ended_did c (ending.SinkFailed told) s r k n v w others before after b a e = (e.1, (told, (v, w, others, b, a, e.0), e.2))
ended_did c (ending.LacksMemory None) s r k n v w others before after b a e = inl (e.0, (v, w, others, b, a, e.1))
ended_did c (ending.LacksMemory (Some told)) s r k n v w others before after b a e = inr (told, (v, w, others, b, a, e.0), e.1)

pub desk_did : (c : Command) (e : Ending) (s r : SourceView) (k n : SinkView) (v w : DialerView) (others before after : List DialerView)
    → before ≡ v ∷ others → after ≡ w ∷ others → Ends c s k v e r n w → DeskDid c (status_of e) s r k n before after
desk_did c e s r k n v w others before after b a ends =
    did_by c s r k n before after (status_of e) (ended_did c e s r k n v w others before after b a ends)

-- the first of a list is set
pub first_set : {D : Type 0} (seen : D → DialerView) (items new : List D) (old x : D) → 0 < length items → old ≡ slice_index_or items 0 old → new ≡ slice_set items 0 x
    → (others : List DialerView) × (map seen items ≡ seen old ∷ others) × (map seen new ≡ seen x ∷ others)
first_set seen [] new old x lt is e = absurd (omega arith)
first_set seen (y ∷ ys) new old x lt is e = (map seen ys, ap (λ z. seen z ∷ map seen ys) (sym is), ap (map seen) e)

-- the first octet of the first word
abbrev first_octet : List (List ℕ) → ℕ
first_octet [] = 0
first_octet ([] ∷ words) = 0
first_octet ((x ∷ xs) ∷ words) = x

apart : (a b : ℕ) → a < b → a ≢ b
apart a b less is = absurd (omega arith)

-- the words of no more than one command
pub one_command : (words : List (String Global)) (c d : Command) → IsCommand words c → IsCommand words d → c ≡ d
one_command words commands.Serial commands.Serial is also = refl
one_command words commands.Serial commands.Check is also = absurd (apart 99 115 (lit< tt) (ap first_octet (sym also ∙ is)))
one_command words commands.Serial commands.Replay is also = absurd (apart 114 115 (lit< tt) (ap first_octet (sym also ∙ is)))
one_command words commands.Check commands.Serial is also = absurd (apart 99 115 (lit< tt) (ap first_octet (sym is ∙ also)))
one_command words commands.Check commands.Check is also = refl
one_command words commands.Check commands.Replay is also = absurd (apart 99 114 (lit< tt) (ap first_octet (sym is ∙ also)))
one_command words commands.Replay commands.Serial is also = absurd (apart 114 115 (lit< tt) (ap first_octet (sym is ∙ also)))
one_command words commands.Replay commands.Check is also = absurd (apart 99 114 (lit< tt) (ap first_octet (sym also ∙ is)))
one_command words commands.Replay commands.Replay is also = refl

-- ---- what a command says of the octets of an input

-- the refusal of an input that is no scenario
pub refuses_on : (c : Command) (bytes : List ℕ) (v w : DialerView) (fault : ScenarioFault) (result : Result Report NoMem)
    → c ≢ commands.Replay → w ≡ v → IfOk result (λ told. fault ≢ faults.NoMem) → IfOk result (λ told. told ≡ report.Refused (refusal_line fault))
    → RefusesScenario bytes fault → ReportsOn c bytes v result w
refuses_on c bytes v w fault (Err e) other same named line refuses = λ left input. inl same
refuses_on c bytes v w fault (Ok told) other same named line (inl none) = λ left input. absurd (named none)
refuses_on c bytes v w fault (Ok told) other same named line (inr why) = λ left input.
    subst (λ (x : Report). Reports c left v x w) (sym line) (inl (fault, inr (inl (other, bytes, input, why)), refl), same)

-- the refusal of a scenario that can't be run yet
pub leaves_outside : (bytes : List ℕ) (v w : DialerView) (fault : ScenarioFault) (s : Scenario) (result : Result Report NoMem)
    → w ≡ v → fault ≡ faults.Unsupported (codes "/") → IfOk result (λ told. told ≡ report.Refused (refusal_line fault))
    → IsScenario bytes s → IsNoForm bytes → ReportsOn commands.Serial bytes v result w
leaves_outside bytes v w fault s (Err e) same at line is outside = λ left input. inl same
leaves_outside bytes v w fault s (Ok told) same at line is outside = λ left input.
    subst (λ (x : Report). Reports commands.Serial left v x w) (sym line)
    (inl (fault, inr (inr (refl, (bytes, s, input, is, outside), at)), refl), same)

-- a run of the form that the input has
pub runs_on : (bytes : List ℕ) (v w : DialerView) (s : Scenario) (form : SmallForm) (result : Result Report NoMem)
    → IsForm bytes form → RunsForm v form result w → IsScenario bytes s → ReportsOn commands.Serial bytes v result w
runs_on bytes v w s form (Ok (report.Answered text)) is runs known = λ left input. (refl, (form, (bytes, s, input, known, is), runs))
runs_on bytes v w s form (Ok (report.Checked text)) is runs known = λ left input. absurd runs
runs_on bytes v w s form (Ok (report.Judged text)) is runs known = λ left input. absurd runs
runs_on bytes v w s form (Ok (report.Illegal text)) is runs known = λ left input. absurd runs
runs_on bytes v w s form (Ok (report.Refused text)) is runs known = λ left input. absurd runs
runs_on bytes v w s form (Ok (report.Unbuilt word)) is runs known = λ left input. (refl, (form, (bytes, s, input, known, is), runs))
runs_on bytes v w s form (Err e) is runs known = λ left input. inr (refl, (form, (bytes, s, input, known, is), runs))

-- what is said of a pair that is judged
verdict_on : (bytes : List ℕ) (v : DialerView) (given : Verdict) → IsVerdict bytes given
    → (left : Option (List ℕ)) → IsInput left bytes → Reports commands.Replay left v (verdict_report given) v
verdict_on bytes v (verdict.Legal n) is left input = (refl, (n, (bytes, input, is), refl), refl)
verdict_on bytes v (verdict.Illegal line) is left input = (refl, (line, (bytes, input, is), refl), refl)

pub judges_on : (bytes : List ℕ) (v : DialerView) (given : Verdict) (result : Result Report NoMem)
    → IfOk result (λ told. told ≡ verdict_report given) → IsVerdict bytes given → ReportsOn commands.Replay bytes v result v
judges_on bytes v given (Err e) line is = λ left input. inl refl
judges_on bytes v given (Ok told) line is = λ left input.
    subst (λ (x : Report). Reports commands.Replay left v x v) (sym line) (verdict_on bytes v given is left input)

-- the refusal of a pair
pub refuses_pair_on : (bytes : List ℕ) (v : DialerView) (fault : ReplayFault) (result : Result Report NoMem)
    → IfOk result (λ told. fault ≢ pair_faults.NoMem) → IfOk result (λ told. told ≡ report.Refused (pair_refusal_line fault))
    → RefusesPair bytes fault → ReportsOn commands.Replay bytes v result v
refuses_pair_on bytes v fault (Err e) named line refuses = λ left input. inl refl
refuses_pair_on bytes v fault (Ok told) named line refuses = λ left input.
    subst (λ (x : Report). Reports commands.Replay left v x v) (sym line)
    (inr (refl, fault, (bytes, input, named, refuses), refl), refl)

-- the command that a match saw
pub on_command : (c d : Command) (bytes : List ℕ) (v w : DialerView) (result : Result Report NoMem)
    → c ≡ d → ReportsOn d bytes v result w → ReportsOn c bytes v result w
on_command c d bytes v w result is h = let P : Command → Type 0 = λ x. ReportsOn x bytes v result w in subst P (sym is) h

-- the refusal of an input of too many octets
pub refuses_many : (c : Command) (left : Option (List ℕ)) (v w : DialerView) (told : Report)
    → w ≡ v → told ≡ report.Refused (refusal_line (faults.TooMany (codes "/") (MOST_INPUT + 1))) → HasTooMany left → Reports c left v told w
refuses_many c left v w told same line many =
    subst (λ (x : Report). Reports c left v x w) (sym line) (inl (faults.TooMany (codes "/") (MOST_INPUT + 1), inl (many, refl), refl), same)

-- what a match saw of an input
pub input_many : (s r : SourceView) (input : Input) → input ≡ TooMany → ReadsInput s (Ok input) r → HasTooMany s.left
input_many s r input is reads = let P : Input → Type 0 = λ i. ReadsInput s (Ok i) r in subst P is reads
