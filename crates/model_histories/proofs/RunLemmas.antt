-- The state that a list of entries leaves, entry by entry, and what no entry changes in it.
use Rattle.std.proofs.Common.{◌≡◌, ◌+◌, ℕ, max, List, [], ◌∷◌, ◌++◌, Option, Some, refl, ap, ◌∙◌, arith, length, take, slice_get}
use Rattle.std.proofs.lemmas.List.{take_more}
use Rattle.std.proofs.lemmas.Option.{slice_get_within, get_or_from_slice_get}
use Rattle.std.specs.Prelude.{get_or}
use Rattle.net_base.specs.declared.end_cause.EndCause.{EndCause}
use Rattle.net_base.specs.declared.numbers.CallerNo.{CallerNo}
use Rattle.net_base.specs.declared.numbers.ConnNo.{ConnNo}
use Rattle.net_base.specs.declared.numbers.ExchangeNo.{ExchangeNo}
use Rattle.net_base.specs.declared.numbers.Moment.{Moment}
use Rattle.net_base.specs.declared.numbers.StreamNo.{StreamNo}
use Rattle.net_base.specs.declared.target.Via.{Via}
use Rattle.net_base.specs.declared.target.Via.TheVariants as via
use Rattle.partition_keys.specs.declared.group.GroupKey.{GroupKey}
use Rattle.model_steps.specs.After.{noted, sent_noted, after, after_act, after_submit, after_cancel, after_reprioritise, after_preconnect, after_resolved, after_network, after_shut, after_dial, after_orders, after_report, after_expire, after_lapse, after_assign, after_evict}
use Rattle.model_steps.specs.Opened.{after_useless}
use Rattle.model_steps.specs.Answered.{after_answered}
use Rattle.model_steps.specs.Lost.{after_lost, after_closed}
use Rattle.model_histories.proofs.CauseLemmas.{by_identity, by_open, by_alt_seen, by_closed, by_want}
use Rattle.model_histories.specs.Histories.{opening, now_of, run_from, run}
use Rattle.model_values.specs.declared.config.Config.{Config}
use Rattle.model_values.specs.declared.entry.Act.{Act}
use Rattle.model_values.specs.declared.entry.Act.TheVariants.{Submit, Cancel, Reprioritise, Preconnect, Resolved, Shutdown, Reported, Closed, Want}
use Rattle.model_values.specs.declared.entry.Entry.{Entry}
use Rattle.model_values.specs.declared.outcome.Outcome.{Outcome}
use Rattle.model_values.specs.declared.outcome.Outcome.TheVariants as outcome
use Rattle.model_values.specs.declared.reply.CancelReply.TheVariants as cancel
use Rattle.model_values.specs.declared.reply.ChangeReply.TheVariants as change
use Rattle.model_values.specs.declared.reply.PreconnectReply.TheVariants as preconnect
use Rattle.model_values.specs.declared.reply.ResolvedReply.TheVariants as resolved
use Rattle.model_values.specs.declared.reply.ShutReply.TheVariants as shut
use Rattle.model_values.specs.declared.reply.SubmitReply.TheVariants as submit
use Rattle.model_values.specs.declared.report.Report.{Report}
use Rattle.model_values.specs.declared.report.Report.TheVariants as report
use Rattle.model_values.specs.declared.state.AbstractPool.{AbstractPool}

-- ---- entry by entry

pub run_none : (config : Config) → run config [] ≡ opening config
unfolding run run_from
run_none config = refl

run_from-push : (s : AbstractPool) (es : List Entry) (e : Entry) → run_from s (es ++ e ∷ []) ≡ after (run_from s es) e
unfolding run_from
run_from-push s [] e = refl
run_from-push s (x ∷ es) e = run_from-push (after s x) es e

pub run-push : (config : Config) (es : List Entry) (e : Entry) → run config (es ++ e ∷ []) ≡ after (run config es) e
unfolding run
run-push config es e = run_from-push (opening config) es e

pub run_at : (config : Config) (h : List Entry) (i : ℕ) (e : Entry) → slice_get h i ≡ Some e → run config (take (i + 1) h) ≡ after (run config (take i h)) e
run_at config h i e is_entry =
    let more : take (i + 1) h ≡ take i h ++ get_or h i e ∷ [] = take_more h i e (slice_get_within h i e is_entry) in
    ap (run config) more
    ∙ ap (λ (x : Entry). run config (take i h ++ x ∷ [])) (get_or_from_slice_get h i e e is_entry)
    ∙ run-push config (take i h) e

-- ---- what no act changes

-- the config, the greatest moment and the number of entries
pub record Marks : Type 0 where
  pub config : Config
  pub latest : Moment
  pub entries : ℕ

abbrev pub marks_of : AbstractPool → Marks
marks_of s = record { config = s.config; latest = s.latest; entries = s.entries }

-- ---- reports

kept_useless : (s : AbstractPool) (g : GroupKey) (wanted_for : Option ExchangeNo) (how : Outcome) (v : Via) → marks_of (after_useless s g wanted_for how v) ≡ marks_of s
kept_useless s g wanted_for how via.Direct = refl
kept_useless s g wanted_for how (via.Alternative p) = refl

kept_report : (s : AbstractPool) (conn : ConnNo) (r : Report) → marks_of (after_report s conn r) ≡ marks_of s
unfolding after_answered
kept_report s conn (report.Opened id) =
    by_open (λ t. marks_of t ≡ marks_of s) s conn id
    (λ c. by_identity (λ t. marks_of t ≡ marks_of s) s conn c.group c.wanted_for id (kept_useless s c.group c.wanted_for (outcome.Identity conn) c.group.target.via) refl) refl
kept_report s conn (report.AltSeen origin alt) = by_alt_seen (λ t. marks_of t ≡ marks_of s) s conn origin alt (λ c. refl) refl
kept_report s conn _ = refl

kept_closed : (s : AbstractPool) (conn : ConnNo) (cause : EndCause) (heard : List StreamNo) → marks_of (after_closed s conn cause heard) ≡ marks_of s
kept_closed s conn cause heard =
    by_closed (λ t. marks_of t ≡ marks_of s) s conn cause heard
    (λ c. kept_useless (after_lost s conn cause heard) c.group c.wanted_for (outcome.DialFault conn) c.group.target.via) refl

-- ---- any entry

marks-after_act : (s : AbstractPool) (who : CallerNo) (act : Act) → marks_of (after_act s who act) ≡ marks_of s
unfolding after_submit after_cancel after_reprioritise after_preconnect after_resolved after_network after_shut after_dial after_orders after_expire after_lapse after_assign after_evict
marks-after_act s who (Submit ask (submit.Accepted e)) = refl
marks-after_act s who (Cancel e cancel.Cancelled) = refl
marks-after_act s who (Reprioritise e urgency change.Changed) = refl
marks-after_act s who (Preconnect key credentials origin count (preconnect.Opening k)) = refl
marks-after_act s who (Resolved key host addresses resolved.Noted) = refl
marks-after_act s who (Shutdown shut.Noted) = refl
marks-after_act s who (Reported c sent report) = kept_report (sent_noted s c sent) c report
marks-after_act s who (Closed c sent cause heard) = kept_closed (sent_noted s c sent) c cause heard
marks-after_act s who (Want e c t) = by_want (λ u. marks_of u ≡ marks_of s) s e t (λ x. refl) refl
marks-after_act s who _ = refl

-- whatever the act, an entry only notes its moment and itself in these
pub marks-after : (s : AbstractPool) (e : Entry) → marks_of (after s e) ≡ marks_of (noted s e.moment)
unfolding after
marks-after s e = marks-after_act (noted s e.moment) e.who e.act

pub config-after : (s : AbstractPool) (e : Entry) → (after s e).config ≡ s.config
unfolding noted
config-after s e = ap (λ (m : Marks). m.config) (marks-after s e)

pub latest-after : (s : AbstractPool) (e : Entry) → (after s e).latest.0 ≡ max s.latest.0 e.moment.0
unfolding noted
latest-after s e = ap (λ (m : Marks). m.latest.0) (marks-after s e)

pub entries-after : (s : AbstractPool) (e : Entry) → (after s e).entries ≡ s.entries + 1
unfolding noted
entries-after s e = ap (λ (m : Marks). m.entries) (marks-after s e)

-- ---- after a whole list

config-run_from : (s : AbstractPool) (h : List Entry) → (run_from s h).config ≡ s.config
unfolding run_from
config-run_from s [] = refl
config-run_from s (e ∷ es) = config-run_from (after s e) es ∙ config-after s e

latest-run_from : (s : AbstractPool) (h : List Entry) → (run_from s h).latest.0 ≡ max s.latest.0 (now_of h)
unfolding run_from
latest-run_from s [] = omega arith
latest-run_from s (e ∷ es) = omega (arith, latest-run_from (after s e) es, latest-after s e)

entries-run_from : (s : AbstractPool) (h : List Entry) → (run_from s h).entries ≡ s.entries + length h
unfolding run_from
entries-run_from s [] = omega arith
entries-run_from s (e ∷ es) = omega (arith, entries-run_from (after s e) es, entries-after s e)

pub config-run : (config : Config) (h : List Entry) → (run config h).config ≡ config
unfolding run
config-run config h = config-run_from (opening config) h

pub latest-run : (config : Config) (h : List Entry) → (run config h).latest.0 ≡ now_of h
unfolding run
latest-run config h = omega (arith, latest-run_from (opening config) h)

pub entries-run : (config : Config) (h : List Entry) → (run config h).entries ≡ length h
unfolding run
entries-run config h = omega (arith, entries-run_from (opening config) h)
