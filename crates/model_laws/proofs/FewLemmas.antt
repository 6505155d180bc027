-- Where at most 1024 pairs of a partition key and an origin have alternatives, an entry leaves no more than that.
use Rattle.std.proofs.Common.{◌≤◌, Bool, List, ◌∷◌, Option, Some, None, arith, length, map, take}
use Rattle.std.specs.Prelude.{filter, find}
use Rattle.std.proofs.lemmas.Bool.{cond_both}
use Rattle.std.proofs.lemmas.List.{length-map, length-take}
use Rattle.std.proofs.lemmas.List.Sums.{length-filter, count_by-le-length}
use Rattle.net_base.specs.declared.end_cause.EndCause.{EndCause}
use Rattle.net_base.specs.declared.numbers.CallerNo.{CallerNo}
use Rattle.net_base.specs.declared.numbers.ConnNo.{ConnNo}
use Rattle.net_base.specs.declared.numbers.ExchangeNo.{ExchangeNo}
use Rattle.net_base.specs.declared.numbers.StreamNo.{StreamNo}
use Rattle.net_base.specs.declared.origin.Origin.{Origin}
use Rattle.net_base.specs.declared.response.Response.{Response}
use Rattle.net_base.specs.declared.target.Target.{Target}
use Rattle.net_base.specs.declared.target.Via.{Via}
use Rattle.net_base.specs.declared.target.Via.TheVariants as via
use Rattle.partition_keys.specs.declared.alternative.Alternative.{Alternative}
use Rattle.partition_keys.specs.declared.alternative.AltUpdate.{AltUpdate}
use Rattle.partition_keys.specs.declared.alternative.AltUpdate.TheVariants as update
use Rattle.partition_keys.specs.declared.alternative.Proof.{Proof}
use Rattle.partition_keys.specs.declared.alternative.Proof.TheVariants as proof
use Rattle.partition_keys.specs.declared.group.GroupKey.{GroupKey}
use Rattle.partition_keys.specs.declared.key.PartitionKey.{PartitionKey}
use Rattle.model_changes.specs.declared.alternatives.Mark.TheVariants as mark
use Rattle.model_changes.specs.Alternatives.{marked_as_before, other_rows, with_list, updated_alternatives, with_marked_in, broken_alternatives, later_by, proven_alternatives, without_target_in, dropped_alternatives, persistent_in, persistent_alternatives}
use Rattle.model_histories.specs.Histories.{opening}
use Rattle.model_histories.proofs.CauseLemmas.{by_identity, by_open, by_alt_seen, by_closed, by_want}
use Rattle.model_steps.specs.After.{noted, after_submit, after_cancel, after_reprioritise, after_preconnect, after_resolved, after_network, after_shut, after_dial, after_orders, after_report, after_expire, after_lapse, after_assign, after_evict, sent_noted, after_act, after}
use Rattle.model_steps.specs.Opened.{after_useless}
use Rattle.model_steps.specs.Answered.{is_misdirected, lease_at, without_misdirecting, with_words_of, answered_alternatives, after_answered}
use Rattle.model_steps.specs.Lost.{after_lost, after_closed}
use Rattle.model_authority.specs.Lists.{numbered}
use Rattle.model_authority.specs.Statuses.{has_coalesced_lease}
use Rattle.model_authority.specs.Ways.{is_row_of, list_of}
use Rattle.model_values.specs.declared.config.Config.{Config}
use Rattle.model_values.specs.declared.entry.Act.{Act}
use Rattle.model_values.specs.declared.entry.Act.TheVariants.{Submit, Cancel, Reprioritise, Preconnect, Resolved, Network, Shutdown, Reported, Closed, Want}
use Rattle.model_values.specs.declared.entry.Entry.{Entry}
use Rattle.model_values.specs.declared.outcome.Outcome.{Outcome}
use Rattle.model_values.specs.declared.outcome.Outcome.TheVariants as outcome
use Rattle.model_values.specs.declared.reply.CancelReply.TheVariants as cancel
use Rattle.model_values.specs.declared.reply.ChangeReply.TheVariants as change
use Rattle.model_values.specs.declared.reply.PreconnectReply.TheVariants as preconnect
use Rattle.model_values.specs.declared.reply.ResolvedReply.TheVariants as resolved
use Rattle.model_values.specs.declared.reply.ShutReply.TheVariants as shut
use Rattle.model_values.specs.declared.reply.SubmitReply.TheVariants as submit
use Rattle.model_values.specs.declared.report.Report.{Report}
use Rattle.model_values.specs.declared.report.Report.TheVariants as report
use Rattle.model_values.specs.declared.state.AbstractPool.{AbstractPool}
use Rattle.model_values.specs.declared.state.AltRow.{AltRow}
use Rattle.model_values.specs.declared.state.Connection.{Connection}
use Rattle.model_values.specs.declared.state.Exchange.{Exchange}

-- ---- lists of rows

abbrev AreFew : List AltRow → Type 0
AreFew rows = length rows ≤ 1024

few_map : (f : AltRow → AltRow) (rows : List AltRow) → AreFew rows → AreFew (map f rows)
few_map f rows few = omega (arith, length-map rows f)

few_filter : (test : AltRow → Bool) (rows : List AltRow) → AreFew rows → AreFew (filter test rows)
few_filter test rows few = omega (arith, length-filter test rows, count_by-le-length test rows)

few_taken : (rows : List AltRow) → AreFew (take 1024 rows)
few_taken rows = omega (arith, length-take 1024 rows)

-- a list that is set is put in front, and what is beyond 1024 is dropped
few_set : (key : PartitionKey) (origin : Origin) (list : List Alternative) (rows : List AltRow) → AreFew (with_list key origin list rows)
unfolding with_list
few_set key origin list rows =
    let row : AltRow = record { key = key; origin = origin; list = map (marked_as_before (list_of (find (is_row_of key origin) rows))) list } in
    few_taken (row ∷ other_rows key origin rows)

few_updated : (key : PartitionKey) (origin : Origin) (alt : AltUpdate) (rows : List AltRow) → AreFew rows → AreFew (updated_alternatives key origin alt rows)
unfolding updated_alternatives
few_updated key origin update.None rows few = few
few_updated key origin update.Clear rows few = few_filter _ rows few
few_updated key origin (update.Set list) rows few = few_set key origin list rows

few_broken : (key : PartitionKey) (origin : Origin) (t : Target) (s : AbstractPool) → AreFew s.alternatives → AreFew (broken_alternatives key origin t s.latest s.alternatives)
unfolding broken_alternatives
few_broken key origin t s few = few_map (with_marked_in key origin t (mark.Broken (later_by 300000 s.latest))) s.alternatives few

few_proven : (key : PartitionKey) (origin : Origin) (t : Target) (given : Proof) (rows : List AltRow) → AreFew rows → AreFew (proven_alternatives key origin t given rows)
unfolding proven_alternatives
few_proven key origin t proof.NotAsked rows few = few
few_proven key origin t (proof.NotValid why) rows few = few
few_proven key origin t (proof.Until m) rows few = few_map (with_marked_in key origin t (mark.Proven m)) rows few

few_dropped : (key : PartitionKey) (origin : Origin) (t : Target) (rows : List AltRow) → AreFew rows → AreFew (dropped_alternatives key origin t rows)
unfolding dropped_alternatives
few_dropped key origin t rows few = few_map (without_target_in key origin t) rows few

few_persistent : (rows : List AltRow) → AreFew rows → AreFew (persistent_alternatives rows)
unfolding persistent_alternatives
few_persistent rows few = few_map persistent_in rows few

-- ---- answers

few_move : (e : Exchange) (t : Target) (rows : List AltRow) → AreFew rows → AreFew (without_misdirecting e t rows)
few_move e t rows few =
    cond_both (has_coalesced_lease e.status) rows (dropped_alternatives e.ask.key e.ask.request.origin t rows) AreFew
    (λ c. few) (λ f. few_dropped e.ask.key e.ask.request.origin t rows few)

few_end : (e : Exchange) (t : Target) (alt : AltUpdate) (given : Proof) (rows : List AltRow) → AreFew rows → AreFew (with_words_of e t alt given rows)
few_end e t alt given rows few = few_proven e.ask.key e.ask.request.origin t given _ (few_updated e.ask.key e.ask.request.origin alt rows few)

few_answered : (response : Response) (alt : AltUpdate) (given : Proof) (lease : Option Exchange) (o : Option Connection) (rows : List AltRow) → AreFew rows →
    AreFew (answered_alternatives response alt given lease o rows)
few_answered response alt given (Some e) (Some c) rows few =
    cond_both (is_misdirected response e) (without_misdirecting e c.group.target rows) (with_words_of e c.group.target alt given rows) AreFew
    (λ m. few_move e c.group.target rows few) (λ f. few_end e c.group.target alt given rows few)
few_answered response alt given (Some e) None rows few = few
few_answered response alt given None o rows few = few

-- ---- other reports, and ends

few_useless : (s : AbstractPool) (g : GroupKey) (wanted_for : Option ExchangeNo) (how : Outcome) (v : Via) → AreFew s.alternatives →
    AreFew (after_useless s g wanted_for how v).alternatives
few_useless s g wanted_for how via.Direct few = few
few_useless s g wanted_for how (via.Alternative p) few = few_broken g.key g.origin g.target s few

few_report : (s : AbstractPool) (conn : ConnNo) (r : Report) → AreFew s.alternatives → AreFew (after_report s conn r).alternatives
unfolding after_answered
few_report s conn (report.Opened id) few =
    by_open (λ t. AreFew t.alternatives) s conn id
    (λ c. by_identity (λ t. AreFew t.alternatives) s conn c.group c.wanted_for id (few_useless s c.group c.wanted_for (outcome.Identity conn) c.group.target.via few) few) few
few_report s conn (report.Answered r response keep alt given) few = few_answered response alt given (lease_at s conn r) (numbered conn.0 s.connections) s.alternatives few
few_report s conn (report.AltSeen origin alt) few = by_alt_seen (λ t. AreFew t.alternatives) s conn origin alt (λ c. few_updated c.group.key origin alt s.alternatives few) few
few_report s conn _ few = few

few_closed : (s : AbstractPool) (conn : ConnNo) (cause : EndCause) (heard : List StreamNo) → AreFew s.alternatives → AreFew (after_closed s conn cause heard).alternatives
few_closed s conn cause heard few =
    by_closed (λ t. AreFew t.alternatives) s conn cause heard
    (λ c. few_useless (after_lost s conn cause heard) c.group c.wanted_for (outcome.DialFault conn) c.group.target.via few) few

-- ---- any entry

few_act : (s : AbstractPool) (who : CallerNo) (act : Act) → AreFew s.alternatives → AreFew (after_act s who act).alternatives
unfolding after_submit after_cancel after_reprioritise after_preconnect after_resolved after_network after_shut after_dial after_orders after_expire after_lapse after_assign after_evict
few_act s who (Submit ask (submit.Accepted e)) few = few
few_act s who (Cancel e cancel.Cancelled) few = few
few_act s who (Reprioritise e urgency change.Changed) few = few
few_act s who (Preconnect key credentials origin count (preconnect.Opening k)) few = few
few_act s who (Resolved key host addresses resolved.Noted) few = few
few_act s who Network few = few_persistent s.alternatives few
few_act s who (Shutdown shut.Noted) few = few
few_act s who (Reported c sent report) few = few_report (sent_noted s c sent) c report few
few_act s who (Closed c sent cause heard) few = few_closed (sent_noted s c sent) c cause heard few
few_act s who (Want e c t) few = by_want (λ u. AreFew u.alternatives) s e t (λ x. few) few
few_act s who _ few = few

pub few_after : (s : AbstractPool) (e : Entry) → length s.alternatives ≤ 1024 → length (after s e).alternatives ≤ 1024
unfolding after noted
few_after s e few = few_act (noted s e.moment) e.who e.act few

pub few_opening : (config : Config) → length (opening config).alternatives ≤ 1024
few_opening config = omega arith
