-- An entry leaves the rows apart: at most one is of one origin in one partition, of one host in one partition, and of one group.
use Rattle.std.proofs.Common.{◌≡◌, ◌<◌, ℕ, Bool, true, List, [], ◌∷◌, ◌++◌, Option, Some, None, sym, subst, arith, refl, cond, false, IsTrue, length, map, take}
use Rattle.std.specs.Prelude.{◌&&◌, not, filter, find, get_or, All, AllPairs}
use Rattle.std.proofs.lemmas.Bool.{cond_both, and_parts, and_from, both_ways, not-true}
use Rattle.std.proofs.lemmas.List.{length-map, length-take, get_or-map, get_or-take}
use Rattle.std.proofs.lemmas.List.Elements.{All-get_or, All-weaker, filter_passes}
use Rattle.std.proofs.lemmas.List.Kept.{AllPairs-cons, AllPairs-filter}
use Rattle.std.proofs.lemmas.List.Quantifiers.{all_pairs_push}
use Rattle.net_base.specs.Equality.{same_origin}
use Rattle.net_base.specs.declared.end_cause.EndCause.{EndCause}
use Rattle.net_base.specs.declared.numbers.CallerNo.{CallerNo}
use Rattle.net_base.specs.declared.numbers.ConnNo.{ConnNo}
use Rattle.net_base.specs.declared.numbers.ExchangeNo.{ExchangeNo}
use Rattle.net_base.specs.declared.numbers.StreamNo.{StreamNo}
use Rattle.net_base.specs.declared.origin.Origin.{Origin}
use Rattle.net_base.specs.declared.response.Response.{Response}
use Rattle.net_base.specs.declared.target.Proto.{Proto}
use Rattle.net_base.specs.declared.target.Target.{Target}
use Rattle.net_base.specs.declared.target.Via.{Via}
use Rattle.net_base.specs.declared.target.Via.TheVariants as via
use Rattle.partition_keys.specs.Equality.{same_key, same_group}
use Rattle.partition_keys.specs.declared.alternative.Alternative.{Alternative}
use Rattle.partition_keys.specs.declared.alternative.AltUpdate.{AltUpdate}
use Rattle.partition_keys.specs.declared.alternative.AltUpdate.TheVariants as update
use Rattle.partition_keys.specs.declared.alternative.Proof.{Proof}
use Rattle.partition_keys.specs.declared.alternative.Proof.TheVariants as proof
use Rattle.partition_keys.specs.declared.group.GroupKey.{GroupKey}
use Rattle.partition_keys.specs.declared.key.PartitionKey.{PartitionKey}
use Rattle.model_changes.specs.declared.alternatives.Mark.{Mark}
use Rattle.model_changes.specs.declared.alternatives.Mark.TheVariants as mark
use Rattle.model_changes.specs.Alternatives.{marked_as_before, other_rows, with_list, updated_alternatives, marked_at, with_marked_in, broken_alternatives, later_by, proven_alternatives, leads_to, without_target_in, dropped_alternatives, persistent_in, persistent_alternatives}
use Rattle.model_laws.proofs.SameLemmas.{keys_are, origins_are}
use Rattle.model_laws.specs.Sound.{RowsAreApart}
use Rattle.model_histories.specs.Histories.{opening}
use Rattle.model_histories.proofs.CauseLemmas.{by_identity, by_open, by_alt_seen, by_closed, by_want}
use Rattle.model_steps.specs.After.{noted, after_submit, after_cancel, after_reprioritise, after_preconnect, other_hosts, after_resolved, after_network, after_shut, after_dial, after_orders, after_report, after_expire, after_lapse, after_assign, after_evict, sent_noted, after_act, after}
use Rattle.model_steps.specs.Opened.{with_proto, after_useless}
use Rattle.model_steps.specs.Answered.{is_misdirected, lease_at, without_misdirecting, with_words_of, answered_alternatives, after_answered}
use Rattle.model_steps.specs.Lost.{after_lost, after_closed}
use Rattle.model_authority.specs.Lists.{numbered}
use Rattle.model_authority.specs.Statuses.{has_coalesced_lease}
use Rattle.model_authority.specs.Ways.{is_row_of, is_host_row_of, list_of}
use Rattle.model_values.specs.declared.config.Config.{Config}
use Rattle.model_values.specs.declared.entry.Act.{Act}
use Rattle.model_values.specs.declared.entry.Act.TheVariants.{Submit, Cancel, Reprioritise, Preconnect, Resolved, Network, Shutdown, Reported, Closed, Want}
use Rattle.model_values.specs.declared.entry.Entry.{Entry}
use Rattle.model_values.specs.declared.outcome.Outcome.{Outcome}
use Rattle.model_values.specs.declared.outcome.Outcome.TheVariants as outcome
use Rattle.model_values.specs.declared.reply.CancelReply.TheVariants as cancel
use Rattle.model_values.specs.declared.reply.ChangeReply.TheVariants as change
use Rattle.model_values.specs.declared.reply.PreconnectReply.TheVariants as preconnect
use Rattle.model_values.specs.declared.reply.ResolvedReply.TheVariants as resolved
use Rattle.model_values.specs.declared.reply.ShutReply.TheVariants as shut
use Rattle.model_values.specs.declared.reply.SubmitReply.TheVariants as submit
use Rattle.model_values.specs.declared.report.Report.{Report}
use Rattle.model_values.specs.declared.report.Report.TheVariants as report
use Rattle.model_values.specs.declared.state.AbstractPool.{AbstractPool}
use Rattle.model_values.specs.declared.state.AltRow.{AltRow}
use Rattle.model_values.specs.declared.state.Connection.{Connection}
use Rattle.model_values.specs.declared.state.Exchange.{Exchange}
use Rattle.model_values.specs.declared.state.HostRow.{HostRow}
use Rattle.model_values.specs.declared.state.ProtoRow.{ProtoRow}

-- ---- lists

-- no pair of an empty list
pub pairs_none : {A : Type 0} (R : A → A → Type 0) → AllPairs R []
pairs_none R i j d before within = absurd (omega (arith, within))

-- a change of each item that keeps what holds between two items keeps all pairs
pairs_map : {A : Type 0} (R : A → A → Type 0) (f : A → A) (xs : List A) → ((a b : A) → R a b → R (f a) (f b)) → AllPairs R xs → AllPairs R (map f xs)
pairs_map R f xs keeps pairs i j d before within =
    let second : j < length xs = omega (arith, within, length-map xs f) in
    let first : i < length xs = omega (arith, before, second) in
    subst (λ a. R a (get_or (map f xs) j d)) (sym (get_or-map f xs i d d first))
    (subst (R (f (get_or xs i d))) (sym (get_or-map f xs j d d second)) (keeps (get_or xs i d) (get_or xs j d) (pairs i j d before second)))

-- the front of a list has the list's own pairs
pairs_take : {A : Type 0} (R : A → A → Type 0) (n : ℕ) (xs : List A) → AllPairs R xs → AllPairs R (take n xs)
pairs_take R n xs pairs i j d before within =
    let size = length-take n xs in
    let second : j < n = omega (arith, within, size) in
    let there : j < length xs = omega (arith, within, size) in
    let first : i < n = omega (arith, before, second) in
    subst (λ a. R a (get_or (take n xs) j d)) (sym (get_or-take n xs i d first))
    (subst (R (get_or xs i d)) (sym (get_or-take n xs j d second)) (pairs i j d before there))

-- an item at the end adds the pairs of each item with it
pub pairs_push : {A : Type 0} (R : A → A → Type 0) (xs : List A) (y : A) → All (λ x. R x y) xs → AllPairs R xs → AllPairs R (xs ++ y ∷ [])
pairs_push R xs y new pairs = all_pairs_push R xs y pairs (λ k d within. All-get_or (λ x. R x y) xs k d within new)

-- what a filter leaves out isn't among what it leaves
none_left : {A : Type 0} (test : A → Bool) (xs : List A) → All (λ x. ¬ IsTrue (test x)) (filter (λ x. not (test x)) xs)
none_left test xs =
    All-weaker (λ x. not (test x) ≡ true) (λ x. ¬ IsTrue (test x)) (λ x passes holds. both_ways (test x) (not-true (test x) passes) holds)
    (filter (λ x. not (test x)) xs) (filter_passes (λ x. not (test x)) xs)

-- ---- alternatives

abbrev AreApart : AltRow → AltRow → Type 0
AreApart a b = ¬ IsTrue (is_row_of b.key b.origin a)

abbrev AreOfOrigins : List AltRow → Type 0
AreOfOrigins rows = AllPairs AreApart rows

swapped : {A : Type 0} (same : A → A → Bool) (a b : A) → a ≡ b → IsTrue (same a b) → IsTrue (same b a)
swapped same a b e h = subst (λ x. IsTrue (same x a)) e (subst (λ y. IsTrue (same a y)) (sym e) h)

-- the one is of the other's origin where the other is of the one's
row_back : (a b : AltRow) → IsTrue (is_row_of b.key b.origin a) → IsTrue (is_row_of a.key a.origin b)
row_back a b h =
    let parts = and_parts (same_key a.key b.key) (same_origin a.origin b.origin) h in
    and_from (same_key b.key a.key) (same_origin b.origin a.origin)
    (swapped same_key a.key b.key (keys_are a.key b.key parts.0) parts.0) (swapped same_origin a.origin b.origin (origins_are a.origin b.origin parts.1) parts.1)

apart_filter : (test : AltRow → Bool) (rows : List AltRow) → AreOfOrigins rows → AreOfOrigins (filter test rows)
apart_filter test rows apart = AllPairs-filter AreApart test rows apart

-- a list that is set is put in front of the rows of other origins
apart_set : (key : PartitionKey) (origin : Origin) (list : List Alternative) (rows : List AltRow) → AreOfOrigins rows → AreOfOrigins (with_list key origin list rows)
unfolding with_list
apart_set key origin list rows apart =
    let row : AltRow = record { key = key; origin = origin; list = map (marked_as_before (list_of (find (is_row_of key origin) rows))) list } in
    let others : List AltRow = other_rows key origin rows in
    let new : All (AreApart row) others = All-weaker (λ x. ¬ IsTrue (is_row_of key origin x)) (AreApart row) (λ x other h. other (row_back row x h)) others (none_left (is_row_of key origin) rows) in
    pairs_take AreApart 1024 (row ∷ others) (AllPairs-cons AreApart row others new (apart_filter (λ x. not (is_row_of key origin x)) rows apart))

apart_updated : (key : PartitionKey) (origin : Origin) (alt : AltUpdate) (rows : List AltRow) → AreOfOrigins rows → AreOfOrigins (updated_alternatives key origin alt rows)
unfolding updated_alternatives
apart_updated key origin update.None rows apart = apart
apart_updated key origin update.Clear rows apart = apart_filter (λ x. not (is_row_of key origin x)) rows apart
apart_updated key origin (update.Set list) rows apart = apart_set key origin list rows apart

-- of the same origin in the same partition, whatever its list is
record IsOfSame (x y : AltRow) : Type 0 where
  key : y.key ≡ x.key
  origin : y.origin ≡ x.origin

-- a change of the lists alone keeps the rows apart
apart_lists : (f : AltRow → AltRow) (rows : List AltRow) → ((x : AltRow) → IsOfSame x (f x)) → AreOfOrigins rows → AreOfOrigins (map f rows)
apart_lists f rows same apart = pairs_map AreApart f rows keeps apart
  where
    keeps : (a b : AltRow) → AreApart a b → AreApart (f a) (f b)
    keeps a b h =
        let s = same a in
        let t = same b in
        subst (λ key. ¬ IsTrue (same_key key (f b).key && same_origin (f a).origin (f b).origin)) (sym s.key)
        (subst (λ key. ¬ IsTrue (same_key a.key key && same_origin (f a).origin (f b).origin)) (sym t.key)
        (subst (λ origin. ¬ IsTrue (same_key a.key b.key && same_origin origin (f b).origin)) (sym s.origin)
        (subst (λ origin. ¬ IsTrue (same_key a.key b.key && same_origin a.origin origin)) (sym t.origin) h)))

same_row : (x : AltRow) → IsOfSame x x
same_row x = record { key = refl; origin = refl }

-- a change of the list where a test holds
same_cond : (test : Bool) (x : AltRow) (list : List Alternative) → IsOfSame x (cond test (record x { list = list }) x)
same_cond true x list = record { key = refl; origin = refl }
same_cond false x list = same_row x

-- of one origin, alternatives are marked
apart_marked : (key : PartitionKey) (origin : Origin) (t : Target) (m : Mark) (rows : List AltRow) → AreOfOrigins rows → AreOfOrigins (map (with_marked_in key origin t m) rows)
apart_marked key origin t m rows apart =
    apart_lists (with_marked_in key origin t m) rows (λ x. same_cond (is_row_of key origin x) x (map (marked_at t m) x.list)) apart

apart_broken : (key : PartitionKey) (origin : Origin) (t : Target) (s : AbstractPool) → AreOfOrigins s.alternatives → AreOfOrigins (broken_alternatives key origin t s.latest s.alternatives)
unfolding broken_alternatives
apart_broken key origin t s apart = apart_marked key origin t (mark.Broken (later_by 300000 s.latest)) s.alternatives apart

apart_proven : (key : PartitionKey) (origin : Origin) (t : Target) (given : Proof) (rows : List AltRow) → AreOfOrigins rows → AreOfOrigins (proven_alternatives key origin t given rows)
unfolding proven_alternatives
apart_proven key origin t proof.NotAsked rows apart = apart
apart_proven key origin t (proof.NotValid why) rows apart = apart
apart_proven key origin t (proof.Until m) rows apart = apart_marked key origin t (mark.Proven m) rows apart

apart_dropped : (key : PartitionKey) (origin : Origin) (t : Target) (rows : List AltRow) → AreOfOrigins rows → AreOfOrigins (dropped_alternatives key origin t rows)
unfolding dropped_alternatives
apart_dropped key origin t rows apart =
    apart_lists (without_target_in key origin t) rows (λ x. same_cond (is_row_of key origin x) x (filter (λ a. not (leads_to t a)) x.list)) apart

apart_persistent : (rows : List AltRow) → AreOfOrigins rows → AreOfOrigins (persistent_alternatives rows)
unfolding persistent_alternatives
apart_persistent rows apart = apart_lists persistent_in rows (λ x. record { key = refl; origin = refl }) apart

-- ---- answers

apart_move : (e : Exchange) (t : Target) (rows : List AltRow) → AreOfOrigins rows → AreOfOrigins (without_misdirecting e t rows)
apart_move e t rows apart =
    cond_both (has_coalesced_lease e.status) rows (dropped_alternatives e.ask.key e.ask.request.origin t rows) AreOfOrigins
    (λ c. apart) (λ f. apart_dropped e.ask.key e.ask.request.origin t rows apart)

apart_end : (e : Exchange) (t : Target) (alt : AltUpdate) (given : Proof) (rows : List AltRow) → AreOfOrigins rows → AreOfOrigins (with_words_of e t alt given rows)
apart_end e t alt given rows apart = apart_proven e.ask.key e.ask.request.origin t given _ (apart_updated e.ask.key e.ask.request.origin alt rows apart)

apart_answered : (response : Response) (alt : AltUpdate) (given : Proof) (lease : Option Exchange) (o : Option Connection) (rows : List AltRow) → AreOfOrigins rows →
    AreOfOrigins (answered_alternatives response alt given lease o rows)
apart_answered response alt given (Some e) (Some c) rows apart =
    cond_both (is_misdirected response e) (without_misdirecting e c.group.target rows) (with_words_of e c.group.target alt given rows) AreOfOrigins
    (λ m. apart_move e c.group.target rows apart) (λ f. apart_end e c.group.target alt given rows apart)
apart_answered response alt given (Some e) None rows apart = apart
apart_answered response alt given None o rows apart = apart

-- ---- addresses and protocols

abbrev AreOfHosts : List HostRow → Type 0
AreOfHosts rows = AllPairs (λ (a : HostRow) (b : HostRow). ¬ IsTrue (is_host_row_of b.key b.host a)) rows

abbrev AreOfGroups : List ProtoRow → Type 0
AreOfGroups rows = AllPairs (λ (a : ProtoRow) (b : ProtoRow). ¬ IsTrue (same_group a.group b.group)) rows

-- the addresses of a host are put behind those of other hosts
hosts_apart : (key : PartitionKey) (host : List ℕ) (addresses : List (List ℕ)) (rows : List HostRow) → AreOfHosts rows →
    AreOfHosts (other_hosts key host rows ++ record { key = key; host = host; list = addresses } ∷ [])
hosts_apart key host addresses rows apart =
    let R : HostRow → HostRow → Type 0 = λ a b. ¬ IsTrue (is_host_row_of b.key b.host a) in
    let row : HostRow = record { key = key; host = host; list = addresses } in
    pairs_push R (other_hosts key host rows) row (none_left (is_host_row_of key host) rows) (AllPairs-filter R (λ x. not (is_host_row_of key host x)) rows apart)

-- the protocol of a group is put behind those of other groups
protos_apart : (g : GroupKey) (p : Proto) (rows : List ProtoRow) → AreOfGroups rows → AreOfGroups (with_proto g p rows)
protos_apart g p rows apart =
    let R : ProtoRow → ProtoRow → Type 0 = λ a b. ¬ IsTrue (same_group a.group b.group) in
    let row : ProtoRow = record { group = g; proto = p } in
    let test : ProtoRow → Bool = λ x. same_group x.group g in
    pairs_push R (filter (λ x. not (test x)) rows) row (none_left test rows) (AllPairs-filter R (λ x. not (test x)) rows apart)

-- ---- reports and ends

abbrev AreAllApart : AbstractPool → Type 0
AreAllApart s = AreOfOrigins s.alternatives × AreOfHosts s.addresses × AreOfGroups s.protos

apart_useless : (s : AbstractPool) (g : GroupKey) (wanted_for : Option ExchangeNo) (how : Outcome) (v : Via) → AreAllApart s → AreAllApart (after_useless s g wanted_for how v)
apart_useless s g wanted_for how via.Direct apart = apart
apart_useless s g wanted_for how (via.Alternative p) apart = (apart_broken g.key g.origin g.target s apart.0, apart.1, apart.2)

apart_report : (s : AbstractPool) (conn : ConnNo) (r : Report) → AreAllApart s → AreAllApart (after_report s conn r)
unfolding after_answered
apart_report s conn (report.Opened id) apart =
    by_open AreAllApart s conn id
    (λ c.
    let rest = by_identity AreAllApart s conn c.group c.wanted_for id (apart_useless s c.group c.wanted_for (outcome.Identity conn) c.group.target.via apart) apart in
    (rest.0, rest.1, protos_apart c.group id.proto s.protos apart.2)) apart
apart_report s conn (report.Answered r response keep alt given) apart =
    (apart_answered response alt given (lease_at s conn r) (numbered conn.0 s.connections) s.alternatives apart.0, apart.1, apart.2)
apart_report s conn (report.AltSeen origin alt) apart =
    by_alt_seen AreAllApart s conn origin alt (λ c. (apart_updated c.group.key origin alt s.alternatives apart.0, apart.1, apart.2)) apart
apart_report s conn _ apart = apart

apart_closed : (s : AbstractPool) (conn : ConnNo) (cause : EndCause) (heard : List StreamNo) → AreAllApart s → AreAllApart (after_closed s conn cause heard)
apart_closed s conn cause heard apart =
    by_closed AreAllApart s conn cause heard
    (λ c. apart_useless (after_lost s conn cause heard) c.group c.wanted_for (outcome.DialFault conn) c.group.target.via apart) apart

-- ---- any entry

apart_act : (s : AbstractPool) (who : CallerNo) (act : Act) → AreAllApart s → AreAllApart (after_act s who act)
unfolding after_submit after_cancel after_reprioritise after_preconnect after_resolved after_network after_shut after_dial after_orders after_expire after_lapse after_assign after_evict
apart_act s who (Submit ask (submit.Accepted e)) apart = apart
apart_act s who (Cancel e cancel.Cancelled) apart = apart
apart_act s who (Reprioritise e urgency change.Changed) apart = apart
apart_act s who (Preconnect key credentials origin count (preconnect.Opening k)) apart = apart
apart_act s who (Resolved key host addresses resolved.Noted) apart = (apart.0, hosts_apart key host addresses s.addresses apart.1, apart.2)
apart_act s who Network apart = (apart_persistent s.alternatives apart.0, pairs_none (λ (a : HostRow) (b : HostRow). ¬ IsTrue (is_host_row_of b.key b.host a)), apart.2)
apart_act s who (Shutdown shut.Noted) apart = apart
apart_act s who (Reported c sent report) apart = apart_report (sent_noted s c sent) c report apart
apart_act s who (Closed c sent cause heard) apart = apart_closed (sent_noted s c sent) c cause heard apart
apart_act s who (Want e c t) apart = by_want AreAllApart s e t (λ x. apart) apart
apart_act s who _ apart = apart

pub rows_after : (s : AbstractPool) (e : Entry) → RowsAreApart s → RowsAreApart (after s e)
unfolding after noted
rows_after s e rows =
    let apart = apart_act (noted s e.moment) e.who e.act (rows.alternatives, rows.addresses, rows.protos) in
    record { alternatives = apart.0; addresses = apart.1; protos = apart.2 }

pub rows_opening : (config : Config) → RowsAreApart (opening config)
rows_opening config = record {
  alternatives = pairs_none (λ (a : AltRow) (b : AltRow). ¬ IsTrue (is_row_of b.key b.origin a));
  addresses = pairs_none (λ (a : HostRow) (b : HostRow). ¬ IsTrue (is_host_row_of b.key b.host a));
  protos = pairs_none (λ (a : ProtoRow) (b : ProtoRow). ¬ IsTrue (same_group a.group b.group));
}
