-- By each act a start stays ordered until its connection closes, where the act doesn't take its lease.
use Rattle.std.proofs.Common.{◌≡◌, ℕ, List, ◌++◌, Option, Some, None, Bool, true, false, inl, inr, refl, sym, subst, is_some, IsTrue, IsSomeAnd}
use Rattle.std.specs.Prelude.{◌==◌, ◌&&◌, Contains}
use Rattle.std.specs.List.{list_any}
use Rattle.std.proofs.lemmas.Bool.{and_from, both_ways, eqb-false, eq-eqb}
use Rattle.net_base.specs.declared.end_cause.EndCause.{EndCause}
use Rattle.net_base.specs.declared.numbers.CallerNo.{CallerNo}
use Rattle.net_base.specs.declared.numbers.ConnNo.{ConnNo}
use Rattle.net_base.specs.declared.numbers.ExchangeNo.{ExchangeNo}
use Rattle.net_base.specs.declared.numbers.Moment.{Moment}
use Rattle.net_base.specs.declared.numbers.StreamNo.{StreamNo}
use Rattle.net_base.specs.declared.target.Via.{Via}
use Rattle.net_base.specs.declared.target.Via.TheVariants as via
use Rattle.partition_keys.specs.declared.group.GroupKey.{GroupKey}
use Rattle.model_changes.specs.Connections.{is_start_of, closing, without_stream, without_start, without_exchange, dialing_by, after_opened, with_start, with_taken, with_limit, after_large_answer, going_away, gone, with_sent}
use Rattle.model_laws.proofs.AwaitLeases.{takes_by, takes, Tells, edited_at}
use Rattle.model_laws.proofs.AwaitSteps.{start_among, Awaits, awaits_there, awaits_closing, awaits_without_stream, awaits_without_start, awaits_without_exchange, awaits_answered, awaits_large_answer, awaits_opened, awaits_with_start}
use Rattle.model_laws.proofs.FitLemmas.{same_item, Gives, IsFit}
use Rattle.model_laws.proofs.TurnLemmas.{at_item}
use Rattle.model_histories.proofs.CauseLemmas.{by_open, by_alt_seen, by_closed, by_want}
use Rattle.model_histories.proofs.EditLemmas.{edit_at, append_at}
use Rattle.model_histories.proofs.OwnLemmas.{IsReportedIn, reported_in}
use Rattle.model_histories.specs.Legal.{MayReport}
use Rattle.model_steps.specs.After.{after_submit, released_lease, released_by, released, after_cancel, after_reprioritise, after_preconnect, after_resolved, after_network, after_shut, after_dial, after_orders, after_report, after_expire, after_lapse, after_assign, after_evict, sent_noted, after_act}
use Rattle.model_steps.specs.Answered.{lease_at, answered_connection, after_answered}
use Rattle.model_steps.specs.Lost.{after_lost, after_closed}
use Rattle.model_steps.specs.Opened.{after_useless}
use Rattle.model_authority.proofs.NumberLemmas.{value_and, and_value}
use Rattle.model_authority.proofs.PhaseLemmas.{excludes}
use Rattle.model_authority.specs.Lists.{numbered, edit}
use Rattle.model_authority.specs.Statuses.{is_at, is_wanted, is_closing, is_open, is_dialing}
use Rattle.model_values.specs.declared.entry.Act.{Act}
use Rattle.model_values.specs.declared.entry.Act.TheVariants.{Submit, Cancel, Reprioritise, Preconnect, Resolved, Shutdown, Dial, Orders, Reported, Closed, Expire, Assign, Want, Evict}
use Rattle.model_values.specs.declared.order.OrderMark.{OrderMark}
use Rattle.model_values.specs.declared.order.OrderMark.TheVariants as mark
use Rattle.model_values.specs.declared.outcome.Outcome.{Outcome}
use Rattle.model_values.specs.declared.outcome.Outcome.TheVariants as outcome
use Rattle.model_values.specs.declared.reply.CancelReply.TheVariants as cancel
use Rattle.model_values.specs.declared.reply.ChangeReply.TheVariants as change
use Rattle.model_values.specs.declared.reply.PreconnectReply.TheVariants as preconnect
use Rattle.model_values.specs.declared.reply.ResolvedReply.TheVariants as resolved
use Rattle.model_values.specs.declared.reply.ShutReply.TheVariants as shut_reply
use Rattle.model_values.specs.declared.reply.SubmitReply.TheVariants as submit
use Rattle.model_values.specs.declared.report.Report.{Report}
use Rattle.model_values.specs.declared.report.Report.TheVariants as report
use Rattle.model_values.specs.declared.state.AbstractPool.{AbstractPool}
use Rattle.model_values.specs.declared.state.Connection.{Connection}
use Rattle.model_values.specs.declared.state.Exchange.{Exchange}
use Rattle.model_values.specs.declared.state.Status.{Status}
use Rattle.model_values.specs.declared.state.Status.TheVariants.{Waiting, Leased, Ended}

-- ---- lists of connections

-- the start stays ordered on the connection until that closes
abbrev pub AwaitsAt : ExchangeNo → StreamNo → Option Connection → Type 0
AwaitsAt e r o = IsSomeAnd o (λ y. Awaits e r y.phase y.orders)

awaits_edit : (e : ExchangeNo) (r : StreamNo) (number n : ℕ) (f : Connection → Connection) (cs : List Connection) →
    ((x : Connection) → n ≡ number → numbered number cs ≡ Some x → Awaits e r x.phase x.orders → Awaits e r (f x).phase (f x).orders) →
    AwaitsAt e r (numbered n cs) →
    AwaitsAt e r (numbered n (edit number f cs))
awaits_edit e r number n f cs step =
    edited_at (λ m o p. n ≡ m → AwaitsAt e r o → AwaitsAt e r p) number n f cs (λ m o other same h. h) (λ same h. h) (λ x is_item same h. step x same is_item h) refl

-- ---- a lease that is released

awaits_lease : (e : ExchangeNo) (r : StreamNo) (c : ConnNo) (now : Moment) (status : Status) (cs : List Connection) → (is_at c r status ≡ true → ⊥) →
    AwaitsAt e r (numbered c.0 cs) →
    AwaitsAt e r (numbered c.0 (released_lease now status cs))
awaits_lease e r c now Waiting cs apart h = h
awaits_lease e r c now (Leased d t by false) cs apart h =
    awaits_edit e r d.0 c.0 (without_start now t) cs
    (λ x here is_item k.
    awaits_without_start e r now t x (λ same. apart (and_from (d.0 == c.0) (t.0 == r.0) (eq-eqb d.0 c.0 (sym here)) (eq-eqb t.0 r.0 same))) k) h
awaits_lease e r c now (Leased d t by true) cs apart h = awaits_edit e r d.0 c.0 (without_exchange t) cs (λ x here is_item k. awaits_without_exchange e r t x k) h
awaits_lease e r c now (Ended how) cs apart h = h

-- no exchange but this one has the lease on the stream
abbrev pub IsAlone : AbstractPool → ExchangeNo → ConnNo → StreamNo → Type 0
IsAlone s e c r = (n : ℕ) (x : Exchange) → numbered n s.exchanges ≡ Some x → is_at c r x.status ≡ true → e.0 ≡ n

awaits_released : (s : AbstractPool) (f e : ExchangeNo) (c : ConnNo) (r : StreamNo) → IsAlone s e c r → (e.0 ≡ f.0 → ⊥) →
    AwaitsAt e r (numbered c.0 s.connections) →
    AwaitsAt e r (numbered c.0 (released s f))
unfolding released
awaits_released s f e c r alone other h = by (numbered f.0 s.exchanges) refl
  where
    by : (o : Option Exchange) → numbered f.0 s.exchanges ≡ o → AwaitsAt e r (numbered c.0 (released_by s.latest o s.connections))
    by None is = h
    by (Some x) is = awaits_lease e r c s.latest x.status s.connections (λ at. other (alone f.0 x is at)) h

-- ---- reports and ends

abbrev IsReportedAt : AbstractPool → ConnNo → Report → Type 0
IsReportedAt s conn r = IsSomeAnd (numbered conn.0 s.connections) (λ x. IsReportedIn x.phase r)

awaits_report : (s : AbstractPool) (conn : ConnNo) (told : Report) (e : ExchangeNo) (c : ConnNo) (r : StreamNo) → takes_by conn c r told ≡ false →
    IsReportedAt s conn told →
    AwaitsAt e r (numbered c.0 s.connections) → AwaitsAt e r (numbered c.0 (after_report s conn told).connections)
unfolding after_answered
awaits_report s conn (report.Opened id) e c r f may h =
    by_open (λ t. AwaitsAt e r (numbered c.0 t.connections)) s conn id
    (λ k.
    awaits_edit e r conn.0 c.0 (after_opened (is_some s.shutdown) s.latest id) s.connections
    (λ x here is_item was.
    let dialing : is_dialing x.phase ≡ true = at_item (λ y. is_dialing y.phase ≡ true) (numbered conn.0 s.connections) x may is_item in
    awaits_opened e r (is_some s.shutdown) s.latest id x dialing was) h) h
awaits_report s conn (report.Limit n) e c r f may h = awaits_edit e r conn.0 c.0 (with_limit n) s.connections (λ x here is_item was. was) h
awaits_report s conn (report.Answered t response keep alt proof) e c r f may h =
    awaits_edit e r conn.0 c.0 (answered_connection s.latest t response keep (lease_at s conn t)) s.connections
    (λ x here is_item was. awaits_answered e r s.latest t response keep (lease_at s conn t) x was) h
awaits_report s conn (report.Refused t) e c r f may h =
    awaits_edit e r conn.0 c.0 (without_stream s.latest t) s.connections (λ x here is_item was. awaits_without_stream e r s.latest t x was) h
awaits_report s conn (report.Reset t code) e c r f may h =
    awaits_edit e r conn.0 c.0 (without_stream s.latest t) s.connections (λ x here is_item was. awaits_without_stream e r s.latest t x was) h
awaits_report s conn (report.TooLarge t) e c r f may h =
    awaits_edit e r conn.0 c.0 (after_large_answer s.latest t) s.connections (λ x here is_item was. awaits_large_answer e r s.latest t x was) h
awaits_report s conn (report.StreamClosed t) e c r f may h =
    awaits_edit e r conn.0 c.0 (without_stream s.latest t) s.connections (λ x here is_item was. awaits_without_stream e r s.latest t x was) h
awaits_report s conn (report.Goaway last) e c r f may h =
    awaits_edit e r conn.0 c.0 (going_away s.latest conn s.exchanges last) s.connections (λ x here is_item was. absurd (eqb-false c.0 conn.0 f here)) h
awaits_report s conn (report.AltSeen origin alt) e c r f may h = by_alt_seen (λ t. AwaitsAt e r (numbered c.0 t.connections)) s conn origin alt (λ k. h) h

useless_connections : (s : AbstractPool) (g : GroupKey) (wanted_for : Option ExchangeNo) (how : Outcome) (v : Via) (P : List Connection → Type 0) →
    P s.connections →
    P (after_useless s g wanted_for how v).connections
useless_connections s g wanted_for how via.Direct P h = h
useless_connections s g wanted_for how (via.Alternative p) P h = h

-- what holds of the connections with this one gone holds of them behind its end
pub by_lost_connections : (s : AbstractPool) (conn : ConnNo) (cause : EndCause) (heard : List StreamNo) (P : List Connection → Type 0) →
    P (edit conn.0 gone s.connections) →
    P (after_closed s conn cause heard).connections
by_lost_connections s conn cause heard P h =
    by_closed (λ t. P t.connections) s conn cause heard
    (λ y. useless_connections (after_lost s conn cause heard) y.group y.wanted_for (outcome.DialFault conn) y.group.target.via P h) h

noted_awaits : (s : AbstractPool) (conn : ConnNo) (sent : ℕ) (e : ExchangeNo) (c : ConnNo) (r : StreamNo) → AwaitsAt e r (numbered c.0 s.connections) →
    AwaitsAt e r (numbered c.0 (sent_noted s conn sent).connections)
noted_awaits s conn sent e c r h = awaits_edit e r conn.0 c.0 (with_sent sent) s.connections (λ x here is_item was. was) h

noted_reported : (s : AbstractPool) (conn : ConnNo) (sent : ℕ) (told : Report) → IsSomeAnd (numbered conn.0 s.connections) (λ x. MayReport x told) →
    IsReportedAt (sent_noted s conn sent) conn told
noted_reported s conn sent told may =
    let v = value_and (numbered conn.0 s.connections) (λ x. MayReport x told) may in
    let In : Option Connection → Type 0 = λ o. IsSomeAnd o (λ x. IsReportedIn x.phase told) in
    edit_at (λ (o p : Option Connection). In o → In p) conn.0 conn.0 (with_sent sent) s.connections (λ o h. h) (λ x is_item h. h)
    (and_value (numbered conn.0 s.connections) (λ x. IsReportedIn x.phase told) v.0 v.1 (reported_in v.0 told v.2))

-- ---- a start stays by any act that doesn't take its lease

-- where its orders are taken, the lease is taken with the start
awaits_taken : (s : AbstractPool) (conn : ConnNo) (sent : ℕ) (orders : List OrderMark) (e : ExchangeNo) (c : ConnNo) (r : StreamNo) →
    IsSomeAnd (numbered conn.0 s.connections) (λ y. orders ≡ y.orders) → (c.0 == conn.0 && list_any (is_start_of r) orders) ≡ false →
    AwaitsAt e r (numbered c.0 s.connections) →
    AwaitsAt e r (numbered c.0 (after_orders (sent_noted s conn sent) conn orders).connections)
unfolding after_orders
awaits_taken s conn sent orders e c r tells f h =
    awaits_edit e r conn.0 c.0 (with_taken orders) (edit conn.0 (with_sent sent) s.connections)
    (λ x here is_item was. elim was [
      | inl closes ↦ inl closes
      | inr has ↦
          let taken : Bool = c.0 == conn.0 && list_any (is_start_of r) orders in
          let among : list_any (is_start_of r) orders ≡ true =
          start_among orders e r (subst (λ (ms : List OrderMark). Contains ms (mark.Start e r)) (sym (all x is_item)) has) in
          absurd (both_ways taken f (and_from (c.0 == conn.0) (list_any (is_start_of r) orders) (eq-eqb c.0 conn.0 here) among))
    ]) (noted_awaits s conn sent e c r h)
  where
    all : (x : Connection) → numbered conn.0 (edit conn.0 (with_sent sent) s.connections) ≡ Some x → orders ≡ x.orders
    all x is_item =
        let HasAll : Option Connection → Type 0 = λ o. IsSomeAnd o (λ y. orders ≡ y.orders) in
        at_item (λ y. orders ≡ y.orders) (numbered conn.0 (edit conn.0 (with_sent sent) s.connections)) x
        (edit_at (λ (o p : Option Connection). HasAll o → HasAll p) conn.0 conn.0 (with_sent sent) s.connections (λ o k. k) (λ y is k. k) tells) is_item

awaits_push : (e : ExchangeNo) (r : StreamNo) (n : ℕ) (cs ds : List Connection) → AwaitsAt e r (numbered n cs) → AwaitsAt e r (numbered n (cs ++ ds))
awaits_push e r n cs ds = append_at (λ (o p : Option Connection). AwaitsAt e r o → AwaitsAt e r p) n cs ds (λ o h. h) (λ i y is h. absurd h)

pub awaits_act : (s : AbstractPool) (who : CallerNo) (act : Act) (e : ExchangeNo) (c : ConnNo) (r : StreamNo) → IsFit s act → Tells s act →
    IsAlone s e c r → takes act e.0 c r ≡ false →
    AwaitsAt e r (numbered c.0 s.connections) → AwaitsAt e r (numbered c.0 (after_act s who act).connections)
unfolding after_submit after_cancel after_reprioritise after_preconnect after_resolved after_network after_shut after_dial after_expire after_lapse after_assign after_evict
awaits_act s who (Submit ask (submit.Accepted x)) e c r fit tells alone f h = h
awaits_act s who (Cancel g cancel.Cancelled) e c r fit tells alone f h = awaits_released s g e c r alone (eqb-false e.0 g.0 f) h
awaits_act s who (Reprioritise x urgency change.Changed) e c r fit tells alone f h = h
awaits_act s who (Preconnect key credentials origin count (preconnect.Opening k)) e c r fit tells alone f h = awaits_push e r c.0 s.connections _ h
awaits_act s who (Resolved key host addresses resolved.Noted) e c r fit tells alone f h = h
awaits_act s who (Shutdown shut_reply.Noted) e c r fit tells alone f h = absurd cc
awaits_act s who (Dial conn target) e c r fit tells alone f h =
    awaits_edit e r conn.0 c.0 (dialing_by who) s.connections
    (λ x here is_item was.
    let wanted : is_wanted x.phase ≡ true = at_item (λ y. IsTrue (is_wanted y.phase)) (numbered conn.0 s.connections) x fit is_item in
    inr (awaits_there e r x.phase x.orders (excludes is_wanted is_closing refl x.phase wanted) was)) h
awaits_act s who (Orders conn sent orders) e c r fit tells alone f h = awaits_taken s conn sent orders e c r tells f h
awaits_act s who (Reported conn sent told) e c r fit tells alone f h =
    awaits_report (sent_noted s conn sent) conn told e c r f (noted_reported s conn sent told fit) (noted_awaits s conn sent e c r h)
awaits_act s who (Closed conn sent cause heard) e c r fit tells alone f h =
    by_lost_connections (sent_noted s conn sent) conn cause heard (λ cs. AwaitsAt e r (numbered c.0 cs))
    (awaits_edit e r conn.0 c.0 gone (sent_noted s conn sent).connections (λ x here is_item was. absurd (eqb-false c.0 conn.0 f here))
    (noted_awaits s conn sent e c r h))
awaits_act s who (Expire g) e c r fit tells alone f h = awaits_released s g e c r alone (eqb-false e.0 g.0 f) h
awaits_act s who (Assign g conn t by) e c r fit tells alone f h =
    awaits_edit e r conn.0 c.0 (with_start s.config.last_stream g t) s.connections
    (λ x here is_item was.
    let gives : Gives s conn t = fit.1 in
    let same : gives.connection ≡ x = same_item (numbered conn.0 s.connections) gives.connection x gives.is_connection is_item in
    let opened : is_open x.phase ≡ true = subst (λ (y : Connection). is_open y.phase ≡ true) same gives.opened in
    awaits_with_start e r s.config.last_stream g t x opened was) h
awaits_act s who (Want g conn target) e c r fit tells alone f h =
    by_want (λ u. AwaitsAt e r (numbered c.0 u.connections)) s g target (λ x. awaits_push e r c.0 s.connections _ h) h
awaits_act s who (Evict conn) e c r fit tells alone f h = awaits_edit e r conn.0 c.0 closing s.connections (λ x here is_item was. awaits_closing e r x was) h
awaits_act s who _ e c r fit tells alone f h = h
