-- By each act a start that is ordered was ordered before or is given with its lease, and has gone where the act takes its lease.
use Rattle.std.proofs.Common.{◌≡◌, ◌⊎◌, ℕ, List, Option, Some, None, Bool, true, inl, inr, refl, sym, ap, subst, ◌∙◌, is_some, IsTrue, IsSomeAnd}
use Rattle.std.specs.Prelude.{◌==◌, ◌&&◌, not, Contains}
use Rattle.std.specs.List.{list_any}
use Rattle.std.proofs.lemmas.Bool.{cond_both, and_parts, eqb-true}
use Rattle.std.proofs.lemmas.List.Elements.{Contains-push, Contains-push_cases}
use Rattle.net_base.specs.declared.identity.Identity.{Identity}
use Rattle.net_base.specs.declared.numbers.CallerNo.{CallerNo}
use Rattle.net_base.specs.declared.numbers.ConnNo.{ConnNo}
use Rattle.net_base.specs.declared.numbers.ExchangeNo.{ExchangeNo}
use Rattle.net_base.specs.declared.numbers.Moment.{Moment}
use Rattle.net_base.specs.declared.numbers.StreamNo.{StreamNo}
use Rattle.model_changes.specs.Connections.{is_start_of, without_start, after_opened, opened_with, refused_with, suits, with_start, with_taken, going_away, gone, after_shutdown, with_sent}
use Rattle.model_laws.proofs.AwaitExchanges.{unsent_is}
use Rattle.model_laws.proofs.AwaitLeases.{takes_by, takes, edited_at}
use Rattle.model_laws.proofs.AwaitOrders.{by_lost_connections}
use Rattle.model_laws.proofs.AwaitSteps.{Lacks, lacks_without_start, lacks_going_away, lacks_after_shutdown}
use Rattle.model_laws.proofs.FitLemmas.{Gives, IsFit}
use Rattle.model_laws.proofs.OrderlyLemmas.{AreOrderly}
use Rattle.model_laws.proofs.PendingLemmas.{none_there}
use Rattle.model_laws.proofs.ReleaseLemmas.{HasUnsent, IsGiven}
use Rattle.model_laws.specs.Sound.{HasStreamsInOrder, StartedAreSent}
use Rattle.model_histories.proofs.EditLemmas.{edit_here, map_at}
use Rattle.model_histories.proofs.EffectLemmas.{leaves_closing, IsNew, IsReported, conn_of, Changes, effect_at}
use Rattle.model_histories.specs.Legal.{MayReport}
use Rattle.model_steps.specs.After.{released_lease, released_by, released, after_cancel, after_shut, after_orders, after_report, after_expire, after_assign, sent_noted, after_act}
use Rattle.model_authority.proofs.NumberLemmas.{value_and, and_value}
use Rattle.model_authority.specs.Lists.{numbered, edit}
use Rattle.model_authority.specs.Statuses.{is_busy, is_unsent_at}
use Rattle.model_values.specs.declared.entry.Act.{Act}
use Rattle.model_values.specs.declared.entry.Act.TheVariants.{Cancel, Shutdown, Dial, Orders, Reported, Closed, Expire, Assign}
use Rattle.model_values.specs.declared.entry.Way.{Way}
use Rattle.model_values.specs.declared.order.OrderMark.{OrderMark}
use Rattle.model_values.specs.declared.order.OrderMark.TheVariants as mark
use Rattle.model_values.specs.declared.reply.CancelReply.TheVariants as cancel
use Rattle.model_values.specs.declared.reply.ShutReply.TheVariants as shut_reply
use Rattle.model_values.specs.declared.report.Report.{Report}
use Rattle.model_values.specs.declared.report.Report.TheVariants as report
use Rattle.model_values.specs.declared.state.AbstractPool.{AbstractPool}
use Rattle.model_values.specs.declared.state.Connection.{Connection}
use Rattle.model_values.specs.declared.state.Exchange.{Exchange}
use Rattle.model_values.specs.declared.state.Status.{Status}

-- ---- lists of connections

-- it is gone, or has no such start ordered
abbrev pub LacksAt : ExchangeNo → StreamNo → Option Connection → Type 0
LacksAt e r None = Unit {0}
LacksAt e r (Some y) = Lacks e r y.phase y.orders

lacks_edit : (e : ExchangeNo) (r : StreamNo) (number n : ℕ) (f : Connection → Connection) (cs : List Connection) → n ≡ number →
    ((x : Connection) → Lacks e r (f x).phase (f x).orders) →
    LacksAt e r (numbered n (edit number f cs))
lacks_edit e r number n f cs here lacks =
    edited_at (λ m o p. m ≡ number → LacksAt e r p) number n f cs (λ m o other same. absurd (other same)) (λ same. tt) (λ x is_item same. lacks x) here

-- ---- the act takes the lease

-- the lease of an exchange whose start isn't handed takes the start with it
lacks_released : (s : AbstractPool) (f e : ExchangeNo) (c : ConnNo) (r : StreamNo) → e.0 ≡ f.0 → HasUnsent c r (numbered e.0 s.exchanges) →
    LacksAt e r (numbered c.0 (released s f))
unfolding released
lacks_released s f e c r same unsent =
    let v = value_and (numbered e.0 s.exchanges) (λ x. IsTrue (is_unsent_at c r x.status)) unsent in
    let u = unsent_is c r v.0.status v.2 in
    let is : released s f ≡ edit c.0 (without_start s.latest r) s.connections =
    ap (λ (o : Option Exchange). released_by s.latest o s.connections) (ap (λ k. numbered k s.exchanges) (sym same) ∙ v.1)
    ∙ ap (λ (status : Status). released_lease s.latest status s.connections) u.1 in
    subst (λ (cs : List Connection). LacksAt e r (numbered c.0 cs)) (sym is)
    (lacks_edit e r c.0 c.0 (without_start s.latest r) s.connections refl (λ x. lacks_without_start e r s.latest x))

-- a stream whose end is reported was started, so no lease on it is one whose start isn't handed
reported_started : (s : AbstractPool) (n : ℕ) (conn : ConnNo) (t : StreamNo) (c : ConnNo) (r : StreamNo) → StartedAreSent s →
    HasUnsent c r (numbered n s.exchanges) →
    (c.0 == conn.0 && r.0 == t.0) ≡ true → IsSomeAnd (numbered conn.0 s.connections) (λ x. IsTrue (is_busy x.phase) × Contains x.started t) → ⊥
reported_started s n conn t c r sent unsent taken may =
    let v = value_and (numbered n s.exchanges) (λ y. IsTrue (is_unsent_at c r y.status)) unsent in
    let w = value_and (numbered conn.0 s.connections) (λ x. IsTrue (is_busy x.phase) × Contains x.started t) may in
    let parts = and_parts (c.0 == conn.0) (r.0 == t.0) taken in
    let stream : ℕ → StreamNo = λ k. record { 0 = k } in
    let same_stream : t ≡ r = ap stream (sym (eqb-true r.0 t.0 parts.1)) in
    sent n v.0 c r w.0 v.1 v.2 (ap (λ i. numbered i s.connections) (eqb-true c.0 conn.0 parts.0) ∙ w.1)
    (subst (λ (u : StreamNo). Contains w.0.started u) same_stream w.2.1)

lacks_reported : (s : AbstractPool) (conn : ConnNo) (sent : ℕ) (told : Report) (e : ExchangeNo) (c : ConnNo) (r : StreamNo) → StartedAreSent s →
    IsSomeAnd (numbered conn.0 s.connections) (λ x. MayReport x told) → HasUnsent c r (numbered e.0 s.exchanges) → takes_by conn c r told ≡ true →
    LacksAt e r (numbered c.0 (after_report (sent_noted s conn sent) conn told).connections)
lacks_reported s conn sent (report.Answered t response keep alt proof) e c r sents may unsent taken = absurd (reported_started s e.0 conn t c r sents unsent taken may)
lacks_reported s conn sent (report.Refused t) e c r sents may unsent taken = absurd (reported_started s e.0 conn t c r sents unsent taken may)
lacks_reported s conn sent (report.Reset t code) e c r sents may unsent taken = absurd (reported_started s e.0 conn t c r sents unsent taken may)
lacks_reported s conn sent (report.TooLarge t) e c r sents may unsent taken = absurd (reported_started s e.0 conn t c r sents unsent taken may)
lacks_reported s conn sent (report.Goaway last) e c r sents may unsent taken =
    let t : AbstractPool = sent_noted s conn sent in
    lacks_edit e r conn.0 c.0 (going_away t.latest conn t.exchanges last) t.connections (eqb-true c.0 conn.0 taken)
    (λ x. lacks_going_away e r t.latest conn t.exchanges last x)
lacks_reported s conn sent _ e c r sents may unsent taken = absurd cc

-- where the act takes the lease from its exchange, its connection is gone then, or has no start of it ordered
pub lacks_act : (s : AbstractPool) (who : CallerNo) (act : Act) (e : ExchangeNo) (c : ConnNo) (r : StreamNo) → IsFit s act → AreOrderly s →
    StartedAreSent s →
    HasUnsent c r (numbered e.0 s.exchanges) → takes act e.0 c r ≡ true → LacksAt e r (numbered c.0 (after_act s who act).connections)
unfolding after_cancel after_shut after_orders after_expire
lacks_act s who (Cancel g cancel.Cancelled) e c r fit orderly sent unsent taken = lacks_released s g e c r (eqb-true e.0 g.0 taken) unsent
lacks_act s who (Shutdown shut_reply.Noted) e c r fit orderly sent unsent taken =
    map_at (λ (o p : Option Connection). ((y : Connection) → o ≡ Some y → HasStreamsInOrder s.config y) → LacksAt e r p) c.0 after_shutdown s.connections (λ each. tt)
    (λ x each. lacks_after_shutdown e r s.config x (each x refl)) (orderly c.0)
lacks_act s who (Orders conn count orders) e c r fit orderly sent unsent taken =
    let here : c.0 ≡ conn.0 = eqb-true c.0 conn.0 (and_parts (c.0 == conn.0) (list_any (is_start_of r) orders) taken).0 in
    lacks_edit e r conn.0 c.0 (with_taken orders) (sent_noted s conn count).connections here (λ x. inr (none_there (mark.Start e r)))
lacks_act s who (Reported conn count told) e c r fit orderly sent unsent taken = lacks_reported s conn count told e c r sent fit unsent taken
lacks_act s who (Closed conn count cause heard) e c r fit orderly sent unsent taken =
    by_lost_connections (sent_noted s conn count) conn cause heard (λ cs. LacksAt e r (numbered c.0 cs))
    (lacks_edit e r conn.0 c.0 gone (sent_noted s conn count).connections (eqb-true c.0 conn.0 taken) (λ x. inl refl))
lacks_act s who (Expire g) e c r fit orderly sent unsent taken = lacks_released s g e c r (eqb-true e.0 g.0 taken) unsent
lacks_act s who _ e c r fit orderly sent unsent taken = absurd cc

-- ---- starts come with their leases

-- the start is ordered
abbrev pub HasStart : ExchangeNo → StreamNo → Option Connection → Type 0
HasStart e r o = IsSomeAnd o (λ y. Contains y.orders (mark.Start e r))

abbrev Comes : Act → ExchangeNo → ConnNo → StreamNo → Connection → Connection → Type 0
Comes act e c r x y = Contains y.orders (mark.Start e r) → Contains x.orders (mark.Start e r) ⊎ IsGiven act e.0 c r

comes_opened : (is_shut : Bool) (now : Moment) (id : Identity) (x : Connection) (e : ExchangeNo) (r : StreamNo) →
    Contains (after_opened is_shut now id x).orders (mark.Start e r) →
    Contains x.orders (mark.Start e r)
unfolding after_opened
comes_opened is_shut now id x e r h =
    let shown : Connection = record x { identity = Some id } in
    cond_both (not is_shut && suits x.group id) (opened_with now id x) (refused_with id x)
    (λ (z : Connection). Contains z.orders (mark.Start e r) → Contains x.orders (mark.Start e r)) (λ t k. k)
    (λ f k. (leaves_closing shown).starts e r k) h

comes_reported : (s : AbstractPool) (sent : ℕ) (told : Report) (x y : Connection) (e : ExchangeNo) (r : StreamNo) →
    IsReported s told (with_sent sent x) y → Contains y.orders (mark.Start e r) →
    Contains x.orders (mark.Start e r)
comes_reported s sent (report.Opened id) x y e r is h =
    comes_opened (is_some s.shutdown) s.latest id (with_sent sent x) e r (subst (λ (z : Connection). Contains z.orders (mark.Start e r)) is h)
comes_reported s sent told x y e r is h = is.starts e r h

-- the start that the act orders
comes_assigned : (s : AbstractPool) (g : ExchangeNo) (conn : ConnNo) (t : StreamNo) (by : Way) (x : Connection) (e : ExchangeNo) (c : ConnNo) (r : StreamNo) → c.0 ≡ conn.0 →
    Comes (Assign g conn t by) e c r x (with_start s.config.last_stream g t x)
unfolding with_start
comes_assigned s g conn t by x e c r here h = elim (Contains-push_cases x.orders (mark.Start g t) (mark.Start e r) h) [
  | inl before ↦ inl before
  | inr same ↦
      let is_exchange : e ≡ g = cc in
      let is_stream : r ≡ t = cc in
      inr (record {
        exchange = g;
        conn = conn;
        stream = t;
        by = by;
        is_assign = refl;
        is_exchange = ap (λ (k : ExchangeNo). k.0) is_exchange;
        is_conn = here;
        is_stream = ap (λ (k : StreamNo). k.0) is_stream;
      })
]

comes_change : (s : AbstractPool) (who : CallerNo) (act : Act) (x y : Connection) (e : ExchangeNo) (c : ConnNo) (r : StreamNo) → c.0 ≡ conn_of act →
    Changes s who act x y → Comes act e c r x y
comes_change s who (Dial conn goes_to) x y e c r here is h = inl (subst (λ (z : Connection). Contains z.orders (mark.Start e r)) is h)
comes_change s who (Orders conn sent orders) x y e c r here is h =
    absurd (none_there (mark.Start e r) (subst (λ (z : Connection). Contains z.orders (mark.Start e r)) is h))
comes_change s who (Reported conn sent told) x y e c r here is h = inl (comes_reported s sent told x y e r is h)
comes_change s who (Closed conn sent cause heard) x y e c r here is h = inl (subst (λ (z : Connection). Contains z.orders (mark.Start e r)) is h)
comes_change s who (Assign g conn t by) x y e c r here is h =
    comes_assigned s g conn t by x e c r here (subst (λ (z : Connection). Contains z.orders (mark.Start e r)) is h)
comes_change s who _ x y e c r here is h = inl (is.starts e r h)

new_starts_none : (y : Connection) (e : ExchangeNo) (r : StreamNo) → IsNew y → Contains y.orders (mark.Start e r) → ⊥
new_starts_none y e r new h =
    none_there (mark.Start e r) (subst (λ (ms : List OrderMark). Contains ms (mark.Start e r)) (ap (λ (z : Connection). z.orders) new.is_new) h)

-- a start that is ordered was so before, or the act gives its exchange the lease
pub start_came : (s : AbstractPool) (who : CallerNo) (act : Act) (e : ExchangeNo) (c : ConnNo) (r : StreamNo) →
    HasStart e r (numbered c.0 (after_act s who act).connections) →
    HasStart e r (numbered c.0 s.connections) ⊎ IsGiven act e.0 c r
start_came s who act e c r =
    effect_at (λ n o p. c.0 ≡ n → HasStart e r p → HasStart e r o ⊎ IsGiven act e.0 c r) s who act (λ n here h. absurd h) (λ n x y k here h. inl (k.starts e r h))
    (λ adds n y new here h. absurd (new_starts_none y e r new h)) (λ x y is_item is here h. comes_change s who act x y e c r here is h) c.0 refl

assigned_start : (s : AbstractPool) (e : ExchangeNo) (c : ConnNo) (r : StreamNo) (by : Way) → Gives s c r →
    HasStart e r (numbered c.0 (after_assign s e c r by).connections)
unfolding after_assign with_start
assigned_start s e c r by gives =
    let y : Connection = gives.connection in
    let f : Connection → Connection = with_start s.config.last_stream e r in
    and_value (numbered c.0 (edit c.0 f s.connections)) (λ z. Contains z.orders (mark.Start e r)) (f y) (edit_here c.0 f s.connections y gives.is_connection)
    (Contains-push y.orders (mark.Start e r))

-- the start of the lease that the act gives is ordered
pub start_given : (s : AbstractPool) (who : CallerNo) (act : Act) (e : ExchangeNo) (c : ConnNo) (r : StreamNo) → IsFit s act → IsGiven act e.0 c r →
    HasStart e r (numbered c.0 (after_act s who act).connections)
start_given s who act e c r fit g =
    let conn : ℕ → ConnNo = λ k. record { 0 = k } in
    let stream : ℕ → StreamNo = λ k. record { 0 = k } in
    let exchange : ℕ → ExchangeNo = λ k. record { 0 = k } in
    let same_conn : g.conn ≡ c = ap conn (sym g.is_conn) in
    let same_stream : g.stream ≡ r = ap stream (sym g.is_stream) in
    let same_exchange : g.exchange ≡ e = ap exchange (sym g.is_exchange) in
    let given : act ≡ Assign g.exchange g.conn g.stream g.by = g.is_assign in
    let is : act ≡ Assign e c r g.by = cc in
    subst (λ (a : Act). HasStart e r (numbered c.0 (after_act s who a).connections)) (sym is) (assigned_start s e c r g.by (subst (IsFit s) is fit).1)
