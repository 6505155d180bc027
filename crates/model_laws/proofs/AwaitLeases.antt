-- What each act leaves of the leases whose start isn't handed yet: which of them it takes, and that the others stay.
use Rattle.std.proofs.Common.{◌≡◌, ◌⊎◌, ℕ, List, [], ◌∷◌, ◌++◌, Option, Some, None, Bool, true, false, inl, inr, refl, sym, ap, subst, ◌∙◌, map, is_some, IsTrue, IsSomeAnd}
use Rattle.std.specs.Prelude.{◌==◌, ◌&&◌}
use Rattle.std.specs.List.{list_any}
use Rattle.std.proofs.lemmas.Bool.{cases_eq, and_from, eq-eqb, ne_eqb}
use Rattle.net_base.specs.declared.end_cause.EndCause.{EndCause}
use Rattle.net_base.specs.declared.numbers.CallerNo.{CallerNo}
use Rattle.net_base.specs.declared.numbers.ConnNo.{ConnNo}
use Rattle.net_base.specs.declared.numbers.ExchangeNo.{ExchangeNo}
use Rattle.net_base.specs.declared.numbers.StreamNo.{StreamNo}
use Rattle.net_base.specs.declared.target.Via.{Via}
use Rattle.net_base.specs.declared.target.Via.TheVariants as via
use Rattle.partition_keys.specs.declared.group.GroupKey.{GroupKey}
use Rattle.model_changes.specs.Connections.{is_start_of}
use Rattle.model_laws.proofs.AwaitExchanges.{none_taken, NoneUnsent, Spends, spends_same, spends_then, spends_none, none_ended, none_waiting, none_timed_out, none_ended_unless, spends_answered, spends_refused, spends_ended_at, spends_left_out, spends_lost, spends_ended_if_waiting, spends_all, spends_nothing, spends_handed}
use Rattle.model_laws.proofs.FitLemmas.{IsWaitingAt, IsFit}
use Rattle.model_laws.proofs.ReleaseLemmas.{HasUnsent, IsGiven, releases_act}
use Rattle.model_laws.proofs.TurnLemmas.{no_claim}
use Rattle.model_histories.proofs.CauseLemmas.{by_identity, by_open, by_alt_seen, by_closed, by_want}
use Rattle.model_histories.proofs.EditLemmas.{edit_here, edit_none, edit_other, edit_at, map_at, append_at, each_one}
use Rattle.model_steps.specs.After.{after_submit, after_cancel, after_reprioritise, after_preconnect, after_resolved, after_network, after_shut, after_dial, after_orders, after_report, after_expire, after_lapse, after_assign, after_evict, sent_noted, after_act}
use Rattle.model_steps.specs.Answered.{answered, after_answered}
use Rattle.model_steps.specs.Exchanges.{new_exchange, with_status, ended_by, with_urgency, timed_out, ended_unless, ended_if_waiting, handed_by}
use Rattle.model_steps.specs.Goaway.{left_out}
use Rattle.model_steps.specs.Lost.{lost, after_lost, after_closed}
use Rattle.model_steps.specs.Opened.{after_useless}
use Rattle.model_steps.specs.StreamEnds.{refused, ended_at}
use Rattle.model_authority.proofs.NumberLemmas.{option_cases, value_and, and_value}
use Rattle.model_authority.specs.Lists.{numbered, edit}
use Rattle.model_authority.specs.Statuses.{is_waiting, is_unsent_at}
use Rattle.model_values.specs.declared.entry.Act.{Act}
use Rattle.model_values.specs.declared.entry.Act.TheVariants.{Submit, Cancel, Reprioritise, Preconnect, Resolved, Shutdown, Orders, Reported, Closed, Expire, Lapse, Assign, Want}
use Rattle.model_values.specs.declared.entry.Way.{Way}
use Rattle.model_values.specs.declared.outcome.Outcome.{Outcome}
use Rattle.model_values.specs.declared.outcome.Outcome.TheVariants as outcome
use Rattle.model_values.specs.declared.reply.CancelReply.TheVariants as cancel
use Rattle.model_values.specs.declared.reply.ChangeReply.TheVariants as change
use Rattle.model_values.specs.declared.reply.PreconnectReply.TheVariants as preconnect
use Rattle.model_values.specs.declared.reply.ResolvedReply.TheVariants as resolved
use Rattle.model_values.specs.declared.reply.ShutReply.TheVariants as shut_reply
use Rattle.model_values.specs.declared.reply.SubmitReply.TheVariants as submit
use Rattle.model_values.specs.declared.report.Report.{Report}
use Rattle.model_values.specs.declared.report.Report.TheVariants as report
use Rattle.model_values.specs.declared.state.AbstractPool.{AbstractPool}
use Rattle.model_values.specs.declared.state.Exchange.{Exchange}
use Rattle.model_values.specs.declared.state.Status.TheVariants.{Leased}

-- ---- which leases an act takes

-- the report of this connection ends or moves the lease on the stream, where its start isn't handed
abbrev pub takes_by : ConnNo → ConnNo → StreamNo → Report → Bool
takes_by conn c r (report.Answered stream response keep alt proof) = c.0 == conn.0 && r.0 == stream.0
takes_by conn c r (report.Refused stream) = c.0 == conn.0 && r.0 == stream.0
takes_by conn c r (report.Reset stream code) = c.0 == conn.0 && r.0 == stream.0
takes_by conn c r (report.TooLarge stream) = c.0 == conn.0 && r.0 == stream.0
takes_by conn c r (report.Goaway last) = c.0 == conn.0
takes_by conn c r _ = false

-- the act ends, moves or hands the lease of the exchange of this number on this stream, where its start isn't handed
abbrev pub takes : Act → ℕ → ConnNo → StreamNo → Bool
takes (Cancel e cancel.Cancelled) n c r = n == e.0
takes (Shutdown shut_reply.Noted) n c r = true
takes (Orders conn sent orders) n c r = c.0 == conn.0 && list_any (is_start_of r) orders
takes (Reported conn sent report) n c r = takes_by conn c r report
takes (Closed conn sent cause heard) n c r = c.0 == conn.0
takes (Expire e) n c r = n == e.0
takes _ n c r = false

-- what is used of an act that may stand, besides that it is fit
abbrev pub Tells : AbstractPool → Act → Type 0
Tells s (Expire e) = (x : Exchange) → numbered e.0 s.exchanges ≡ Some x → is_some x.ask.deadline ≡ true
Tells s (Lapse e) = IsWaitingAt s e
Tells s (Orders c sent orders) = IsSomeAnd (numbered c.0 s.connections) (λ y. orders ≡ y.orders)
Tells s _ = Unit {0}

-- ---- lists

-- what holds at each other number between an item and itself, and at this one between the item before and after, holds at each
pub edited_at : {A : Type 0} (R : ℕ → Option A → Option A → Type 0) (number n : ℕ) (f : A → A) (xs : List A) →
    ((m : ℕ) (o : Option A) → (m ≡ number → ⊥) → R m o o) → R number None None →
    ((x : A) → numbered number xs ≡ Some x → R number (Some x) (Some (f x))) → R n (numbered n xs) (numbered n (edit number f xs))
edited_at {A} R number n f xs same none changed = elim (cases_eq n number) [
  | inl e ↦ subst (λ i. R i (numbered i xs) (numbered i (edit number f xs))) (sym e) here
  | inr e ↦ subst (R n (numbered n xs)) (sym (edit_other number n f xs e)) (same n (numbered n xs) e)
]
  where
    here : R number (numbered number xs) (numbered number (edit number f xs))
    here = elim (option_cases (numbered number xs)) [
      | inl e ↦
          subst (λ o. R number o (numbered number (edit number f xs))) (sym e)
          (subst (R number None) (sym (ap (numbered number) (edit_none number f xs e) ∙ e)) none)
      | inr e ↦
          subst (λ o. R number o (numbered number (edit number f xs))) (sym e.1)
          (subst (R number (Some e.0)) (sym (edit_here number f xs e.0 e.1)) (changed e.0 e.1))
    ]

abbrev HaveSpent : (ConnNo → StreamNo → Bool) → List Exchange → List Exchange → Type 0
HaveSpent taken es fs = (n : ℕ) → Spends taken (numbered n es) (numbered n fs)

spent_same : (es : List Exchange) → HaveSpent none_taken es es
spent_same es n = spends_same (numbered n es)

spent_edit : (number : ℕ) (f : Exchange → Exchange) (es : List Exchange) →
    ((x : Exchange) → numbered number es ≡ Some x → Spends none_taken (Some x) (Some (f x))) →
    HaveSpent none_taken es (edit number f es)
spent_edit number f es spends n = edit_at (Spends none_taken) number n f es spends_same spends

spent_map : (taken : ConnNo → StreamNo → Bool) (f : Exchange → Exchange) (es : List Exchange) →
    ((x : Exchange) → Spends taken (Some x) (Some (f x))) → HaveSpent taken es (map f es)
spent_map taken f es spends n = map_at (Spends taken) n f es (spends_none taken) spends

spent_push : (es : List Exchange) (y : Exchange) → NoneUnsent y → HaveSpent none_taken es (es ++ y ∷ [])
spent_push es y none n =
    append_at (Spends none_taken) n es (y ∷ []) spends_same
    (each_one (λ (z : Exchange). Spends none_taken None (Some z)) y (record { kept = λ c r h f. absurd h; came = λ c r h. absurd (none c r h) }))

-- the exchange of this number has no lease that isn't handed then
spent_end : (number : ℕ) (f : Exchange → Exchange) (es : List Exchange) → ((x : Exchange) → numbered number es ≡ Some x → NoneUnsent (f x)) →
    (n : ℕ) → Spends (λ c r. n == number) (numbered n es) (numbered n (edit number f es))
spent_end number f es none n =
    edited_at (λ m. Spends (λ c r. m == number)) number n f es
    (λ m o other. subst (λ b. Spends (λ c r. b) o o) (sym (ne_eqb m number other)) (spends_same o)) (spends_none (λ c r. number == number))
    (λ x is_item. subst (λ b. Spends (λ c r. b) (Some x) (Some (f x))) (sym (eq-eqb number number refl)) (spends_all x (f x) (none x is_item)))

spent_useless : (taken : ConnNo → StreamNo → Bool) (es : List Exchange) (s : AbstractPool) (g : GroupKey) (wanted_for : Option ExchangeNo) (how : Outcome) (v : Via) →
    HaveSpent taken es s.exchanges → HaveSpent taken es (after_useless s g wanted_for how v).exchanges
spent_useless taken es s g None how via.Direct first = first
spent_useless taken es s g (Some e) how via.Direct first = λ n.
    spends_then taken (numbered n es) (numbered n s.exchanges) (numbered n (edit e.0 (ended_if_waiting how) s.exchanges)) (first n)
    (spent_edit e.0 (ended_if_waiting how) s.exchanges (λ x is_item. spends_ended_if_waiting how x) n)
spent_useless taken es s g wanted_for how (via.Alternative p) first = first

-- ---- reports and ends

spent_report : (s : AbstractPool) (conn : ConnNo) (r : Report) → HaveSpent (λ c t. takes_by conn c t r) s.exchanges (after_report s conn r).exchanges
unfolding after_answered
spent_report s conn (report.Opened id) =
    let P : AbstractPool → Type 0 = λ t. HaveSpent none_taken s.exchanges t.exchanges in
    let same : P s = spent_same s.exchanges in
    by_open P s conn id
    (λ c.
    by_identity P s conn c.group c.wanted_for id
    (spent_useless none_taken s.exchanges s c.group c.wanted_for (outcome.Identity conn) c.group.target.via same) same) same
spent_report s conn (report.Answered r response keep alt proof) =
    spent_map (λ c t. c.0 == conn.0 && t.0 == r.0) (answered conn r response) s.exchanges (spends_answered conn r response)
spent_report s conn (report.Refused r) = spent_map (λ c t. c.0 == conn.0 && t.0 == r.0) (refused conn r) s.exchanges (spends_refused conn r)
spent_report s conn (report.Reset r code) =
    spent_map (λ c t. c.0 == conn.0 && t.0 == r.0) (ended_at conn r (outcome.Reset code)) s.exchanges (spends_ended_at conn r (outcome.Reset code))
spent_report s conn (report.TooLarge r) =
    spent_map (λ c t. c.0 == conn.0 && t.0 == r.0) (ended_at conn r outcome.TooLarge) s.exchanges (spends_ended_at conn r outcome.TooLarge)
spent_report s conn (report.Goaway last) = spent_map (λ c t. c.0 == conn.0) (left_out conn last) s.exchanges (spends_left_out conn last)
spent_report s conn (report.AltSeen origin alt) =
    by_alt_seen (λ t. HaveSpent none_taken s.exchanges t.exchanges) s conn origin alt (λ c. spent_same s.exchanges) (spent_same s.exchanges)
spent_report s conn _ = spent_same s.exchanges

spent_closed : (s : AbstractPool) (conn : ConnNo) (cause : EndCause) (heard : List StreamNo) →
    HaveSpent (λ c r. c.0 == conn.0) s.exchanges (after_closed s conn cause heard).exchanges
spent_closed s conn cause heard =
    let taken : ConnNo → StreamNo → Bool = λ c r. c.0 == conn.0 in
    let left : HaveSpent taken s.exchanges (after_lost s conn cause heard).exchanges =
    spent_map taken (lost conn cause heard) s.exchanges (spends_lost conn cause heard) in
    by_closed (λ t. HaveSpent taken s.exchanges t.exchanges) s conn cause heard
    (λ c. spent_useless taken s.exchanges (after_lost s conn cause heard) c.group c.wanted_for (outcome.DialFault conn) c.group.target.via left) left

-- ---- any act

one_item : (o : Option Exchange) (x y : Exchange) → o ≡ Some x → o ≡ Some y → x ≡ y
one_item o x y h k = cc

-- an act that gives no lease
abbrev GivesNone : Act → Type 0
GivesNone (Assign e c r by) = ⊥
GivesNone _ = Unit {0}

spent_act : (s : AbstractPool) (who : CallerNo) (act : Act) → Tells s act → GivesNone act → (n : ℕ) →
    Spends (takes act n) (numbered n s.exchanges) (numbered n (after_act s who act).exchanges)
unfolding after_submit after_cancel after_reprioritise after_preconnect after_resolved after_network after_shut after_dial after_orders after_expire after_lapse after_evict
spent_act s who (Submit ask (submit.Accepted e)) tells plain n = spent_push s.exchanges (new_exchange who ask) (λ c r h. absurd cc) n
spent_act s who (Cancel e cancel.Cancelled) tells plain n = spent_end e.0 (ended_by outcome.Cancelled) s.exchanges (λ x is_item. none_ended outcome.Cancelled x) n
spent_act s who (Reprioritise e urgency change.Changed) tells plain n =
    spent_edit e.0 (with_urgency urgency) s.exchanges (λ x is_item. record { kept = λ c r h f. h; came = λ c r h. (h, refl) }) n
spent_act s who (Preconnect key credentials origin count (preconnect.Opening k)) tells plain n = spent_same s.exchanges n
spent_act s who (Resolved key host addresses resolved.Noted) tells plain n = spent_same s.exchanges n
spent_act s who (Shutdown shut_reply.Noted) tells plain n =
    let f : Exchange → Exchange = ended_unless outcome.PoolClosed in
    spent_map (λ c r. true) f s.exchanges (λ x. spends_all x (f x) (none_ended_unless outcome.PoolClosed x)) n
spent_act s who (Orders conn sent orders) tells plain n =
    spent_map (λ c r. c.0 == conn.0 && list_any (is_start_of r) orders) (handed_by conn orders) s.exchanges (spends_handed conn orders) n
spent_act s who (Reported conn sent report) tells plain n = spent_report (sent_noted s conn sent) conn report n
spent_act s who (Closed conn sent cause heard) tells plain n = spent_closed (sent_noted s conn sent) conn cause heard n
spent_act s who (Expire e) tells plain n = spent_end e.0 timed_out s.exchanges (λ x is_item. none_timed_out x (tells x is_item)) n
spent_act s who (Lapse e) tells plain n =
    let f : Exchange → Exchange = ended_by outcome.NoAlternative in
    let v = value_and (numbered e.0 s.exchanges) (λ x. IsTrue (is_waiting x.status)) tells in
    spent_edit e.0 f s.exchanges
    (λ x is_item.
    let same : v.0 ≡ x = one_item (numbered e.0 s.exchanges) v.0 x v.1 is_item in
    spends_nothing x (f x) (none_waiting x (subst (λ (z : Exchange). is_waiting z.status ≡ true) same v.2)) (none_ended outcome.NoAlternative x)) n
spent_act s who (Assign e c r by) tells plain n = absurd plain
spent_act s who (Want e c t) tells plain n =
    by_want (λ u. HaveSpent none_taken s.exchanges u.exchanges) s e t (λ x. spent_same s.exchanges) (spent_same s.exchanges) n
spent_act s who _ tells plain n = spent_same s.exchanges n

-- a lease that isn't handed yet stays so where the act doesn't take it, is there only if it was before or is given, and is there where it
-- is given
pub record Unsent (act : Act) (n : ℕ) (o p : Option Exchange) : Type 0 where
  pub kept : (c : ConnNo) (r : StreamNo) → HasUnsent c r o → takes act n c r ≡ false → HasUnsent c r p
  pub came : (c : ConnNo) (r : StreamNo) → HasUnsent c r p → (HasUnsent c r o × (takes act n c r ≡ false)) ⊎ IsGiven act n c r
  pub given : (c : ConnNo) (r : StreamNo) → IsGiven act n c r → HasUnsent c r p

none_given : (act : Act) (n : ℕ) (c : ConnNo) (r : StreamNo) → GivesNone act → IsGiven act n c r → ⊥
none_given act n c r plain g = subst GivesNone g.is_assign plain

-- an exchange that waits has then the lease that it is given
is_assigned : (d e : ExchangeNo) (a b : ConnNo) (t u : StreamNo) (v w : Way) → Assign d a t v ≡ Assign e b u w → (d ≡ e) × (a ≡ b) × (t ≡ u)
is_assigned d e a b t u v w h = (cc, cc, cc)

unsent_given : (s : AbstractPool) (e : ExchangeNo) (c : ConnNo) (r : StreamNo) (by : Way) (n : ℕ) (d : ConnNo) (t : StreamNo) → IsWaitingAt s e →
    IsGiven (Assign e c r by) n d t →
    HasUnsent d t (numbered n (after_assign s e c r by).exchanges)
unfolding after_assign
unsent_given s e c r by n d t waits g =
    let f : Exchange → Exchange = with_status (Leased c r by false) in
    let v = value_and (numbered e.0 s.exchanges) (λ x. IsTrue (is_waiting x.status)) waits in
    let same = is_assigned e g.exchange c g.conn r g.stream by g.by g.is_assign in
    let here : n ≡ e.0 = g.is_exchange ∙ sym (ap (λ (k : ExchangeNo). k.0) same.0) in
    let is_conn : c.0 ≡ d.0 = ap (λ (k : ConnNo). k.0) same.1 ∙ sym g.is_conn in
    let is_stream : r.0 ≡ t.0 = ap (λ (k : StreamNo). k.0) same.2 ∙ sym g.is_stream in
    subst (λ i. HasUnsent d t (numbered i (edit e.0 f s.exchanges))) (sym here)
    (and_value (numbered e.0 (edit e.0 f s.exchanges)) (λ x. IsTrue (is_unsent_at d t x.status)) (f v.0) (edit_here e.0 f s.exchanges v.0 v.1)
    (and_from (c.0 == d.0 && r.0 == t.0) true (and_from (c.0 == d.0) (r.0 == t.0) (eq-eqb c.0 d.0 is_conn) (eq-eqb r.0 t.0 is_stream)) refl))

unsent_assign : (s : AbstractPool) (who : CallerNo) (e : ExchangeNo) (c : ConnNo) (r : StreamNo) (by : Way) → IsFit s (Assign e c r by) → (n : ℕ) →
    Unsent (Assign e c r by) n (numbered n s.exchanges) (numbered n (after_act s who (Assign e c r by)).exchanges)
unfolding after_assign
unsent_assign s who e c r by fit n = record {
  kept = λ d t h k.
      edited_at (λ m o p. HasUnsent d t o → HasUnsent d t p) e.0 n (with_status (Leased c r by false)) s.exchanges (λ m o other was. was) (λ was. was)
      (λ x is_item was. absurd (none_waiting x (waits x is_item) d t was)) h;
  came = λ d t h. elim ((releases_act false s who (Assign e c r by) (no_claim s) fit n).unsent d t h) [ inl was ↦ inl (was, refl) | inr g ↦ inr g ];
  given = λ d t g. unsent_given s e c r by n d t fit.0 g;
}
  where
    waits : (x : Exchange) → numbered e.0 s.exchanges ≡ Some x → is_waiting x.status ≡ true
    waits x is_item =
        let v = value_and (numbered e.0 s.exchanges) (λ y. IsTrue (is_waiting y.status)) fit.0 in
        subst (λ (y : Exchange). is_waiting y.status ≡ true) (one_item (numbered e.0 s.exchanges) v.0 x v.1 is_item) v.2

unsent_by : (act : Act) (n : ℕ) (o p : Option Exchange) → GivesNone act → Spends (takes act n) o p → Unsent act n o p
unsent_by act n o p plain k = record { kept = k.kept; came = λ c r h. inl (k.came c r h); given = λ c r g. absurd (none_given act n c r plain g) }

pub unsent_act : (s : AbstractPool) (who : CallerNo) (act : Act) → IsFit s act → Tells s act → (n : ℕ) →
    Unsent act n (numbered n s.exchanges) (numbered n (after_act s who act).exchanges)
unsent_act s who (Assign e c r by) fit tells n = unsent_assign s who e c r by fit n
unsent_act s who act fit tells n = unsent_by act n _ _ tt (spent_act s who act tells tt n)
