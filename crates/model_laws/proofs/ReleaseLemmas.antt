-- What each act that may stand leaves of each exchange: a lease that it had, or that the act gives, and its end.
use Rattle.std.proofs.Common.{◌≡◌, ◌⊎◌, ℕ, List, [], ◌∷◌, ◌++◌, Option, Some, None, Bool, true, false, inl, inr, refl, sym, subst, map, IsSomeAnd, IsTrue}
use Rattle.std.specs.Prelude.{◌==◌}
use Rattle.std.proofs.lemmas.Bool.{cases_eq, and_parts, both_ways, eqb-true}
use Rattle.net_base.specs.declared.end_cause.EndCause.{EndCause}
use Rattle.net_base.specs.declared.numbers.CallerNo.{CallerNo}
use Rattle.net_base.specs.declared.numbers.ConnNo.{ConnNo}
use Rattle.net_base.specs.declared.numbers.ExchangeNo.{ExchangeNo}
use Rattle.net_base.specs.declared.numbers.StreamNo.{StreamNo}
use Rattle.net_base.specs.declared.target.Via.{Via}
use Rattle.net_base.specs.declared.target.Via.TheVariants as via
use Rattle.partition_keys.specs.declared.group.GroupKey.{GroupKey}
use Rattle.model_histories.proofs.CauseLemmas.{by_identity, by_open, by_alt_seen, by_closed, by_want}
use Rattle.model_laws.proofs.FitLemmas.{IsFit, closes}
use Rattle.model_laws.proofs.TurnLemmas.{IsClaim, not_shut, none_waits}
use Rattle.model_laws.proofs.YieldLemmas.{Yields, none_ends, unsent_leased, yields_same, yields_end, yields_trans, yields_ended_unless, yields_ended_if_waiting, yields_timed_out, yields_answered, yields_refused, yields_ended_at, yields_left_out, yields_lost, yields_handed}
use Rattle.model_histories.proofs.EditLemmas.{edit_other, edit_at, map_at, append_at, each_one}
use Rattle.model_histories.specs.Replies.{IsSubmitReply}
use Rattle.model_steps.specs.After.{after_submit, after_cancel, after_reprioritise, after_preconnect, after_resolved, after_network, after_shut, after_dial, after_orders, after_report, after_expire, after_lapse, after_assign, after_evict, sent_noted, after_act}
use Rattle.model_steps.specs.Opened.{after_useless}
use Rattle.model_steps.specs.Answered.{answered, after_answered}
use Rattle.model_steps.specs.Goaway.{left_out}
use Rattle.model_steps.specs.Lost.{lost, after_lost, after_closed}
use Rattle.model_steps.specs.StreamEnds.{refused, ended_at}
use Rattle.model_steps.specs.Exchanges.{new_exchange, with_status, ended_by, with_urgency, timed_out, ended_unless, ended_if_waiting, handed_by}
use Rattle.model_authority.specs.Lists.{numbered, edit}
use Rattle.model_authority.specs.Statuses.{has_ended, is_at, is_unsent_at}
use Rattle.model_values.specs.declared.entry.Act.{Act}
use Rattle.model_values.specs.declared.entry.Act.TheVariants.{Submit, Cancel, Reprioritise, Preconnect, Resolved, Shutdown, Orders, Reported, Closed, Expire, Lapse, Assign, Want}
use Rattle.model_values.specs.declared.entry.Way.{Way}
use Rattle.model_values.specs.declared.outcome.Outcome.{Outcome}
use Rattle.model_values.specs.declared.outcome.Outcome.TheVariants as outcome
use Rattle.model_values.specs.declared.reply.CancelReply.TheVariants as cancel
use Rattle.model_values.specs.declared.reply.ChangeReply.TheVariants as change
use Rattle.model_values.specs.declared.reply.PreconnectReply.TheVariants as preconnect
use Rattle.model_values.specs.declared.reply.ResolvedReply.TheVariants as resolved
use Rattle.model_values.specs.declared.reply.ShutReply.TheVariants as shut_reply
use Rattle.model_values.specs.declared.reply.SubmitReply.{SubmitReply}
use Rattle.model_values.specs.declared.reply.SubmitReply.TheVariants as submit
use Rattle.model_values.specs.declared.report.Report.{Report}
use Rattle.model_values.specs.declared.report.Report.TheVariants as report
use Rattle.model_values.specs.declared.state.AbstractPool.{AbstractPool}
use Rattle.model_values.specs.declared.state.Exchange.{Exchange}
use Rattle.model_values.specs.declared.state.Status.TheVariants.{Leased}
use Rattle.model_values.specs.declared.submission.Submission.{Submission}

-- ---- lists of exchanges

-- it has no lease
abbrev IsUnleased : Exchange → Type 0
IsUnleased y = (c : ConnNo) (r : StreamNo) → is_at c r y.status ≡ true → ⊥

abbrev YieldsAt : Bool → (ℕ → Bool) → Option Exchange → Option Exchange → Type 0
YieldsAt shut ends None None = Unit {0}
YieldsAt shut ends None (Some y) = (shut ≡ false) × IsUnleased y
YieldsAt shut ends (Some x) None = ⊥
YieldsAt shut ends (Some x) (Some y) = Yields ends x y

-- each exchange is so related to what it becomes, and further ones, without a lease, come only where the pool isn't shut down
abbrev HaveYielded : Bool → (ℕ → Bool) → List Exchange → List Exchange → Type 0
HaveYielded shut ends es fs = (n : ℕ) → YieldsAt shut ends (numbered n es) (numbered n fs)

yields_none : (shut : Bool) (o : Option Exchange) → YieldsAt shut none_ends o o
yields_none shut None = tt
yields_none shut (Some e) = yields_same e

yielded_same : (shut : Bool) (es : List Exchange) → HaveYielded shut none_ends es es
yielded_same shut es n = yields_none shut (numbered n es)

yielded_edit : (shut : Bool) (number : ℕ) (f : Exchange → Exchange) (es : List Exchange) → ((e : Exchange) → Yields none_ends e (f e)) →
    HaveYielded shut none_ends es (edit number f es)
yielded_edit shut number f es yields n = edit_at (YieldsAt shut none_ends) number n f es (yields_none shut) (λ e is_item. yields e)

yielded_map : (shut : Bool) (ends : ℕ → Bool) (f : Exchange → Exchange) (es : List Exchange) → ((e : Exchange) → Yields ends e (f e)) → HaveYielded shut ends es (map f es)
yielded_map shut ends f es yields n = map_at (YieldsAt shut ends) n f es tt yields

yielded_push : (shut : Bool) (es : List Exchange) (e : Exchange) → shut ≡ false → IsUnleased e → HaveYielded shut none_ends es (es ++ e ∷ [])
yielded_push shut es e fresh unleased n =
    append_at (YieldsAt shut none_ends) n es (e ∷ []) (yields_none shut)
    (each_one (λ (y : Exchange). (shut ≡ false) × IsUnleased y) e (fresh, unleased))

-- before an edit that ends no connection
yielded_then : (shut : Bool) (ends : ℕ → Bool) (es fs : List Exchange) (number : ℕ) (f : Exchange → Exchange) → HaveYielded shut ends es fs → ((e : Exchange) → Yields none_ends e (f e)) →
    HaveYielded shut ends es (edit number f fs)
yielded_then shut ends es fs number f first yields n =
    edit_at (λ o p. YieldsAt shut ends (numbered n es) o → YieldsAt shut ends (numbered n es) p) number n f fs (λ o h. h) (λ e is_item. by (numbered n es) e) (first n)
  where
    by : (o : Option Exchange) (e : Exchange) → YieldsAt shut ends o (Some e) → YieldsAt shut ends o (Some (f e))
    by None e h = (h.0, λ c r k. h.1 c r ((yields e).leases c r k).0)
    by (Some x) e h = yields_trans ends x e (f e) h (yields e)

-- ---- reports and ends

yielded_useless : (shut : Bool) (ends : ℕ → Bool) (es : List Exchange) (s : AbstractPool) (g : GroupKey) (wanted_for : Option ExchangeNo) (how : Outcome) (v : Via) →
    HaveYielded shut ends es s.exchanges → HaveYielded shut ends es (after_useless s g wanted_for how v).exchanges
yielded_useless shut ends es s g None how via.Direct first = first
yielded_useless shut ends es s g (Some e) how via.Direct first = yielded_then shut ends es s.exchanges e.0 (ended_if_waiting how) first (yields_ended_if_waiting how)
yielded_useless shut ends es s g wanted_for how (via.Alternative p) first = first

-- by a report of this connection
yielded_report : (shut : Bool) (s : AbstractPool) (conn : ConnNo) (r : Report) → HaveYielded shut none_ends s.exchanges (after_report s conn r).exchanges
unfolding after_answered
yielded_report shut s conn (report.Opened id) =
    let P : AbstractPool → Type 0 = λ t. HaveYielded shut none_ends s.exchanges t.exchanges in
    let same : P s = yielded_same shut s.exchanges in
    by_open P s conn id
    (λ c. by_identity P s conn c.group c.wanted_for id (yielded_useless shut none_ends s.exchanges s c.group c.wanted_for (outcome.Identity conn) c.group.target.via same) same) same
yielded_report shut s conn (report.Answered r response keep alt proof) = yielded_map shut none_ends (answered conn r response) s.exchanges (yields_answered conn r response)
yielded_report shut s conn (report.Refused r) = yielded_map shut none_ends (refused conn r) s.exchanges (yields_refused conn r)
yielded_report shut s conn (report.Reset r code) = yielded_map shut none_ends (ended_at conn r (outcome.Reset code)) s.exchanges (yields_ended_at conn r (outcome.Reset code))
yielded_report shut s conn (report.TooLarge r) = yielded_map shut none_ends (ended_at conn r outcome.TooLarge) s.exchanges (yields_ended_at conn r outcome.TooLarge)
yielded_report shut s conn (report.Goaway last) = yielded_map shut none_ends (left_out conn last) s.exchanges (yields_left_out conn last)
yielded_report shut s conn (report.AltSeen origin alt) =
    by_alt_seen (λ t. HaveYielded shut none_ends s.exchanges t.exchanges) s conn origin alt (λ c. yielded_same shut s.exchanges) (yielded_same shut s.exchanges)
yielded_report shut s conn _ = yielded_same shut s.exchanges

yielded_closed : (shut : Bool) (s : AbstractPool) (conn : ConnNo) (cause : EndCause) (heard : List StreamNo) →
    HaveYielded shut (λ n. conn.0 == n) s.exchanges (after_closed s conn cause heard).exchanges
yielded_closed shut s conn cause heard =
    let ends : ℕ → Bool = λ n. conn.0 == n in
    let P : AbstractPool → Type 0 = λ t. HaveYielded shut ends s.exchanges t.exchanges in
    let left : P (after_lost s conn cause heard) = yielded_map shut ends (lost conn cause heard) s.exchanges (yields_lost conn cause heard) in
    by_closed P s conn cause heard
    (λ c. yielded_useless shut ends s.exchanges (after_lost s conn cause heard) c.group c.wanted_for (outcome.DialFault conn) c.group.target.via left) left

-- ---- one exchange of the list, by any act

abbrev pub HasLease : ConnNo → StreamNo → Option Exchange → Type 0
HasLease c r o = IsSomeAnd o (λ x. IsTrue (is_at c r x.status))

-- the same, and its start isn't handed yet
abbrev pub HasUnsent : ConnNo → StreamNo → Option Exchange → Type 0
HasUnsent c r o = IsSomeAnd o (λ x. IsTrue (is_unsent_at c r x.status))

abbrev pub HasEnded : Option Exchange → Type 0
HasEnded None = Unit {0}
HasEnded (Some x) = has_ended x.status ≡ true

-- the act gives the exchange of this number this lease
pub record IsGiven (act : Act) (n : ℕ) (c : ConnNo) (r : StreamNo) : Type 0 where
  pub exchange : ExchangeNo
  pub conn : ConnNo
  pub stream : StreamNo
  pub by : Way
  pub is_assign : act ≡ Assign exchange conn stream by
  pub is_exchange : n ≡ exchange.0
  pub is_conn : c.0 ≡ conn.0
  pub is_stream : r.0 ≡ stream.0

-- a lease behind the act was there before, on a connection that didn't end, or is the one that the act gives; and one that isn't handed
-- wasn't
pub record Releases (shut : Bool) (act : Act) (n : ℕ) (o p : Option Exchange) : Type 0 where
  pub leases : (c : ConnNo) (r : StreamNo) → HasLease c r p → (HasLease c r o × (closes act c.0 ≡ false)) ⊎ IsGiven act n c r
  pub ended : shut ≡ true → HasEnded o → HasEnded p
  pub unsent : (c : ConnNo) (r : StreamNo) → HasUnsent c r p → HasUnsent c r o ⊎ IsGiven act n c r

releases_by : (shut : Bool) (act : Act) (n : ℕ) (o p : Option Exchange) → YieldsAt shut (closes act) o p → Releases shut act n o p
releases_by shut act n None None k = record { leases = λ c r h. absurd h; ended = λ t h. tt; unsent = λ c r h. absurd h }
releases_by shut act n None (Some y) k = record {
  leases = λ c r h. absurd (k.1 c r h);
  ended = λ t h. absurd (both_ways shut k.0 t);
  unsent = λ c r h. absurd (k.1 c r (unsent_leased c r y.status h));
}
releases_by shut act n (Some x) None k = absurd k
releases_by shut act n (Some x) (Some y) k = record { leases = λ c r h. inl (k.leases c r h); ended = λ t h. k.ended h; unsent = λ c r h. inl (k.unsent c r h) }

-- ---- any act

yielded_submit : (shut : Bool) (s : AbstractPool) (who : CallerNo) (ask : Submission) (r : SubmitReply) → IsClaim shut s → IsSubmitReply s ask r →
    HaveYielded shut none_ends s.exchanges (after_submit s who ask r).exchanges
unfolding after_submit
yielded_submit shut s who ask (submit.Closed place) claim fit = yielded_same shut s.exchanges
yielded_submit shut s who ask submit.BadProbe claim fit = yielded_same shut s.exchanges
yielded_submit shut s who ask (submit.SubmissionsFull n) claim fit = yielded_same shut s.exchanges
yielded_submit shut s who ask (submit.Accepted e) claim fit = yielded_push shut s.exchanges (new_exchange who ask) (not_shut shut s claim fit.0) (λ c r h. absurd cc)

-- an act that gives no lease
abbrev IsNoAssign : Act → Type 0
IsNoAssign (Assign e c r by) = ⊥
IsNoAssign _ = Unit {0}

yielded_act : (shut : Bool) (s : AbstractPool) (who : CallerNo) (act : Act) → IsClaim shut s → IsFit s act → IsNoAssign act →
    HaveYielded shut (closes act) s.exchanges (after_act s who act).exchanges
unfolding after_cancel after_reprioritise after_preconnect after_resolved after_network after_shut after_dial after_orders after_expire after_lapse after_evict
yielded_act shut s who (Submit ask reply) claim fit plain = yielded_submit shut s who ask reply claim fit
yielded_act shut s who (Cancel e cancel.Cancelled) claim fit plain = yielded_edit shut e.0 (ended_by outcome.Cancelled) s.exchanges (yields_end none_ends outcome.Cancelled)
yielded_act shut s who (Reprioritise e urgency change.Changed) claim fit plain =
    yielded_edit shut e.0 (with_urgency urgency) s.exchanges (λ x. record { leases = λ c r h. (h, refl); ended = λ h. h; unsent = λ c r h. h })
yielded_act shut s who (Preconnect key credentials origin count (preconnect.Opening k)) claim fit plain = yielded_same shut s.exchanges
yielded_act shut s who (Resolved key host addresses resolved.Noted) claim fit plain = yielded_same shut s.exchanges
yielded_act shut s who (Shutdown shut_reply.Noted) claim fit plain =
    yielded_map shut none_ends (ended_unless outcome.PoolClosed) s.exchanges (yields_ended_unless outcome.PoolClosed)
yielded_act shut s who (Orders c sent orders) claim fit plain = yielded_map shut none_ends (handed_by c orders) s.exchanges (yields_handed c orders)
yielded_act shut s who (Reported c sent report) claim fit plain = yielded_report shut (sent_noted s c sent) c report
yielded_act shut s who (Closed c sent cause heard) claim fit plain = yielded_closed shut (sent_noted s c sent) c cause heard
yielded_act shut s who (Expire e) claim fit plain = yielded_edit shut e.0 timed_out s.exchanges yields_timed_out
yielded_act shut s who (Lapse e) claim fit plain = yielded_edit shut e.0 (ended_by outcome.NoAlternative) s.exchanges (yields_end none_ends outcome.NoAlternative)
yielded_act shut s who (Assign e c r way) claim fit plain = absurd plain
yielded_act shut s who (Want e c t) claim fit plain =
    by_want (λ u. HaveYielded shut none_ends s.exchanges u.exchanges) s e t (λ x. yielded_same shut s.exchanges) (yielded_same shut s.exchanges)
yielded_act shut s who _ claim fit plain = yielded_same shut s.exchanges

releases_assign : (shut : Bool) (s : AbstractPool) (e : ExchangeNo) (c : ConnNo) (r : StreamNo) (way : Way) → shut ≡ false →
    (n : ℕ) → Releases shut (Assign e c r way) n (numbered n s.exchanges) (numbered n (after_assign s e c r way).exchanges)
unfolding after_assign
releases_assign shut s e c r way fresh n =
    let act : Act = Assign e c r way in
    let f : Exchange → Exchange = with_status (Leased c r way false) in
    elim (cases_eq n e.0) [
      | inl here ↦ edit_at (Releases shut act n) e.0 n f s.exchanges same (λ x is_item. given here x)
      | inr other ↦ subst (Releases shut act n (numbered n s.exchanges)) (sym (edit_other e.0 n f s.exchanges other)) (same (numbered n s.exchanges))
    ]
  where
    same : (o : Option Exchange) → Releases shut (Assign e c r way) n o o
    same o = releases_by shut (Assign e c r way) n o o (yields_none shut o)

    is_given : n ≡ e.0 → (d : ConnNo) (t : StreamNo) → is_at d t (Leased c r way false) ≡ true → IsGiven (Assign e c r way) n d t
    is_given here d t h =
        let parts = and_parts (c.0 == d.0) (r.0 == t.0) h in
        record {
          exchange = e;
          conn = c;
          stream = r;
          by = way;
          is_assign = refl;
          is_exchange = here;
          is_conn = sym (eqb-true c.0 d.0 parts.0);
          is_stream = sym (eqb-true r.0 t.0 parts.1);
        }

    given : n ≡ e.0 → (x : Exchange) → Releases shut (Assign e c r way) n (Some x) (Some (with_status (Leased c r way false) x))
    given here x = record {
      leases = λ d t h. inr (is_given here d t h);
      ended = λ t h. absurd (both_ways shut fresh t);
      unsent = λ d t h. inr (is_given here d t (unsent_leased d t (Leased c r way false) h));
    }

pub releases_act : (shut : Bool) (s : AbstractPool) (who : CallerNo) (act : Act) → IsClaim shut s → IsFit s act →
    (n : ℕ) → Releases shut act n (numbered n s.exchanges) (numbered n (after_act s who act).exchanges)
releases_act shut s who (Assign e c r way) claim fit n = releases_assign shut s e c r way (none_waits shut s e claim fit.0) n
releases_act shut s who act claim fit n = releases_by shut act n _ _ (yielded_act shut s who act claim fit tt n)
