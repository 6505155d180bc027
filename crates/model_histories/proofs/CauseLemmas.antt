-- What each cause makes of an exchange and of the state, by cases.
use Rattle.std.proofs.Common.{◌≡◌, List, [], ◌∷◌, ◌++◌, Option, Some, None, true, false}
use Rattle.std.specs.Prelude.{◌+◌, nat_le}
use Rattle.std.proofs.lemmas.Bool.{cond_both}
use Rattle.net_base.specs.declared.end_cause.EndCause.{EndCause}
use Rattle.net_base.specs.declared.identity.Identity.{Identity}
use Rattle.net_base.specs.declared.numbers.ConnNo.{ConnNo}
use Rattle.net_base.specs.declared.numbers.ExchangeNo.{ExchangeNo}
use Rattle.net_base.specs.declared.numbers.StreamNo.{StreamNo}
use Rattle.net_base.specs.declared.origin.Origin.{Origin}
use Rattle.net_base.specs.declared.response.Response.{Response}
use Rattle.net_base.specs.declared.target.Target.{Target}
use Rattle.partition_keys.specs.declared.alternative.AltUpdate.{AltUpdate}
use Rattle.partition_keys.specs.declared.group.GroupKey.{GroupKey}
use Rattle.model_authority.specs.Lists.{numbered}
use Rattle.model_authority.specs.Statuses.{is_on, is_at}
use Rattle.model_changes.specs.Alternatives.{updated_alternatives}
use Rattle.model_steps.specs.After.{after_alt_seen, wanted_connection, after_want_of, after_want}
use Rattle.model_steps.specs.Answered.{is_misdirected, as_misdirected, answered_lease, answered}
use Rattle.model_steps.specs.Exchanges.{ended_by, moved}
use Rattle.model_steps.specs.Goaway.{is_left_out, left_out}
use Rattle.model_steps.specs.Lost.{may_be_sent, as_retried, lost_lease, lost, after_lost, is_dial_failed, after_failed_dial, after_closed}
use Rattle.model_steps.specs.Opened.{after_useless, is_useless, after_identity_of, after_open_in, after_open_of, after_open}
use Rattle.model_steps.specs.StreamEnds.{refused, ended_at}
use Rattle.model_values.specs.declared.outcome.Outcome.{Outcome}
use Rattle.model_values.specs.declared.outcome.Outcome.TheVariants as outcome
use Rattle.model_values.specs.declared.state.AbstractPool.{AbstractPool}
use Rattle.model_values.specs.declared.state.Connection.{Connection}
use Rattle.model_values.specs.declared.state.Exchange.{Exchange}
use Rattle.model_values.specs.declared.state.Status.TheVariants.{Waiting}

-- ---- one exchange

pub by_moved : (P : Exchange → Type 0) (e : Exchange) → P (ended_by outcome.TooManyMoves e) → (nat_le 5 e.moves ≡ false → P (record e { status = Waiting; moves = e.moves + 1 })) →
    P (moved e)
unfolding moved
by_moved P e ends waits = cond_both (nat_le 5 e.moves) (ended_by outcome.TooManyMoves e) (record e { status = Waiting; moves = e.moves + 1 }) P (λ t. ends) waits

pub by_refused : (P : Exchange → Type 0) (c : ConnNo) (r : StreamNo) (e : Exchange) → (is_at c r e.status ≡ true → P (moved e)) → P e → P (refused c r e)
by_refused P c r e again same = cond_both (is_at c r e.status) (moved e) e P again (λ f. same)

pub by_ended_at : (P : Exchange → Type 0) (c : ConnNo) (r : StreamNo) (how : Outcome) (e : Exchange) → (is_at c r e.status ≡ true → P (ended_by how e)) → P e → P (ended_at c r how e)
by_ended_at P c r how e ends same = cond_both (is_at c r e.status) (ended_by how e) e P ends (λ f. same)

pub by_left_out : (P : Exchange → Type 0) (c : ConnNo) (last : StreamNo) (e : Exchange) → (is_left_out c last e.status ≡ true → P (moved e)) → P e → P (left_out c last e)
by_left_out P c last e again same = cond_both (is_left_out c last e.status) (moved e) e P again (λ f. same)

pub by_answered : (P : Exchange → Type 0) (c : ConnNo) (r : StreamNo) (response : Response) (e : Exchange) →
    (is_at c r e.status ≡ true → is_misdirected response e ≡ true → P (moved (as_misdirected e))) → (is_at c r e.status ≡ true → P (ended_by (outcome.Answered response) e)) → P e →
    P (answered c r response e)
by_answered P c r response e again ends same =
    cond_both (is_at c r e.status) (answered_lease response e) e P
    (λ t. cond_both (is_misdirected response e) (moved (as_misdirected e)) (ended_by (outcome.Answered response) e) P (again t) (λ f. ends t)) (λ f. same)

pub by_lost : (P : Exchange → Type 0) (c : ConnNo) (cause : EndCause) (heard : List StreamNo) (e : Exchange) →
    (is_on c e.status ≡ true → may_be_sent e heard e.status ≡ true → P (moved (as_retried e))) →
    (is_on c e.status ≡ true → may_be_sent e heard e.status ≡ false → P (ended_by (outcome.Lost c cause) e)) → (is_on c e.status ≡ false → P e) → P (lost c cause heard e)
by_lost P c cause heard e again ends same =
    cond_both (is_on c e.status) (lost_lease c cause heard e) e P
    (λ t. cond_both (may_be_sent e heard e.status) (moved (as_retried e)) (ended_by (outcome.Lost c cause) e) P (again t) (ends t)) same

-- ---- the state

pub by_identity : (P : AbstractPool → Type 0) (s : AbstractPool) (conn : ConnNo) (g : GroupKey) (wanted_for : Option ExchangeNo) (id : Identity) →
    P (after_useless s g wanted_for (outcome.Identity conn) g.target.via) → P s → P (after_identity_of s conn g wanted_for id)
by_identity P s conn g wanted_for id useless same = cond_both (is_useless s g id) (after_useless s g wanted_for (outcome.Identity conn) g.target.via) s P (λ u. useless) (λ u. same)

pub by_open : (P : AbstractPool → Type 0) (s : AbstractPool) (conn : ConnNo) (id : Identity) → ((c : Connection) → P (after_open_in s conn c.group c.wanted_for id)) → P s →
    P (after_open s conn id)
unfolding after_open
by_open P s conn id opens same = by (numbered conn.0 s.connections)
  where
    by : (o : Option Connection) → P (after_open_of s conn id o)
    by None = same
    by (Some c) = opens c

pub by_alt_seen : (P : AbstractPool → Type 0) (s : AbstractPool) (conn : ConnNo) (origin : Origin) (alt : AltUpdate) →
    ((c : Connection) → P (record s { alternatives = updated_alternatives c.group.key origin alt s.alternatives })) → P s → P (after_alt_seen s origin alt (numbered conn.0 s.connections))
by_alt_seen P s conn origin alt sets same = by (numbered conn.0 s.connections)
  where
    by : (o : Option Connection) → P (after_alt_seen s origin alt o)
    by None = same
    by (Some c) = sets c

pub by_closed : (P : AbstractPool → Type 0) (s : AbstractPool) (conn : ConnNo) (cause : EndCause) (heard : List StreamNo) →
    ((c : Connection) → P (after_useless (after_lost s conn cause heard) c.group c.wanted_for (outcome.DialFault conn) c.group.target.via)) → P (after_lost s conn cause heard) →
    P (after_closed s conn cause heard)
unfolding after_closed
by_closed P s conn cause heard useless same =
    cond_both (is_dial_failed cause) (after_failed_dial (after_lost s conn cause heard) conn (numbered conn.0 s.connections)) (after_lost s conn cause heard) P
    (λ f. by (numbered conn.0 s.connections)) (λ f. same)
  where
    by : (o : Option Connection) → P (after_failed_dial (after_lost s conn cause heard) conn o)
    by None = same
    by (Some c) = useless c

pub by_want : (P : AbstractPool → Type 0) (s : AbstractPool) (e : ExchangeNo) (t : Target) →
    ((x : Exchange) → P (record s { connections = s.connections ++ wanted_connection x e t s.latest ∷ [] })) → P s → P (after_want s e t)
unfolding after_want
by_want P s e t wants same = by (numbered e.0 s.exchanges)
  where
    by : (o : Option Exchange) → P (after_want_of s e t o)
    by None = same
    by (Some x) = wants x
