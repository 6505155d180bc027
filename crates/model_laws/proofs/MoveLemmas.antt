-- Exchanges wait again only where they may move, and one that may not be sent again has ended for good with its connection.
use Rattle.std.proofs.Common.{◌≡◌, ◌⊎◌, ◌≤◌, ◌+◌, ℕ, List, Option, Some, None, Bool, true, false, inl, inr, refl, sym, ap, subst, ◌∙◌, arith, map}
use Rattle.std.specs.Prelude.{◌==◌, ◌&&◌, not, IsTrue, IsSomeAnd, Contains}
use Rattle.std.specs.List.{list_any}
use Rattle.std.proofs.lemmas.Bool.{and_left, and_right, and_parts, both_ways, and_from, or_right, eq-eqb, eqb-true, false_from_ne_true, not_from_true}
use Rattle.std.proofs.lemmas.List.Folds.{list_any_at}
use Rattle.net_base.specs.Methods.{is_idempotent_method}
use Rattle.net_base.specs.declared.end_cause.EndCause.{EndCause}
use Rattle.net_base.specs.declared.numbers.CallerNo.{CallerNo}
use Rattle.net_base.specs.declared.numbers.ConnNo.{ConnNo}
use Rattle.net_base.specs.declared.numbers.ExchangeNo.{ExchangeNo}
use Rattle.net_base.specs.declared.numbers.StreamNo.{StreamNo}
use Rattle.model_changes.specs.Connections.{is_stream}
use Rattle.model_steps.specs.Lost.{may_retry, may_be_sent, as_retried, lost, after_closed}
use Rattle.model_laws.proofs.CourseLemmas.{IsKept, state_later, state_after}
use Rattle.model_laws.proofs.EndedLemmas.{ended_stays_ended}
use Rattle.model_laws.proofs.ExchangeSteps.{Stays, StaysAt, BecomesAt}
use Rattle.model_laws.proofs.ExchangesAfter.{stay_closed, exchange_after}
use Rattle.model_laws.proofs.SentLemmas.{started_by}
use Rattle.model_laws.proofs.SoundLemmas.{reached_is_sound}
use Rattle.model_laws.specs.Courses.{state_at, OfExchange}
use Rattle.model_laws.specs.MoveLaws.{may_move, MovesAreLawful, WasHanded, WasRetried, MayNotBeSentAgain, LostExchangesStayLost}
use Rattle.model_laws.specs.Sound.{StartedAreSent}
use Rattle.model_histories.proofs.CauseLemmas.{by_moved, by_lost}
use Rattle.model_histories.proofs.EditLemmas.{map_at}
use Rattle.model_histories.specs.Histories.{MayStand, IsHistory}
use Rattle.model_steps.specs.After.{noted, sent_noted, after_act, after}
use Rattle.model_authority.proofs.NumberLemmas.{value_and}
use Rattle.model_authority.specs.Lists.{numbered}
use Rattle.model_authority.specs.Statuses.{is_waiting, is_leased, is_on, is_at, is_unsent_at, is_handed}
use Rattle.model_values.specs.declared.config.Config.{Config}
use Rattle.model_values.specs.declared.entry.Act.{Act}
use Rattle.model_values.specs.declared.entry.Act.TheVariants.{Closed}
use Rattle.model_values.specs.declared.entry.Entry.{Entry}
use Rattle.model_values.specs.declared.entry.Way.{Way}
use Rattle.model_values.specs.declared.outcome.Outcome.{Outcome}
use Rattle.model_values.specs.declared.outcome.Outcome.TheVariants as outcome
use Rattle.model_values.specs.declared.state.AbstractPool.{AbstractPool}
use Rattle.model_values.specs.declared.state.Exchange.{Exchange}
use Rattle.model_values.specs.declared.state.Status.{Status}
use Rattle.model_values.specs.declared.state.Status.TheVariants.{Waiting, Leased, Ended}

-- ---- moves

pub moves_are_lawful : MovesAreLawful
moves_are_lawful config h n e number x y comes before leased behind waiting =
    let s : AbstractPool = state_at config h n in
    let at_y : numbered number (after s e).exchanges ≡ Some y = ap (λ (t : AbstractPool). numbered number t.exchanges) (sym (state_after config h n e comes.is_entry)) ∙ behind in
    let b : BecomesAt (MayStand s e) e.act (Some x) (Some y) =
    subst (λ o. BecomesAt (MayStand s e) e.act o (Some y)) before (subst (BecomesAt (MayStand s e) e.act (numbered number s.exchanges)) at_y (exchange_after s e number)) in
    (b.again leased waiting).0

-- ---- leases whose start was handed

-- a lease that isn't one whose start isn't handed yet is one whose start was handed
handed_as : (c : ConnNo) (r : StreamNo) (status : Status) → is_at c r status ≡ true → (is_unsent_at c r status ≡ true → ⊥) → (by : Way) × (status ≡ Leased c r by true)
handed_as c r Waiting h sent = absurd cc
handed_as c r (Leased d t by false) h sent = absurd (sent (and_from (d.0 == c.0 && t.0 == r.0) true h refl))
handed_as c r (Leased d t by true) h sent =
    let parts = and_parts (d.0 == c.0) (t.0 == r.0) h in
    let conn : ℕ → ConnNo = λ k. record { 0 = k } in
    let stream : ℕ → StreamNo = λ k. record { 0 = k } in
    let same_conn : d ≡ c = ap conn (eqb-true d.0 c.0 parts.0) in
    let same_stream : t ≡ r = ap stream (eqb-true t.0 r.0 parts.1) in
    (by, ap (λ (a : ConnNo). Leased a t by true) same_conn ∙ ap (λ (u : StreamNo). Leased c u by true) same_stream)
handed_as c r (Ended how) h sent = absurd cc

-- the start of a lease was handed, so the lease says so
lease_handed : (config : Config) (h : List Entry) (n : ℕ) (c : ConnNo) (r : StreamNo) (number : ℕ) (x : Exchange) → IsHistory config h → StartedAreSent (state_at config h n) →
    numbered number (state_at config h n).exchanges ≡ Some x → IsTrue (is_at c r x.status) → WasHanded h n c r → (by : Way) × (x.status ≡ Leased c r by true)
lease_handed config h n c r number x history sent is_item leased handed =
    let y = value_and (numbered c.0 (state_at config h n).connections) (λ z. Contains z.started r) (started_by config h n c r history handed) in
    handed_as c r x.status leased (λ unsent. sent number x c r y.0 is_item unsent y.1 y.2)

-- ---- the end of a connection

-- what holds of an exchange, and stays by a step that moves nothing, holds behind such steps
kept_behind : (P : Exchange → Type 0) (x : Exchange) (o p : Option Exchange) → ((a b : Exchange) → Stays (Unit {0}) a b → P a → P b) → P x → o ≡ Some x → StaysAt (Unit {0}) o p →
    IsSomeAnd p P
kept_behind P x None p keeps holds is_item stays = absurd cc
kept_behind P x (Some z) None keeps holds is_item stays = absurd stays
kept_behind P x (Some z) (Some y) keeps holds is_item stays = let same : x ≡ z = cc in keeps z y stays (subst P same holds)

map_here : {A : Type 0} (number : ℕ) (f : A → A) (xs : List A) (x : A) → numbered number xs ≡ Some x → numbered number (map f xs) ≡ Some (f x)
map_here {A} number f xs x is_item =
    map_at (λ o p. o ≡ Some x → p ≡ Some (f x)) number f xs (λ e. absurd cc) (λ y e. let same : y ≡ x = cc in ap (λ (z : A). Some (f z)) same) is_item

-- whatever else the entry changes, what it made of the lease stays
closed_after : (P : Exchange → Type 0) (s : AbstractPool) (who : CallerNo) (number : ℕ) (x : Exchange) (c : ConnNo) (sent : ℕ) (cause : EndCause) (heard : List StreamNo) →
    ((a b : Exchange) → Stays (Unit {0}) a b → P a → P b) → numbered number s.exchanges ≡ Some x → P (lost c cause heard x) →
    IsSomeAnd (numbered number (after_act s who (Closed c sent cause heard)).exchanges) P
closed_after P s who number x c sent cause heard keeps is_item holds =
    let f : Exchange → Exchange = lost c cause heard in
    let left : List Exchange = map f s.exchanges in
    let behind : List Exchange = (after_closed (sent_noted s c sent) c cause heard).exchanges in
    kept_behind P (f x) (numbered number left) (numbered number behind) keeps holds (map_here number f s.exchanges x is_item)
    (stay_closed (Unit {0}) (sent_noted s c sent) c cause heard number)

closed_behind : (P : Exchange → Type 0) (s : AbstractPool) (e : Entry) (number : ℕ) (x : Exchange) (c : ConnNo) (sent : ℕ) (cause : EndCause) (heard : List StreamNo) →
    ((a b : Exchange) → Stays (Unit {0}) a b → P a → P b) → e.act ≡ Closed c sent cause heard → numbered number s.exchanges ≡ Some x → P (lost c cause heard x) →
    IsSomeAnd (numbered number (after s e).exchanges) P
unfolding after noted
closed_behind P s e number x c sent cause heard keeps is_act is_item holds =
    subst (λ (act : Act). IsSomeAnd (numbered number (after_act (noted s e.moment) e.who act).exchanges) P) (sym is_act)
    (closed_after P (noted s e.moment) e.who number x c sent cause heard keeps is_item holds)

-- ---- exchanges that were sent again

retried_at : (F : Type 0) (act : Act) (o p : Option Exchange) → BecomesAt F act o p → IsSomeAnd o (λ x. x.retried ≡ true) → IsSomeAnd p (λ y. y.retried ≡ true)
retried_at F act None p b h = absurd h
retried_at F act (Some x) None b h = absurd b
retried_at F act (Some x) (Some y) b h = b.retried h

retried_kept : (x : ExchangeNo) → IsKept (λ s. OfExchange s x (λ y. y.retried ≡ true))
retried_kept x s e may h = retried_at (MayStand s e) e.act (numbered x.0 s.exchanges) (numbered x.0 (after s e).exchanges) (exchange_after s e x.0) h

-- one whose start was handed, and that moves as its connection ends, is sent again
move_retried : (x : Exchange) (c : ConnNo) (sent : ℕ) (cause : EndCause) (heard : List StreamNo) (d : ConnNo) (r : StreamNo) (by : Way) → x.status ≡ Leased d r by true →
    may_move x (Closed c sent cause heard) ≡ true → (lost c cause heard x).retried ≡ true
move_retried x c sent cause heard d r by leased may =
    let parts = and_parts (is_on c x.status) (may_be_sent x heard x.status) may in
    let marked : (as_retried x).retried ≡ true = or_right x.retried (is_handed x.status) (ap (λ (t : Status). is_handed t) leased) in
    by_lost (λ y. y.retried ≡ true) c cause heard x (λ t m. by_moved (λ y. y.retried ≡ true) (as_retried x) marked (λ f. marked))
    (λ t f. absurd (both_ways (may_be_sent x heard x.status) f parts.1)) (λ f. absurd (both_ways (is_on c x.status) f parts.0))

leased_as : (c : ConnNo) (r : StreamNo) (by : Way) (handed : Bool) (status : Status) → status ≡ Leased c r by handed → is_leased status ≡ true
leased_as c r by handed status is = ap (λ (t : Status). is_leased t) is

-- an exchange that waits behind the end of its connection, to which its start was handed, is marked as sent again
retried_behind : (s : AbstractPool) (e : Entry) (number : ℕ) (x : Exchange) (c : ConnNo) (sent : ℕ) (cause : EndCause) (heard : List StreamNo) (d : ConnNo) (r : StreamNo) (by : Way) →
    e.act ≡ Closed c sent cause heard → numbered number s.exchanges ≡ Some x → x.status ≡ Leased d r by true →
    IsSomeAnd (numbered number (after s e).exchanges) (λ y. IsTrue (is_waiting y.status)) → IsSomeAnd (numbered number (after s e).exchanges) (λ y. y.retried ≡ true)
retried_behind s e number x c sent cause heard d r by is_act is_item leased waits =
    let y = value_and (numbered number (after s e).exchanges) (λ z. IsTrue (is_waiting z.status)) waits in
    let b : BecomesAt (MayStand s e) e.act (Some x) (Some y.0) =
    subst (λ o. BecomesAt (MayStand s e) e.act o (Some y.0)) is_item (subst (BecomesAt (MayStand s e) e.act (numbered number s.exchanges)) y.1 (exchange_after s e number)) in
    let may : may_move x (Closed c sent cause heard) ≡ true =
    subst (λ (act : Act). may_move x act ≡ true) is_act (b.again (leased_as d r by true x.status leased) y.2).0 in
    closed_behind (λ z. z.retried ≡ true) s e number x c sent cause heard (λ p q k. k.retried) is_act is_item (move_retried x c sent cause heard d r by leased may)

was_retried : (config : Config) (h : List Entry) (n : ℕ) (x : ExchangeNo) → IsHistory config h → ((m : ℕ) → StartedAreSent (state_at config h m)) → WasRetried config h n x →
    OfExchange (state_at config h n) x (λ y. y.retried ≡ true)
was_retried config h n x history sent w =
    let k : ℕ = w.before in
    let s : AbstractPool = state_at config h k in
    let later : k + 1 ≤ n = omega (arith, w.is_before) in
    let v = value_and (numbered x.0 s.exchanges) (λ y. IsTrue (is_at w.conn w.stream y.status)) w.lease in
    let lease = lease_handed config h k w.conn w.stream x.0 v.0 history (sent k) v.1 v.2 w.handed in
    let next : state_at config h (k + 1) ≡ after s w.entry = state_after config h k w.entry w.is_entry in
    let waits : OfExchange (after s w.entry) x (λ y. IsTrue (is_waiting y.status)) = subst (λ t. OfExchange t x (λ y. IsTrue (is_waiting y.status))) next w.waits in
    let here : OfExchange (state_at config h (k + 1)) x (λ y. y.retried ≡ true) =
    subst (λ t. OfExchange t x (λ y. y.retried ≡ true)) (sym next)
    (retried_behind s w.entry x.0 v.0 w.conn w.sent w.cause w.heard w.conn w.stream lease.0 w.is_closed v.1 lease.1 waits) in
    state_later config h (k + 1) n (λ t. OfExchange t x (λ y. y.retried ≡ true)) history (retried_kept x) later here

-- ---- exchanges whose connection is lost

-- it may not be sent again, by what the exchange says itself
abbrev IsSpent : Exchange → StreamNo → List StreamNo → Type 0
IsSpent x r heard = (¬ IsTrue (is_idempotent_method x.ask.request.method)) ⊎ (Contains heard r ⊎ (x.retried ≡ true))

spent : (config : Config) (h : List Entry) (n : ℕ) (e : ExchangeNo) (x : Exchange) (r : StreamNo) (heard : List StreamNo) → IsHistory config h →
    ((m : ℕ) → StartedAreSent (state_at config h m)) → numbered e.0 (state_at config h n).exchanges ≡ Some x → MayNotBeSentAgain config h n e x r heard → IsSpent x r heard
spent config h n e x r heard history sent is_item (inl unsafe) = inl unsafe
spent config h n e x r heard history sent is_item (inr (inl some)) = inr (inl some)
spent config h n e x r heard history sent is_item (inr (inr again)) =
    let y = value_and (numbered e.0 (state_at config h n).exchanges) (λ z. z.retried ≡ true) (was_retried config h n e history sent again) in
    let same : y.0 ≡ x = same_exchange (numbered e.0 (state_at config h n).exchanges) y.0 x y.1 is_item in
    inr (inr (subst (λ (z : Exchange). z.retried ≡ true) same y.2))
  where
    same_exchange : (o : Option Exchange) (y z : Exchange) → o ≡ Some y → o ≡ Some z → y ≡ z
    same_exchange o y z p q = cc

heard_any : (r : StreamNo) (heard : List StreamNo) → Contains heard r → list_any (is_stream r) heard ≡ true
heard_any r heard c = list_any_at (is_stream r) heard c.0 r c.1 (ap (is_stream r) c.2 ∙ eq-eqb r.0 r.0 refl)

no_retry : (x : Exchange) (r : StreamNo) (heard : List StreamNo) → IsSpent x r heard → may_retry x r heard ≡ false
no_retry x r heard (inl unsafe) =
    let b : is_idempotent_method x.ask.request.method ≡ false = false_from_ne_true _ unsafe in
    and_left _ (not x.retried) (and_right (not (list_any (is_stream r) heard)) _ b)
no_retry x r heard (inr (inr retried)) =
    and_right (not (list_any (is_stream r) heard) && is_idempotent_method x.ask.request.method) (not x.retried) (not_from_true x.retried retried)
no_retry x r heard (inr (inl some)) =
    and_left _ (not x.retried) (and_left _ (is_idempotent_method x.ask.request.method) (not_from_true _ (heard_any r heard some)))

-- its lease ends with its connection
lost_ends : (x : Exchange) (c : ConnNo) (cause : EndCause) (heard : List StreamNo) (r : StreamNo) (by : Way) → x.status ≡ Leased c r by true →
    IsSpent x r heard → (lost c cause heard x).status ≡ Ended (outcome.Lost c cause)
lost_ends x c cause heard r by leased unsafe =
    let here : is_on c x.status ≡ true = ap (is_on c) leased ∙ eq-eqb c.0 c.0 refl in
    let spent : may_be_sent x heard x.status ≡ false = ap (may_be_sent x heard) leased ∙ no_retry x r heard unsafe in
    by_lost (λ y. y.status ≡ Ended (outcome.Lost c cause)) c cause heard x (λ t m. absurd (both_ways (may_be_sent x heard x.status) spent m)) (λ t f. refl)
    (λ f. absurd (both_ways (is_on c x.status) f here))

-- where no stream that was started has a lease whose start isn't handed
pub lost_exchanges_stay_lost_by : ((config : Config) (h : List Entry) (n : ℕ) → IsHistory config h → StartedAreSent (state_at config h n)) → LostExchangesStayLost
lost_exchanges_stay_lost_by started_are_sent config h n m e number x c sent cause heard r comes is_act is_item leased handed unsafe below =
    let how : Outcome = outcome.Lost c cause in
    let later : n + 1 ≤ m = omega (arith, below) in
    let are_sent : (k : ℕ) → StartedAreSent (state_at config h k) = λ k. started_are_sent config h k comes.history in
    let lease = lease_handed config h n c r number.0 x comes.history (are_sent n) is_item leased handed in
    let last : IsSpent x r heard = spent config h n number x r heard comes.history are_sent is_item unsafe in
    let ends : OfExchange (state_at config h (n + 1)) number (λ y. y.status ≡ Ended how) =
    subst (λ t. OfExchange t number (λ y. y.status ≡ Ended how)) (sym (state_after config h n e comes.is_entry))
    (closed_behind (λ y. y.status ≡ Ended how) (state_at config h n) e number.0 x c sent cause heard (λ a b k. k.ended tt how) is_act is_item
    (lost_ends x c cause heard r lease.0 lease.1 last)) in
    ended_stays_ended config h (n + 1) m number how comes.history later ends

pub lost_exchanges_stay_lost : LostExchangesStayLost
lost_exchanges_stay_lost = lost_exchanges_stay_lost_by (λ config h n history. (reached_is_sound config h n history).sent)
