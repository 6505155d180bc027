-- What one step of an entry leaves of an exchange: that its end stays, that it waits again only by a move, how often it moved, and that it
-- was sent again.
use Rattle.std.proofs.Common.{◌≡◌, ◌+◌, ◌<◌, ◌⊎◌, ℕ, List, [], ◌∷◌, ◌++◌, Option, Some, None, Bool, true, false, inl, inr, refl, ap, subst, ◌∙◌, map}
use Rattle.std.specs.Prelude.{◌&&◌, ◌==◌}
use Rattle.std.specs.List.{list_any}
use Rattle.std.proofs.lemmas.Bool.{cond_both, and_parts, and_from, both_ways, or_left, leb-false}
use Rattle.net_base.specs.declared.end_cause.EndCause.{EndCause}
use Rattle.net_base.specs.declared.numbers.ConnNo.{ConnNo}
use Rattle.net_base.specs.declared.numbers.Moment.{Moment}
use Rattle.net_base.specs.declared.numbers.StreamNo.{StreamNo}
use Rattle.net_base.specs.declared.response.Response.{Response}
use Rattle.partition_keys.specs.declared.alternative.AltUpdate.{AltUpdate}
use Rattle.partition_keys.specs.declared.alternative.Proof.{Proof}
use Rattle.model_changes.specs.Connections.{is_start_of}
use Rattle.model_laws.specs.MoveLaws.{may_move}
use Rattle.model_histories.proofs.CauseLemmas.{by_moved, by_refused, by_ended_at, by_left_out, by_answered, by_lost}
use Rattle.model_histories.proofs.EditLemmas.{edit_at, map_at, append_at, each_one}
use Rattle.model_steps.specs.Exchanges.{with_status, ended_by, with_urgency, timed_out_at, timed_out, ended_unless, ended_if_waiting, moved, handed_lease, handed_by}
use Rattle.model_steps.specs.Answered.{is_misdirected, as_misdirected, answered}
use Rattle.model_steps.specs.Goaway.{is_left_out, left_out}
use Rattle.model_steps.specs.Lost.{may_be_sent, as_retried, lost}
use Rattle.model_steps.specs.StreamEnds.{refused, ended_at}
use Rattle.model_authority.specs.Lists.{numbered, edit}
use Rattle.model_authority.specs.Statuses.{is_waiting, is_leased, has_ended, is_on, is_at, is_handed, is_leased_elsewhere}
use Rattle.model_values.specs.declared.entry.Act.{Act}
use Rattle.model_values.specs.declared.entry.Act.TheVariants.{Reported, Closed}
use Rattle.model_values.specs.declared.entry.Way.{Way}
use Rattle.model_values.specs.declared.order.OrderMark.{OrderMark}
use Rattle.model_values.specs.declared.outcome.Outcome.{Outcome}
use Rattle.model_values.specs.declared.outcome.Outcome.TheVariants as outcome
use Rattle.model_values.specs.declared.report.Report.TheVariants as report
use Rattle.model_values.specs.declared.state.Exchange.{Exchange}
use Rattle.model_values.specs.declared.state.Status.{Status}
use Rattle.model_values.specs.declared.state.Status.TheVariants.{Waiting, Leased, Ended}

-- ---- statuses

pub waiting_open : (status : Status) → is_waiting status ≡ true → has_ended status ≡ false
waiting_open Waiting h = refl
waiting_open (Leased c r by handed) h = refl
waiting_open (Ended how) h = absurd cc

pub leased_at : (c : ConnNo) (r : StreamNo) (status : Status) → is_at c r status ≡ true → has_ended status ≡ false
leased_at c r Waiting h = refl
leased_at c r (Leased conn stream by handed) h = refl
leased_at c r (Ended how) h = absurd cc

pub leased_on : (c : ConnNo) (status : Status) → is_on c status ≡ true → has_ended status ≡ false
leased_on c Waiting h = refl
leased_on c (Leased conn stream by handed) h = refl
leased_on c (Ended how) h = absurd cc

-- one that has a lease doesn't wait
leased_only : (status : Status) → is_leased status ≡ true → is_waiting status ≡ true → ⊥
leased_only Waiting l w = absurd cc
leased_only (Leased c r by handed) l w = absurd cc
leased_only (Ended how) l w = absurd cc

-- ---- an exchange before a step, and behind it

-- its end stays, where F holds; it waits only if it waited before; it hasn't moved; and where it was sent again once, that stays
pub record Stays (F : Type 0) (x y : Exchange) : Type 0 where
  pub ended : F → (how : Outcome) → x.status ≡ Ended how → y.status ≡ Ended how
  pub waits : is_waiting y.status ≡ true → is_waiting x.status ≡ true
  pub moves : y.moves ≡ x.moves
  pub retried : x.retried ≡ true → y.retried ≡ true

-- its end stays, where F holds; it waits behind a lease only if it may move by the act, and then it has moved; it moves at most
-- once, and not from five moves on; and where it was sent again once, that stays
pub record Becomes (F : Type 0) (act : Act) (x y : Exchange) : Type 0 where
  pub ended : F → (how : Outcome) → x.status ≡ Ended how → y.status ≡ Ended how
  pub again : is_leased x.status ≡ true → is_waiting y.status ≡ true → (may_move x act ≡ true) × (y.moves ≡ x.moves + 1)
  pub moves : (y.moves ≡ x.moves) ⊎ ((y.moves ≡ x.moves + 1) × (x.moves < 5))
  pub retried : x.retried ≡ true → y.retried ≡ true

-- the same of the items of one number: none is lost, and a new one has no moves
abbrev pub StaysAt : Type 0 → Option Exchange → Option Exchange → Type 0
StaysAt F None None = Unit {0}
StaysAt F None (Some y) = y.moves ≡ 0
StaysAt F (Some x) None = ⊥
StaysAt F (Some x) (Some y) = Stays F x y

abbrev pub BecomesAt : Type 0 → Act → Option Exchange → Option Exchange → Type 0
BecomesAt F act None None = Unit {0}
BecomesAt F act None (Some y) = y.moves ≡ 0
BecomesAt F act (Some x) None = ⊥
BecomesAt F act (Some x) (Some y) = Becomes F act x y

-- what stays behind a step is what the step made of it
becomes_on : (F : Type 0) (act : Act) (x y z : Exchange) → Becomes F act x y → Stays F y z → Becomes F act x z
becomes_on F act x y z b s = record {
  ended = λ f how h. s.ended f how (b.ended f how h);
  again = λ l w. let a = b.again l (s.waits w) in (a.0, s.moves ∙ a.1);
  moves = elim b.moves [ inl e ↦ inl (s.moves ∙ e) | inr m ↦ inr (s.moves ∙ m.0, m.1) ];
  retried = λ t. s.retried (b.retried t);
}

becomes_stays : (F : Type 0) (act : Act) (x y : Exchange) → Stays F x y → Becomes F act x y
becomes_stays F act x y s = record { ended = s.ended; again = λ l w. absurd (leased_only x.status l (s.waits w)); moves = inl s.moves; retried = s.retried }

pub becomes_on_at : (F : Type 0) (act : Act) (o p q : Option Exchange) → BecomesAt F act o p → StaysAt F p q → BecomesAt F act o q
becomes_on_at F act None None None b s = tt
becomes_on_at F act None None (Some z) b s = s
becomes_on_at F act None (Some y) None b s = absurd s
becomes_on_at F act None (Some y) (Some z) b s = s.moves ∙ b
becomes_on_at F act (Some x) None q b s = absurd b
becomes_on_at F act (Some x) (Some y) None b s = absurd s
becomes_on_at F act (Some x) (Some y) (Some z) b s = becomes_on F act x y z b s

becomes_stays_at : (F : Type 0) (act : Act) (o p : Option Exchange) → StaysAt F o p → BecomesAt F act o p
becomes_stays_at F act None None s = tt
becomes_stays_at F act None (Some y) s = s
becomes_stays_at F act (Some x) None s = absurd s
becomes_stays_at F act (Some x) (Some y) s = becomes_stays F act x y s

-- ---- steps that make nothing wait

stays_refl : (F : Type 0) (x : Exchange) → Stays F x x
stays_refl F x = record { ended = λ f how h. h; waits = λ w. w; moves = refl; retried = λ t. t }

-- a step that changes the status alone, of one that has no end to one that doesn't wait
stays_status : (F : Type 0) (status : Status) (x : Exchange) → (F → has_ended x.status ≡ false) → is_waiting status ≡ false → Stays F x (with_status status x)
stays_status F status x no_end not_waiting = record {
  ended = λ f how h. let n = no_end f in let e : has_ended x.status ≡ true = ap (λ (t : Status). has_ended t) h in absurd cc;
  waits = λ w. absurd cc;
  moves = refl;
  retried = λ t. t;
}

pub stays_leased : (F : Type 0) (c : ConnNo) (r : StreamNo) (by : Way) (x : Exchange) → (F → has_ended x.status ≡ false) → Stays F x (with_status (Leased c r by false) x)
stays_leased F c r by x no_end = stays_status F (Leased c r by false) x no_end refl

pub stays_ended_by : (F : Type 0) (how : Outcome) (x : Exchange) → (F → has_ended x.status ≡ false) → Stays F x (ended_by how x)
stays_ended_by F how x no_end = stays_status F (Ended how) x no_end refl

pub stays_timed_out : (F : Type 0) (x : Exchange) → (F → has_ended x.status ≡ false) → Stays F x (timed_out x)
stays_timed_out F x no_end = by x.ask.deadline
  where
    by : (deadline : Option Moment) → Stays F x (timed_out_at deadline x)
    by None = stays_refl F x
    by (Some m) = stays_ended_by F (outcome.TimedOut m) x no_end

pub stays_ended_unless : (F : Type 0) (how : Outcome) (x : Exchange) → Stays F x (ended_unless how x)
stays_ended_unless F how x = cond_both (has_ended x.status) x (ended_by how x) (Stays F x) (λ t. stays_refl F x) (λ e. stays_ended_by F how x (λ f. e))

pub stays_ended_if_waiting : (F : Type 0) (how : Outcome) (x : Exchange) → Stays F x (ended_if_waiting how x)
stays_ended_if_waiting F how x =
    cond_both (is_waiting x.status) (ended_by how x) x (Stays F x) (λ t. stays_ended_by F how x (λ f. waiting_open x.status t)) (λ e. stays_refl F x)

pub stays_with_urgency : (F : Type 0) (urgency : ℕ) (x : Exchange) → Stays F x (with_urgency urgency x)
stays_with_urgency F urgency x = record { ended = λ f how h. h; waits = λ w. w; moves = refl; retried = λ t. t }

pub stays_handed : (F : Type 0) (c : ConnNo) (orders : List OrderMark) (x : Exchange) → Stays F x (handed_by c orders x)
stays_handed F c orders x = record { ended = λ f how h. ap (handed_lease c orders) h; waits = waits x.status; moves = refl; retried = λ t. t }
  where
    waits : (status : Status) → is_waiting (handed_lease c orders status) ≡ true → is_waiting status ≡ true
    waits Waiting w = w
    waits (Leased conn r by handed) w =
        cond_both (conn.0 == c.0 && list_any (is_start_of r) orders) (Leased conn r by true) (Leased conn r by handed) (λ (t : Status). is_waiting t ≡ true → false ≡ true)
        (λ t e. e) (λ t e. e) w
    waits (Ended how) w = w

-- ---- what a worker's entry makes of an exchange with a lease

pub left_open : (c : ConnNo) (last : StreamNo) (status : Status) → is_left_out c last status ≡ true → has_ended status ≡ false
left_open c last Waiting h = refl
left_open c last (Leased conn stream by handed) h = refl
left_open c last (Ended how) h = absurd cc

becomes_refl : (F : Type 0) (act : Act) (x : Exchange) → Becomes F act x x
becomes_refl F act x = becomes_stays F act x x (stays_refl F x)

becomes_ended_by : (F : Type 0) (act : Act) (how : Outcome) (x : Exchange) → has_ended x.status ≡ false → Becomes F act x (ended_by how x)
becomes_ended_by F act how x no_end = becomes_stays F act x (ended_by how x) (stays_ended_by F how x (λ f. no_end))

-- m is the exchange with its marks
becomes_moved : (F : Type 0) (act : Act) (x m : Exchange) → may_move x act ≡ true → has_ended x.status ≡ false → m.moves ≡ x.moves → (x.retried ≡ true → m.retried ≡ true) →
    Becomes F act x (moved m)
becomes_moved F act x m may no_end same kept =
    by_moved (Becomes F act x) m (record { ended = λ f how h. absurd (has_end how h); again = λ l w. absurd cc; moves = inl same; retried = kept })
    (λ e. record { ended = λ f how h. absurd (has_end how h); again = λ l w. (may, once); moves = inr (once, subst (λ n. n < 5) same (leb-false 5 m.moves e)); retried = kept })
  where
    once : m.moves + 1 ≡ x.moves + 1
    once = ap (λ n. n + 1) same

    has_end : (how : Outcome) → x.status ≡ Ended how → ⊥
    has_end how h = let e : has_ended x.status ≡ true = ap (λ (t : Status). has_ended t) h in both_ways (has_ended x.status) no_end e

pub becomes_answered : (F : Type 0) (c : ConnNo) (sent : ℕ) (r : StreamNo) (response : Response) (keep : Bool) (alt : AltUpdate) (proof : Proof) (x : Exchange) →
    Becomes F (Reported c sent (report.Answered r response keep alt proof)) x (answered c r response x)
becomes_answered F c sent r response keep alt proof x =
    let act : Act = Reported c sent (report.Answered r response keep alt proof) in
    by_answered (Becomes F act x) c r response x (λ t m. becomes_moved F act x (as_misdirected x) (may t m) (leased_at c r x.status t) refl (λ k. k))
    (λ t. becomes_ended_by F act (outcome.Answered response) x (leased_at c r x.status t)) (becomes_refl F act x)
  where
    may : is_at c r x.status ≡ true → is_misdirected response x ≡ true → is_at c r x.status && response.status == 421 && is_leased_elsewhere x.status ≡ true
    may t m =
        let parts = and_parts (response.status == 421) (is_leased_elsewhere x.status) m in
        and_from (is_at c r x.status && response.status == 421) (is_leased_elsewhere x.status) (and_from (is_at c r x.status) (response.status == 421) t parts.0) parts.1

pub becomes_refused : (F : Type 0) (c : ConnNo) (sent : ℕ) (r : StreamNo) (x : Exchange) → Becomes F (Reported c sent (report.Refused r)) x (refused c r x)
becomes_refused F c sent r x =
    let act : Act = Reported c sent (report.Refused r) in
    by_refused (Becomes F act x) c r x (λ t. becomes_moved F act x x t (leased_at c r x.status t) refl (λ k. k)) (becomes_refl F act x)

pub becomes_ended_at : (F : Type 0) (act : Act) (c : ConnNo) (r : StreamNo) (how : Outcome) (x : Exchange) → Becomes F act x (ended_at c r how x)
becomes_ended_at F act c r how x = by_ended_at (Becomes F act x) c r how x (λ t. becomes_ended_by F act how x (leased_at c r x.status t)) (becomes_refl F act x)

pub becomes_left_out : (F : Type 0) (c : ConnNo) (sent : ℕ) (last : StreamNo) (x : Exchange) → Becomes F (Reported c sent (report.Goaway last)) x (left_out c last x)
becomes_left_out F c sent last x =
    let act : Act = Reported c sent (report.Goaway last) in
    by_left_out (Becomes F act x) c last x (λ t. becomes_moved F act x x t (left_open c last x.status t) refl (λ k. k)) (becomes_refl F act x)

pub becomes_lost : (F : Type 0) (c : ConnNo) (sent : ℕ) (cause : EndCause) (heard : List StreamNo) (x : Exchange) → Becomes F (Closed c sent cause heard) x (lost c cause heard x)
becomes_lost F c sent cause heard x =
    let act : Act = Closed c sent cause heard in
    by_lost (Becomes F act x) c cause heard x
    (λ t m. becomes_moved F act x (as_retried x) (and_from (is_on c x.status) (may_be_sent x heard x.status) t m) (leased_on c x.status t) refl (λ k. or_left x.retried (is_handed x.status) k))
    (λ t f. becomes_ended_by F act (outcome.Lost c cause) x (leased_on c x.status t)) (λ f. becomes_refl F act x)

-- ---- lists of exchanges

abbrev pub AllStay : Type 0 → List Exchange → List Exchange → Type 0
AllStay F xs ys = (n : ℕ) → StaysAt F (numbered n xs) (numbered n ys)

stays_refl_at : (F : Type 0) (o : Option Exchange) → StaysAt F o o
stays_refl_at F None = tt
stays_refl_at F (Some x) = stays_refl F x

pub stay_same : (F : Type 0) (xs : List Exchange) → AllStay F xs xs
stay_same F xs n = stays_refl_at F (numbered n xs)

pub stay_edit : (F : Type 0) (number : ℕ) (f : Exchange → Exchange) (xs : List Exchange) → ((x : Exchange) → numbered number xs ≡ Some x → Stays F x (f x)) →
    AllStay F xs (edit number f xs)
stay_edit F number f xs stays n = edit_at (StaysAt F) number n f xs (stays_refl_at F) stays

pub stay_map : (F : Type 0) (f : Exchange → Exchange) (xs : List Exchange) → ((x : Exchange) → Stays F x (f x)) → AllStay F xs (map f xs)
stay_map F f xs stays n = map_at (StaysAt F) n f xs tt stays

pub stay_push : (F : Type 0) (xs : List Exchange) (y : Exchange) → y.moves ≡ 0 → AllStay F xs (xs ++ y ∷ [])
stay_push F xs y new n = append_at (StaysAt F) n xs (y ∷ []) (stays_refl_at F) (each_one (λ (z : Exchange). z.moves ≡ 0) y new)

pub become_still : (F : Type 0) (act : Act) (xs ys : List Exchange) → AllStay F xs ys → (n : ℕ) → BecomesAt F act (numbered n xs) (numbered n ys)
become_still F act xs ys stay n = becomes_stays_at F act (numbered n xs) (numbered n ys) (stay n)

pub become_same : (F : Type 0) (act : Act) (xs : List Exchange) (n : ℕ) → BecomesAt F act (numbered n xs) (numbered n xs)
become_same F act xs n = become_still F act xs xs (stay_same F xs) n

pub become_map : (F : Type 0) (act : Act) (f : Exchange → Exchange) (xs : List Exchange) → ((x : Exchange) → Becomes F act x (f x)) → (n : ℕ) →
    BecomesAt F act (numbered n xs) (numbered n (map f xs))
become_map F act f xs becomes n = map_at (BecomesAt F act) n f xs tt becomes
