-- Whom each exchange is of and what it asks for, behind each entry: what its submission said.
use Rattle.std.proofs.Common.{◌≡◌, ◌+◌, ◌-◌, ℕ, zero, suc, List, [], ◌∷◌, ◌++◌, Option, Some, None, false, inl, inr, refl, sym, ap, subst, ◌∙◌, arith, append-nil, append_assoc, map, length, take, slice_get, slice_set, option_map, IsSomeAnd}
use Rattle.std.specs.Prelude.{◌==◌}
use Rattle.std.specs.List.{flat_map}
use Rattle.std.proofs.lemmas.Bool.{cond_both}
use Rattle.std.proofs.lemmas.Grind.{flat_map-append}
use Rattle.std.proofs.lemmas.List.{map-append, length-map, length_push}
use Rattle.std.proofs.lemmas.Option.{slice_get-map, same_Some}
use Rattle.net_base.specs.declared.end_cause.EndCause.{EndCause}
use Rattle.net_base.specs.declared.numbers.CallerNo.{CallerNo}
use Rattle.net_base.specs.declared.numbers.ConnNo.{ConnNo}
use Rattle.net_base.specs.declared.numbers.ExchangeNo.{ExchangeNo}
use Rattle.net_base.specs.declared.numbers.Moment.{Moment}
use Rattle.net_base.specs.declared.numbers.StreamNo.{StreamNo}
use Rattle.net_base.specs.declared.response.Response.{Response}
use Rattle.net_base.specs.declared.target.Via.{Via}
use Rattle.net_base.specs.declared.target.Via.TheVariants as via
use Rattle.partition_keys.specs.declared.group.GroupKey.{GroupKey}
use Rattle.model_laws.proofs.CourseLemmas.{take_entry, state_after, state_later}
use Rattle.model_laws.specs.Courses.{state_at}
use Rattle.model_laws.specs.TextLaws.{AsksFor, AreOne, ExchangesAreSubmissions, AcceptedOnesAreExchanges}
use Rattle.model_histories.proofs.EditLemmas.{append_at}
use Rattle.model_histories.proofs.CauseLemmas.{by_moved, by_refused, by_ended_at, by_left_out, by_answered, by_lost, by_identity, by_open, by_alt_seen, by_closed, by_want}
use Rattle.model_histories.specs.Histories.{opening, run_from, run, MayStand}
use Rattle.model_histories.specs.Legal.{IsReply}
use Rattle.model_histories.specs.Reading.{accepted_by, submissions_of}
use Rattle.model_settling.specs.Settling.{IsDue}
use Rattle.model_steps.specs.After.{noted, after_submit, after_cancel, after_reprioritise, after_preconnect, after_resolved, after_network, after_shut, after_dial, after_orders, after_report, after_expire, after_lapse, after_assign, after_evict, sent_noted, after_act, after}
use Rattle.model_steps.specs.Answered.{answered, after_answered}
use Rattle.model_steps.specs.Exchanges.{new_exchange, with_status, ended_by, with_urgency, timed_out_at, timed_out, ended_unless, ended_if_waiting, moved, handed_by}
use Rattle.model_steps.specs.Goaway.{left_out}
use Rattle.model_steps.specs.Lost.{lost, after_lost, after_closed}
use Rattle.model_steps.specs.Opened.{after_useless}
use Rattle.model_steps.specs.StreamEnds.{refused, ended_at}
use Rattle.model_authority.proofs.NumberLemmas.{numbered_at}
use Rattle.model_authority.specs.Lists.{numbered, with_item, edit}
use Rattle.model_authority.specs.Statuses.{is_waiting, has_ended}
use Rattle.model_values.specs.declared.config.Config.{Config}
use Rattle.model_values.specs.declared.entry.Act.{Act}
use Rattle.model_values.specs.declared.entry.Act.TheVariants.{Submit, Cancel, Reprioritise, Preconnect, Resolved, Shutdown, Orders, Reported, Closed, Expire, Lapse, Assign, Want}
use Rattle.model_values.specs.declared.entry.Entry.{Entry}
use Rattle.model_values.specs.declared.outcome.Outcome.{Outcome}
use Rattle.model_values.specs.declared.outcome.Outcome.TheVariants as outcome
use Rattle.model_values.specs.declared.reply.CancelReply.TheVariants as cancel
use Rattle.model_values.specs.declared.reply.ChangeReply.TheVariants as change
use Rattle.model_values.specs.declared.reply.PreconnectReply.TheVariants as preconnect
use Rattle.model_values.specs.declared.reply.ResolvedReply.TheVariants as resolved
use Rattle.model_values.specs.declared.reply.ShutReply.TheVariants as shut
use Rattle.model_values.specs.declared.reply.SubmitReply.TheVariants as submit
use Rattle.model_values.specs.declared.report.Report.{Report}
use Rattle.model_values.specs.declared.report.Report.TheVariants as report
use Rattle.model_values.specs.declared.state.AbstractPool.{AbstractPool}
use Rattle.model_values.specs.declared.state.Exchange.{Exchange}
use Rattle.model_values.specs.declared.state.Status.TheVariants.{Leased}
use Rattle.model_values.specs.declared.submission.Submission.{Submission}

-- ---- lists whose items keep a part

map_kept : {A B : Type 0} (part : A → B) (f : A → A) (xs : List A) → ((x : A) → part (f x) ≡ part x) → map part (map f xs) ≡ map part xs
map_kept part f [] keeps = refl
map_kept part f (x ∷ xs) keeps = ap (λ y. y ∷ map part (map f xs)) (keeps x) ∙ ap (λ ys. part x ∷ ys) (map_kept part f xs keeps)

set_kept : {A B : Type 0} (part : A → B) (xs : List A) (i : ℕ) (x y : A) → slice_get xs i ≡ Some x → part y ≡ part x → map part (slice_set xs i y) ≡ map part xs
set_kept part [] i x y is same = refl
set_kept part (z ∷ xs) zero x y is same = let here : z ≡ x = same_Some z x is in ap (λ u. u ∷ map part xs) (same ∙ ap part (sym here))
set_kept part (z ∷ xs) (suc i) x y is same = ap (λ ys. part z ∷ ys) (set_kept part xs i x y is same)

edit_kept : {A B : Type 0} (part : A → B) (number : ℕ) (f : A → A) (xs : List A) → ((x : A) → part (f x) ≡ part x) → map part (edit number f xs) ≡ map part xs
unfolding edit
edit_kept {A} part number f xs keeps =
    cond_both (number == 0) xs (with_item xs (number - 1) f (slice_get xs (number - 1))) (λ ys. map part ys ≡ map part xs)
    (λ first. refl) (λ later. by (slice_get xs (number - 1)) refl)
  where
    by : (o : Option A) → slice_get xs (number - 1) ≡ o → map part (with_item xs (number - 1) f o) ≡ map part xs
    by None is = refl
    by (Some x) is = set_kept part xs (number - 1) x (f x) is (keeps x)

-- ---- one exchange

-- what an exchange keeps: its caller, and what it asks for but for its urgency
pub record Asked : Type 0 where
  pub caller : CallerNo
  pub ask : Submission

abbrev pub unhurried : Submission → Submission
unhurried ask = record ask { urgency = 0 }

abbrev pub asked : Exchange → Asked
asked x = record { caller = x.caller; ask = unhurried x.ask }

abbrev Keeps : (Exchange → Exchange) → Type 0
Keeps f = (x : Exchange) → asked (f x) ≡ asked x

keeps_timed_out : Keeps timed_out
keeps_timed_out x = by x.ask.deadline
  where
    by : (deadline : Option Moment) → asked (timed_out_at deadline x) ≡ asked x
    by None = refl
    by (Some m) = refl

keeps_ended_unless : (how : Outcome) → Keeps (ended_unless how)
keeps_ended_unless how x = cond_both (has_ended x.status) x (ended_by how x) (λ y. asked y ≡ asked x) (λ t. refl) (λ f. refl)

keeps_ended_if_waiting : (how : Outcome) → Keeps (ended_if_waiting how)
keeps_ended_if_waiting how x = cond_both (is_waiting x.status) (ended_by how x) x (λ y. asked y ≡ asked x) (λ t. refl) (λ f. refl)

keeps_moved : Keeps moved
keeps_moved x = by_moved (λ y. asked y ≡ asked x) x refl (λ e. refl)

keeps_refused : (c : ConnNo) (r : StreamNo) → Keeps (refused c r)
keeps_refused c r x = by_refused (λ y. asked y ≡ asked x) c r x (λ t. keeps_moved x) refl

keeps_ended_at : (c : ConnNo) (r : StreamNo) (how : Outcome) → Keeps (ended_at c r how)
keeps_ended_at c r how x = by_ended_at (λ y. asked y ≡ asked x) c r how x (λ t. refl) refl

keeps_left_out : (c : ConnNo) (last : StreamNo) → Keeps (left_out c last)
keeps_left_out c last x = by_left_out (λ y. asked y ≡ asked x) c last x (λ t. keeps_moved x) refl

keeps_answered : (c : ConnNo) (r : StreamNo) (response : Response) → Keeps (answered c r response)
keeps_answered c r response x = by_answered (λ y. asked y ≡ asked x) c r response x (λ t m. keeps_moved _) (λ t. refl) refl

keeps_lost : (c : ConnNo) (cause : EndCause) (heard : List StreamNo) → Keeps (lost c cause heard)
keeps_lost c cause heard x = by_lost (λ y. asked y ≡ asked x) c cause heard x (λ t m. keeps_moved _) (λ t f. refl) (λ f. refl)

-- ---- entries that add no exchange

-- the later pool's exchanges are the same ones
abbrev pub AsksTheSame : AbstractPool → AbstractPool → Type 0
AsksTheSame s t = map asked t.exchanges ≡ map asked s.exchanges

same_useless : (s : AbstractPool) (g : GroupKey) (wanted_for : Option ExchangeNo) (how : Outcome) (v : Via) → AsksTheSame s (after_useless s g wanted_for how v)
same_useless s g None how via.Direct = refl
same_useless s g (Some e) how via.Direct = edit_kept asked e.0 (ended_if_waiting how) s.exchanges (keeps_ended_if_waiting how)
same_useless s g wanted_for how (via.Alternative p) = refl

same_report : (s : AbstractPool) (conn : ConnNo) (r : Report) → AsksTheSame s (after_report s conn r)
unfolding after_answered
same_report s conn (report.Opened id) =
    by_open (AsksTheSame s) s conn id
    (λ c. by_identity (AsksTheSame s) s conn c.group c.wanted_for id (same_useless s c.group c.wanted_for (outcome.Identity conn) c.group.target.via) refl) refl
same_report s conn (report.Answered r response keep alt proof) = map_kept asked (answered conn r response) s.exchanges (keeps_answered conn r response)
same_report s conn (report.Refused r) = map_kept asked (refused conn r) s.exchanges (keeps_refused conn r)
same_report s conn (report.Reset r code) = map_kept asked (ended_at conn r (outcome.Reset code)) s.exchanges (keeps_ended_at conn r (outcome.Reset code))
same_report s conn (report.TooLarge r) = map_kept asked (ended_at conn r outcome.TooLarge) s.exchanges (keeps_ended_at conn r outcome.TooLarge)
same_report s conn (report.Goaway last) = map_kept asked (left_out conn last) s.exchanges (keeps_left_out conn last)
same_report s conn (report.AltSeen origin alt) = by_alt_seen (AsksTheSame s) s conn origin alt (λ c. refl) refl
same_report s conn _ = refl

same_closed : (s : AbstractPool) (conn : ConnNo) (end : EndCause) (heard : List StreamNo) → AsksTheSame s (after_closed s conn end heard)
same_closed s conn end heard =
    let left : AbstractPool = after_lost s conn end heard in
    let ended : AsksTheSame s left = map_kept asked (lost conn end heard) s.exchanges (keeps_lost conn end heard) in
    by_closed (AsksTheSame s) s conn end heard (λ c. same_useless left c.group c.wanted_for (outcome.DialFault conn) c.group.target.via ∙ ended) ended

abbrev pub IsSubmitting : Act → Type 0
IsSubmitting (Submit ask reply) = Unit {0}
IsSubmitting _ = ⊥

pub same_act : (s : AbstractPool) (who : CallerNo) (act : Act) → (IsSubmitting act → ⊥) → AsksTheSame s (after_act s who act)
unfolding after_cancel after_reprioritise after_preconnect after_resolved after_network after_shut after_dial after_orders after_expire after_lapse after_assign after_evict
same_act s who (Submit ask reply) none = absurd (none tt)
same_act s who (Cancel e cancel.Cancelled) none = edit_kept asked e.0 (ended_by outcome.Cancelled) s.exchanges (λ x. refl)
same_act s who (Reprioritise e urgency change.Changed) none = edit_kept asked e.0 (with_urgency urgency) s.exchanges (λ x. refl)
same_act s who (Preconnect key credentials origin count (preconnect.Opening k)) none = refl
same_act s who (Resolved key host addresses resolved.Noted) none = refl
same_act s who (Shutdown shut.Noted) none = map_kept asked (ended_unless outcome.PoolClosed) s.exchanges (keeps_ended_unless outcome.PoolClosed)
same_act s who (Orders c sent orders) none = map_kept asked (handed_by c orders) s.exchanges (λ x. refl)
same_act s who (Reported c sent r) none = same_report (sent_noted s c sent) c r
same_act s who (Closed c sent end heard) none = same_closed (sent_noted s c sent) c end heard
same_act s who (Expire e) none = edit_kept asked e.0 timed_out s.exchanges keeps_timed_out
same_act s who (Lapse e) none = edit_kept asked e.0 (ended_by outcome.NoAlternative) s.exchanges (λ x. refl)
same_act s who (Assign e c r way) none = edit_kept asked e.0 (with_status (Leased c r way false)) s.exchanges (λ x. refl)
same_act s who (Want e c t) none = by_want (AsksTheSame s) s e t (λ x. refl) refl
same_act s who _ none = refl

-- ---- any entry

-- of an accepted submission
abbrev asked_by : CallerNo → Act → List Asked
asked_by who (Submit ask (submit.Accepted e)) = record { caller = who; ask = unhurried ask } ∷ []
asked_by who _ = []

asked_act : (s : AbstractPool) (who : CallerNo) (act : Act) → map asked (after_act s who act).exchanges ≡ map asked s.exchanges ++ asked_by who act
unfolding after_submit
asked_act s who (Submit ask (submit.Accepted e)) = map-append asked s.exchanges (new_exchange who ask ∷ [])
asked_act s who (Submit ask reply) = sym (append-nil (map asked s.exchanges))
asked_act s who act = same_act s who act (λ k. k) ∙ sym (append-nil (map asked s.exchanges))

asked_after : (s : AbstractPool) (e : Entry) → map asked (after s e).exchanges ≡ map asked s.exchanges ++ asked_by e.who e.act
unfolding after noted
asked_after s e = asked_act (noted s e.moment) e.who e.act

abbrev asked_in : List Entry → List Asked
asked_in h = flat_map (λ (e : Entry). asked_by e.who e.act) h

asked_run_from : (s : AbstractPool) (h : List Entry) → map asked (run_from s h).exchanges ≡ map asked s.exchanges ++ asked_in h
unfolding run_from
asked_run_from s [] = sym (append-nil (map asked s.exchanges))
asked_run_from s (e ∷ h) =
    asked_run_from (after s e) h
    ∙ ap (λ xs. xs ++ asked_in h) (asked_after s e)
    ∙ append_assoc (map asked s.exchanges) (asked_by e.who e.act) (asked_in h)

asked_run : (config : Config) (h : List Entry) → map asked (run config h).exchanges ≡ asked_in h
unfolding run
asked_run config h = asked_run_from (opening config) h

-- ---- the submissions that are read off

asks_by : (who : CallerNo) (act : Act) → map unhurried (accepted_by act) ≡ map (λ (a : Asked). a.ask) (asked_by who act)
asks_by who (Submit ask (submit.Accepted e)) = refl
asks_by who _ = refl

asks_in : (h : List Entry) → map unhurried (submissions_of h) ≡ map (λ (a : Asked). a.ask) (asked_in h)
asks_in [] = refl
asks_in (e ∷ h) =
    map-append unhurried (accepted_by e.act) (submissions_of h)
    ∙ ap (λ xs. xs ++ map unhurried (submissions_of h)) (asks_by e.who e.act)
    ∙ ap (λ xs. map (λ (a : Asked). a.ask) (asked_by e.who e.act) ++ xs) (asks_in h)
    ∙ sym (map-append (λ (a : Asked). a.ask) (asked_by e.who e.act) (asked_in h))

map_twice : {A B C : Type 0} (f : B → C) (g : A → B) (xs : List A) → map f (map g xs) ≡ map (λ x. f (g x)) xs
map_twice f g [] = refl
map_twice f g (x ∷ xs) = ap (λ ys. f (g x) ∷ ys) (map_twice f g xs)

-- the exchanges ask for what was submitted, one by one
asks_run : (config : Config) (h : List Entry) → map unhurried (submissions_of h) ≡ map (λ (x : Exchange). unhurried x.ask) (run config h).exchanges
asks_run config h =
    asks_in h ∙ ap (λ xs. map (λ (a : Asked). a.ask) xs) (sym (asked_run config h)) ∙ map_twice (λ (a : Asked). a.ask) asked (run config h).exchanges

numbered-map : {A B : Type 0} (f : A → B) (xs : List A) (number : ℕ) → numbered number (map f xs) ≡ option_map f (numbered number xs)
unfolding numbered
numbered-map f xs zero = refl
numbered-map f xs (suc k) = numbered_at (map f xs) k ∙ slice_get-map f xs k ∙ ap (option_map f) (sym (numbered_at xs k))

one_of : (o : Option Submission) (p : Option Exchange) → option_map unhurried o ≡ option_map (λ (x : Exchange). unhurried x.ask) p → AreOne o p
one_of None None same = tt
one_of None (Some x) same = absurd cc
one_of (Some ask) None same = absurd cc
one_of (Some ask) (Some x) same =
    let one : unhurried ask ≡ unhurried x.ask = same_Some (unhurried ask) (unhurried x.ask) same in
    sym (ap (λ (a : Submission). record a { urgency = x.ask.urgency }) one)

pub exchanges_are_submissions : ExchangesAreSubmissions
exchanges_are_submissions config h number =
    let s = run config h in
    one_of (numbered number (submissions_of h)) (numbered number s.exchanges)
    (sym (numbered-map unhurried (submissions_of h) number) ∙ ap (λ xs. numbered number xs) (asks_run config h) ∙ numbered-map (λ (x : Exchange). unhurried x.ask) s.exchanges number)

-- ---- the exchange of an accepted submission

last_place : {A : Type 0} (xs : List A) (y : A) → slice_get (xs ++ y ∷ []) (length xs) ≡ Some y
last_place [] y = refl
last_place (x ∷ xs) y = last_place xs y

-- the item behind a list has the number behind its length
numbered_last : {A : Type 0} (xs : List A) (y : A) (number : ℕ) → number ≡ length xs + 1 → numbered number (xs ++ y ∷ []) ≡ Some y
numbered_last xs y number is =
    let e : number ≡ suc (length xs) = omega arith in
    ap (λ k. numbered k (xs ++ y ∷ [])) e ∙ numbered_at (xs ++ y ∷ []) (length xs) ∙ last_place xs y

pub numbered_front : {A : Type 0} (number : ℕ) (xs ys : List A) (x : A) → numbered number xs ≡ Some x → numbered number (xs ++ ys) ≡ Some x
numbered_front number xs ys x is = append_at (λ o p. o ≡ Some x → p ≡ Some x) number xs ys (λ o e. e) (λ i y at e. absurd cc) is

abbrev asks_as : CallerNo → Submission → Asked
asks_as who ask = record { caller = who; ask = unhurried ask }

abbrev IsAskedAt : CallerNo → Submission → ExchangeNo → AbstractPool → Type 0
IsAskedAt who ask e s = numbered e.0 (map asked s.exchanges) ≡ Some (asks_as who ask)

asked_on : (who : CallerNo) (ask : Submission) (e : ExchangeNo) (s : AbstractPool) (x : Entry) → MayStand s x → IsAskedAt who ask e s → IsAskedAt who ask e (after s x)
asked_on who ask e s x stand is = ap (λ xs. numbered e.0 xs) (asked_after s x) ∙ numbered_front e.0 (map asked s.exchanges) (asked_by x.who x.act) (asks_as who ask) is

asked_here : (s : AbstractPool) (x : Entry) (ask : Submission) (e : ExchangeNo) → x.act ≡ Submit ask (submit.Accepted e) → e.0 ≡ length s.exchanges + 1 → IsAskedAt x.who ask e (after s x)
asked_here s x ask e is number =
    ap (λ xs. numbered e.0 xs) (asked_after s x ∙ ap (λ (act : Act). map asked s.exchanges ++ asked_by x.who act) is)
    ∙ numbered_last (map asked s.exchanges) (asks_as x.who ask) e.0 (omega (arith, number, length-map s.exchanges asked))

-- its number is the next one
accepted_number : (s : AbstractPool) (x : Entry) (ask : Submission) (e : ExchangeNo) → x.act ≡ Submit ask (submit.Accepted e) → MayStand s x → e.0 ≡ length s.exchanges + 1
unfolding noted
accepted_number s x ask e is stand = elim stand.legal [
  | inl pools ↦ let due : IsDue s (Submit ask (submit.Accepted e)) = subst (IsDue s) is pools.due in absurd due
  | inr calls ↦ let reply : IsReply (noted s x.moment) x.who (Submit ask (submit.Accepted e)) = subst (IsReply (noted s x.moment) x.who) is calls.reply in reply.2.3
]

as_many : (config : Config) (h : List Entry) → length (submissions_of h) ≡ length (run config h).exchanges
as_many config h =
    sym (length-map (submissions_of h) unhurried)
    ∙ ap (λ xs. length xs) (asks_run config h)
    ∙ length-map (run config h).exchanges (λ (x : Exchange). unhurried x.ask)

one_more : (h : List Entry) (n : ℕ) (x : Entry) (ask : Submission) (e : ExchangeNo) → slice_get h n ≡ Some x → x.act ≡ Submit ask (submit.Accepted e) →
    length (submissions_of (take (n + 1) h)) ≡ length (submissions_of (take n h)) + 1
one_more h n x ask e is_entry is =
    ap (λ es. length (submissions_of es)) (take_entry h n x is_entry)
    ∙ ap (λ xs. length xs) (flat_map-append (λ (y : Entry). accepted_by y.act) (take n h) (x ∷ []))
    ∙ ap (λ (act : Act). length (submissions_of (take n h) ++ (accepted_by act ++ []))) is
    ∙ length_push (submissions_of (take n h)) ask

asked_of : (o : Option Exchange) (who : CallerNo) (ask : Submission) → option_map asked o ≡ Some (asks_as who ask) →
    IsSomeAnd o (λ x. x.caller ≡ who) × IsSomeAnd o (AsksFor ask)
asked_of None who ask same = absurd cc
asked_of (Some x) who ask same =
    let one : asked x ≡ asks_as who ask = same_Some (asked x) (asks_as who ask) same in
    (ap (λ (a : Asked). a.caller) one, ap (λ (a : Asked). record a.ask { urgency = x.ask.urgency }) one)

pub accepted_ones_are_exchanges : AcceptedOnesAreExchanges
accepted_ones_are_exchanges config h n m x ask e comes is later =
    let s : AbstractPool = state_at config h n in
    let next = accepted_number s x ask e is (comes.history.each n x comes.is_entry) in
    let here : IsAskedAt x.who ask e (state_at config h (n + 1)) = subst (IsAskedAt x.who ask e) (sym (state_after config h n x comes.is_entry)) (asked_here s x ask e is next) in
    let there : IsAskedAt x.who ask e (state_at config h m) = state_later config h (n + 1) m (IsAskedAt x.who ask e) comes.history (asked_on x.who ask e) (omega arith) here in
    let parts = asked_of (numbered e.0 (state_at config h m).exchanges) x.who ask (sym (numbered-map asked (state_at config h m).exchanges e.0) ∙ there) in
    record {
      number = omega (arith, next, as_many config (take n h), one_more h n x ask e comes.is_entry is);
      caller = parts.0;
      asks = parts.1;
    }
