-- What each act that may stand leaves of each connection.
use Rattle.std.proofs.Common.{◌≡◌, ℕ, Option, Some, None, Bool, true, false, refl, sym, ap, subst, is_some, IsSome, IsTrue, IsSomeAnd}
use Rattle.std.proofs.lemmas.Bool.{eq-eqb, both_ways, false_from_ne_true}
use Rattle.net_base.specs.declared.numbers.CallerNo.{CallerNo}
use Rattle.net_base.specs.declared.numbers.ExchangeNo.{ExchangeNo}
use Rattle.model_changes.specs.Connections.{with_start, gone, with_sent}
use Rattle.model_laws.proofs.FitLemmas.{closes, same_item, IsWaitingAt, Gives, IsFit}
use Rattle.model_laws.proofs.StayLemmas.{Turns, turns_leaves, turns_from, turns_dialing, turns_opened, turns_with_start, TurnsAt}
use Rattle.model_laws.specs.Sound.{IsShutDown}
use Rattle.model_histories.proofs.EffectLemmas.{leaves_same, IsReported, conn_of, Changes, IsAdding, effect_at}
use Rattle.model_histories.specs.Legal.{MayReport}
use Rattle.model_steps.specs.After.{after_act}
use Rattle.model_authority.proofs.NumberLemmas.{value_and}
use Rattle.model_authority.proofs.PhaseLemmas.{stage_most}
use Rattle.model_authority.specs.Lists.{numbered}
use Rattle.model_authority.specs.Statuses.{is_waiting, has_ended, is_wanted}
use Rattle.model_values.specs.declared.entry.Act.{Act}
use Rattle.model_values.specs.declared.entry.Act.TheVariants.{Preconnect, Dial, Orders, Reported, Closed, Assign, Want}
use Rattle.model_values.specs.declared.reply.PreconnectReply.TheVariants as preconnect
use Rattle.model_values.specs.declared.report.Report.{Report}
use Rattle.model_values.specs.declared.report.Report.TheVariants as report
use Rattle.model_values.specs.declared.state.AbstractPool.{AbstractPool}
use Rattle.model_values.specs.declared.state.Connection.{Connection}
use Rattle.model_values.specs.declared.state.Status.{Status}
use Rattle.model_values.specs.declared.state.Status.TheVariants.{Waiting, Leased, Ended}

-- ---- a pool that was shut down

-- where this is claimed the pool was shut down, and all has ended
abbrev pub IsClaim : Bool → AbstractPool → Type 0
IsClaim shut s = shut ≡ true → IsSome s.shutdown × IsShutDown s

pub no_claim : (s : AbstractPool) → IsClaim false s
no_claim s h = absurd cc

some_not_none : (o : Option ℕ) → IsSome o → o ≡ None → ⊥
some_not_none o h e = let none : is_some o ≡ false = ap (λ (p : Option ℕ). is_some p) e in both_ways (is_some o) none h

-- what is answered by a pool that wasn't shut down
pub not_shut : (shut : Bool) (s : AbstractPool) → IsClaim shut s → s.shutdown ≡ None → shut ≡ false
not_shut shut s claim none = false_from_ne_true shut (λ h. some_not_none s.shutdown (claim h).0 none)

waiting_goes_on : (status : Status) → is_waiting status ≡ true → has_ended status ≡ true → ⊥
waiting_goes_on Waiting w h = absurd cc
waiting_goes_on (Leased c r by handed) w h = absurd cc
waiting_goes_on (Ended how) w h = absurd cc

-- none waits in a pool that was shut down
pub none_waits : (shut : Bool) (s : AbstractPool) (e : ExchangeNo) → IsClaim shut s → IsWaitingAt s e → shut ≡ false
none_waits shut s e claim waits =
    let v = value_and (numbered e.0 s.exchanges) (λ x. IsTrue (is_waiting x.status)) waits in
    false_from_ne_true shut (λ h. waiting_goes_on v.0.status v.2 ((claim h).1.ended e.0 v.0 v.1))

-- ---- one connection

turns_taken : (shut closes : Bool) (x y : Connection) → y.phase ≡ x.phase → y.next_stream ≡ x.next_stream → Turns shut closes x y
turns_taken shut closes x y phase next = turns_from shut closes x y y phase next (turns_leaves shut closes y y (leaves_same y))

turns_reported : (shut : Bool) (s : AbstractPool) (sent : ℕ) (r : Report) (x y : Connection) → (shut ≡ true → IsSome s.shutdown) → MayReport x r → IsReported s r (with_sent sent x) y →
    Turns shut false x y
turns_reported shut s sent (report.Opened id) x y claim may is =
    let z : Connection = with_sent sent x in
    turns_from shut false x z y refl refl (subst (Turns shut false z) (sym is) (turns_opened shut false (is_some s.shutdown) s.latest id z may claim))
turns_reported shut s sent r x y claim may is = turns_from shut false x (with_sent sent x) y refl refl (turns_leaves shut false (with_sent sent x) y is)

turns_gone : (shut : Bool) (sent : ℕ) (x : Connection) → Turns shut true x (gone (with_sent sent x))
turns_gone shut sent x = record {
  forward = stage_most x.phase;
  final = λ h. refl;
  busy = λ f. absurd cc;
  next = λ f. absurd cc;
  down = λ t h. refl;
}

-- ---- any act

pub at_item : (P : Connection → Type 0) (o : Option Connection) (x : Connection) → IsSomeAnd o P → o ≡ Some x → P x
at_item P o x h is_item = subst (λ p. IsSomeAnd p P) is_item h

turned_change : (shut : Bool) (s : AbstractPool) (who : CallerNo) (act : Act) → IsClaim shut s → IsFit s act →
    (x y : Connection) → numbered (conn_of act) s.connections ≡ Some x → Changes s who act x y → Turns shut (closes act (conn_of act)) x y
turned_change shut s who (Dial c target) claim fit x y is_item is =
    subst (Turns shut false x) (sym is) (turns_dialing shut false who x (at_item (λ z. IsTrue (is_wanted z.phase)) (numbered c.0 s.connections) x fit is_item))
turned_change shut s who (Orders c sent orders) claim fit x y is_item is = turns_taken shut false x y (ap (λ (z : Connection). z.phase) is) (ap (λ (z : Connection). z.next_stream) is)
turned_change shut s who (Reported c sent r) claim fit x y is_item is =
    turns_reported shut s sent r x y (λ h. (claim h).0) (at_item (λ z. MayReport z r) (numbered c.0 s.connections) x fit is_item) is
turned_change shut s who (Closed c sent cause heard) claim fit x y is_item is =
    subst (λ b. Turns shut b x y) (sym (eq-eqb c.0 c.0 refl)) (subst (Turns shut true x) (sym is) (turns_gone shut sent x))
turned_change shut s who (Assign e c r by) claim fit x y is_item is =
    let f : Connection → Connection = with_start s.config.last_stream e r in
    let gives : Gives s c r = fit.1 in
    subst (Turns shut false x) (sym is)
    (subst (λ z. Turns shut false z (f z)) (same_item (numbered c.0 s.connections) gives.connection x gives.is_connection is_item)
    (turns_with_start shut false s.config.last_stream e r gives.connection gives.opened gives.next))
turned_change shut s who act claim fit x y is_item is = turns_leaves shut (closes act (conn_of act)) x y is

-- a pool that was shut down adds none
adds_unshut : (shut : Bool) (s : AbstractPool) (act : Act) → IsClaim shut s → IsFit s act → IsAdding act → shut ≡ false
adds_unshut shut s (Preconnect key credentials origin count (preconnect.Opening k)) claim fit adds = not_shut shut s claim fit.0
adds_unshut shut s (Want e c target) claim fit adds = none_waits shut s e claim fit
adds_unshut shut s _ claim fit adds = absurd adds

pub turned_act : (shut : Bool) (s : AbstractPool) (who : CallerNo) (act : Act) → IsClaim shut s → IsFit s act →
    (n : ℕ) → TurnsAt shut (closes act n) (numbered n s.connections) (numbered n (after_act s who act).connections)
turned_act shut s who act claim fit =
    effect_at (λ n. TurnsAt shut (closes act n)) s who act (λ n. tt) (λ n x y k. turns_leaves shut (closes act n) x y k) (λ adds n y new. adds_unshut shut s act claim fit adds)
    (turned_change shut s who act claim fit)
