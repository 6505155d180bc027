-- What one entry leaves of what callers hold of one connection.
use Rattle.std.proofs.Common.{[], ◌≡◌, ℕ, List, Option, Some, None, Bool, true, false, cond, refl, sym, ap, subst, ◌∙◌, IsSomeAnd}
use Rattle.std.specs.Prelude.{◌==◌, ◌&&◌, ◌||◌}
use Rattle.std.proofs.lemmas.Bool.{eq-eqb, ne_eqb, cond-true, cond-false, cond_both, and_right, both_ways, false_from_ne_true}
use Rattle.net_base.specs.declared.end_cause.EndCause.{EndCause}
use Rattle.net_base.specs.declared.numbers.CallerNo.{CallerNo}
use Rattle.net_base.specs.declared.numbers.ConnNo.{ConnNo}
use Rattle.net_base.specs.declared.numbers.StreamNo.{StreamNo}
use Rattle.net_base.specs.declared.target.Target.{Target}
use Rattle.model_changes.specs.Connections.{dialing_by, with_taken, with_sent}
use Rattle.model_histories.proofs.EffectLemmas.{OneBecomes, one_at}
use Rattle.model_histories.proofs.KeepLemmas.{Keeps, keeps_up, new_untouched, KeptAt, kept_refl}
use Rattle.model_histories.proofs.LeaseLemmas.{IsUp}
use Rattle.model_histories.proofs.OwnLemmas.{MayWorkBy, IsReportedIn, IsGivenUp, busy_live}
use Rattle.model_histories.specs.Port.{Held, is_opening_report, held_after}
use Rattle.model_histories.specs.Working.{works_on, holding, held_of}
use Rattle.model_authority.proofs.PhaseLemmas.{follows, excludes}
use Rattle.model_authority.specs.Lists.{numbered}
use Rattle.model_authority.specs.Statuses.{is_wanted, is_dialing, is_busy, is_opening}
use Rattle.model_values.specs.declared.entry.Act.{Act}
use Rattle.model_values.specs.declared.entry.Act.TheVariants.{Dial, Orders, Reported, Closed}
use Rattle.model_values.specs.declared.order.OrderMark.{OrderMark}
use Rattle.model_values.specs.declared.report.Report.{Report}
use Rattle.model_values.specs.declared.state.Connection.{Connection}
use Rattle.model_values.specs.declared.state.Phase.{Phase}

-- nothing was sent on a connection that nobody has dialed, and nothing started
abbrev pub IsFresh : Option Connection → Type 0
IsFresh None = Unit {0}
IsFresh (Some c) = is_wanted c.phase ≡ true → (c.sent ≡ 0) × (c.started ≡ [])

-- the connection is there, and somebody has dialed it
abbrev pub IsDialed : Option Connection → Type 0
IsDialed None = ⊥
IsDialed (Some c) = is_wanted c.phase ≡ false

-- what this caller's act makes of the connection of this number: what the caller holds of it is what the act leaves, what
-- others hold stays, and so does what is known of it
pub record Goes (who : CallerNo) (act : Act) (n : ℕ) (o p : Option Connection) : Type 0 where
  pub held : (w : CallerNo) (c : ConnNo) → c.0 ≡ n → held_of w p ≡ cond (who.0 == w.0) (held_after c (held_of w o) act) (held_of w o)
  pub fresh : IsFresh o → IsFresh p
  pub up : IsUp o → IsUp p
  pub dialed : IsDialed o → IsDialed p

-- the act is no worker's of the connection of this number
abbrev pub IsApart : Act → ℕ → Type 0
IsApart act n = (c : ConnNo) (h : Option Held) → c.0 ≡ n → held_after c h act ≡ h

-- ---- a connection that the act isn't about

abbrev held_as : ℕ → Bool → List StreamNo → Option Held
held_as sent opened started = Some (record { sent = sent; opened = opened; started = started })

abbrev none_held : Option Held
none_held = None

held_same : (s t : ℕ) (a b : Bool) (xs ys : List StreamNo) (r q : Bool) → s ≡ t → a ≡ b → xs ≡ ys → r ≡ q → cond r (held_as s a xs) None ≡ cond q (held_as t b ys) None
held_same s t a b xs ys r q e f g h = cc

held_keeps : (w : CallerNo) (x y : Connection) → Keeps x y → held_of w (Some y) ≡ held_of w (Some x)
held_keeps w x y k =
    let caller : (y.caller.0 == w.0) ≡ (x.caller.0 == w.0) = ap (λ (c : CallerNo). c.0 == w.0) k.caller in
    let live : (is_dialing y.phase || is_busy y.phase) ≡ (is_dialing x.phase || is_busy x.phase) = ap (λ b. b || is_busy y.phase) k.dialing ∙ ap (λ b. is_dialing x.phase || b) k.busy in
    let works : works_on w y ≡ works_on w x = ap (λ b. b && (is_dialing y.phase || is_busy y.phase)) caller ∙ ap (λ b. (x.caller.0 == w.0) && b) live in
    held_same y.sent x.sent (is_busy y.phase) (is_busy x.phase) y.started x.started (works_on w y) (works_on w x) k.sent k.busy k.started works

-- nobody holds a connection that is neither dialed nor open, draining or closing
held_none : (w : CallerNo) (c : Connection) → (is_dialing c.phase || is_busy c.phase) ≡ false → held_of w (Some c) ≡ None
held_none w c idle = cond-false (works_on w c) (Some (holding c)) None (and_right (c.caller.0 == w.0) (is_dialing c.phase || is_busy c.phase) idle)

held_kept : (w : CallerNo) (o p : Option Connection) → KeptAt o p → held_of w p ≡ held_of w o
held_kept w None None k = refl
held_kept w None (Some y) k = held_none w y (excludes is_wanted (λ p. is_dialing p || is_busy p) refl y.phase (new_untouched y k).0)
held_kept w (Some x) None k = absurd k
held_kept w (Some x) (Some y) k = held_keeps w x y k

fresh_kept : (o p : Option Connection) → KeptAt o p → IsFresh o → IsFresh p
fresh_kept None None k f = tt
fresh_kept None (Some y) k f = λ w. let new = new_untouched y k in (new.1, new.2)
fresh_kept (Some x) None k f = absurd k
fresh_kept (Some x) (Some y) k f = λ w. let g = f (k.wanted w) in (k.sent ∙ g.0, k.started ∙ g.1)

up_kept : (o p : Option Connection) → KeptAt o p → IsUp o → IsUp p
up_kept None None k u = absurd u
up_kept None (Some y) k u = absurd u
up_kept (Some x) None k u = absurd k
up_kept (Some x) (Some y) k u = keeps_up x y k u

dialed_kept : (o p : Option Connection) → KeptAt o p → IsDialed o → IsDialed p
dialed_kept None p k d = absurd d
dialed_kept (Some x) None k d = absurd k
dialed_kept (Some x) (Some y) k d = false_from_ne_true (is_wanted y.phase) (λ w. both_ways (is_wanted x.phase) d (k.wanted w))

pub kept_goes : (who : CallerNo) (act : Act) (n : ℕ) (o p : Option Connection) → IsApart act n → KeptAt o p → Goes who act n o p
kept_goes who act n o p apart k = record {
  held = λ w c is_number.
      held_kept w o p k
      ∙ cond_both (who.0 == w.0) (held_after c (held_of w o) act) (held_of w o) (λ (h : Option Held). held_of w o ≡ h)
      (λ t. sym (apart c (held_of w o) is_number)) (λ f. refl);
  fresh = fresh_kept o p k;
  up = up_kept o p k;
  dialed = dialed_kept o p k;
}

-- ---- the connection that the act is about

-- the act changes one connection, which is as asked, and each other stays
pub one_goes : (who : CallerNo) (act : Act) (number : ℕ) (R : Connection → Connection → Type 0) (Q : Connection → Type 0) (xs ys : List Connection) → OneBecomes R number xs ys →
    IsSomeAnd (numbered number xs) Q → ((n : ℕ) → (n ≡ number → ⊥) → IsApart act n) →
    ((x y : Connection) → numbered number xs ≡ Some x → Q x → R x y → Goes who act number (Some x) (Some y)) → (n : ℕ) → Goes who act n (numbered n xs) (numbered n ys)
one_goes who act number R Q xs ys one fit apart here =
    one_at (Goes who act) R number xs ys one (λ n o other. kept_goes who act n o o (apart n other) (kept_refl o)) (λ e. absurd (at None e))
    (λ x y e r. here x y e (at (Some x) e) r)
  where
    at : (o : Option Connection) → numbered number xs ≡ o → IsSomeAnd o Q
    at o e = subst (λ p. IsSomeAnd p Q) e fit

apart_by : {A : Type 0} (conn c : ConnNo) (n : ℕ) (x y : A) → (n ≡ conn.0 → ⊥) → c.0 ≡ n → cond (conn.0 == c.0) x y ≡ y
apart_by conn c n x y other e = cond-false (conn.0 == c.0) x y (ne_eqb conn.0 c.0 (λ s. other (sym e ∙ sym s)))

here_by : {A : Type 0} (conn c : ConnNo) (x y : A) → c.0 ≡ conn.0 → cond (conn.0 == c.0) x y ≡ x
here_by conn c x y e = cond-true (conn.0 == c.0) x y (eq-eqb conn.0 c.0 (sym e))

-- where the caller works on the connection, and nobody else does, it holds what its own act leaves, and nobody else anything
held_own : (b works : Bool) (h : Held) (left q : Option Held) (g : Option Held → Option Held) → works ≡ b → g (Some h) ≡ left → q ≡ cond b left None →
    q ≡ cond b (g (cond works (Some h) None)) (cond works (Some h) None)
held_own true true h left q g e l k = k ∙ sym l
held_own false false h left q g e l k = k
held_own true false h left q g e l k = absurd cc
held_own false true h left q g e l k = absurd cc

and_true : (b : Bool) → (b && true) ≡ b
and_true true = refl
and_true false = refl

works_own : (w who : CallerNo) (c : Connection) → c.caller ≡ who → (is_dialing c.phase || is_busy c.phase) ≡ true → works_on w c ≡ (who.0 == w.0)
works_own w who c caller live =
    ap (λ b. (c.caller.0 == w.0) && b) live ∙ and_true (c.caller.0 == w.0) ∙ ap (λ (k : CallerNo). k.0 == w.0) caller

-- the worker holds what its act leaves, where the connection stays opened
worked_held : (who w : CallerNo) (c : ConnNo) (act : Act) (x y : Connection) → x.caller ≡ who → y.caller ≡ who → (is_dialing x.phase || is_busy x.phase) ≡ true → is_busy y.phase ≡ true →
    held_after c (Some (holding x)) act ≡ Some (holding y) → held_of w (Some y) ≡ cond (who.0 == w.0) (held_after c (held_of w (Some x)) act) (held_of w (Some x))
worked_held who w c act x y before later live busy left =
    held_own (who.0 == w.0) (works_on w x) (holding x) (Some (holding y)) (held_of w (Some y)) (λ h. held_after c h act) (works_own w who x before live) left
    (ap (λ b. cond b (Some (holding y)) None) (works_own w who y later (busy_live y.phase busy)))

busy_fresh : (y : Connection) → is_busy y.phase ≡ true → IsFresh (Some y)
busy_fresh y busy w = absurd (both_ways (is_wanted y.phase) (excludes is_busy is_wanted refl y.phase busy) w)

-- ---- dialing

dial_held : (b : Bool) (sent : ℕ) (started : List StreamNo) (o h : Option Held) → sent ≡ 0 → started ≡ [] → o ≡ None →
    h ≡ held_as 0 false [] → cond (b && true) (held_as sent false started) None ≡ cond b h o
dial_held true sent started o h e f g k = cc
dial_held false sent started o h e f g k = sym g

pub dial_goes : (who : CallerNo) (conn : ConnNo) (target : Target) (x : Connection) → is_wanted x.phase ≡ true → IsFresh (Some x) →
    Goes who (Dial conn target) conn.0 (Some x) (Some (dialing_by who x))
dial_goes who conn target x wanted fresh = record {
  held = λ w c e.
      let none : held_of w (Some x) ≡ None = held_none w x (excludes is_wanted (λ p. is_dialing p || is_busy p) refl x.phase wanted) in
      let f = fresh wanted in
      dial_held (who.0 == w.0) x.sent x.started (held_of w (Some x)) (held_after c (held_of w (Some x)) (Dial conn target)) f.0 f.1 none
      (here_by conn c (held_as 0 false []) (held_of w (Some x)) e);
  fresh = λ f w. absurd cc;
  up = λ u. absurd (both_ways (is_opening x.phase) u (follows is_wanted is_opening refl x.phase wanted));
  dialed = λ d. refl;
}

-- ---- orders, reports and the end

pub orders_goes : (who : CallerNo) (conn : ConnNo) (sent : ℕ) (orders : List OrderMark) (x : Connection) → x.caller ≡ who → is_busy x.phase ≡ true →
    Goes who (Orders conn sent orders) conn.0 (Some x) (Some (with_taken orders (with_sent sent x)))
orders_goes who conn sent orders x caller busy =
    let y : Connection = with_taken orders (with_sent sent x) in
    record {
      held = λ w c e.
          worked_held who w c (Orders conn sent orders) x y caller caller (busy_live x.phase busy) busy
          (here_by conn c (Some (holding y)) (Some (holding x)) e);
      fresh = λ f. busy_fresh y busy;
      up = λ u. u;
      dialed = λ d. d;
    }

pub report_phase : (d b opens : Bool) → cond opens d b ≡ true → ((d || b) ≡ true) × ((b || opens) ≡ true)
report_phase true true true h = (refl, refl)
report_phase true false true h = (refl, refl)
report_phase false b true h = absurd cc
report_phase true true false h = (refl, refl)
report_phase false true false h = (refl, refl)
report_phase d false false h = absurd cc

held_left : (s t : ℕ) (a b : Bool) (xs ys : List StreamNo) → s ≡ t → a ≡ b → xs ≡ ys → held_as s a xs ≡ held_as t b ys
held_left s t a b xs ys e f g = cc

pub report_goes : (who : CallerNo) (conn : ConnNo) (sent : ℕ) (r : Report) (x y : Connection) → x.caller ≡ who → IsReportedIn x.phase r → MayWorkBy (with_sent sent x) y →
    Goes who (Reported conn sent r) conn.0 (Some x) (Some y)
report_goes who conn sent r x y caller reported worked =
    let phase = report_phase (is_dialing x.phase) (is_busy x.phase) (is_opening_report r) reported in
    record {
      held = λ w c e.
          worked_held who w c (Reported conn sent r) x y caller (worked.caller ∙ caller) phase.0 worked.busy
          (here_by conn c (held_as sent (is_busy x.phase || is_opening_report r) x.started) (Some (holding x)) e
          ∙ held_left sent y.sent (is_busy x.phase || is_opening_report r) (is_busy y.phase) x.started y.started (sym worked.sent) (phase.1 ∙ sym worked.busy) (sym worked.started));
      fresh = λ f. busy_fresh y worked.busy;
      up = λ u. excludes is_busy is_opening refl y.phase worked.busy;
      dialed = λ d. excludes is_busy is_wanted refl y.phase worked.busy;
    }

none_both : (b : Bool) → none_held ≡ cond b None None
none_both true = refl
none_both false = refl

pub closed_goes : (who : CallerNo) (conn : ConnNo) (sent : ℕ) (end : EndCause) (heard : List StreamNo) (x y : Connection) → x.caller ≡ who → (is_dialing x.phase || is_busy x.phase) ≡ true →
    IsGivenUp x y → Goes who (Closed conn sent end heard) conn.0 (Some x) (Some y)
closed_goes who conn sent end heard x y caller live given_up = record {
  held = λ w c e.
      held_own (who.0 == w.0) (works_on w x) (holding x) None (held_of w (Some y)) (λ h. held_after c h (Closed conn sent end heard)) (works_own w who x caller live)
      (here_by conn c None (Some (holding x)) e)
      (held_none w y (ap (λ (p : Phase). is_dialing p || is_busy p) given_up) ∙ none_both (who.0 == w.0));
  fresh = λ f w. let e : is_wanted y.phase ≡ false = ap (λ (p : Phase). is_wanted p) given_up in absurd cc;
  up = λ u. ap (λ (p : Phase). is_opening p) given_up;
  dialed = λ d. ap (λ (p : Phase). is_wanted p) given_up;
}

-- ---- the other connections

pub dial_apart : (conn : ConnNo) (target : Target) (n : ℕ) → (n ≡ conn.0 → ⊥) → IsApart (Dial conn target) n
dial_apart conn target n other c h e = apart_by conn c n _ h other e

pub orders_apart : (conn : ConnNo) (sent : ℕ) (orders : List OrderMark) (n : ℕ) → (n ≡ conn.0 → ⊥) → IsApart (Orders conn sent orders) n
orders_apart conn sent orders n other c h e = apart_by conn c n _ h other e

pub report_apart : (conn : ConnNo) (sent : ℕ) (r : Report) (n : ℕ) → (n ≡ conn.0 → ⊥) → IsApart (Reported conn sent r) n
report_apart conn sent r n other c h e = apart_by conn c n _ h other e

pub closed_apart : (conn : ConnNo) (sent : ℕ) (end : EndCause) (heard : List StreamNo) (n : ℕ) → (n ≡ conn.0 → ⊥) → IsApart (Closed conn sent end heard) n
closed_apart conn sent end heard n other c h e = apart_by conn c n _ h other e
