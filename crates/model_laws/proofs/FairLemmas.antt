-- What holds of a connection whose worker keeps its word, and what a change that treats its streams so leaves of that.
use Rattle.std.proofs.Common.{[], ◌≡◌, ◌∷◌, ◌⊎◌, ◌≤◌, ℕ, List, Option, Some, None, Bool, true, false, inl, inr, refl, sym, ap, subst, ◌∙◌, arith, IsTrue, Contains, length}
use Rattle.std.specs.Prelude.{◌==◌, not}
use Rattle.std.proofs.lemmas.Bool.{both_ways, false_from_ne_true, not_from_true, eq-eqb}
use Rattle.std.proofs.lemmas.List.Elements.{Contains-push_cases}
use Rattle.net_base.specs.declared.numbers.CallerNo.{CallerNo}
use Rattle.net_base.specs.declared.numbers.ConnNo.{ConnNo}
use Rattle.net_base.specs.declared.numbers.StreamNo.{StreamNo}
use Rattle.net_base.specs.declared.target.Proto.TheVariants.{H2}
use Rattle.model_laws.proofs.DoneLemmas.{IsPast, IsDone, done_act}
use Rattle.model_laws.proofs.FitLemmas.{IsFit}
use Rattle.model_laws.proofs.FreeLemmas.{AreFree}
use Rattle.model_laws.proofs.PendingLemmas.{none_there}
use Rattle.model_laws.proofs.ReleaseLemmas.{HasLease, IsGiven, releases_act}
use Rattle.model_laws.proofs.TreatLemmas.{is_through, Treats}
use Rattle.model_laws.proofs.TurnLemmas.{no_claim, at_item}
use Rattle.model_laws.specs.OverLaws.{orders_given, reports_end, KeepsItsWord}
use Rattle.model_laws.specs.Sound.{Carries, LeasesAreCarried, LeasesAreApart, StartedAreSent, HasStreamsInOrder, GivesStreamsInOrder}
use Rattle.model_laws.specs.StartLaws.{IsOpenedWith}
use Rattle.model_histories.proofs.EffectLemmas.{IsNew}
use Rattle.model_histories.specs.Reading.{Own, is_about}
use Rattle.model_steps.specs.After.{after_act}
use Rattle.model_authority.proofs.NumberLemmas.{value_and}
use Rattle.model_authority.proofs.PhaseLemmas.{excludes}
use Rattle.model_authority.specs.Lists.{numbered}
use Rattle.model_authority.specs.Statuses.{is_closing, is_busy, is_opening, is_at, is_h2, shows, speaks_h2}
use Rattle.model_values.specs.declared.config.Config.{Config}
use Rattle.model_values.specs.declared.entry.Act.{Act}
use Rattle.model_values.specs.declared.entry.Act.TheVariants.{Orders, Assign}
use Rattle.model_values.specs.declared.order.Order.TheVariants as order
use Rattle.model_values.specs.declared.order.OrderMark.{OrderMark}
use Rattle.model_values.specs.declared.order.OrderMark.TheVariants as mark
use Rattle.model_values.specs.declared.state.AbstractPool.{AbstractPool}
use Rattle.model_values.specs.declared.state.Connection.{Connection}
use Rattle.model_values.specs.declared.state.Exchange.{Exchange}

-- ---- a connection

-- one of these entries reports that the stream has ended
pub record WasReported (c : ConnNo) (r : StreamNo) (own : List Own) : Type 0 where
  pub entry : Own
  pub is_entry : Contains own entry
  pub ends : IsTrue (reports_end c r entry.entry.act)

-- each lease on it is on a live stream; no exchange has one on a stream that is to be reset, or has any on it where it closes, as it
-- does where Close is among its orders; its worker has said that it speaks HTTP/2 where it does; and on HTTP/1.1 each stream that was
-- started and isn't live was reported to have ended
pub record Holds (c : ConnNo) (own : List Own) (s : AbstractPool) (y : Connection) : Type 0 where
  pub live : (n : ℕ) (r : StreamNo) → HasLease c r (numbered n s.exchanges) → Contains y.live r
  pub reset : (r : StreamNo) → Contains y.orders (mark.Reset r) → IsDone c r s
  pub closing : is_closing y.phase ≡ true → (r : StreamNo) → AreFree c r s.exchanges
  pub close : Contains y.orders mark.Close → is_through y.phase ≡ true
  pub speaks : speaks_h2 y ≡ true → IsOpenedWith c H2 own
  pub ran_out : speaks_h2 y ≡ false → is_through y.phase ≡ false → (r : StreamNo) → Contains y.started r → Contains y.live r ⊎ WasReported c r own

abbrev pub HoldsAt : ConnNo → List Own → AbstractPool → Option Connection → Type 0
HoldsAt c own s None = Unit {0}
HoldsAt c own s (Some y) = Holds c own s y

-- no exchange has a lease on a stream whose reset was ordered by these entries
abbrev pub Said : ConnNo → List Own → AbstractPool → Type 0
Said c own s = (r : StreamNo) → Contains (orders_given c own) (order.Reset r) → IsDone c r s

-- what is used here of a sound state
pub record Rests (config : Config) (s : AbstractPool) : Type 0 where
  pub carried : LeasesAreCarried s
  pub apart : LeasesAreApart s
  pub sent : StartedAreSent s
  pub orderly : (number : ℕ) (y : Connection) → numbered number s.connections ≡ Some y → HasStreamsInOrder config y
  pub given : (number : ℕ) (y : Connection) → numbered number s.connections ≡ Some y → GivesStreamsInOrder config y

-- ---- streams

-- of at most one stream any two are one
pub one_live : (rs : List StreamNo) (r t : StreamNo) → length rs ≤ 1 → Contains rs r → Contains rs t → t ≡ r
one_live [] r t few h k = absurd (none_there r h)
one_live (u ∷ []) r t few h k = elim (Contains-push_cases [] u r h) [
  | inl none ↦ absurd (none_there r none)
  | inr first ↦ elim (Contains-push_cases [] u t k) [
    | inl none ↦ absurd (none_there t none)
    | inr second ↦ sym second ∙ first
  ]
]
one_live (u ∷ v ∷ rs) r t few h k = absurd (omega arith)

-- ---- an act

-- the act takes an order to reset the stream
pub record TakesReset (c : ConnNo) (r : StreamNo) (act : Act) : Type 0 where
  pub sent : ℕ
  pub orders : List OrderMark
  pub is_orders : act ≡ Orders c sent orders
  pub has : Contains orders (mark.Reset r)

-- behind the act the caller's entries are these, and one about the connection keeps its word
pub record Says (c : ConnNo) (own next : List Own) (act : Act) : Type 0 where
  pub more : (o : Own) → Contains own o → Contains next o
  pub resets : (r : StreamNo) → Contains (orders_given c next) (order.Reset r) → Contains (orders_given c own) (order.Reset r) ⊎ TakesReset c r act
  pub word : IsTrue (is_about c act) → (o : Own) × (o.entry.act ≡ act) × Contains next o × KeepsItsWord c own o

-- no lease on the connection is new, what is done stays so, and no entry is lost
pub record Goes (c : ConnNo) (own next : List Own) (s t : AbstractPool) : Type 0 where
  pub leases : (n : ℕ) (r : StreamNo) → HasLease c r (numbered n t.exchanges) → HasLease c r (numbered n s.exchanges)
  pub done : (r : StreamNo) → IsDone c r s → IsDone c r t
  pub more : (o : Own) → Contains own o → Contains next o

-- the act gives a lease on the connection
abbrev pub gives_on : ConnNo → Act → Bool
gives_on c (Assign e conn r by) = conn.0 == c.0
gives_on c _ = false

not_given : (act : Act) (n : ℕ) (c : ConnNo) (r : StreamNo) → gives_on c act ≡ false → IsGiven act n c r → ⊥
not_given act n c r none g =
    let other : (g.conn.0 == c.0) ≡ false = ap (gives_on c) (sym g.is_assign) ∙ none in
    both_ways (g.conn.0 == c.0) other (eq-eqb g.conn.0 c.0 (sym g.is_conn))

pub goes_act : (s : AbstractPool) (who : CallerNo) (act : Act) (c : ConnNo) (own next : List Own) → IsFit s act → gives_on c act ≡ false → Says c own next act →
    Goes c own next s (after_act s who act)
goes_act s who act c own next fit none says = record {
  leases = λ n r h. elim ((releases_act false s who act (no_claim s) fit n).leases c r h) [
    | inl was ↦ was.0
    | inr g ↦ absurd (not_given act n c r none g)
  ];
  done = λ r done. done_act s who act c r fit done;
  more = says.more;
}

pub reported_more : (c : ConnNo) (r : StreamNo) (own next : List Own) → ((o : Own) → Contains own o → Contains next o) → WasReported c r own → WasReported c r next
reported_more c r own next more was = record { entry = was.entry; is_entry = more was.entry was.is_entry; ends = was.ends }

pub opened_more : (c : ConnNo) (own next : List Own) → ((o : Own) → Contains own o → Contains next o) → IsOpenedWith c H2 own → IsOpenedWith c H2 next
opened_more c own next more was =
    record { entry = was.entry; is_entry = more was.entry was.is_entry; sent = was.sent; identity = was.identity; opens = was.opens; speaks = was.speaks }

-- ---- behind a change

-- one that drops streams without leases, resets those that are done, and shuts where there are no leases
pub holds_treated : (drops resets : StreamNo → Type 0) (shuts : Type 0) (c : ConnNo) (own next : List Own) (s t : AbstractPool) (x y : Connection) →
    Goes c own next s t → Treats drops resets shuts x y → ((r : StreamNo) → drops r → AreFree c r t.exchanges) → ((r : StreamNo) → resets r → IsDone c r t) →
    (shuts → (r : StreamNo) → AreFree c r t.exchanges) →
    ((r : StreamNo) → speaks_h2 x ≡ false → is_through y.phase ≡ false → Contains x.started r → Contains x.live r → drops r → Contains y.live r ⊎ WasReported c r next) →
    Holds c own s x → Holds c next t y
holds_treated drops resets shuts c own next s t x y goes k dropped told shut out holds = record {
  live = still_live;
  reset = λ r h. elim (k.reset r h) [ inl before ↦ goes.done r (holds.reset r before) | inr by ↦ told r by ];
  closing = λ closes r n h. elim (k.closing closes) [
    | inl before ↦ holds.closing before r n (goes.leases n r h)
    | inr (inl none) ↦ none r (still_live n r h)
    | inr (inr by) ↦ shut by r n h
  ];
  close = λ h. elim (k.close h) [ inl before ↦ k.through (holds.close before) | inr by ↦ by ];
  speaks = λ h. opened_more c own next goes.more (holds.speaks (sym same ∙ h));
  ran_out = λ h1 up r started.
      let before : is_through x.phase ≡ false = false_from_ne_true (is_through x.phase) (λ by. both_ways (is_through y.phase) up (k.through by)) in
      let was : Contains x.started r = subst (λ rs. Contains rs r) k.started started in
      elim (holds.ran_out (sym same ∙ h1) before r was) [
        | inl live ↦ elim (k.live r live) [ inl still ↦ inl still | inr by ↦ out r (sym same ∙ h1) up was live by ]
        | inr ended ↦ inr (reported_more c r own next goes.more ended)
      ];
}
  where
    same : speaks_h2 y ≡ speaks_h2 x
    same = ap (shows (λ id. is_h2 id.proto)) k.identity

    still_live : (n : ℕ) (r : StreamNo) → HasLease c r (numbered n t.exchanges) → Contains y.live r
    still_live n r h = elim (k.live r (holds.live n r (goes.leases n r h))) [ inl still ↦ still | inr by ↦ absurd (dropped r by n h) ]

-- one that drops, resets and shuts nothing
pub holds_kept : (c : ConnNo) (own next : List Own) (s t : AbstractPool) (x y : Connection) → Goes c own next s t → Treats (λ r. ⊥) (λ r. ⊥) ⊥ x y →
    Holds c own s x → Holds c next t y
holds_kept c own next s t x y goes k holds =
    holds_treated (λ r. ⊥) (λ r. ⊥) ⊥ c own next s t x y goes k (λ r d. absurd d) (λ r d. absurd d) (λ d. absurd d) (λ r h1 up started live d. absurd d) holds

-- ---- a connection that isn't up yet

pub unopened_free : (c : ConnNo) (s : AbstractPool) (x : Connection) → numbered c.0 s.connections ≡ Some x → LeasesAreCarried s → is_opening x.phase ≡ true →
    (r : StreamNo) → AreFree c r s.exchanges
unopened_free c s x is_item carried opening r n h =
    let v = value_and (numbered n s.exchanges) (λ (z : Exchange). IsTrue (is_at c r z.status)) h in
    let carries : Carries x r = at_item (λ z. Carries z r) (numbered c.0 s.connections) x (carried n v.0 c r v.1 v.2) is_item in
    both_ways (is_busy x.phase) (excludes is_opening is_busy refl x.phase opening) carries.busy

pub unopened_reset : (c : ConnNo) (own : List Own) (s : AbstractPool) (x : Connection) → numbered c.0 s.connections ≡ Some x → Holds c own s x → is_opening x.phase ≡ true →
    (r : StreamNo) → Contains x.orders (mark.Reset r) → ⊥
unopened_reset c own s x is_item holds opening r h =
    let past : IsPast r x = at_item (IsPast r) (numbered c.0 s.connections) x (holds.reset r h).past is_item in
    both_ways (not (is_opening x.phase)) (not_from_true (is_opening x.phase) opening) past.up

pub unopened_close : (c : ConnNo) (own : List Own) (s : AbstractPool) (x : Connection) → Holds c own s x → is_opening x.phase ≡ true → Contains x.orders mark.Close → ⊥
unopened_close c own s x holds opening h = both_ways (is_through x.phase) (excludes is_opening is_through refl x.phase opening) (holds.close h)

-- ---- a connection without streams

pub holds_fresh : (c : ConnNo) (next : List Own) (t : AbstractPool) (y : Connection) → ((r : StreamNo) → AreFree c r t.exchanges) →
    ((r : StreamNo) → Contains y.orders (mark.Reset r) → ⊥) →
    (Contains y.orders mark.Close → is_through y.phase ≡ true) → (speaks_h2 y ≡ true → IsOpenedWith c H2 next) → y.started ≡ [] → Holds c next t y
holds_fresh c next t y free none close speaks unstarted = record {
  live = λ n r h. absurd (free r n h);
  reset = λ r h. absurd (none r h);
  closing = λ by. free;
  close = close;
  speaks = speaks;
  ran_out = λ h1 up r h. absurd (none_there r (subst (λ rs. Contains rs r) unstarted h));
}

-- behind the act that makes it
pub holds_new : (c : ConnNo) (own next : List Own) (s t : AbstractPool) (y : Connection) → LeasesAreCarried s → numbered c.0 s.connections ≡ None →
    Goes c own next s t → IsNew y → Holds c next t y
holds_new c own next s t y carried none goes new =
    let unordered : y.orders ≡ [] = ap (λ (z : Connection). z.orders) new.is_new in
    holds_fresh c next t y free (λ r h. none_there (mark.Reset r) (subst (λ ms. Contains ms (mark.Reset r)) unordered h))
    (λ h. absurd (none_there mark.Close (subst (λ ms. Contains ms mark.Close) unordered h)))
    (λ h. let never : speaks_h2 y ≡ false = ap (λ (z : Connection). speaks_h2 z) new.is_new in absurd cc) (ap (λ (z : Connection). z.started) new.is_new)
  where
    free : (r : StreamNo) (n : ℕ) → HasLease c r (numbered n t.exchanges) → ⊥
    free r n h =
        let v = value_and (numbered n s.exchanges) (λ (z : Exchange). IsTrue (is_at c r z.status)) (goes.leases n r h) in
        let w = value_and (numbered c.0 s.connections) (λ z. Carries z r) (carried n v.0 c r v.1 v.2) in
        let there : numbered c.0 s.connections ≡ Some w.0 = w.1 in
        absurd cc
