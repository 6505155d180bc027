-- What an entry leaves of a connection: its group, and where it was gone that it is gone. So it adds to no count.
use Rattle.std.proofs.Common.{length, [], ◌≡◌, ℕ, ◌≤◌, zero, suc, List, ◌∷◌, Option, Some, None, Bool, true, false, refl, sym, ap, subst, arith, cond, slice_get, IsTrue, is_some}
use Rattle.std.specs.Prelude.{◌&&◌, not, count_by}
use Rattle.std.proofs.lemmas.Bool.{cond_both}
use Rattle.std.proofs.lemmas.List.Sums.{sum_by-cons}
use Rattle.net_base.specs.declared.identity.Identity.{Identity}
use Rattle.net_base.specs.declared.numbers.CallerNo.{CallerNo}
use Rattle.net_base.specs.declared.numbers.ExchangeNo.{ExchangeNo}
use Rattle.net_base.specs.declared.numbers.Moment.{Moment}
use Rattle.net_base.specs.declared.numbers.StreamNo.{StreamNo}
use Rattle.model_changes.specs.Connections.{closing, suits, opened_with, refused_with, after_opened, with_start, with_sent}
use Rattle.model_laws.proofs.FitLemmas.{same_item, Gives, IsFit}
use Rattle.model_laws.proofs.TurnLemmas.{at_item}
use Rattle.model_histories.proofs.EffectLemmas.{Lasting, Leaves, going_by, leaves_closing, IsReported, conn_of, Changes, IsAdding, effect_at}
use Rattle.model_histories.specs.Legal.{MayReport}
use Rattle.model_steps.specs.After.{after_act}
use Rattle.model_authority.proofs.NumberLemmas.{numbered_at}
use Rattle.model_authority.proofs.PhaseLemmas.{excludes}
use Rattle.model_authority.specs.Lists.{numbered}
use Rattle.model_authority.specs.Statuses.{is_wanted, is_dialing, is_open, is_gone}
use Rattle.model_values.specs.declared.entry.Act.{Act}
use Rattle.model_values.specs.declared.entry.Act.TheVariants.{Dial, Orders, Reported, Closed, Assign}
use Rattle.model_values.specs.declared.report.Report.{Report}
use Rattle.model_values.specs.declared.report.Report.TheVariants as report
use Rattle.model_values.specs.declared.state.AbstractPool.{AbstractPool}
use Rattle.model_values.specs.declared.state.Connection.{Connection}

-- ---- one connection

-- its group stays, and where it was gone it is gone
pub record StaysOut (x y : Connection) : Type 0 where
  pub group : y.group ≡ x.group
  pub gone : is_gone x.phase ≡ true → is_gone y.phase ≡ true

out_leaves : (x y : Connection) → Leaves x y → StaysOut x y
out_leaves x y k = record { group = ap (λ (l : Lasting). l.group) k.lasts; gone = going_by (λ p q. is_gone p) (λ p q. is_gone q) refl x.phase y.phase k.phase }

-- of one that isn't gone the group alone is asked
out_there : (x y : Connection) → y.group ≡ x.group → is_gone x.phase ≡ false → StaysOut x y
out_there x y group there = record { group = group; gone = λ g. absurd cc }

-- one that has no number left drains, which one that is gone must not
out_with_start : (last : ℕ) (e : ExchangeNo) (r : StreamNo) (c : Connection) → is_gone c.phase ≡ false → StaysOut c (with_start last e r c)
unfolding with_start
out_with_start last e r c there = out_there c (with_start last e r c) refl there

-- an identity is shown by one that is dialed
out_opened : (is_shut : Bool) (now : Moment) (id : Identity) (c : Connection) → is_gone c.phase ≡ false → StaysOut c (after_opened is_shut now id c)
unfolding after_opened
out_opened is_shut now id c there =
    let shown : Connection = record c { identity = Some id } in
    cond_both (not is_shut && suits c.group id) (opened_with now id c) (refused_with id c) (StaysOut c)
    (λ t. out_there c (opened_with now id c) refl there) (λ f. out_there c (closing shown) (out_leaves shown (closing shown) (leaves_closing shown)).group there)

out_reported : (s : AbstractPool) (sent : ℕ) (r : Report) (x y : Connection) → MayReport x r → IsReported s r (with_sent sent x) y → StaysOut x y
out_reported s sent (report.Opened id) x y may is =
    let z : Connection = with_sent sent x in
    let k : StaysOut z (after_opened (is_some s.shutdown) s.latest id z) = out_opened (is_some s.shutdown) s.latest id z (excludes is_dialing is_gone refl x.phase may) in
    subst (StaysOut x) (sym is) (record { group = k.group; gone = k.gone })
out_reported s sent r x y may is = let k : StaysOut (with_sent sent x) y = out_leaves (with_sent sent x) y is in record { group = k.group; gone = k.gone }

-- ---- lists of connections

abbrev pub OutAt : Option Connection → Option Connection → Type 0
OutAt None None = Unit {0}
OutAt None (Some y) = ⊥
OutAt (Some x) None = ⊥
OutAt (Some x) (Some y) = StaysOut x y

-- none is added, and each that was gone is gone
abbrev pub AddsNone : List Connection → List Connection → Type 0
AddsNone xs ys = (n : ℕ) → OutAt (numbered n xs) (numbered n ys)

-- ---- acts

out_change : (s : AbstractPool) (who : CallerNo) (act : Act) → IsFit s act → (x y : Connection) → numbered (conn_of act) s.connections ≡ Some x → Changes s who act x y → StaysOut x y
out_change s who (Dial c target) fit x y is_item is =
    let wanted = at_item (λ z. IsTrue (is_wanted z.phase)) (numbered c.0 s.connections) x fit is_item in
    out_there x y (ap (λ (z : Connection). z.group) is) (excludes is_wanted is_gone refl x.phase wanted)
out_change s who (Orders c sent orders) fit x y is_item is = subst (StaysOut x) (sym is) (record { group = refl; gone = λ g. g })
out_change s who (Reported c sent r) fit x y is_item is = out_reported s sent r x y (at_item (λ z. MayReport z r) (numbered c.0 s.connections) x fit is_item) is
out_change s who (Closed c sent cause heard) fit x y is_item is = subst (StaysOut x) (sym is) (record { group = refl; gone = λ g. refl })
out_change s who (Assign e c r by) fit x y is_item is =
    let gives : Gives s c r = fit.1 in
    let opened : is_open x.phase ≡ true =
    subst (λ (z : Connection). is_open z.phase ≡ true) (same_item (numbered c.0 s.connections) gives.connection x gives.is_connection is_item) gives.opened in
    subst (StaysOut x) (sym is) (out_with_start s.config.last_stream e r x (excludes is_open is_gone refl x.phase opened))
out_change s who _ fit x y is_item is = out_leaves x y is

pub adds_act : (s : AbstractPool) (who : CallerNo) (act : Act) → IsFit s act → (IsAdding act → ⊥) → AddsNone s.connections (after_act s who act).connections
adds_act s who act fit none = effect_at (λ n. OutAt) s who act (λ n. tt) (λ n. out_leaves) (λ adds. absurd (none adds)) (out_change s who act fit)

-- ---- counts

-- what passes the test passed it before, where none came back
abbrev pub IsOfPresent : (Connection → Bool) → Type 0
IsOfPresent test = (x y : Connection) → StaysOut x y → test y ≡ true → test x ≡ true

-- what one connection counts for doesn't rise
one_le : (before later : Bool) → (later ≡ true → before ≡ true) → cond later 1 0 ≤ cond before 1 0
one_le before false h = omega arith
one_le true true h = omega arith
one_le false true h = let apart : false ≡ true = h refl in absurd cc

-- by their places: so no count rises
count_places : (test : Connection → Bool) → IsOfPresent test → (xs ys : List Connection) → ((k : ℕ) → OutAt (slice_get xs k) (slice_get ys k)) → count_by test ys ≤ count_by test xs
count_places test of [] [] out = omega arith
count_places test of [] (y ∷ ys) out = absurd (out zero)
count_places test of (x ∷ xs) [] out = absurd (out zero)
count_places test of (x ∷ xs) (y ∷ ys) out =
    let one : cond (test y) 1 0 ≤ cond (test x) 1 0 = one_le (test x) (test y) (of x y (out zero)) in
    let rest : count_by test ys ≤ count_by test xs = count_places test of xs ys (λ k. out (suc k)) in
    omega (arith, one, rest, sum_by-cons (λ (c : Connection). cond (test c) 1 0) x xs, sum_by-cons (λ (c : Connection). cond (test c) 1 0) y ys)

places : (xs ys : List Connection) → AddsNone xs ys → (k : ℕ) → OutAt (slice_get xs k) (slice_get ys k)
places xs ys adds k = subst (λ o. OutAt o (slice_get ys k)) (numbered_at xs k) (subst (OutAt (numbered (suc k) xs)) (numbered_at ys k) (adds (suc k)))

pub count_adds : (test : Connection → Bool) → IsOfPresent test → (xs ys : List Connection) → AddsNone xs ys → count_by test ys ≤ count_by test xs
count_adds test of xs ys adds = count_places test of xs ys (places xs ys adds)

length_places : (xs ys : List Connection) → ((k : ℕ) → OutAt (slice_get xs k) (slice_get ys k)) → length ys ≡ length xs
length_places [] [] out = refl
length_places [] (y ∷ ys) out = absurd (out zero)
length_places (x ∷ xs) [] out = absurd (out zero)
length_places (x ∷ xs) (y ∷ ys) out = ap suc (length_places xs ys (λ k. out (suc k)))

-- and as many connections are there as before
pub length_adds : (xs ys : List Connection) → AddsNone xs ys → length ys ≡ length xs
length_adds xs ys adds = length_places xs ys (places xs ys adds)
