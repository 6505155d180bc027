-- In each history an exchange moves, and waits again, at most five times.
use Rattle.std.proofs.Common.{◌≡◌, ◌≤◌, ◌+◌, ℕ, List, [], ◌∷◌, Option, Some, None, cond, inl, inr, refl, ap, subst, arith}
use Rattle.std.specs.Prelude.{◌&&◌}
use Rattle.std.proofs.lemmas.Bool.{cond_both, and_parts}
use Rattle.net_base.specs.declared.numbers.ExchangeNo.{ExchangeNo}
use Rattle.model_laws.proofs.ExchangeSteps.{BecomesAt}
use Rattle.model_laws.proofs.ExchangesAfter.{exchange_after}
use Rattle.model_laws.specs.LimitLaws.{goes_back, count_waits_again, ExchangesWaitAgainFiveTimes}
use Rattle.model_histories.proofs.EditLemmas.{none_numbered}
use Rattle.model_histories.specs.Histories.{opening, MayStand}
use Rattle.model_steps.specs.After.{after}
use Rattle.model_authority.proofs.NumberLemmas.{option_cases}
use Rattle.model_authority.specs.Lists.{numbered}
use Rattle.model_authority.specs.Statuses.{is_leased, is_waiting}
use Rattle.model_values.specs.declared.config.Config.{Config}
use Rattle.model_values.specs.declared.entry.Act.{Act}
use Rattle.model_values.specs.declared.entry.Entry.{Entry}
use Rattle.model_values.specs.declared.state.AbstractPool.{AbstractPool}
use Rattle.model_values.specs.declared.state.Exchange.{Exchange}

-- ---- each exchange has moved at most five times

abbrev pub EachMoves : AbstractPool → Type 0
EachMoves s = (number : ℕ) (x : Exchange) → numbered number s.exchanges ≡ Some x → x.moves ≤ 5

moves_at : (F : Type 0) (act : Act) (o : Option Exchange) (y : Exchange) → BecomesAt F act o (Some y) → ((x : Exchange) → o ≡ Some x → x.moves ≤ 5) → y.moves ≤ 5
moves_at F act None y b few = let none : y.moves ≡ 0 = b in omega arith
moves_at F act (Some x) y b few = elim b.moves [
  | inl same ↦ omega (arith, same, few x refl)
  | inr once ↦ omega (arith, once.0, once.1)
]

pub moves_after : (s : AbstractPool) (e : Entry) → EachMoves s → EachMoves (after s e)
moves_after s e few number y is_item =
    moves_at (MayStand s e) e.act (numbered number s.exchanges) y (subst (BecomesAt (MayStand s e) e.act (numbered number s.exchanges)) is_item (exchange_after s e number)) (few number)

pub moves_opening : (config : Config) → EachMoves (opening config)
moves_opening config number x is_item = let none = none_numbered Exchange number in absurd cc

-- ---- how often an exchange waits again

-- how often it has moved, where there is one
abbrev moves_of : Option Exchange → ℕ
moves_of None = 0
moves_of (Some x) = x.moves

moves_few : (s : AbstractPool) (x : ExchangeNo) → EachMoves s → moves_of (numbered x.0 s.exchanges) ≤ 5
moves_few s x few = elim (option_cases (numbered x.0 s.exchanges)) [
  | inl none ↦ let e : moves_of (numbered x.0 s.exchanges) ≡ 0 = ap moves_of none in omega arith
  | inr some ↦ let e : moves_of (numbered x.0 s.exchanges) ≡ some.0.moves = ap moves_of some.1 in omega (arith, few x.0 some.0 some.1)
]

-- each time that it waits again it has moved once more
again_step : (F : Type 0) (act : Act) (o p : Option Exchange) → BecomesAt F act o p → cond (goes_back o p) 1 0 + moves_of o ≤ moves_of p
again_step F act None p b = omega arith
again_step F act (Some x) None b = absurd b
again_step F act (Some x) (Some y) b =
    cond_both {A = ℕ} (is_leased x.status && is_waiting y.status) 1 0 (λ k. k + x.moves ≤ y.moves)
    (λ t. let w = and_parts (is_leased x.status) (is_waiting y.status) t in let a = b.again w.0 w.1 in omega (arith, a.1))
    (λ f. elim b.moves [ inl same ↦ omega (arith, same) | inr once ↦ omega (arith, once.0) ])

-- with the moves that it has already, by any entries
again_few : (s : AbstractPool) (h : List Entry) (x : ExchangeNo) → EachMoves s → count_waits_again s h x + moves_of (numbered x.0 s.exchanges) ≤ 5
unfolding count_waits_again
again_few s [] x few = omega (arith, moves_few s x few)
again_few s (e ∷ h) x few =
    let rest = again_few (after s e) h x (moves_after s e few) in
    let step = again_step (MayStand s e) e.act (numbered x.0 s.exchanges) (numbered x.0 (after s e).exchanges) (exchange_after s e x.0) in
    omega (arith, rest, step)

pub exchanges_wait_again_five_times : ExchangesWaitAgainFiveTimes
exchanges_wait_again_five_times config h x history =
    let few = again_few (opening config) h x (moves_opening config) in
    omega (arith, few)
