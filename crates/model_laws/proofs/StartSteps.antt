-- What a change of a connection leaves of the streams that were started on it, and which streams orders start.
use Rattle.std.proofs.Common.{[], ◌≡◌, ℕ, List, ◌∷◌, Some, Bool, true, inl, inr, refl, sym, ap, arith, Contains}
use Rattle.std.specs.Prelude.{◌==◌, ◌&&◌, not}
use Rattle.std.specs.List.{list_any}
use Rattle.std.proofs.lemmas.Bool.{or_cases, or_left, or_right, cond_both, eq-eqb, eqb-true}
use Rattle.std.proofs.lemmas.List.Elements.{Contains-append_right, Contains-append_cases, Contains-push_cases}
use Rattle.net_base.specs.declared.identity.Identity.{Identity}
use Rattle.net_base.specs.declared.numbers.Moment.{Moment}
use Rattle.net_base.specs.declared.numbers.StreamNo.{StreamNo}
use Rattle.model_histories.proofs.EffectLemmas.{Lasting, Leaves, leaves_closing}
use Rattle.model_changes.specs.Connections.{is_start_of, streams_started, closing, suits, opened_with, refused_with, after_opened}
use Rattle.model_values.specs.declared.order.OrderMark.{OrderMark}
use Rattle.model_values.specs.declared.order.OrderMark.TheVariants as mark
use Rattle.model_values.specs.declared.state.Connection.{Connection}

-- ---- the streams of orders

pub same_stream : (r t : StreamNo) → r.0 ≡ t.0 → t ≡ r
same_stream r t same = let whole : ℕ → StreamNo = λ k. record { 0 = k } in ap whole (sym same)

pub none_started : (r : StreamNo) → Contains [] r → ⊥
none_started r h = let below = h.1 in absurd (omega arith)

-- a stream is started by orders exactly where one of them is its start
pub start_found : (r : StreamNo) (orders : List OrderMark) → Contains (streams_started orders) r → list_any (is_start_of r) orders ≡ true
start_found r [] h = absurd (none_started r h)
start_found r (mark.Start e t ∷ orders) h = elim (Contains-append_cases (t ∷ []) (streams_started orders) r h) [
  | inl here ↦ or_left (r.0 == t.0) (list_any (is_start_of r) orders) (first here)
  | inr later ↦ or_right (r.0 == t.0) (list_any (is_start_of r) orders) (start_found r orders later)
]
  where
    first : Contains (t ∷ []) r → (r.0 == t.0) ≡ true
    first here = elim (Contains-push_cases [] t r here) [
      | inl none ↦ absurd (none_started r none)
      | inr same ↦ eq-eqb r.0 t.0 (ap (λ (u : StreamNo). u.0) (sym same))
    ]
start_found r (mark.Reset t ∷ orders) h = start_found r orders h
start_found r (mark.Close ∷ orders) h = start_found r orders h

pub start_there : (r : StreamNo) (orders : List OrderMark) → list_any (is_start_of r) orders ≡ true → Contains (streams_started orders) r
start_there r [] h = absurd cc
start_there r (mark.Start e t ∷ orders) h = elim (or_cases (r.0 == t.0) (list_any (is_start_of r) orders) h) [
  | inl here ↦ (0, omega arith, same_stream r t (eqb-true r.0 t.0 here))
  | inr later ↦ Contains-append_right (t ∷ []) (streams_started orders) r (start_there r orders later)
]
start_there r (mark.Reset t ∷ orders) h = start_there r orders h
start_there r (mark.Close ∷ orders) h = start_there r orders h

-- ---- one connection

-- one that is so related to it has the same started streams
abbrev pub Like : Connection → Connection → Type 0
Like x y = y.started ≡ x.started

pub like_leaves : (x y : Connection) → Leaves x y → Like x y
like_leaves x y k = ap (λ (l : Lasting). l.started) k.lasts

pub like_opened : (is_shut : Bool) (now : Moment) (id : Identity) (c : Connection) → Like c (after_opened is_shut now id c)
unfolding after_opened
like_opened is_shut now id c =
    let shown : Connection = record c { identity = Some id } in
    cond_both (not is_shut && suits c.group id) (opened_with now id c) (refused_with id c) (Like c) (λ t. refl) (λ f. like_leaves shown (closing shown) (leaves_closing shown))
