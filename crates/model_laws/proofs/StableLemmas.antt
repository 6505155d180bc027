-- Facts that hold where they can't fail to hold: equalities of plain values, tests, membership, and what is made of such facts.
use Rattle.std.proofs.Common.{◌≡◌, ◌<◌, ◌≤◌, ◌⊎◌, ℕ, List, [], ◌∷◌, Option, Some, None, Bool, true, false, inl, inr, refl, ap, subst, ◌∙◌, arith, IsSomeAnd}
use Rattle.std.specs.List.{Contains}
use Rattle.std.proofs.lemmas.Bool.{cases_eq, cases_lt}
use Rattle.std.proofs.lemmas.List.Elements.{Contains-append_left, Contains-append_right, Contains-append_cases, Contains-push, Contains-push_cases}
use Rattle.net_base.specs.declared.numbers.CallerNo.{CallerNo}
use Rattle.net_base.specs.declared.numbers.ConnNo.{ConnNo}
use Rattle.net_base.specs.declared.numbers.ExchangeNo.{ExchangeNo}
use Rattle.net_base.specs.declared.numbers.Moment.{Moment}
use Rattle.net_base.specs.declared.numbers.StreamNo.{StreamNo}
use Rattle.net_base.specs.declared.target.Proto.{Proto}
use Rattle.net_base.specs.declared.target.Proto.TheVariants.{H1, H2}
use Rattle.net_base.specs.declared.target.Target.{Target}
use Rattle.net_base.specs.declared.target.Via.{Via}
use Rattle.net_base.specs.declared.target.Via.TheVariants.{Direct, Alternative}
use Rattle.model_values.specs.declared.entry.Way.{Way}
use Rattle.model_values.specs.declared.entry.Way.TheVariants as way
use Rattle.model_values.specs.declared.order.OrderMark.{OrderMark}
use Rattle.model_values.specs.declared.order.OrderMark.TheVariants as mark

-- it holds where it can't fail to hold
abbrev pub IsStable : Type 0 → Type 0
IsStable P = (¬ (¬ P)) → P

-- ---- facts made of facts

pub stable_not : (P : Type 0) → IsStable (¬ P)
stable_not P h p = h (λ n. n p)

pub stable_never : IsStable ⊥
stable_never h = h (λ k. k)

pub stable_two : (A B : Type 0) → IsStable A → IsStable B → IsStable (A × B)
stable_two A B a b h = (a (λ n. h (λ p. n p.0)), b (λ n. h (λ p. n p.1)))

pub stable_three : (A B C : Type 0) → IsStable A → IsStable B → IsStable C → IsStable (A × B × C)
stable_three A B C a b c h = (a (λ n. h (λ p. n p.0)), b (λ n. h (λ p. n p.1)), c (λ n. h (λ p. n p.2)))

pub stable_four : (A B C D : Type 0) → IsStable A → IsStable B → IsStable C → IsStable D → IsStable (A × B × C × D)
stable_four A B C D a b c d h = (a (λ n. h (λ p. n p.0)), b (λ n. h (λ p. n p.1)), c (λ n. h (λ p. n p.2)), d (λ n. h (λ p. n p.3)))

-- a fact that is the same as a stable one
pub stable_by : (P Q : Type 0) → (P → Q) → (Q → P) → IsStable Q → IsStable P
stable_by P Q there back q h = back (q (λ n. h (λ p. n (there p))))

pub stable_some_and : {A : Type 0} (o : Option A) (P : A → Type 0) → ((x : A) → IsStable (P x)) → IsStable (IsSomeAnd o P)
stable_some_and None P each = stable_never
stable_some_and (Some x) P each = each x

-- ---- equalities

pub same_number : (a b : ℕ) → IsStable (a ≡ b)
same_number a b h = elim (cases_eq a b) [ inl e ↦ e | inr n ↦ absurd (h n) ]

pub same_test : (a b : Bool) → IsStable (a ≡ b)
same_test true true h = refl
same_test true false h = absurd (h (λ e. cc))
same_test false true h = absurd (h (λ e. cc))
same_test false false h = refl

pub stable_less : (a b : ℕ) → IsStable (a < b)
stable_less a b h = elim (cases_lt a b) [ inl l ↦ l | inr l ↦ absurd (h (λ k. absurd (omega (arith, l, k)))) ]

pub stable_most : (a b : ℕ) → IsStable (a ≤ b)
stable_most a b h = elim (cases_lt b a) [ inl l ↦ absurd (h (λ k. absurd (omega (arith, l, k)))) | inr l ↦ l ]

pub same_none : {A : Type 0} (o : Option A) → IsStable (o ≡ None)
same_none None h = refl
same_none (Some x) h = absurd (h (λ e. cc))

pub same_place : (a b : Option ℕ) → IsStable (a ≡ b)
same_place None None h = refl
same_place None (Some b) h = absurd (h (λ e. cc))
same_place (Some a) None h = absurd (h (λ e. cc))
same_place (Some a) (Some b) h = ap (λ (i : ℕ). Some i) (same_number a b (λ n. h (λ e. n (cc))))

pub same_list : {A : Type 0} → ((x y : A) → IsStable (x ≡ y)) → (xs ys : List A) → IsStable (xs ≡ ys)
same_list each [] [] h = refl
same_list each [] (y ∷ ys) h = absurd (h (λ e. cc))
same_list each (x ∷ xs) [] h = absurd (h (λ e. cc))
same_list {A} each (x ∷ xs) (y ∷ ys) h =
    ap (λ (z : A). z ∷ xs) (each x y (λ n. h (λ e. n (cc))))
    ∙ ap (λ (zs : List A). y ∷ zs) (same_list each xs ys (λ n. h (λ e. n (cc))))

-- ---- values of the pool

abbrev caller_at : ℕ → CallerNo
caller_at i = record { 0 = i }

abbrev exchange_at : ℕ → ExchangeNo
exchange_at i = record { 0 = i }

abbrev conn_at : ℕ → ConnNo
conn_at i = record { 0 = i }

abbrev stream_at : ℕ → StreamNo
stream_at i = record { 0 = i }

abbrev moment_at : ℕ → Moment
moment_at i = record { 0 = i }

abbrev target_at : List ℕ → ℕ → Bool → Via → Target
target_at host port secure via = record { host = host; port = port; secure = secure; via = via }

pub same_caller : (a b : CallerNo) → IsStable (a ≡ b)
same_caller a b h = ap (λ i. caller_at i) (same_number a.0 b.0 (λ n. h (λ e. n (ap (λ (r : CallerNo). r.0) e))))

pub same_exchange : (a b : ExchangeNo) → IsStable (a ≡ b)
same_exchange a b h = ap (λ i. exchange_at i) (same_number a.0 b.0 (λ n. h (λ e. n (ap (λ (r : ExchangeNo). r.0) e))))

pub same_conn : (a b : ConnNo) → IsStable (a ≡ b)
same_conn a b h = ap (λ i. conn_at i) (same_number a.0 b.0 (λ n. h (λ e. n (ap (λ (r : ConnNo). r.0) e))))

pub same_stream : (a b : StreamNo) → IsStable (a ≡ b)
same_stream a b h = ap (λ i. stream_at i) (same_number a.0 b.0 (λ n. h (λ e. n (ap (λ (r : StreamNo). r.0) e))))

pub same_moment : (a b : Moment) → IsStable (a ≡ b)
same_moment a b h = ap (λ i. moment_at i) (same_number a.0 b.0 (λ n. h (λ e. n (ap (λ (r : Moment). r.0) e))))

pub same_way : (a b : Way) → IsStable (a ≡ b)
same_way way.Direct way.Direct h = refl
same_way way.Direct way.Alternative h = absurd (h (λ e. cc))
same_way way.Direct way.Coalesced h = absurd (h (λ e. cc))
same_way way.Alternative way.Direct h = absurd (h (λ e. cc))
same_way way.Alternative way.Alternative h = refl
same_way way.Alternative way.Coalesced h = absurd (h (λ e. cc))
same_way way.Coalesced way.Direct h = absurd (h (λ e. cc))
same_way way.Coalesced way.Alternative h = absurd (h (λ e. cc))
same_way way.Coalesced way.Coalesced h = refl

same_proto : (a b : Proto) → IsStable (a ≡ b)
same_proto H1 H1 h = refl
same_proto H1 H2 h = absurd (h (λ e. cc))
same_proto H2 H1 h = absurd (h (λ e. cc))
same_proto H2 H2 h = refl

same_via : (a b : Via) → IsStable (a ≡ b)
same_via Direct Direct h = refl
same_via Direct (Alternative q) h = absurd (h (λ e. cc))
same_via (Alternative p) Direct h = absurd (h (λ e. cc))
same_via (Alternative p) (Alternative q) h = ap (λ (x : Proto). Alternative x) (same_proto p q (λ n. h (λ e. let k : p ≡ q = cc in n k)))

pub same_targets : (a b : Target) → IsStable (a ≡ b)
same_targets a b h =
    ap (λ x. target_at x a.port a.secure a.via) (same_list same_number a.host b.host (λ n. h (λ e. n (ap (λ (t : Target). t.host) e))))
    ∙ ap (λ x. target_at b.host x a.secure a.via) (same_number a.port b.port (λ n. h (λ e. n (ap (λ (t : Target). t.port) e))))
    ∙ ap (λ x. target_at b.host b.port x a.via) (same_test a.secure b.secure (λ n. h (λ e. n (ap (λ (t : Target). t.secure) e))))
    ∙ ap (λ x. target_at b.host b.port b.secure x) (same_via a.via b.via (λ n. h (λ e. n (ap (λ (t : Target). t.via) e))))

pub same_mark : (a b : OrderMark) → IsStable (a ≡ b)
same_mark (mark.Start e r) (mark.Start f q) h =
    ap (λ (x : ExchangeNo). mark.Start x r) (same_exchange e f (λ n. h (λ k. let i : e ≡ f = cc in n i)))
    ∙ ap (λ (x : StreamNo). mark.Start f x) (same_stream r q (λ n. h (λ k. let i : r ≡ q = cc in n i)))
same_mark (mark.Start e r) (mark.Reset q) h = absurd (h (λ k. cc))
same_mark (mark.Start e r) mark.Close h = absurd (h (λ k. cc))
same_mark (mark.Reset r) (mark.Start f q) h = absurd (h (λ k. cc))
same_mark (mark.Reset r) (mark.Reset q) h = ap (λ (x : StreamNo). mark.Reset x) (same_stream r q (λ n. h (λ k. let i : r ≡ q = cc in n i)))
same_mark (mark.Reset r) mark.Close h = absurd (h (λ k. cc))
same_mark mark.Close (mark.Start f q) h = absurd (h (λ k. cc))
same_mark mark.Close (mark.Reset q) h = absurd (h (λ k. cc))
same_mark mark.Close mark.Close h = refl

-- ---- membership

none_member : (x : StreamNo) → ¬ Contains [] x
none_member x h = absurd (omega (arith, h.1))

-- it is the first, or one of the others
member_cases : (y : StreamNo) (xs : List StreamNo) (x : StreamNo) → Contains (y ∷ xs) x → (y ≡ x) ⊎ Contains xs x
member_cases y xs x h = elim (Contains-append_cases (y ∷ []) xs x h) [
  | inl one ↦ elim (Contains-push_cases [] y x one) [ inl none ↦ absurd (none_member x none) | inr same ↦ inl same ]
  | inr other ↦ inr other
]

member_first : (y : StreamNo) (xs : List StreamNo) (x : StreamNo) → y ≡ x → Contains (y ∷ xs) x
member_first y xs x e = subst (Contains (y ∷ xs)) e (Contains-append_left (y ∷ []) xs y (Contains-push [] y))

pub stable_member : (xs : List StreamNo) (x : StreamNo) → IsStable (Contains xs x)
stable_member [] x h = absurd (h (none_member x))
stable_member (y ∷ xs) x h = elim (cases_eq y.0 x.0) [
  | inl e ↦ member_first y xs x (ap (λ i. stream_at i) e)
  | inr n ↦ Contains-append_right (y ∷ []) xs x (stable_member xs x (λ none. h (λ m. elim (member_cases y xs x m) [
    | inl e ↦ n (ap (λ (r : StreamNo). r.0) e)
    | inr other ↦ none other
  ])))
]
