-- Counts of connections that aren't gone, against the limits: where none is added, and where as many are as there is room for.
use Rattle.std.proofs.Common.{◌≡◌, ◌+◌, ◌<◌, ◌≤◌, ◌&&◌, ◌∙◌, ℕ, zero, suc, not, List, ◌++◌, Bool, true, false, cond, inl, inr, refl, sym, ap, subst, arith, replicate}
use Rattle.std.specs.Prelude.{count_by, nat_lt}
use Rattle.std.proofs.lemmas.Bool.{both_ways, cases_Bool, false_from_ne_true, not_from_false, and_parts, and_from, and_right, not-true, ltb-true, leb-false}
use Rattle.std.proofs.lemmas.List.{length-replicate}
use Rattle.std.proofs.lemmas.List.Sums.{sum_by-cons, sum_by-append, count_by-le-length}
use Rattle.partition_keys.specs.Equality.{same_group}
use Rattle.partition_keys.specs.declared.group.GroupKey.{GroupKey}
use Rattle.model_laws.proofs.SameLemmas.{groups_are}
use Rattle.model_laws.proofs.PresentLemmas.{AddsNone, IsOfPresent, count_adds}
use Rattle.model_settling.specs.Counts.{is_present, is_present_in, count_total, count_in_group, openings_of}
use Rattle.model_settling.specs.Room.{expects_h2, has_open_h2, has_opening_for, openings_wanted, has_numbers, is_total_full, has_room_in, has_room_but_total, has_room, room_left, plan_of, planned}
use Rattle.model_authority.specs.Statuses.{is_gone}
use Rattle.model_authority.specs.Ways.{group_of}
use Rattle.model_values.specs.declared.config.Config.{Config}
use Rattle.model_values.specs.declared.state.AbstractPool.{AbstractPool}
use Rattle.model_values.specs.declared.state.Connection.{Connection}
use Rattle.model_values.specs.declared.state.Exchange.{Exchange}

-- ---- lists of connections

-- no more connections than the limits allow
abbrev pub AreWithin : Config → List Connection → Type 0
AreWithin config cs = (count_by is_present cs ≤ config.total) × ((g : GroupKey) → count_by (is_present_in g) cs ≤ config.per_group)

-- one that isn't gone wasn't gone before
present_of : IsOfPresent is_present
present_of x y out here = not_from_false (is_gone x.phase) (false_from_ne_true (is_gone x.phase) back)
  where
    back : is_gone x.phase ≡ true → ⊥
    back was = both_ways (is_gone y.phase) (not-true (is_gone y.phase) here) (out.gone was)

-- nor was it in another group
present_in_of : (g : GroupKey) → IsOfPresent (is_present_in g)
present_in_of g x y out here =
    let parts = and_parts (is_present y) (same_group y.group g) here in
    let same : same_group x.group g ≡ true = ap (λ (k : GroupKey). same_group k g) (sym out.group) ∙ parts.1 in
    and_from (is_present x) (same_group x.group g) (present_of x y out parts.0) same

-- where none is added the limits stay kept
pub within_adds : (config : Config) (xs ys : List Connection) → AddsNone xs ys → AreWithin config xs → AreWithin config ys
within_adds config xs ys adds within = (total, λ g. group g)
  where
    total : count_by is_present ys ≤ config.total
    total = omega (arith, within.0, count_adds is_present present_of xs ys adds)

    group : (g : GroupKey) → count_by (is_present_in g) ys ≤ config.per_group
    group g = omega (arith, within.1 g, count_adds (is_present_in g) (present_in_of g) xs ys adds)

-- ---- further connections

-- as many further ones count for no more than that
count_further : (test : Connection → Bool) (cs : List Connection) (k : ℕ) (c : Connection) → count_by test (cs ++ replicate k c) ≤ count_by test cs + k
count_further test cs k c =
    omega (arith, sum_by-append (λ (x : Connection). cond (test x) 1 0) cs (replicate k c), count_by-le-length test (replicate k c), length-replicate k c)

-- and those that don't pass count for nothing
count_none : (test : Connection → Bool) (k : ℕ) (c : Connection) → test c ≡ false → count_by test (replicate k c) ≡ 0
count_none test zero c h = refl
count_none test (suc k) c h =
    let f : Connection → ℕ = λ x. cond (test x) 1 0 in
    let none : f c ≡ 0 = ap (λ b. cond b (suc zero) zero) h in
    omega (arith, none, count_none test k c h, sum_by-cons f c (replicate k c))

count_others : (test : Connection → Bool) (cs : List Connection) (k : ℕ) (c : Connection) → test c ≡ false → count_by test (cs ++ replicate k c) ≡ count_by test cs
count_others test cs k c h = omega (arith, count_none test k c h, sum_by-append (λ (x : Connection). cond (test x) 1 0) cs (replicate k c))

-- as many further ones of one group as there is room for keep the limits
pub within_further : (config : Config) (cs : List Connection) (k : ℕ) (c : Connection) → AreWithin config cs → count_by is_present cs + k ≤ config.total →
    count_by (is_present_in c.group) cs + k ≤ config.per_group → AreWithin config (cs ++ replicate k c)
within_further config cs k c within total group = (omega (arith, total, count_further is_present cs k c), by)
  where
    by : (g : GroupKey) → count_by (is_present_in g) (cs ++ replicate k c) ≤ config.per_group
    by g = elim (cases_Bool (same_group c.group g)) [
      | inl same ↦ subst (λ (x : GroupKey). count_by (is_present_in x) (cs ++ replicate k c) ≤ config.per_group) (groups_are c.group g same)
          (omega (arith, group, count_further (is_present_in c.group) cs k c))
      | inr other ↦ omega (arith, within.1 g, count_others (is_present_in g) cs k c (and_right (is_present c) (same_group c.group g) other))
    ]

-- ---- room

-- a new connection is wanted below both limits
pub room_below : (s : AbstractPool) (number : ℕ) (e : Exchange) → has_room s number e ≡ true →
    (count_by is_present s.connections < s.config.total) × (count_by (is_present_in (group_of s e)) s.connections < s.config.per_group)
unfolding has_room has_room_but_total has_room_in count_total count_in_group
room_below s number e h =
    let g : GroupKey = group_of s e in
    let both = and_parts (not (is_total_full s)) (has_numbers s && has_room_in s number g) h in
    let in_group = (and_parts (has_numbers s) (has_room_in s number g) both.1).1 in
    let a = and_parts (nat_lt (count_in_group s g) s.config.per_group && not (has_open_h2 s g) && not (has_opening_for s number g)) (nat_lt (openings_of s g) (openings_wanted s g)) in_group in
    let b = and_parts (nat_lt (count_in_group s g) s.config.per_group && not (has_open_h2 s g)) (not (has_opening_for s number g)) a.0 in
    let c = and_parts (nat_lt (count_in_group s g) s.config.per_group) (not (has_open_h2 s g)) b.0 in
    (leb-false s.config.total (count_total s) (not-true (is_total_full s) both.0), ltb-true (count_in_group s g) s.config.per_group c.0)

pub plan_within : (count room openings : ℕ) (expects open_h2 : Bool) → plan_of count room expects openings open_h2 ≤ room
plan_within count room openings expects true = omega arith
plan_within count room openings true false = omega arith
plan_within count room openings false false = omega arith

-- as many are opened ahead as there is room for
pub planned_within : (s : AbstractPool) (g : GroupKey) (count : ℕ) → AreWithin s.config s.connections →
    (count_by is_present s.connections + planned s g count ≤ s.config.total) × (count_by (is_present_in g) s.connections + planned s g count ≤ s.config.per_group)
unfolding planned room_left count_total count_in_group
planned_within s g count within =
    let most = plan_within count (room_left s g) (openings_of s g) (expects_h2 s g) (has_open_h2 s g) in
    let in_all = within.0 in
    let in_group = within.1 g in
    (omega (arith, most, in_all), omega (arith, most, in_group))
