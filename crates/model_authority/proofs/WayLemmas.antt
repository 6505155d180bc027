-- The way that is computed is the first that holds, and there is one just where an exchange may use a connection.
use Rattle.std.proofs.Common.{◌≡◌, Option, Some, None, Bool, true, false, cond, refl, subst, is_some, IsTrue}
use Rattle.std.specs.Prelude.{◌&&◌, ◌||◌}
use Rattle.model_authority.specs.Ways.{shares_partition, may_go_directly, may_go_by_alternative, may_coalesce, has_way, way_of, IsFirstWay, HasAuthority}
use Rattle.model_values.specs.declared.entry.Way.{Way}
use Rattle.model_values.specs.declared.entry.Way.TheVariants as way
use Rattle.model_values.specs.declared.state.AbstractPool.{AbstractPool}
use Rattle.model_values.specs.declared.state.Connection.{Connection}
use Rattle.model_values.specs.declared.state.Exchange.{Exchange}

-- the first of three ways that holds
abbrev way_by : Bool → Bool → Bool → Bool → Option Way
way_by shares direct alternative coalesced =
    cond shares (cond direct (Some way.Direct) (cond alternative (Some way.Alternative) (cond coalesced (Some way.Coalesced) None))) None

abbrev IsFirst : Bool → Bool → Bool → Way → Type 0
IsFirst direct alternative coalesced way.Direct = IsTrue direct
IsFirst direct alternative coalesced way.Alternative = (¬ IsTrue direct) × IsTrue alternative
IsFirst direct alternative coalesced way.Coalesced = (¬ IsTrue direct) × (¬ IsTrue alternative) × IsTrue coalesced

way_by_is : (sh d a c : Bool) (w : Way) → way_by sh d a c ≡ Some w → IsTrue sh × IsFirst d a c w
way_by_is false d a c w h = absurd cc
way_by_is true true a c w h = let e : way.Direct ≡ w = cc in (refl, subst (IsFirst true a c) e refl)
way_by_is true false true c w h = let e : way.Alternative ≡ w = cc in (refl, subst (IsFirst false true c) e (λ k. absurd cc, refl))
way_by_is true false false true w h = let e : way.Coalesced ≡ w = cc in (refl, subst (IsFirst false false true) e (λ k. absurd cc, λ k. absurd cc, refl))
way_by_is true false false false w h = absurd cc

way_by_back : (sh d a c : Bool) (w : Way) → IsTrue sh → IsFirst d a c w → way_by sh d a c ≡ Some w
way_by_back false d a c w s f = absurd cc
way_by_back true true a c way.Direct s f = refl
way_by_back true true a c way.Alternative s f = absurd (f.0 refl)
way_by_back true true a c way.Coalesced s f = absurd (f.0 refl)
way_by_back true false a c way.Direct s f = absurd cc
way_by_back true false true c way.Alternative s f = refl
way_by_back true false true c way.Coalesced s f = absurd (f.1 refl)
way_by_back true false false c way.Alternative s f = absurd (cc f.1)
way_by_back true false false true way.Coalesced s f = refl
way_by_back true false false false way.Coalesced s f = absurd (cc f.2)

way_by_some : (sh d a c : Bool) → (sh && (d || a || c)) ≡ is_some (way_by sh d a c)
way_by_some false d a c = refl
way_by_some true true a c = refl
way_by_some true false true c = refl
way_by_some true false false true = refl
way_by_some true false false false = refl

pub way_of_is : (s : AbstractPool) (e : Exchange) (c : Connection) (w : Way) → way_of s e c ≡ Some w → HasAuthority s e c w
unfolding way_of
way_of_is s e c w h =
    let r = way_by_is (shares_partition e c) (may_go_directly e c) (may_go_by_alternative s e c) (may_coalesce s e c) w h in
    record { shares = r.0; first = is_first_way w r.1 }
  where
    is_first_way : (w : Way) → IsFirst (may_go_directly e c) (may_go_by_alternative s e c) (may_coalesce s e c) w → IsFirstWay s e c w
    is_first_way way.Direct f = f
    is_first_way way.Alternative f = f
    is_first_way way.Coalesced f = f

pub way_of_back : (s : AbstractPool) (e : Exchange) (c : Connection) (w : Way) → HasAuthority s e c w → way_of s e c ≡ Some w
unfolding way_of
way_of_back s e c w h = way_by_back (shares_partition e c) (may_go_directly e c) (may_go_by_alternative s e c) (may_coalesce s e c) w h.shares (is_first w h.first)
  where
    is_first : (w : Way) → IsFirstWay s e c w → IsFirst (may_go_directly e c) (may_go_by_alternative s e c) (may_coalesce s e c) w
    is_first way.Direct f = f
    is_first way.Alternative f = f
    is_first way.Coalesced f = f

pub authority_unique : (s : AbstractPool) (e : Exchange) (c : Connection) (v w : Way) → HasAuthority s e c v → HasAuthority s e c w → v ≡ w
authority_unique s e c v w h k =
    let a = way_of_back s e c v h in
    let b = way_of_back s e c w k in
    cc

pub has_way_is : (s : AbstractPool) (e : Exchange) (c : Connection) → has_way s e c ≡ is_some (way_of s e c)
unfolding has_way way_of
has_way_is s e c = way_by_some (shares_partition e c) (may_go_directly e c) (may_go_by_alternative s e c) (may_coalesce s e c)
