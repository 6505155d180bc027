-- The connection that is to be dialed, and where it goes.
use Rattle.std.proofs.Common.{◌≡◌, ◌≢◌, ◌↔◌, ℕ, Bool, false, Option, Some, None, IsTrue, sym, subst, ◌∙◌}
use Rattle.std.specs.Prelude.{IsSomeAnd}
use Rattle.net_base.specs.declared.numbers.ConnNo.{ConnNo}
use Rattle.net_base.specs.declared.target.Target.{Target}
use Rattle.model_histories.proofs.ReplyLemmas.{dial_is, dial_back, dial_none}
use Rattle.model_histories.specs.Legal.{GoesTo}
use Rattle.model_authority.specs.Lists.{numbered}
use Rattle.model_histories.specs.Replies.{IsDial, dial_of}
use Rattle.model_values.specs.declared.state.AbstractPool.{AbstractPool}
use Rattle.model_values.specs.declared.state.Connection.{Connection}

goes_at : (s : AbstractPool) (n : ℕ) (t : Target) (c : Connection) → numbered n s.connections ≡ Some c → GoesTo s n t → t ≡ c.group.target
goes_at s n t c is g = subst (λ (o : Option Connection). IsSomeAnd o (λ (x : Connection). t ≡ x.group.target)) is g

goes_by : (s : AbstractPool) (n : ℕ) (t : Target) (c : Connection) → numbered n s.connections ≡ Some c → t ≡ c.group.target → GoesTo s n t
goes_by s n t c is e = subst (λ (o : Option Connection). IsSomeAnd o (λ (x : Connection). t ≡ x.group.target)) (sym is) e

some_same : {A : Type 0} (x y : A) → Some x ≡ Some y → x ≡ y
some_same x y h = cc

pub dial_goes : (s : AbstractPool) (n : ℕ) (t : Target) → dial_of s ≡ Some n → GoesTo s n t → IsDial s (record { 0 = n }) t
dial_goes s n t h g =
    let d = dial_is s n h in
    subst (λ (u : Target). IsDial s (record { 0 = n }) u) (sym (goes_at s n t d.0 d.1 g)) d.2

pub goes_dial : (s : AbstractPool) (c : ConnNo) (t : Target) → IsDial s c t → GoesTo s c.0 t
goes_dial s c t d = goes_by s c.0 t d.connection d.is_connection d.is_target

-- nothing is to be dialed
pub dial_never : (s : AbstractPool) (c : ConnNo) (t : Target) → dial_of s ≡ None → IsTrue false ↔ IsDial s c t
dial_never s c t h = ((λ f. absurd cc), (λ d. absurd (dial_none s h c t d)))

-- this connection is to be dialed
pub dial_same : (s : AbstractPool) (n : ℕ) (c : ConnNo) (t : Target) (b : Bool) → dial_of s ≡ Some n → n ≡ c.0 → (IsTrue b ↔ GoesTo s n t) → IsTrue b ↔ IsDial s c t
dial_same s n c t b h e g = (
  (λ i. subst (λ (m : ℕ). IsDial s (record { 0 = m }) t) e (dial_goes s n t h (g.0 i))),
  (λ d. g.1 (subst (λ (m : ℕ). GoesTo s m t) (sym e) (goes_dial s c t d))),
)

-- another connection is to be dialed
pub dial_other : (s : AbstractPool) (n : ℕ) (c : ConnNo) (t : Target) → dial_of s ≡ Some n → n ≢ c.0 → IsTrue false ↔ IsDial s c t
dial_other s n c t h e = ((λ f. absurd cc), (λ d. absurd (e (some_same n c.0 (sym h ∙ dial_back s c t d)))))
