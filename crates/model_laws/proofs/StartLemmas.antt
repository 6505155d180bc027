-- What each act leaves of the streams that were started on each connection: only the orders that are taken add to them.
use Rattle.std.proofs.Common.{ap, [], ◌≡◌, ◌⊎◌, ℕ, List, Option, Some, None, inl, inr, refl, sym, subst, ◌∙◌, is_some, IsTrue, IsSomeAnd, Contains}
use Rattle.std.specs.Prelude.{◌==◌}
use Rattle.std.specs.List.{list_any}
use Rattle.std.proofs.lemmas.Bool.{and_from, eq-eqb}
use Rattle.std.proofs.lemmas.List.Elements.{Contains-append_left, Contains-append_cases}
use Rattle.net_base.specs.declared.numbers.CallerNo.{CallerNo}
use Rattle.net_base.specs.declared.numbers.ConnNo.{ConnNo}
use Rattle.net_base.specs.declared.numbers.StreamNo.{StreamNo}
use Rattle.model_changes.specs.Connections.{is_start_of, streams_started, with_start, with_taken, with_sent}
use Rattle.model_laws.proofs.StartSteps.{none_started, start_found, Like, like_leaves, like_opened}
use Rattle.model_histories.proofs.EffectLemmas.{IsReported, conn_of, Changes, effect_at}
use Rattle.model_histories.specs.Reading.{hands_by}
use Rattle.model_steps.specs.After.{after_act}
use Rattle.model_authority.specs.Lists.{numbered}
use Rattle.model_values.specs.declared.entry.Act.{Act}
use Rattle.model_values.specs.declared.entry.Act.TheVariants.{Dial, Orders, Reported, Closed, Assign}
use Rattle.model_values.specs.declared.order.OrderMark.{OrderMark}
use Rattle.model_values.specs.declared.report.Report.{Report}
use Rattle.model_values.specs.declared.report.Report.TheVariants as report
use Rattle.model_values.specs.declared.state.AbstractPool.{AbstractPool}
use Rattle.model_values.specs.declared.state.Connection.{Connection}

-- ---- any act

-- the stream was started on the connection
abbrev pub HasStarted : StreamNo → Option Connection → Type 0
HasStarted r o = IsSomeAnd o (λ y. Contains y.started r)

-- a stream that was started stays so, and one that is started behind the act was so before, or the act hands its start
pub record Starts (act : Act) (c : ConnNo) (o p : Option Connection) : Type 0 where
  pub kept : (r : StreamNo) → HasStarted r o → HasStarted r p
  pub came : (r : StreamNo) → HasStarted r p → HasStarted r o ⊎ IsTrue (hands_by c r act)

starts_like : (act : Act) (c : ConnNo) (x y : Connection) → Like x y → Starts act c (Some x) (Some y)
starts_like act c x y k = record { kept = λ r h. subst (λ rs. Contains rs r) (sym k) h; came = λ r h. inl (subst (λ rs. Contains rs r) k h) }

starts_none : (act : Act) (c : ConnNo) → Starts act c None None
starts_none act c = record { kept = λ r h. h; came = λ r h. inl h }

starts_new : (act : Act) (c : ConnNo) (y : Connection) → y.started ≡ [] → Starts act c None (Some y)
starts_new act c y none = record { kept = λ r h. absurd h; came = λ r h. absurd (none_started r (subst (λ rs. Contains rs r) none h)) }

pub like_reported : (s : AbstractPool) (sent : ℕ) (r : Report) (x y : Connection) → IsReported s r (with_sent sent x) y → Like x y
like_reported s sent (report.Opened id) x y is = ap (λ (z : Connection). z.started) is ∙ like_opened (is_some s.shutdown) s.latest id (with_sent sent x)
like_reported s sent r x y is = like_leaves (with_sent sent x) y is

starts_taken : (conn : ConnNo) (sent : ℕ) (orders : List OrderMark) (c : ConnNo) (x : Connection) → c.0 ≡ conn.0 →
    Starts (Orders conn sent orders) c (Some x) (Some (with_taken orders (with_sent sent x)))
starts_taken conn sent orders c x here = record {
  kept = λ r h. Contains-append_left x.started (streams_started orders) r h;
  came = λ r h. elim (Contains-append_cases x.started (streams_started orders) r h) [
    | inl was ↦ inl was
    | inr new ↦ inr (and_from (conn.0 == c.0) (list_any (is_start_of r) orders) (eq-eqb conn.0 c.0 (sym here)) (start_found r orders new))
  ];
}

starts_change : (s : AbstractPool) (who : CallerNo) (act : Act) (c : ConnNo) (x y : Connection) → c.0 ≡ conn_of act → Changes s who act x y → Starts act c (Some x) (Some y)
unfolding with_start
starts_change s who (Orders conn sent orders) c x y here is =
    subst (λ z. Starts (Orders conn sent orders) c (Some x) (Some z)) (sym is) (starts_taken conn sent orders c x here)
starts_change s who (Dial conn target) c x y here is = starts_like (Dial conn target) c x y (ap (λ (z : Connection). z.started) is)
starts_change s who (Reported conn sent r) c x y here is = starts_like (Reported conn sent r) c x y (like_reported s sent r x y is)
starts_change s who (Closed conn sent cause heard) c x y here is = starts_like (Closed conn sent cause heard) c x y (ap (λ (z : Connection). z.started) is)
starts_change s who (Assign e conn r by) c x y here is = starts_like (Assign e conn r by) c x y (ap (λ (z : Connection). z.started) is)
starts_change s who act c x y here is = starts_like act c x y (like_leaves x y is)

pub starts_act : (s : AbstractPool) (who : CallerNo) (act : Act) (c : ConnNo) → Starts act c (numbered c.0 s.connections) (numbered c.0 (after_act s who act).connections)
starts_act s who act c =
    effect_at (λ n o p. c.0 ≡ n → Starts act c o p) s who act (λ n e. starts_none act c) (λ n x y k e. starts_like act c x y (like_leaves x y k))
    (λ adds n y new e. starts_new act c y (ap (λ (z : Connection). z.started) new.is_new)) (λ x y is_item is e. starts_change s who act c x y e is) c.0 refl
