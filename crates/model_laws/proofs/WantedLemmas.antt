-- Where a connection goes that comes by an entry.
use Rattle.std.proofs.Common.{◌≡◌, ◌+◌, ℕ, zero, suc, List, [], ◌∷◌, ◌++◌, Option, Some, None, Bool, true, false, inl, inr, refl, sym, ap, subst, ◌∙◌, arith, length, replicate, slice_get}
use Rattle.std.specs.Prelude.{◌||◌, nat_lt, nat_le, find, Contains}
use Rattle.std.proofs.lemmas.Bool.{cond_both, and_parts, or_cases, both_ways, ltb-true, leb-true}
use Rattle.std.proofs.lemmas.List.Elements.{Contains-append_left, Contains-append_right, Contains-push}
use Rattle.std.proofs.lemmas.Option.{same_Some}
use Rattle.net_base.specs.Equality.{same_origin}
use Rattle.net_base.specs.declared.numbers.CallerNo.{CallerNo}
use Rattle.net_base.specs.declared.numbers.ConnNo.{ConnNo}
use Rattle.net_base.specs.declared.numbers.ExchangeNo.{ExchangeNo}
use Rattle.net_base.specs.declared.numbers.Moment.{Moment}
use Rattle.net_base.specs.declared.origin.Origin.{Origin}
use Rattle.net_base.specs.declared.origin.Scheme.{Scheme}
use Rattle.net_base.specs.declared.origin.Scheme.TheVariants.{Http, Https}
use Rattle.net_base.specs.declared.target.Target.{Target}
use Rattle.partition_keys.specs.Equality.{same_key}
use Rattle.partition_keys.specs.Freshness.{is_fresh}
use Rattle.partition_keys.specs.declared.alternative.Alternative.{Alternative}
use Rattle.partition_keys.specs.declared.group.GroupKey.{GroupKey}
use Rattle.partition_keys.specs.declared.key.PartitionKey.{PartitionKey}
use Rattle.model_changes.specs.Connections.{new_connection}
use Rattle.model_laws.proofs.AssignedLemmas.{h2_is, latest_is}
use Rattle.model_laws.proofs.CourseLemmas.{state_after}
use Rattle.model_laws.proofs.FitLemmas.{IsFit, fit_stand}
use Rattle.model_laws.proofs.PresentLemmas.{OutAt, adds_act}
use Rattle.model_laws.proofs.SameLemmas.{keys_are, origins_are}
use Rattle.model_laws.specs.Courses.{state_at, moment_at}
use Rattle.model_laws.specs.DialLaws.{IsSecuredFor, IsOriginItself, IsNoted, IsProven, GoesToAlternative, GoesWhereItMay, IsGroupFor, IsFor, IsAhead, IsWantedBy, NewOnesGoWhereTheyMay}
use Rattle.model_histories.proofs.EditLemmas.{append_at, each_replicate}
use Rattle.model_histories.proofs.EffectLemmas.{IsAdding}
use Rattle.model_histories.proofs.RunLemmas.{Marks, marks-after}
use Rattle.model_histories.specs.Histories.{MayStand}
use Rattle.model_histories.specs.Legal.{IsReply}
use Rattle.model_settling.specs.Settling.{IsWant, IsDue}
use Rattle.model_steps.specs.After.{noted, after_preconnect, wanted_connection, after_want_of, after_want, after_act, after}
use Rattle.model_authority.proofs.NumberLemmas.{and_value, numbered_at}
use Rattle.model_authority.specs.Lists.{numbered}
use Rattle.model_authority.specs.Statuses.{is_h2}
use Rattle.model_authority.specs.Ways.{is_https, origin_target, alternative_target, list_of, is_row_of, alternatives_of, is_opportune, may_take, chosen_alternative, target_by, target_for, target_of, group_for}
use Rattle.model_values.specs.declared.config.Config.{Config}
use Rattle.model_values.specs.declared.entry.Act.{Act}
use Rattle.model_values.specs.declared.entry.Act.TheVariants.{Preconnect, Expire, Lapse, Assign, Want, Evict}
use Rattle.model_values.specs.declared.entry.Entry.{Entry}
use Rattle.model_values.specs.declared.reply.PreconnectReply.TheVariants as preconnect
use Rattle.model_values.specs.declared.state.AbstractPool.{AbstractPool}
use Rattle.model_values.specs.declared.state.AltRow.{AltRow}
use Rattle.model_values.specs.declared.state.Connection.{Connection}
use Rattle.model_values.specs.declared.state.Exchange.{Exchange}

-- ---- what is found in a list

found : {A : Type 0} (test : A → Bool) (xs : List A) (x : A) → find test xs ≡ Some x → Contains xs x × (test x ≡ true)
found test [] x is = absurd cc
found {A} test (y ∷ xs) x is =
    cond_both (test y) (Some y) (find test xs) (λ (o : Option A). o ≡ Some x → Contains (y ∷ xs) x × (test x ≡ true))
    (λ t e. let same : y ≡ x = same_Some y x e in subst (λ z. Contains (y ∷ xs) z × (test z ≡ true)) same (Contains-append_left (y ∷ []) xs y (Contains-push [] y), t))
    (λ f e. let later = found test xs x e in (Contains-append_right (y ∷ []) xs x later.0, later.1)) is

none_in : {A : Type 0} (x : A) → Contains [] x → ⊥
none_in x h = absurd (omega (arith, h.1))

-- ---- where the alternatives lead

noted_in : (rows : List AltRow) (key : PartitionKey) (origin : Origin) (a : Alternative) (o : Option AltRow) → find (is_row_of key origin) rows ≡ o → Contains (list_of o) a → IsNoted rows key origin a
noted_in rows key origin a None is listed = absurd (none_in a listed)
noted_in rows key origin a (Some row) is listed =
    let f = found (is_row_of key origin) rows row is in
    let same = and_parts (same_key row.key key) (same_origin row.origin origin) f.1 in
    record { row = row; is_row = f.0; of_key = keys_are row.key key same.0; of_origin = origins_are row.origin origin same.1; listed = listed }

chosen : (s : AbstractPool) (key : PartitionKey) (origin : Origin) (probe : Bool) (a : Alternative) → chosen_alternative s key origin probe ≡ Some a →
    IsNoted s.alternatives key origin a × (may_take s.latest origin probe a ≡ true)
unfolding chosen_alternative alternatives_of
chosen s key origin probe a is =
    let f = found (may_take s.latest origin probe) (alternatives_of s key origin) a is in
    (noted_in s.alternatives key origin a (find (is_row_of key origin) s.alternatives) refl f.0, f.1)

proven_by : (now : Moment) (probe : Bool) (probes : Type 0) (a : Alternative) → (probe ≡ true → probes) → is_opportune now probe a ≡ true → IsProven now probes a
proven_by now probe probes a claim h =
    let both = and_parts (is_h2 a.proto) (nat_lt now.0 a.proven_until.0 || probe) h in
    record { h2 = h2_is a.proto both.0; proven = elim (or_cases (nat_lt now.0 a.proven_until.0) probe both.1) [ inl t ↦ inl (ltb-true now.0 a.proven_until.0 t) | inr t ↦ inr (claim t) ] }

secured_for : (scheme : Scheme) (t : Target) → t.secure ≡ is_https scheme → IsSecuredFor scheme t
secured_for Http t h = h
secured_for Https t h = h

itself : (o : Origin) → IsOriginItself o (origin_target o)
itself o = record { host = refl; port = refl; secured = secured_for o.scheme (origin_target o) refl; directly = refl }

abbrev group_to : PartitionKey → Bool → Origin → Target → GroupKey
group_to key credentials origin t = record { key = key; credentials = credentials; origin = origin; target = t }

over : (rows : List AltRow) (now : Moment) (key : PartitionKey) (credentials : Bool) (origin : Origin) (probe : Bool) (probes : Type 0) (a : Alternative) → (probe ≡ true → probes) →
    IsNoted rows key origin a → may_take now origin probe a ≡ true → GoesToAlternative rows now probes (group_to key credentials origin (alternative_target a))
over rows now key credentials origin probe probes a claim is_noted h =
    let parts = and_parts (is_fresh a now) (is_https origin.scheme || is_opportune now probe a) h in
    let fresh = and_parts (nat_lt now.0 a.expires.0) (nat_le a.broken_until.0 now.0) parts.0 in
    record {
      alternative = a;
      noted = is_noted;
      unexpired = ltb-true now.0 a.expires.0 fresh.0;
      unbroken = leb-true a.broken_until.0 now.0 fresh.1;
      proven = λ http. elim (or_cases (is_https origin.scheme) (is_opportune now probe a) parts.1) [
        | inl https ↦ let plain : is_https origin.scheme ≡ false = ap is_https http in absurd (both_ways (is_https origin.scheme) plain https)
        | inr t ↦ proven_by now probe probes a claim t
      ];
      target = record { host = refl; port = refl; secured = refl; by_it = refl };
    }

goes_for : (s : AbstractPool) (key : PartitionKey) (credentials : Bool) (origin : Origin) (probe : Bool) (probes : Type 0) → (probe ≡ true → probes) →
    GoesWhereItMay s.alternatives s.latest probes (group_to key credentials origin (target_for s key origin probe))
unfolding target_for
goes_for s key credentials origin probe probes claim = by (chosen_alternative s key origin probe) refl
  where
    by : (o : Option Alternative) → chosen_alternative s key origin probe ≡ o → GoesWhereItMay s.alternatives s.latest probes (group_to key credentials origin (target_by origin o))
    by None is = inl (itself origin)
    by (Some a) is = let c = chosen s key origin probe a is in inr (over s.alternatives s.latest key credentials origin probe probes a claim c.0 c.1)

goes_of : (s : AbstractPool) (x : Exchange) → GoesWhereItMay s.alternatives s.latest (x.ask.probe ≡ true) (group_to x.ask.key x.ask.credentials x.ask.request.origin (target_of s x))
unfolding target_of
goes_of s x =
    let o : Origin = x.ask.request.origin in
    cond_both x.direct_only (origin_target o) (target_for s x.ask.key o x.ask.probe)
    (λ (t : Target). GoesWhereItMay s.alternatives s.latest (x.ask.probe ≡ true) (group_to x.ask.key x.ask.credentials o t))
    (λ d. inl (itself o)) (λ f. goes_for s x.ask.key x.ask.credentials o x.ask.probe (x.ask.probe ≡ true) (λ t. t))

-- ---- a connection that comes

-- the one that is put behind a list
pushed_place : {A : Type 0} (xs : List A) (y x : A) (k : ℕ) → slice_get xs k ≡ None → slice_get (xs ++ y ∷ []) k ≡ Some x → (k ≡ length xs) × (y ≡ x)
pushed_place [] y x zero none some = (refl, same_Some y x some)
pushed_place [] y x (suc k) none some = absurd cc
pushed_place (z ∷ xs) y x zero none some = absurd cc
pushed_place (z ∷ xs) y x (suc k) none some = let rest = pushed_place xs y x k none some in (ap suc rest.0, rest.1)

pushed : {A : Type 0} (xs : List A) (y x : A) (number : ℕ) → numbered number xs ≡ None → numbered number (xs ++ y ∷ []) ≡ Some x → (number ≡ length xs + 1) × (y ≡ x)
unfolding numbered
pushed xs y x zero none some = absurd cc
pushed xs y x (suc k) none some =
    let rest = pushed_place xs y x k (sym (numbered_at xs k) ∙ none) (sym (numbered_at (xs ++ y ∷ []) k) ∙ some) in
    let here : k ≡ length xs = rest.0 in
    (omega arith, rest.1)

now_same : (s : AbstractPool) (m : Moment) → m ≡ s.latest → (noted s m).latest ≡ s.latest
unfolding noted
now_same s m is = let whole : ℕ → Moment = λ k. record { 0 = k } in let e : m.0 ≡ s.latest.0 = ap (λ (k : Moment). k.0) is in ap whole (omega arith)

new_want : (s : AbstractPool) (m : Moment) (e : ExchangeNo) (c : ConnNo) (t : Target) (number : ℕ) (y : Connection) → IsWant s e c t → numbered number s.connections ≡ None →
    numbered number (after_want (noted s m) e t).connections ≡ Some y → IsWantedBy s s.latest number y (Want e c t)
unfolding after_want noted
new_want s m e c t number y due none some =
    let x : Exchange = due.exchange in
    let new : Connection = wanted_connection x e t (noted s m).latest in
    let there : numbered number (s.connections ++ new ∷ []) ≡ Some y = subst (λ o. numbered number (after_want_of (noted s m) e t o).connections ≡ Some y) due.is_exchange some in
    let last = pushed s.connections new y number none there in
    let to : GoesWhereItMay s.alternatives s.latest (x.ask.probe ≡ true) new.group =
    subst (λ (u : Target). GoesWhereItMay s.alternatives s.latest (x.ask.probe ≡ true) (group_to x.ask.key x.ask.credentials x.ask.request.origin u)) (sym due.is_target) (goes_of s x) in
    let of : IsGroupFor s.alternatives s.latest new.group x = record { key = refl; credentials = refl; origin = refl; goes = to } in (
      due.is_new ∙ sym last.0,
      subst (IsFor s s.latest e t) last.1
          (record { phase = refl; wanted_for = refl; group = and_value (numbered e.0 s.exchanges) (IsGroupFor s.alternatives s.latest new.group) x due.is_exchange of; target = refl }),
    )

new_ahead : (s : AbstractPool) (key : PartitionKey) (credentials : Bool) (origin : Origin) (k number : ℕ) (y : Connection) → numbered number s.connections ≡ None →
    numbered number (after_preconnect s (group_for s key credentials origin) (preconnect.Opening k)).connections ≡ Some y → IsAhead s.alternatives s.latest key credentials origin y
unfolding after_preconnect group_for
new_ahead s key credentials origin k number y none some =
    let g : GroupKey = group_for s key credentials origin in
    let new : Connection = new_connection g None s.latest in
    let P : Connection → Type 0 = IsAhead s.alternatives s.latest key credentials origin in
    let ahead : P new = record {
      phase = refl;
      wanted_for = refl;
      key = refl;
      credentials = refl;
      origin = refl;
      goes = goes_for s key credentials origin false ⊥ (λ f. absurd cc);
    } in
    append_at (λ (o : Option Connection) (p : Option Connection). o ≡ None → p ≡ Some y → P y) number s.connections (replicate k new) (λ o a b. absurd (cc (a, b)))
    (λ i z at a b. let one : P z = each_replicate P k new ahead i z at in subst P (same_Some z y b) one) none some

-- no other act makes one
none_new : (s : AbstractPool) (who : CallerNo) (act : Act) (number : ℕ) (y : Connection) → IsFit s act → (IsAdding act → ⊥) → numbered number s.connections ≡ None →
    numbered number (after_act s who act).connections ≡ Some y → ⊥
none_new s who act number y fit adds none some =
    subst (λ (o : Option Connection). OutAt o (Some y)) none (subst (OutAt (numbered number s.connections)) some (adds_act s who act fit adds number))

new_due : (s : AbstractPool) (m : Moment) (who : CallerNo) (act : Act) (number : ℕ) (y : Connection) → IsDue s act → IsFit (noted s m) act → numbered number s.connections ≡ None →
    numbered number (after_act (noted s m) who act).connections ≡ Some y → IsWantedBy s s.latest number y act
unfolding noted
new_due s m who (Want e c t) number y due fit none some = new_want s m e c t number y due none some
new_due s m who (Expire e) number y due fit none some = absurd (none_new (noted s m) who (Expire e) number y fit (λ adds. adds) none some)
new_due s m who (Lapse e) number y due fit none some = absurd (none_new (noted s m) who (Lapse e) number y fit (λ adds. adds) none some)
new_due s m who (Assign e c r by) number y due fit none some = absurd (none_new (noted s m) who (Assign e c r by) number y fit (λ adds. adds) none some)
new_due s m who (Evict c) number y due fit none some = absurd (none_new (noted s m) who (Evict c) number y fit (λ adds. adds) none some)
new_due s m who _ number y due fit none some = absurd due

new_reply : (s : AbstractPool) (m : Moment) (who : CallerNo) (act : Act) (number : ℕ) (y : Connection) → IsReply (noted s m) who act → IsFit (noted s m) act → numbered number s.connections ≡ None →
    numbered number (after_act (noted s m) who act).connections ≡ Some y → IsWantedBy s (noted s m).latest number y act
unfolding noted
new_reply s m who (Preconnect key credentials origin count (preconnect.Opening k)) number y reply fit none some = new_ahead (noted s m) key credentials origin k number y none some
new_reply s m who (Want e c t) number y reply fit none some = absurd reply
new_reply s m who act number y reply fit none some = absurd (none_new (noted s m) who act number y fit (λ adds. adds) none some)

new_by : (s : AbstractPool) (e : Entry) (number : ℕ) (y : Connection) → MayStand s e → numbered number s.connections ≡ None → numbered number (after s e).connections ≡ Some y →
    IsWantedBy s (noted s e.moment).latest number y e.act
unfolding after
new_by s e number y stand none some = elim stand.legal [
  | inl pools ↦ subst (λ now. IsWantedBy s now number y e.act) (sym (now_same s e.moment pools.moment)) (new_due s e.moment e.who e.act number y pools.due (fit_stand s e stand) none some)
  | inr calls ↦ new_reply s e.moment e.who e.act number y calls.reply (fit_stand s e stand) none some
]

-- the greatest moment with this entry
now_is : (config : Config) (h : List Entry) (n : ℕ) (e : Entry) → slice_get h n ≡ Some e → (noted (state_at config h n) e.moment).latest ≡ moment_at h (n + 1)
now_is config h n e is_entry =
    ap (λ (m : Marks). m.latest) (sym (marks-after (state_at config h n) e)) ∙ ap (λ (s : AbstractPool). s.latest) (sym (state_after config h n e is_entry)) ∙ latest_is config h (n + 1)

pub new_ones_go_where_they_may : NewOnesGoWhereTheyMay
new_ones_go_where_they_may config h n e number y comes none some =
    let s : AbstractPool = state_at config h n in
    let there : numbered number (after s e).connections ≡ Some y = subst (λ (t : AbstractPool). numbered number t.connections ≡ Some y) (state_after config h n e comes.is_entry) some in
    subst (λ now. IsWantedBy s now number y e.act) (now_is config h n e comes.is_entry) (new_by s e number y (comes.history.each n e comes.is_entry) none there)
