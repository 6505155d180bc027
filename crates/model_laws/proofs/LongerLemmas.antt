-- A legal call and what settles behind it make a history longer, and what is due doesn't look at the number of entries.
use Rattle.std.proofs.Common.{◌+◌, ◌≡◌, ℕ, zero, suc, max, List, [], ◌∷◌, ◌++◌, Some, inl, inr, refl, sym, subst, ◌∙◌, take, slice_get}
use Rattle.model_laws.specs.LongerLaws.{CallsMakeHistories, DueIgnoresEntries, LateIgnoresEntries}
use Rattle.model_laws.specs.SettlingLaws.{AreSettling}
use Rattle.model_histories.proofs.HistoryLemmas.{AreStanding, each_standing}
use Rattle.model_histories.specs.Histories.{opening, run_from, run, MayStand}
use Rattle.model_authority.specs.Ways.{alternatives_of, chosen_alternative, target_for, target_of, group_of, group_for, is_alternative, addresses_of, is_coalesced, has_way, way_of, is_usable}
use Rattle.model_settling.proofs.DueLemmas.{due_is, due_unique}
use Rattle.model_settling.specs.Counts.{count_total, count_in_group, openings_of, background_leases}
use Rattle.model_settling.specs.Due.{assign_of, expire_due, lapse_due, assign_due, want_due, must_evict, evict_due, due_of, act_of}
use Rattle.model_settling.specs.Room.{may_background_start, is_eligible, expects_h2, has_open_h2, has_opening_for, eligible_in, openings_wanted, has_room_in, has_room_but_total, has_room}
use Rattle.model_settling.specs.Settling.{IsDue}
use Rattle.model_settling.specs.declared.kinds.Due.{Due}
use Rattle.model_steps.specs.After.{noted, after}
use Rattle.model_values.specs.declared.entry.Act.{Act}
use Rattle.model_values.specs.declared.entry.Entry.{Entry}
use Rattle.model_values.specs.declared.state.AbstractPool.{AbstractPool}

-- ---- entries that may stand, one behind another

standing_each : (s : AbstractPool) (h : List Entry) → AreStanding s h → (i : ℕ) (x : Entry) → slice_get h i ≡ Some x → MayStand (run_from s (take i h)) x
unfolding run_from
standing_each s [] stand i x is_entry = absurd cc
standing_each s (y ∷ h) stand zero x is_entry = let same : y ≡ x = cc in subst (MayStand s) same stand.0
standing_each s (y ∷ h) stand (suc i) x is_entry = standing_each (after s y) h stand.1 i x is_entry

standing_then : (s : AbstractPool) (h more : List Entry) → AreStanding s h → AreStanding (run_from s h) more → AreStanding s (h ++ more)
unfolding run_from
standing_then s [] more first then = then
standing_then s (y ∷ h) more first then = (first.0, standing_then (after s y) h more first.1 then)

run_from-append : (s : AbstractPool) (h more : List Entry) → run_from s (h ++ more) ≡ run_from (run_from s h) more
unfolding run_from
run_from-append s [] more = refl
run_from-append s (y ∷ h) more = run_from-append (after s y) h more

settling_stands : (s : AbstractPool) (xs : List Entry) → AreSettling s xs → AreStanding s xs
settling_stands s [] own = tt
settling_stands s (x ∷ xs) own =
    (record { legal = inl own.0; settled = λ caller. absurd (caller own.0.caller) }, settling_stands (after s x) xs own.1)

pub calls_make_histories : CallsMakeHistories
unfolding run run_from
calls_make_histories config h x xs history call settles =
    let first : AreStanding (opening config) h = each_standing (opening config) h history.each in
    let then : AreStanding (run config h) (x ∷ xs) = (record { legal = inr call; settled = λ caller. history.settled }, settling_stands (after (run config h) x) xs settles.own) in
    let state : run config (h ++ x ∷ xs) ≡ run_from (after (run config h) x) xs = run_from-append (opening config) h (x ∷ xs) in
    record {
      each = standing_each (opening config) (h ++ x ∷ xs) (standing_then (opening config) h (x ∷ xs) first then);
      settled = subst (λ s. (act : Act) → ¬ IsDue s act) (sym state) settles.settled;
    }

-- ---- what is due

due_same : (s : AbstractPool) (n : ℕ) → due_of (record s { entries = n }) ≡ due_of s
unfolding alternatives_of chosen_alternative target_for target_of group_of group_for is_alternative addresses_of is_coalesced has_way way_of is_usable may_background_start is_eligible expects_h2 has_open_h2 has_opening_for eligible_in openings_wanted has_room_in has_room_but_total has_room assign_of expire_due lapse_due assign_due want_due must_evict evict_due due_of count_total count_in_group openings_of background_leases
due_same s n = refl

act_same : (s : AbstractPool) (n : ℕ) (d : Due) → act_of (record s { entries = n }) d ≡ act_of s d
unfolding target_for target_of chosen_alternative alternatives_of
act_same s n d = refl

pub due_ignores_entries : DueIgnoresEntries
due_ignores_entries s n act = (λ h. let u = due_unique (record s { entries = n }) act h in due_is s u.0 act (sym (due_same s n) ∙ u.1) (sym (act_same s n u.0) ∙ u.2), λ h. let u = due_unique s act h in due_is (record s { entries = n }) u.0 act (due_same s n ∙ u.1) (act_same s n u.0 ∙ u.2))

pub late_ignores_entries : LateIgnoresEntries
unfolding noted
late_ignores_entries s m =
    let raised : AbstractPool = record s { latest = record { 0 = max s.latest.0 m.0 } } in
    (λ h. (h.0, (due_ignores_entries raised (s.entries + 1) h.0).0 h.1), λ h. (h.0, (due_ignores_entries raised (s.entries + 1) h.0).1 h.1))
