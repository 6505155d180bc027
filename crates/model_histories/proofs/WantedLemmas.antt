-- In each history no entry of a worker is about a connection that is wanted.
use Rattle.std.proofs.Common.{[], ◌≡◌, ℕ, List, ◌∷◌, true, false, refl, sym, ap, subst, IsTrue}
use Rattle.std.specs.Prelude.{◌==◌, ◌||◌, All}
use Rattle.std.proofs.lemmas.Bool.{eqb-true, both_ways}
use Rattle.std.proofs.lemmas.List.Elements.{All-nil, All-cons}
use Rattle.net_base.specs.declared.numbers.CallerNo.{CallerNo}
use Rattle.net_base.specs.declared.numbers.ConnNo.{ConnNo}
use Rattle.model_histories.proofs.EffectLemmas.{effect_act}
use Rattle.model_histories.proofs.HeldLemmas.{IsDialed, report_phase}
use Rattle.model_histories.proofs.HistoryLemmas.{AreStanding, each_standing}
use Rattle.model_histories.proofs.OwnLemmas.{reported_in, closed_live}
use Rattle.model_histories.proofs.WorkingLemmas.{IsSound, IsFit, go_act, sound_noted, fit_legal, sound_after, sound_opening}
use Rattle.model_histories.specs.Histories.{opening, run_from, run}
use Rattle.model_histories.specs.Legal.{IsWorkersEntry, MayReport, MayClose, MayTake, IsLegal}
use Rattle.model_histories.specs.Port.{is_opening_report}
use Rattle.model_histories.specs.Reading.{is_about}
use Rattle.model_histories.specs.Working.{WantedAreUntouched}
use Rattle.model_steps.specs.After.{noted, after_act, after}
use Rattle.model_authority.proofs.NumberLemmas.{value_and}
use Rattle.model_authority.proofs.PhaseLemmas.{excludes}
use Rattle.model_authority.specs.Lists.{numbered}
use Rattle.model_authority.specs.Statuses.{is_wanted, is_dialing, is_busy}
use Rattle.model_values.specs.declared.entry.Act.{Act}
use Rattle.model_values.specs.declared.entry.Act.TheVariants.{Dial, Orders, Reported, Closed}
use Rattle.model_values.specs.declared.entry.Entry.{Entry}
use Rattle.model_values.specs.declared.state.AbstractPool.{AbstractPool}
use Rattle.model_values.specs.declared.state.Connection.{Connection}

-- ---- one entry

-- what its worker has dialed or opened isn't wanted
live_dialed : (x : Connection) → (is_dialing x.phase || is_busy x.phase) ≡ true → is_wanted x.phase ≡ false
live_dialed x live = excludes (λ p. is_dialing p || is_busy p) is_wanted refl x.phase live

-- an act leaves its connection dialed that was so before
still_dialed : (s : AbstractPool) (who : CallerNo) (act : Act) (conn c : ConnNo) → IsSound s → IsFit s who act → IsTrue (conn.0 == c.0) → IsDialed (numbered conn.0 s.connections) →
    IsDialed (numbered c.0 (after_act s who act).connections)
still_dialed s who act conn c sound fit same dialed =
    (go_act s who act sound fit c.0).dialed (subst (λ (n : ℕ). IsDialed (numbered n s.connections)) (eqb-true conn.0 c.0 same) dialed)

-- a worker's act leaves the connection that it is about dialed
about_dialed : (s : AbstractPool) (who : CallerNo) (act : Act) (c : ConnNo) → IsSound s → IsFit s who act → IsTrue (is_about c act) → IsDialed (numbered c.0 (after_act s who act).connections)
about_dialed s who (Dial conn target) c sound fit same =
    let v = value_and (numbered conn.0 s.connections) (λ x. IsTrue (is_wanted x.phase)) fit in
    let y = (effect_act s who (Dial conn target)).changed v.0 v.1 in
    let dialed : is_wanted y.0.phase ≡ false = ap (λ (z : Connection). is_wanted z.phase) y.2 in
    subst (λ (n : ℕ). IsDialed (numbered n (after_act s who (Dial conn target)).connections)) (eqb-true conn.0 c.0 same) (subst IsDialed (sym y.1) dialed)
about_dialed s who (Orders conn sent orders) c sound fit same =
    let v = value_and (numbered conn.0 s.connections) (λ x. IsWorkersEntry x who sent × MayTake x orders) fit in
    still_dialed s who (Orders conn sent orders) conn c sound fit same (subst IsDialed (sym v.1) (excludes is_busy is_wanted refl v.0.phase v.2.1.0))
about_dialed s who (Reported conn sent r) c sound fit same =
    let v = value_and (numbered conn.0 s.connections) (λ x. IsWorkersEntry x who sent × MayReport x r) fit in
    let live = (report_phase (is_dialing v.0.phase) (is_busy v.0.phase) (is_opening_report r) (reported_in v.0 r v.2.1)).0 in
    still_dialed s who (Reported conn sent r) conn c sound fit same (subst IsDialed (sym v.1) (live_dialed v.0 live))
about_dialed s who (Closed conn sent end heard) c sound fit same =
    let v = value_and (numbered conn.0 s.connections) (λ x. IsWorkersEntry x who sent × MayClose x end) fit in
    still_dialed s who (Closed conn sent end heard) conn c sound fit same (subst IsDialed (sym v.1) (live_dialed v.0 (closed_live v.0 end v.2.1)))
about_dialed s who _ c sound fit same = absurd cc

dialed_after : (s : AbstractPool) (e : Entry) (n : ℕ) → IsSound s → IsLegal s e → IsDialed (numbered n s.connections) → IsDialed (numbered n (after s e).connections)
unfolding after noted
dialed_after s e n sound legal dialed = (go_act (noted s e.moment) e.who e.act (sound_noted s e.moment sound) (fit_legal s e legal) n).dialed dialed

about_after : (s : AbstractPool) (e : Entry) (c : ConnNo) → IsSound s → IsLegal s e → IsTrue (is_about c e.act) → IsDialed (numbered c.0 (after s e).connections)
unfolding after
about_after s e c sound legal about = about_dialed (noted s e.moment) e.who e.act c (sound_noted s e.moment sound) (fit_legal s e legal) about

-- ---- whole histories

dialed_run : (s : AbstractPool) (h : List Entry) (n : ℕ) → IsSound s → AreStanding s h → IsDialed (numbered n s.connections) → IsDialed (numbered n (run_from s h).connections)
unfolding run_from
dialed_run s [] n sound all dialed = dialed
dialed_run s (e ∷ h) n sound all dialed = dialed_run (after s e) h n (sound_after s e sound all.0.legal) all.1 (dialed_after s e n sound all.0.legal dialed)

untouched_run : (s : AbstractPool) (h : List Entry) (c : ConnNo) → IsSound s → AreStanding s h → (IsDialed (numbered c.0 (run_from s h).connections) → ⊥) →
    All (λ (e : Entry). ¬ IsTrue (is_about c e.act)) h
unfolding run_from
untouched_run s [] c sound all undialed = All-nil (λ (e : Entry). ¬ IsTrue (is_about c e.act))
untouched_run s (e ∷ h) c sound all undialed =
    let next = sound_after s e sound all.0.legal in
    All-cons (λ (x : Entry). ¬ IsTrue (is_about c x.act)) e h (λ about. undialed (dialed_run (after s e) h c.0 next all.1 (about_after s e c sound all.0.legal about)))
    (untouched_run (after s e) h c next all.1 undialed)

pub wanted_are_untouched : WantedAreUntouched
unfolding run
wanted_are_untouched config h c x history is wanted =
    untouched_run (opening config) h c (sound_opening config) (each_standing (opening config) h history.each)
    (λ dialed. both_ways (is_wanted x.phase) (subst IsDialed is dialed) wanted)
