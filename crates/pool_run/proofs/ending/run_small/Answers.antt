use Rattle.std.proofs.Common.{refl, ap, inr, Err}
use Rattle.scenario_walk.specs.declared.fault.ScenarioFault.TheVariants as faults
use Rattle.pool_run.specs.declared.ending.Command.TheVariants as commands
use Rattle.pool_run.proofs.Endings.{refuses_on, leaves_outside, runs_on}
use Rattle.pool_run.proofs.ending.run_small.Goals as goal

pub returns-in-Ok : goal.returns-in-Ok
returns-in-Ok g c = λ s known. runs_on _ _ _ s c.in-Ok.form _ c.in-Ok.ensures.ok c.run_form.ensures known

pub returns-in-Err-NotJson : goal.returns-in-Err-NotJson
returns-in-Err-NotJson g c =
    let none = c.in-Err-NotJson.ensures.not_json (ap Err c.in-Err-NotJson.field-0-is) in
    λ s known. refuses_on commands.Serial _ _ _ faults.NotJson _ (λ e. cc e) refl c.refused.ensures.named c.refused.ensures.line (inr none)

pub returns-in_ok-path-in-Err-Unsupported : goal.returns-in_ok-path-in-Err-Unsupported
returns-in_ok-path-in-Err-Unsupported g c =
    let outside = c.in-Err-Unsupported.ensures.unsupported (ap Err c.in-Err-Unsupported.field-0-is) in
    λ s known. leaves_outside _ _ _ _ s _ refl (ap faults.Unsupported c.in_ok-path-in-Err-Unsupported.ensures) c.refused-in-Err-Unsupported.ensures.line known outside
