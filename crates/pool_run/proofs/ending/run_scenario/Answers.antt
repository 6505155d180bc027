use Rattle.std.proofs.Common.{refl}
use Rattle.pool_run.specs.declared.ending.Command.TheVariants as commands
use Rattle.pool_run.proofs.Endings.{refuses_on}
use Rattle.pool_run.proofs.ending.run_scenario.Goals as goal

pub returns-in-Ok : goal.returns-in-Ok
returns-in-Ok g c = c.run_small.ensures c.in-Ok.field-0 c.in-Ok.ensures.ok

pub returns : goal.returns
returns g c = refuses_on commands.Serial _ _ _ c.in-Err.fault _ (λ e. cc e) refl c.refused.ensures.named c.refused.ensures.line c.in-Err.ensures.refused
