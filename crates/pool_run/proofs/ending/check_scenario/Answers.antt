use Rattle.std.proofs.Common.{refl}
use Rattle.pool_run.specs.declared.ending.Command.TheVariants as commands
use Rattle.pool_run.proofs.Endings.{refuses_on}
use Rattle.pool_run.proofs.ending.check_scenario.Goals as goal

pub returns-in-Err : goal.returns-in-Err
returns-in-Err c = λ v. refuses_on commands.Check _ v v c.in-Err.fault _ (λ e. cc e) refl c.refused.ensures.named c.refused.ensures.line c.in-Err.ensures.refused
