use Rattle.pool_run.specs.declared.ending.Command.TheVariants as commands
use Rattle.pool_run.proofs.Endings.{on_command}
use Rattle.pool_run.proofs.ending.report_of.Goals as goal

pub returns-in-Serial : goal.returns-in-Serial
returns-in-Serial g c = on_command _ commands.Serial _ _ _ _ c.in-Serial.is c.run_scenario.ensures

pub returns-in-Check : goal.returns-in-Check
returns-in-Check g c = on_command _ commands.Check _ _ _ _ c.in-Check.is (c.check_scenario.ensures _)

pub returns-in-Replay : goal.returns-in-Replay
returns-in-Replay g c = on_command _ commands.Replay _ _ _ _ c.in-Replay.is (c.replay_pair.ensures _)
