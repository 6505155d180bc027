use Rattle.serde_json.specs.View.{view}
use Rattle.scenario_text.proofs.ReaderFaults.{refused}
use Rattle.scenario_text.proofs.scenario.read_scenario.Goals as goal

pub returns-in-Ok-clause-refused : goal.returns-in-Ok-clause-refused
returns-in-Ok-clause-refused c = refused c.args.bytes.now (view c.in-Ok.value) c.scenario_of.result c.in-Ok.ensures.ok c.scenario_of.ensures
