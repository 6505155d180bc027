use Rattle.model_laws.proofs.LongerLemmas.{late_ignores_entries}
use Rattle.model_laws.proofs.longer.late_ignores_entries.Goals as goal

pub returns : goal.returns
returns c = late_ignores_entries
