use Rattle.model_laws.proofs.DialedLemmas.{entries_are_the_dialers}
use Rattle.model_laws.proofs.dials.entries_are_the_dialers.Goals as goal

pub returns : goal.returns
returns c = entries_are_the_dialers
