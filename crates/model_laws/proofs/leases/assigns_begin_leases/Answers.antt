use Rattle.model_laws.proofs.BeginLemmas.{assigns_begin_leases}
use Rattle.model_laws.proofs.leases.assigns_begin_leases.Goals as goal

pub returns : goal.returns
returns c = assigns_begin_leases
