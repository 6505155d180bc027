use Rattle.edge_traits.proofs.Steps.{kept_out}
use Rattle.edge_traits.proofs.tests.a_dialer_logs_a_retired_link.Goals as goal

pub retire-requires : goal.retire-requires
retire-requires g c = kept_out _ _ _ _ _ _ _ c.in-Up.ensures.answer c.write.ensures.keeps
