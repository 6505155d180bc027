use Rattle.edge_traits.proofs.Steps.{keeps_on, kept_out}
use Rattle.origin_core.proofs.inner_dialer.tests.a_link_gives_what_the_origin_puts.Goals as goal

pub retire-requires : goal.retire-requires
retire-requires g c =
    kept_out _ _ _ _ _ _ _ c.in-Up.ensures.law (keeps_on _ _ _ c.write.ensures.keeps (keeps_on _ _ _ c.read.ensures.keeps (keeps_on _ _ _ c.read-2.ensures.keeps c.read-3.ensures.keeps)))
