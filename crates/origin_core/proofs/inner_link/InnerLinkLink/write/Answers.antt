use Rattle.std.proofs.Common.{arith, is_ok}
use Rattle.origin_core.proofs.InnerLinks.{origin_after}
use Rattle.origin_core.proofs.inner_link.InnerLinkLink.write.Goals as goal

pub invariant_of-self : goal.invariant_of-self
invariant_of-self c = record {
  within = c.args.self.now.within;
  short = omega (arith, c.extend_from_slice.new.self.ok, c.extend_from_slice.new.self.small);
  origin_at = origin_after (is_ok c.extend_from_slice.result) c.args.self.now.peer c.args.self.now.written.items c.extend_from_slice.new.self.items
      c.args.piece.now c.args.self.now.origin c.extend_from_slice.ensures.items c.args.self.now.origin_at;
  given = c.args.self.now.given;
}
