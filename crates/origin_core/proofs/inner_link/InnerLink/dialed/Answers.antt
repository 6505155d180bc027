use Rattle.std.proofs.Common.{arith, lit<}
use Rattle.plain_values.proofs.Fronts.{front_none}
use Rattle.origin_core.specs.ScriptedOrigin.{put_of}
use Rattle.origin_core.proofs.inner_link.InnerLink.dialed.Goals as goal

pub invariant_of-result : goal.invariant_of-result
invariant_of-result c = record {
  within = rw c.new-3.ensures.items (omega arith);
  short = rw c.new-2.ensures.items (lit< tt);
  origin_at = c.new.ensures.fresh c.args.peer c.new-2.result.items;
  given = front_none c.new-3.result.items (put_of c.new.result) c.new-3.ensures.items;
}
