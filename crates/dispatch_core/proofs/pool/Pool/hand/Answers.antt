use Rattle.dispatch_core.proofs.ToldLemmas.{are_told}
use Rattle.dispatch_core.proofs.pool.Pool.hand.Goals as goal

pub returns-clause-ok : goal.returns-clause-ok
returns-clause-ok c = record {
  marks = c.args.marks;
  enters = c.in_ok-enter.ensures.ok;
  are_orders = are_told c.marks_have_one_order.ensures c.args.self.now c.enter.new.self c.args.s c.args.who c.args.moment c.args.conn c.args.sent c.args.marks c.in_ok-list.list c.requires.noted c.in_ok-enter.ensures.ok (rw (← c.as_slice.ensures) c.in_ok-list.ensures);
}
