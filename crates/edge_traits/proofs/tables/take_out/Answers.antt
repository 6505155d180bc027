use Rattle.edge_traits.proofs.BookPlaces.{was_taken, sum_taken, stands}
use Rattle.edge_traits.proofs.tables.take_out.Goals as goal

pub find_out-at-requires : goal.find_out-at-requires
find_out-at-requires c = (c.requires.0, rw c.deref.ensures.value (stands c.args.out.now.items c.requires.0 c.args.place c.requires.1))

pub returns-clause-taken : goal.returns-clause-taken
returns-clause-taken c = was_taken c.args.out.now.items c.remove.new.self.items c.find_out-at.result c.args.place (rw c.deref.ensures.value at c.find_out-at.ensures) c.remove.ensures.items

pub returns-clause-sum : goal.returns-clause-sum
returns-clause-sum c = sum_taken c.args.out.now.items c.remove.new.self.items c.find_out-at.result c.args.place (rw c.deref.ensures.value at c.find_out-at.ensures) c.remove.ensures.items
