use Rattle.plain_values.proofs.Fronts.{take_front}
use Rattle.origin_core.proofs.inner_link.next_piece.Goals as goal

pub returns-clause-next : goal.returns-clause-next
returns-clause-next c = take_front c.args.given.now c.args.put.now _ c.requires.front
