use Rattle.std.proofs.Common.{sym}
use Rattle.model_authority.proofs.WayLemmas.{way_of_is, way_of_back, has_way_is}
use Rattle.model_authority.proofs.way_laws.way_is_first.Goals as goal

pub returns : goal.returns
returns c = record { first = λ s e x by. (way_of_is s e x by, way_of_back s e x by); some = λ s e x. sym (has_way_is s e x) }
