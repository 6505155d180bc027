use Rattle.std.proofs.Common.{◌↔◌, Bool, IsTrue, sym, subst}
use Rattle.peer_identity.specs.Covers.{Covers}
use Rattle.peer_identity.proofs.CoverLemmas.{covers_is_covered}
use Rattle.peer_identity.proofs.cover.covers.Goals as goal

pub returns-clause-fact : goal.returns-clause-fact
returns-clause-fact c =
    let Tells : Bool → Type 0 = λ b. IsTrue b ↔ Covers c.args.id.now c.args.host.now in
    subst Tells (sym c.some_matches.ensures) (covers_is_covered c.args.id.now c.args.host.now)
