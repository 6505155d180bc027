-- The next part of a dialer in memory.
use Rattle.std.proofs.Common.{◌≡◌, ℕ, List, ◌∷◌, sym, subst}
use Rattle.net_base.specs.declared.identity.Identity.{Identity}
use Rattle.edge_traits.specs.declared.script_link.ScriptLink.{ScriptLink}
use Rattle.edge_traits.specs.declared.script_part.ScriptPart.{ScriptPart}
use Rattle.edge_traits.specs.MemDialer.{DialerState, PlaysPart, PlaysNext}

pub plays_next : (parts : List ScriptPart) (part : ScriptPart) (rest : List ScriptPart) (before after : DialerState) (conn : ℕ) (link : ScriptLink) (identity : Identity)
    → parts ≡ part ∷ rest → PlaysPart part rest before after conn link identity → PlaysNext parts before after conn link identity
plays_next parts part rest before after conn link identity is plays =
    let P : List ScriptPart → Type 0 = λ l. PlaysNext l before after conn link identity in
    subst P (sym is) plays
