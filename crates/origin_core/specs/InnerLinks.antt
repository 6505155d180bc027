-- A link to a scripted origin in memory, which tells all, and whose octets are what the origin puts for the octets that
-- were written to it.
use Rattle.std.specs.Prelude.{◌≡◌, ◌⊎◌, ◌<◌, ℕ, Bool, true, false, List}
use Rattle.std.proofs.Math.Nat.{le_of_lt}
use Rattle.plain_values.specs.Fronts.{IsFrontOf}
use Rattle.net_base.specs.declared.peer.Peer.{Peer}
use Rattle.edge_traits.specs.declared.link.LinkRead.{LinkRead}
use Rattle.edge_traits.specs.declared.link.LinkRead.TheVariants as reading
use Rattle.edge_traits.specs.Counts.{Counts}
use Rattle.edge_traits.specs.Counted.{one_read_quiet, one_end}
use Rattle.edge_traits.specs.Links.{LinkView, IsWithinAllowance}
use Rattle.edge_traits.specs.BookLinks.{counts_of, out_link_view}
use Rattle.origin_core.specs.ScriptedOrigin.{Puts}
use Rattle.origin_core.specs.declared.inner_link.InnerLink.{InnerLink}

abbrev pub link_view : InnerLink → LinkView
link_view link = out_link_view link.place (counts_of link.tally) link.written.items link.received.items

-- the peer that the link leads to
abbrev pub peer_of : InnerLink → Peer
peer_of link = link.peer

-- what was written to the link, and what was received from it
abbrev pub written_to : InnerLink → List ℕ
written_to link = link.written.items

abbrev pub received_from : InnerLink → List ℕ
received_from link = link.received.items

pub link_within : (link : InnerLink) → IsWithinAllowance (link_view link)
link_within link = record { gave = link.within; took = le_of_lt link.short }

-- what was received is the beginning of what the origin puts
abbrev pub GivesPut : Peer → List ℕ → List ℕ → Type 0
GivesPut peer written received = (put : List ℕ) × (over : Bool) × Puts peer written put over × IsFrontOf received put

-- what a read answers: the next octets of what the origin put; Quiet where all of it was given and it isn't over; End
-- where all was given and it is over, or where the link gave its allowance
abbrev pub ReadsPut : InnerLink → LinkRead → InnerLink → Type 0
ReadsPut before (reading.Got n) after = (0 < n) × GivesPut (peer_of before) (written_to before) (received_from after)
ReadsPut before reading.Quiet after = Puts (peer_of before) (written_to before) (received_from before) false
ReadsPut before reading.End after =
    Puts (peer_of before) (written_to before) (received_from before) true ⊎ ((link_view before).gave ≡ (link_view before).allowance)
ReadsPut before reading.Failed after = ⊥
ReadsPut before reading.NoMem after = Unit {0}

-- what a read counts: a Quiet and an End once, and nothing else
abbrev pub CountsRead : Counts → LinkRead → Counts → Type 0
CountsRead before (reading.Got n) after = after ≡ before
CountsRead before reading.Quiet after = after ≡ one_read_quiet before
CountsRead before reading.End after = after ≡ one_end before
CountsRead before reading.Failed after = ⊥
CountsRead before reading.NoMem after = after ≡ before
