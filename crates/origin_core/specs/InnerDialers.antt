-- The dialer of scripted origins in memory.
use Rattle.std.specs.Prelude.{◌≡◌, ◌≤◌, ◌+◌, ◌==◌, ◌&&◌, ℕ, Bool, true, false, not, List, [], Option, None, Some, find, bytes_eq, if◌then◌else◌}
use Rattle.std.specs.List.{list_any}
use Rattle.net_base.specs.declared.numbers.ConnNo.{ConnNo}
use Rattle.net_base.specs.declared.target.Target.{Target}
use Rattle.net_base.specs.declared.identity.Identity.{Identity}
use Rattle.net_base.specs.declared.peer.Peer.{Peer}
use Rattle.net_base.specs.declared.peer.PeerAct.{PeerAct}
use Rattle.net_base.specs.declared.peer.ActKind.{ActKind}
use Rattle.net_base.specs.declared.peer.ActKind.TheVariants as act
use Rattle.edge_traits.specs.declared.dialer.Dialed.{Dialed}
use Rattle.edge_traits.specs.declared.dialer.Dialed.TheVariants.{Up, Failed, NoMem}
use Rattle.edge_traits.specs.Counts.{no_counts}
use Rattle.edge_traits.specs.Counted.{one_fault}
use Rattle.edge_traits.specs.Links.{LinkView}
use Rattle.edge_traits.specs.BookLinks.{upper_half}
use Rattle.edge_traits.specs.Dialers.{DialerView}
use Rattle.edge_traits.specs.Books.{books_view, books_within, books_none_out}
use Rattle.origin_core.specs.declared.inner_link.InnerLink.{InnerLink}
use Rattle.origin_core.specs.declared.inner_dialer.InnerDialer.{InnerDialer}
use Rattle.origin_core.specs.declared.inner_dialer.PeerCopies.{PeerCopies}
use Rattle.origin_core.specs.InnerLinks.{link_view, peer_of}

abbrev pub dialer_view : InnerDialer → DialerView
dialer_view dialer = books_view dialer.books

pub dialer_within : (dialer : InnerDialer) → (dialer_view dialer).left ≤ 4294967296
dialer_within dialer = books_within dialer.books

pub dialer_none_out : (dialer : InnerDialer) → (dialer_view dialer).staged ≡ None → (dialer_view dialer).out ≡ []
dialer_none_out dialer = books_none_out dialer.books

-- both are secured, or neither
abbrev pub same_security : Bool → Bool → Bool
same_security a b = if a then b else not b

-- the peer has the target's host, port and security
abbrev pub is_at : Target → Peer → Bool
is_at target peer = bytes_eq peer.host target.host && peer.port == target.port && same_security peer.secure target.secure

-- the act is one of this connection, or of each
abbrev pub is_act_of : ℕ → Option ConnNo → Bool
is_act_of conn None = true
is_act_of conn (Some own) = own.0 == conn

abbrev pub is_no_dial : ActKind → Bool
is_no_dial act.NoDial = true
is_no_dial kind = false

-- the act is a `nodial` that fits the connection
abbrev pub is_refusal : ℕ → PeerAct → Bool
is_refusal conn a = is_act_of conn a.conn && is_no_dial a.kind

-- a `nodial` act of the peer fits the connection
abbrev pub refuses : ℕ → Peer → Bool
refuses conn peer = list_any (is_refusal conn) peer.acts

-- the peer, unless it refuses the connection
abbrev pub unless_refused : ℕ → Option Peer → Option Peer
unless_refused conn None = None
unless_refused conn (Some peer) = if refuses conn peer then None else Some peer

-- the peer that a dial reaches: the first one with the target's host, port and security, unless it refuses
abbrev pub reached : List Peer → ℕ → Target → Option Peer
reached peers conn target = unless_refused conn (find (is_at target) peers)

-- what a peer shows of itself
abbrev pub identity_of : Peer → Identity
identity_of peer = record { names = peer.names; secure = peer.secure; proto = peer.proto; address = peer.address }

-- the copies that a dial takes of the peer that it reaches
abbrev pub AreCopies : List Peer → ℕ → Target → Option PeerCopies → Type 0
AreCopies peers conn target None = reached peers conn target ≡ None
AreCopies peers conn target (Some it) =
    (reached peers conn target ≡ Some it.peer) × (it.shown ≡ identity_of it.peer) × (it.kept ≡ identity_of it.peer)

-- a dial comes up with the peer that it reaches, and fails where it reaches none
abbrev pub DialsPeer : List Peer → ℕ → Target → Dialed InnerLink → Type 0
DialsPeer peers conn target (Up link identity) =
    (reached peers conn target ≡ Some (peer_of link)) × (identity ≡ identity_of (peer_of link))
DialsPeer peers conn target Failed = reached peers conn target ≡ None
DialsPeer peers conn target NoMem = Unit {0}

-- a dial that comes up counts nothing, and gives its link the half of what is left, rounded up
pub record ComesUp (before after : DialerView) (link : LinkView) : Type 0 where
  pub counts : after.counts ≡ before.counts
  pub link_counts : link.counts ≡ no_counts
  pub allowance : link.allowance ≡ upper_half before.left
  pub left : after.left + link.allowance ≡ before.left

-- a dial that fails counts one fault, and takes nothing of what is left
pub record FailsOnce (before after : DialerView) : Type 0 where
  pub counts : after.counts ≡ one_fault before.counts
  pub left : after.left ≡ before.left

-- what a dial counts, and what it takes of what is left; without memory nothing has changed
abbrev pub DialsExactly : DialerView → Dialed InnerLink → DialerView → Type 0
DialsExactly before (Up link identity) after = ComesUp before after (link_view link)
DialsExactly before Failed after = FailsOnce before after
DialsExactly before NoMem after = after ≡ before
