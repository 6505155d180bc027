-- What contracts see of a dialer, and the laws of the outside: what a retired link leaves behind, how many octets all
-- links of one dialer give, and that the log and the records only grow.
use Rattle.std.specs.Prelude.{◌≡◌, ◌⊎◌, ℕ, ◌+◌, ◌≤◌, List, [], ◌∷◌, ◌++◌, slice_get, sum_by, Option, None, Some}
use Rattle.net_base.specs.declared.target.Target.{Target}
use Rattle.net_base.specs.declared.identity.Identity.{Identity}
use Rattle.net_base.specs.declared.peer.Peer.{Peer}
use Rattle.edge_traits.specs.declared.dialer.NetKind.{NetKind}
use Rattle.edge_traits.specs.declared.dialer.Dialed.{Dialed}
use Rattle.edge_traits.specs.declared.dialer.Dialed.TheVariants.{Up, Failed, NoMem}
use Rattle.edge_traits.specs.Counts.{Rose, Counts, NoneFell, counts_sum}
use Rattle.edge_traits.specs.Told.{Grew, StaysIfTold, IsNoneLeft}
use Rattle.edge_traits.specs.Links.{Place, LinkView}

-- a retired link: its connection, and the octets that were written to it and received from it
pub record LogLine : Type 0 where
  pub conn : ℕ
  pub written : List ℕ
  pub received : List ℕ

-- a dial that answered: the identity of the link that came up, or nothing where it failed
pub record DialRecord : Type 0 where
  pub conn : ℕ
  pub target : Target
  pub identity : Option Identity

-- what a dialer was staged with
pub record Staging : Type 0 where
  pub net : NetKind
  pub peers : List Peer

-- its counts, with those of its retired links; how many octets its links may still be given; the places of the links
-- that are out; the log and the records, where it tells them; and what was staged, nothing at first
pub record DialerView : Type 0 where
  pub counts : Counts
  pub left : ℕ
  pub out : List Place
  pub log : Option (List LogLine)
  pub records : Option (List DialRecord)
  pub staged : Option Staging

-- the link stands for this connection
abbrev pub IsAt : ℕ → Option Place → Type 0
IsAt conn None = ⊥
IsAt conn (Some place) = place.conn ≡ conn

-- the place as a list
abbrev pub listed : Option Place → List Place
listed None = []
listed (Some place) = place ∷ []

-- the link is one that was dialed for this connection and is out
abbrev pub IsOut : ℕ → Option Place → List Place → Type 0
IsOut conn None out = ⊥
IsOut conn (Some place) out = (place.conn ≡ conn) × ((at : ℕ) × (slice_get out at ≡ Some place))

-- the same places but for one, which was taken out: each sum over them says so
abbrev pub TakenOut : List Place → Option Place → List Place → Type 0
TakenOut before None after = ⊥
TakenOut before (Some place) after = (f : Place → ℕ) → sum_by f before ≡ f place + sum_by f after

-- a dialer was staged; what it told so far it may cease to tell, as over a net whose octets nobody keeps
pub record Stages (before after : DialerView) (net : NetKind) (peers : List Peer) : Type 0 where
  pub staged : after.staged ≡ Some (record { net = net; peers = peers })
  pub counts : after.counts ≡ before.counts
  pub left : after.left ≡ before.left
  pub out : after.out ≡ before.out
  pub log : StaysIfTold before.log after.log
  pub records : StaysIfTold before.records after.records

-- a link as it comes from its dial: for this connection, with nothing given and taken, written and received; a dialer
-- that tells its log gives links that tell what was written and received
pub record IsFreshLink (conn : ℕ) (link : LinkView) (log : Option (List LogLine)) : Type 0 where
  pub place : IsAt conn link.place
  pub gave : link.gave ≡ 0
  pub took : link.took ≡ 0
  pub nothing_written : IsNoneLeft link.written
  pub nothing_received : IsNoneLeft link.received
  pub written : (lines : List LogLine) → log ≡ Some lines → link.written ≡ Some []
  pub received : (lines : List LogLine) → log ≡ Some lines → link.received ≡ Some []

-- a dial that came up: the link's allowance is taken out of what is left
pub record DialedUp (before after : DialerView) (conn : ℕ) (target : Target) (link : LinkView) (identity : Identity) : Type 0 where
  pub fresh : IsFreshLink conn link before.log
  pub counts : NoneFell before.counts after.counts
  pub left : after.left + link.allowance ≤ before.left
  pub out : after.out ≡ before.out ++ listed link.place
  pub log : after.log ≡ before.log
  pub records : Grew before.records (record { conn = conn; target = target; identity = Some identity } ∷ []) after.records
  pub staged : after.staged ≡ before.staged

-- a dial that failed
pub record DialFailed (before after : DialerView) (conn : ℕ) (target : Target) : Type 0 where
  pub faults : Rose before.counts.faults after.counts.faults
  pub counts : NoneFell before.counts after.counts
  pub left : after.left ≤ before.left
  pub out : after.out ≡ before.out
  pub log : after.log ≡ before.log
  pub records : Grew before.records (record { conn = conn; target = target; identity = None } ∷ []) after.records
  pub staged : after.staged ≡ before.staged

-- a dial for which there was no memory: a dialer over another may have counted, and used some of what is left
pub record DialLacked (before after : DialerView) : Type 0 where
  pub counts : NoneFell before.counts after.counts
  pub left : after.left ≤ before.left
  pub out : after.out ≡ before.out
  pub log : after.log ≡ before.log
  pub records : after.records ≡ before.records
  pub staged : after.staged ≡ before.staged

-- a dial of the target for the connection, where links are seen by the function
abbrev pub Dials : {L : Type 0} → (L → LinkView) → DialerView → ℕ → Target → Dialed L → DialerView → Type 0
Dials seen before conn target (Up link identity) after = DialedUp before after conn target (seen link) identity
Dials seen before conn target Failed after = DialFailed before after conn target
Dials seen before conn target NoMem after = DialLacked before after

-- a link is retired: its counts are added to the dialer's, what it didn't give comes back, its place is taken out, and
-- what was written and received becomes the log's next line, where the link tells it
pub record Retires (before after : DialerView) (conn : ℕ) (link : LinkView) : Type 0 where
  pub counts : after.counts ≡ counts_sum before.counts link.counts
  pub kept : NoneFell before.counts after.counts
  pub left : after.left + link.gave ≤ before.left + link.allowance
  pub out : TakenOut before.out link.place after.out
  pub log : (lines : List LogLine) (written received : List ℕ)
      → before.log ≡ Some lines → link.written ≡ Some written → link.received ≡ Some received
      → after.log ≡ Some (lines ++ record { conn = conn; written = written; received = received } ∷ [])
  pub untold : before.log ≡ None → after.log ≡ None
  pub no_line : (link.written ≡ None) ⊎ (link.received ≡ None) → after.log ≡ before.log
  pub records : after.records ≡ before.records
  pub staged : after.staged ≡ before.staged

-- a dialer that has logged nothing and was not staged
pub record IsUnused (v : DialerView) : Type 0 where
  pub log : IsNoneLeft v.log
  pub staged : v.staged ≡ None
