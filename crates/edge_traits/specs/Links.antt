-- What contracts see of a link, the two directions of octets of one connection.
use Rattle.std.specs.Prelude.{◌≡◌, ℕ, ◌+◌, ◌≤◌, List, length, take, Option}
use Rattle.edge_traits.specs.declared.link.LinkRead.{LinkRead}
use Rattle.edge_traits.specs.declared.link.LinkRead.TheVariants as reading
use Rattle.edge_traits.specs.declared.link.LinkWrite.{LinkWrite}
use Rattle.edge_traits.specs.declared.link.LinkWrite.TheVariants as writing
use Rattle.edge_traits.specs.Counts.{Rose, Counts, NoneFell}
use Rattle.edge_traits.specs.Told.{Grew}

-- where a dial put a link: its connection, and a mark of numbers that its dialer sets
pub record Place : Type 0 where
  pub conn : ℕ
  pub mark : List ℕ

-- its place, which only a link from a dial has; how many octets it may give, gave and took; its counts; and the
-- octets that were written to it and received from it, where it tells them
pub record LinkView : Type 0 where
  pub place : Option Place
  pub allowance : ℕ
  pub gave : ℕ
  pub took : ℕ
  pub counts : Counts
  pub written : Option (List ℕ)
  pub received : Option (List ℕ)

-- what no call changes or lowers
pub record LinkKeeps (before after : LinkView) : Type 0 where
  pub place : after.place ≡ before.place
  pub allowance : after.allowance ≡ before.allowance
  pub counts : NoneFell before.counts after.counts

-- no octet went either way
pub record LinkSame (before after : LinkView) : Type 0 where
  pub gave : after.gave ≡ before.gave
  pub took : after.took ≡ before.took
  pub written : after.written ≡ before.written
  pub received : after.received ≡ before.received

-- a read that gave n octets, which stand at the front of the buffer; none means the end
pub record LinkGave (before after : LinkView) (size : ℕ) (buffer : List ℕ) (n : ℕ) : Type 0 where
  pub fits : n ≤ size
  pub gave : after.gave ≡ before.gave + n
  pub took : after.took ≡ before.took
  pub ended : n ≡ 0 → Rose before.counts.ends after.counts.ends
  pub written : after.written ≡ before.written
  pub received : Grew before.received (take n buffer) after.received

-- a write of which n octets were taken; none counts as a fault
pub record LinkTook (before after : LinkView) (piece : List ℕ) (n : ℕ) : Type 0 where
  pub fits : n ≤ length piece
  pub gave : after.gave ≡ before.gave
  pub took : after.took ≡ before.took + n
  pub none : n ≡ 0 → Rose before.counts.faults after.counts.faults
  pub written : Grew before.written (take n piece) after.written
  pub received : after.received ≡ before.received

-- a read into a buffer of this size, and the buffer afterwards; without memory nothing has changed
abbrev pub LinkReads : LinkView → ℕ → List ℕ → LinkRead → LinkView → Type 0
LinkReads before size buffer (reading.Got n) after = LinkGave before after size buffer n
LinkReads before size buffer reading.Quiet after = Rose before.counts.read_quiets after.counts.read_quiets × LinkSame before after
LinkReads before size buffer reading.End after = Rose before.counts.ends after.counts.ends × LinkSame before after
LinkReads before size buffer reading.Failed after = Rose before.counts.faults after.counts.faults × LinkSame before after
LinkReads before size buffer reading.NoMem after = after ≡ before

-- a write of the piece; without memory nothing has changed
abbrev pub LinkWrites : LinkView → List ℕ → LinkWrite → LinkView → Type 0
LinkWrites before piece (writing.Took n) after = LinkTook before after piece n
LinkWrites before piece writing.Quiet after = Rose before.counts.write_quiets after.counts.write_quiets × LinkSame before after
LinkWrites before piece writing.Failed after = Rose before.counts.faults after.counts.faults × LinkSame before after
LinkWrites before piece writing.NoMem after = after ≡ before

-- the octets that a link may give and take
pub record IsWithinAllowance (v : LinkView) : Type 0 where
  pub gave : v.gave ≤ v.allowance
  pub took : v.took ≤ 18446744073709551615

-- a link after some calls: it took the octets put, and gave the octets got
pub record LinkDid (before after : LinkView) (put got : List ℕ) : Type 0 where
  pub keeps : LinkKeeps before after
  pub took : after.took ≡ before.took + length put
  pub gave : after.gave ≡ before.gave + length got
  pub written : Grew before.written put after.written
  pub received : Grew before.received got after.received
