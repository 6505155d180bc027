-- What contracts see of a dialer's books.
use Rattle.std.specs.Prelude.{◌≡◌, ◌≤◌, List, [], map, Option, None, Some, IsSomeAnd}
use Rattle.std.proofs.Common.{refl, ap, subst}
use Rattle.std.proofs.Math.Nat.{le_trans, le-add_right}
use Rattle.net_base.specs.declared.peer.Peer.{Peer}
use Rattle.edge_traits.specs.Counts.{no_counts}
use Rattle.edge_traits.specs.Dialers.{Staging, DialerView}
use Rattle.edge_traits.specs.BookLinks.{place_of, counts_of, allowances}
use Rattle.edge_traits.specs.Tables.{out_items, log_lines, dial_records, HaveRoom}
use Rattle.edge_traits.specs.declared.dialer.TheConstants.{MOST_OCTETS}
use Rattle.edge_traits.specs.declared.books.Staged.{Staged}
use Rattle.edge_traits.specs.declared.books.Books.{Books}

abbrev pub staging_of : Option Staged → Option Staging
staging_of None = None
staging_of (Some staged) = Some (record { net = staged.net; peers = staged.peers })

pub unstaged : (staged : Option Staged) → staging_of staged ≡ None → staged ≡ None
unstaged None e = refl
unstaged (Some staged) e = let P : Option Staging → Type 0 = λ o. IsSomeAnd o (λ _. Unit {0}) in absurd (subst P e tt)

-- all is told
abbrev pub books_view : Books → DialerView
books_view books = record {
  counts = counts_of books.tally;
  left = books.left;
  out = map place_of (out_items books.tables);
  log = Some (log_lines books.tables);
  records = Some (dial_records books.tables);
  staged = staging_of books.staged;
}

-- before the first dial and before it was staged
abbrev pub unused_view : DialerView
unused_view = record { counts = no_counts; left = MOST_OCTETS; out = []; log = Some []; records = Some []; staged = None }

-- the peers that are dialed
abbrev pub peers_of : Option Staging → List Peer
peers_of None = []
peers_of (Some staging) = staging.peers

-- the places of one more dial are reserved
abbrev pub HasRoom : Books → Type 0
HasRoom books = HaveRoom books.tables

-- all links together give at most MOST_OCTETS octets
pub books_within : (books : Books) → (books_view books).left ≤ MOST_OCTETS
books_within books = le_trans (le-add_right books.left (allowances (out_items books.tables))) books.within

-- before they were staged, no link is out
pub books_none_out : (books : Books) → (books_view books).staged ≡ None → (books_view books).out ≡ []
books_none_out books e = ap (map place_of) (books.none_out (unstaged books.staged e))
