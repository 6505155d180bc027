-- Links that a dialer in memory gave: where they stand, what they count, and how much they may give.
use Rattle.std.specs.Prelude.{ℕ, ◌-◌, ◌/◌, List, [], ◌∷◌, length, sum_by, Some}
use Rattle.edge_traits.specs.Counts.{Counts}
use Rattle.edge_traits.specs.Links.{Place, LinkView}
use Rattle.edge_traits.specs.declared.book_links.OutLink.{OutLink}
use Rattle.edge_traits.specs.declared.book_links.Tally.{Tally}

-- the mark of a link in memory is its allowance
abbrev pub place_of : OutLink → Place
place_of o = record { conn = o.conn; mark = o.allowance ∷ [] }

abbrev pub counts_of : Tally → Counts
counts_of t = record { faults = t.faults; read_quiets = t.read_quiets; write_quiets = t.write_quiets; ends = t.ends }

-- how many octets links may give together
abbrev pub allowances : List OutLink → ℕ
allowances links = sum_by (λ o. o.allowance) links

-- the half, rounded up
abbrev pub upper_half : ℕ → ℕ
upper_half n = n - n / 2

-- a link from a dial in memory, which tells all
abbrev pub out_link_view : OutLink → Counts → List ℕ → List ℕ → LinkView
out_link_view o counts written received = record {
  place = Some (place_of o);
  allowance = o.allowance;
  gave = length received;
  took = length written;
  counts = counts;
  written = Some written;
  received = Some received;
}
