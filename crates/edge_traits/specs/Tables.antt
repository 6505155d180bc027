-- The lists that a dialer in memory keeps.
use Rattle.std.specs.Prelude.{◌≡◌, ◌<◌, ◌+◌, List, [], length, map, Option, None, Some, vec_capacity}
use Rattle.edge_traits.specs.Dialers.{LogLine, DialRecord}
use Rattle.edge_traits.specs.declared.book_links.OutLink.{OutLink}
use Rattle.edge_traits.specs.declared.tables.RetiredLink.{RetiredLink}
use Rattle.edge_traits.specs.declared.tables.DialAttempt.{DialAttempt}
use Rattle.edge_traits.specs.declared.tables.Tables.{Tables}

abbrev pub line_of : RetiredLink → LogLine
line_of l = record { conn = l.conn.0; written = l.written.items; received = l.received.items }

abbrev pub record_of : DialAttempt → DialRecord
record_of r = record { conn = r.conn.0; target = r.target; identity = r.identity }

-- the same lists
pub record TablesSame (before after : Tables) : Type 0 where
  pub out : after.out.items ≡ before.out.items
  pub log : after.log.items ≡ before.log.items
  pub records : after.records.items ≡ before.records.items

-- there is room for a link, its line in the log and its record
pub record TablesHaveRoom (tables : Tables) : Type 0 where
  pub out : length tables.out.items < vec_capacity tables.out
  pub log : length tables.log.items + length tables.out.items < vec_capacity tables.log
  pub records : length tables.records.items < vec_capacity tables.records

-- before the first dial there are no lists
abbrev pub out_items : Option Tables → List OutLink
out_items None = []
out_items (Some tables) = tables.out.items

abbrev pub log_lines : Option Tables → List LogLine
log_lines None = []
log_lines (Some tables) = map line_of tables.log.items

abbrev pub dial_records : Option Tables → List DialRecord
dial_records None = []
dial_records (Some tables) = map record_of tables.records.items

abbrev pub HaveRoom : Option Tables → Type 0
HaveRoom None = ⊥
HaveRoom (Some tables) = TablesHaveRoom tables
