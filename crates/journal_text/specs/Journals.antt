-- When octets are the journal of a list of entries, and which line is the first that keeps them from being one. A line ends with
-- LF (10); what stands behind the last LF is no line, and what stands behind the `end` line belongs to no journal. Lines are counted
-- from 1.
use Rattle.std.specs.Prelude.{◌≡◌, ◌≢◌, ◌⊎◌, ⊤, ℕ, ◌+◌, List, [], ◌∷◌, ◌++◌, length, All}
use Rattle.std.specs.List.{flat_map}
use Rattle.plain_values.specs.Lines.{IsInLine}
use Rattle.model_values.specs.declared.entry.Entry.{Entry}
use Rattle.journal_lines.specs.Lines.{entry_line}
use Rattle.journal_lines.specs.Ranges.{EntryFits}
use Rattle.journal_lines.specs.Writable.{IsWritable}
use Rattle.journal_text.specs.Lines.{first_line, end_line, journal_text}
use Rattle.journal_text.specs.declared.faults.JournalFault.{JournalFault}
use Rattle.journal_text.specs.declared.faults.JournalFault.TheVariants.{NoMem, BadLine, Truncated}

-- the line of this entry, which can be read back, without its LF
abbrev pub IsLineOf : List ℕ → Entry → Type 0
IsLineOf line x = (line ++ 10 ∷ [] ≡ entry_line x) × IsWritable x

-- the line of no entry
abbrev pub IsLineOfNone : List ℕ → Type 0
IsLineOfNone line = (x : Entry) → EntryFits x → ¬ (IsLineOf line x)

-- the format's own line and the lines of these entries
abbrev pub lines_text : List Entry → List ℕ
lines_text h = first_line ++ flat_map entry_line h

-- the octets begin with the journal of these entries, which can be read back, and whose numbers are of their types
abbrev pub IsJournal : List ℕ → List Entry → Type 0
IsJournal bytes h = All IsWritable h × All EntryFits h × ((rest : List ℕ) × (bytes ≡ journal_text h ++ rest))

-- the first line is another one
abbrev pub HasOtherFormat : List ℕ → Type 0
HasOtherFormat bytes = (line rest : List ℕ) × (bytes ≡ line ++ 10 ∷ rest) × IsInLine line × (line ++ 10 ∷ [] ≢ first_line)

-- the lines before it are those of entries, and it is none, nor the `end` line of these
pub record IsBadBehind (bytes : List ℕ) (n : ℕ) : Type 0 where
  pub entries : List Entry
  pub writable : All IsWritable entries
  pub fits : All EntryFits entries
  pub line : List ℕ
  pub rest : List ℕ
  pub text : bytes ≡ lines_text entries ++ line ++ 10 ∷ rest
  pub one_line : IsInLine line
  pub none : IsLineOfNone line
  pub no_end : line ++ 10 ∷ [] ≢ end_line (length entries)
  pub number : n ≡ length entries + 2

-- line n is the first that is none of a journal
abbrev pub IsBadLine : List ℕ → ℕ → Type 0
IsBadLine bytes n = (HasOtherFormat bytes × (n ≡ 1)) ⊎ IsBadBehind bytes n

-- all lines are good, and there is no `end` line
pub record IsCut (bytes : List ℕ) : Type 0 where
  pub entries : List Entry
  pub writable : All IsWritable entries
  pub fits : All EntryFits entries
  pub rest : List ℕ
  pub text : bytes ≡ lines_text entries ++ rest
  pub no_line : IsInLine rest

abbrev pub IsTruncated : List ℕ → Type 0
IsTruncated bytes = IsInLine bytes ⊎ IsCut bytes

-- why octets are refused; want of memory needs no cause
abbrev pub RefusesJournal : List ℕ → JournalFault → Type 0
RefusesJournal bytes NoMem = ⊤
RefusesJournal bytes (BadLine n) = IsBadLine bytes n
RefusesJournal bytes Truncated = IsTruncated bytes
