use Rattle.std.proofs.Common.{◌≡◌, ◌++◌, take}
use Rattle.std.specs.List.{flat_map}
use Rattle.journal_lines.specs.Lines.{entry_line}
use Rattle.journal_text.proofs.journal.put_entries.Given as goal

abbrev pub invariant-loop-e : goal.invariant-loop-e
invariant-loop-e l = l.text ≡ l.initial.text ++ flat_map entry_line (take l.e-index l.entries)
