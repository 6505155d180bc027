-- The journal of a list of entries, format 1: the line of the format, one line for each entry (`Lines` of `journal_lines`), and
-- `end` with the number of entries. The format is this project's own. Each line ends with LF (10).
use Rattle.std.specs.Prelude.{ℕ, List, [], ◌∷◌, ◌++◌, codes, length}
use Rattle.std.specs.List.{flat_map}
use Rattle.std.specs.Fmt.{decimal}
use Rattle.model_values.specs.declared.entry.Entry.{Entry}
use Rattle.journal_lines.specs.Lines.{entry_line}

-- the format's own line
abbrev pub first_line : List ℕ
first_line = codes "poolrun 1" ++ 10 ∷ []

-- `end` and the number of entries
abbrev pub end_line : ℕ → List ℕ
end_line n = codes "end " ++ decimal n ++ 10 ∷ []

-- the whole journal
abbrev pub journal_text : List Entry → List ℕ
journal_text h = first_line ++ flat_map entry_line h ++ end_line (length h)
