-- The unit of a head: the lines that a reader waits for before it judges them (RFC 9112, sections 2.1 and 2.2). A line
-- may end in LF alone, as section 2.2 allows. More lenient than that section, which has a server pass over empty lines
-- before a request line, empty lines may stand before a status line too.
use Rattle.std.specs.Prelude.{◌≡◌, ◌⊎◌, ◌<◌, ◌≤◌, ℕ, List, [], ◌∷◌, ◌++◌, length, take, All}
use Rattle.std.specs.List.{flat_map}
use Rattle.plain_values.specs.Lines.{IsInLine}

-- a line is what stands before its LF, which it doesn't hold; it is empty where nothing or one CR stands before its LF
abbrev pub IsEmptyLine : List ℕ → Type 0
IsEmptyLine line = (line ≡ []) ⊎ (line ≡ 13 ∷ [])

-- a line that isn't empty
abbrev pub IsFullLine : List ℕ → Type 0
IsFullLine line = IsInLine line × ¬ (IsEmptyLine line)

-- the text of lines: each of them and its LF
abbrev pub lines_text : List (List ℕ) → List ℕ
lines_text lines = flat_map (λ line. line ++ 10 ∷ []) lines

-- blank lines if any, then at least one full line, then the first empty line behind it
pub record AreHeadLines (blank full : List (List ℕ)) (last : List ℕ) : Type 0 where
  pub are_blank : All IsEmptyLine blank
  pub are_some : 0 < length full
  pub are_full : All IsFullLine full
  pub ends : IsEmptyLine last

-- the unit is the text of such lines
abbrev pub IsHeadUnit : List ℕ → Type 0
IsHeadUnit unit =
    (blank : List (List ℕ)) × (full : List (List ℕ)) × (last : List ℕ)
    × AreHeadLines blank full last × (unit ≡ lines_text (blank ++ full ++ last ∷ []))

-- the first n bytes are the unit of a head
abbrev pub BeginsWithUnit : List ℕ → ℕ → Type 0
BeginsWithUnit bytes n = (n ≤ length bytes) × IsHeadUnit (take n bytes)

-- the end of the unit isn't there
abbrev pub HasNoUnit : List ℕ → Type 0
HasNoUnit bytes = (n : ℕ) → ¬ (BeginsWithUnit bytes n)
