-- The walk through a value of JSON: what each part is read as, and the first fault in the walk.
use Rattle.std.specs.Prelude.{◌≡◌, ◌⊎◌, ⊤, ℕ, List, [], ◌∷◌, ◌++◌, ◌==◌, nat_le, Bool, codes, decimal, bytes_eq, length, map, Option, Some, None, option_map, Result, Ok, Err, if◌then◌else◌}
use Rattle.std.specs.Borrow.{Bor}
use Rattle.std.specs.List.{list_any, flat_map}
use Rattle.serde_json.specs.Data.{Data, Items, no_items, item, Members, no_members, member}
use Rattle.serde_json.specs.Find.{get, as_array, as_object}
use Rattle.serde_json.specs.View.{view}
use Rattle.serde_json.specs.declared.value.Value.{Value}
use Rattle.net_base.specs.Results.{◌>>=◌, GivesSeen}
use Rattle.scenario_walk.specs.declared.fault.ScenarioFault.{ScenarioFault}
use Rattle.scenario_walk.specs.declared.fault.ScenarioFault.TheVariants.{NoMem, Unsupported, BadValue, TooMany}

-- the result is the expected one, unless memory ran out
abbrev pub Gives : {T : Type 0} → Result T ScenarioFault → Result T ScenarioFault → Type 0
Gives result expected = GivesSeen NoMem (λ x. x) result expected

-- the fault is the expected one, unless memory ran out
abbrev pub IsFault : ScenarioFault → ScenarioFault → Type 0
IsFault fault expected = (expected ≡ fault) ⊎ (fault ≡ NoMem)

-- the result is the expected one, unless memory ran out: of a text and of items that are borrowed
abbrev pub GivesText : Result (Bor (List ℕ)) ScenarioFault → Result (List ℕ) ScenarioFault → Type 0
GivesText result expected = GivesSeen NoMem (λ x. x.now) result expected

abbrev pub GivesItems : Result (Bor (List Value)) ScenarioFault → Result (List Data) ScenarioFault → Type 0
GivesItems result expected = GivesSeen NoMem (λ x. map view x.now) result expected

-- how a value is read at its path: what it gives, or the first fault in it
abbrev pub Reader : Type 0 → Type 0
Reader A = List ℕ → Data → Result A ScenarioFault

-- ---- paths

-- RFC 6901, section 3: in a reference token `~` is `~0`, and `/` is `~1`
abbrev pub escape_octet : ℕ → List ℕ
escape_octet b = if b == 126 then codes "~0" else (if b == 47 then codes "~1" else b ∷ [])

-- RFC 6901, section 4: the path of a member, or of an item by its place in decimal
abbrev pub below : List ℕ → List ℕ → List ℕ
below path part = path ++ 47 ∷ flat_map escape_octet part

-- a JSON pointer (RFC 6901, section 3), but that of the whole value is `/`, which is this project's own; a member of the
-- empty name in it has the same path
abbrev pub shown : List ℕ → List ℕ
shown [] = codes "/"
shown (b ∷ bs) = b ∷ bs

-- the value has another type, is outside its range, or is missing
abbrev pub bad : {A : Type 0} → List ℕ → Result A ScenarioFault
bad path = Err (BadValue (shown path))

abbrev pub or_bad : {A : Type 0} → List ℕ → Option A → Result A ScenarioFault
or_bad path None = bad path
or_bad path (Some x) = Ok x

-- ---- objects

-- the value is an object
abbrev pub object_in : List ℕ → Option Members → Result ⊤ ScenarioFault
object_in path None = bad path
object_in path (Some ms) = Ok tt

abbrev pub an_object : Reader ⊤
an_object path d = object_in path (as_object d)

abbrev pub is_among : List (List ℕ) → List ℕ → Bool
is_among names name = list_any (bytes_eq name) names

-- the first name, in the rising order of octets in which members stand, that is none of these
abbrev pub first_unknown : List (List ℕ) → Members → Option (List ℕ)
first_unknown names no_members = None
first_unknown names (member name d ms) = if is_among names name then first_unknown names ms else Some name

abbrev pub none_unknown : List ℕ → Option (List ℕ) → Result ⊤ ScenarioFault
none_unknown path None = Ok tt
none_unknown path (Some name) = Err (Unsupported (below path name))

abbrev pub only_in : List (List ℕ) → List ℕ → Option Members → Result ⊤ ScenarioFault
only_in names path None = bad path
only_in names path (Some ms) = none_unknown path (first_unknown names ms)

-- an object; the first of its unknown names in rising order is a fault
abbrev pub only : List (List ℕ) → Reader ⊤
only names path d = only_in names path (as_object d)

-- what stands under a name is read at its path; where nothing stands there, it has this value
abbrev pub member_or : {A : Type 0} → Result A ScenarioFault → Reader A → List ℕ → Option Data → Result A ScenarioFault
member_or missing read path None = missing
member_or missing read path (Some d) = read path d

-- a member that has to be there
abbrev pub required : {A : Type 0} → List ℕ → Reader A → Reader A
required name read path d = member_or (bad (below path name)) read (below path name) (get name d)

-- a member with a default
abbrev pub optional : {A : Type 0} → List ℕ → A → Reader A → Reader A
optional name default read path d = member_or (Ok default) read (below path name) (get name d)

-- ---- lists

abbrev pub list_of : Items → List Data
list_of no_items = []
list_of (item d ds) = d ∷ list_of ds

-- the items of a list of any length
abbrev pub any_items : Reader (List Data)
any_items path d = or_bad path (option_map list_of (as_array d))

abbrev pub at_most : ℕ → List ℕ → List Data → Result (List Data) ScenarioFault
at_most most path ds = if nat_le (length ds) most then Ok ds else Err (TooMany (shown path) (length ds))

-- the items of a list that has at most so many
abbrev pub items : ℕ → Reader (List Data)
items most path d = do
  ds ← any_items path d
  at_most most path ds

-- each item is read at its place, counted from 0, with those before it in hand
abbrev pub each_behind : {A : Type 0} → (List Data → Reader A) → List ℕ → List Data → List Data → Result (List A) ScenarioFault
each_behind read path before [] = Ok []
each_behind read path before (d ∷ ds) = do
  x ← read before (below path (decimal (length before))) d
  xs ← each_behind read path (before ++ d ∷ []) ds
  Ok (x ∷ xs)

-- a list of at most so many, whose items are each read at their place with those before in hand
abbrev pub list_behind : {A : Type 0} → ℕ → (List Data → Reader A) → Reader (List A)
list_behind most read path d = do
  ds ← items most path d
  each_behind read path [] ds

-- the same where what stands before doesn't matter
abbrev pub list : {A : Type 0} → ℕ → Reader A → Reader (List A)
list most read path d = list_behind most (λ before. read) path d

-- a list of any length
abbrev pub any_list : {A : Type 0} → Reader A → Reader (List A)
any_list read path d = do
  ds ← any_items path d
  each_behind (λ before. read) path [] ds
