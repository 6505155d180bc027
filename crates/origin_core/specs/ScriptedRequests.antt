-- What a scripted HTTP/1.1 origin reads of a request (RFC 9112, sections 2, 3 and 6). It looks at no transfer-encoding.
use Rattle.std.specs.Prelude.{◌≡◌, ◌⊎◌, ◌<◌, ◌≤◌, ◌+◌, ℕ, List, [], ◌∷◌, ◌++◌, length, take, map, codes, bytes_eq, if◌then◌else◌}
use Rattle.std.specs.Str.Parse.{IsNumeral, digits_value}
use Rattle.httparse.specs.Grammar.{RequestHead, ReadsRequest}
use Rattle.net_base.specs.declared.field.Field.{Field}
use Rattle.h1_frames.specs.Heads.{kept_field}
use Rattle.h1_frames.specs.Units.{IsHeadUnit, BeginsWithUnit, HasNoUnit}
use Rattle.origin_core.specs.declared.scripted_request.Asked.{Asked}
use Rattle.origin_core.specs.declared.scripted_request.NextRequest.{NextRequest}
use Rattle.origin_core.specs.declared.scripted_request.NextRequest.TheVariants.{Whole, Unfinished, Unreadable}

-- the unit is, as a whole, this request head, with at most 256 fields
abbrev pub IsRequestUnit : List ℕ → RequestHead → Type 0
IsRequestUnit unit h = ReadsRequest unit h [] × (length h.fields ≤ 256)

-- what is kept of it: the method, the target, and the fields, their names in lower case
abbrev pub asked_of : RequestHead → Asked
asked_of h = record { method = h.method; target = h.target; fields = map kept_field h.fields }

-- the unit is a request head, and this is what is kept of it
abbrev pub Asks : List ℕ → Asked → Type 0
Asks unit asked = (h : RequestHead) × IsRequestUnit unit h × (asked ≡ asked_of h)

-- the unit is no request head with at most 256 fields
abbrev pub AsksNothing : List ℕ → Type 0
AsksNothing unit = (h : RequestHead) → ¬ (IsRequestUnit unit h)

-- the values of the fields of this name, in order
abbrev pub values_of : List ℕ → List Field → List (List ℕ)
values_of name [] = []
values_of name (field ∷ fields) = if bytes_eq field.name name then field.value ∷ values_of name fields else values_of name fields

-- RFC 9112, section 6.3: the content-length is one number of digits, here at most 2^64-1 and no list of equal ones;
-- without any the body is empty
abbrev pub GiveSize : List (List ℕ) → ℕ → Type 0
GiveSize [] size = size ≡ 0
GiveSize (value ∷ []) size = (IsNumeral 10 value × (digits_value 10 value ≤ 18446744073709551615)) × (digits_value 10 value ≡ size)
GiveSize (value ∷ other ∷ more) size = ⊥

-- the size of the request's body
abbrev pub HasBodyOf : List Field → ℕ → Type 0
HasBodyOf fields size = GiveSize (values_of (codes "content-length") fields) size

-- the fields have a content-length that isn't one number
abbrev pub HasNoBodySize : List Field → Type 0
HasNoBodySize fields = (size : ℕ) → ¬ (HasBodyOf fields size)

-- the unit can't be read: it is no request head, or one with a content-length that isn't one number
abbrev pub CannotBeRead : List ℕ → Type 0
CannotBeRead unit = AsksNothing unit ⊎ ((asked : Asked) × Asks unit asked × HasNoBodySize asked.fields)

-- the octets are a whole request: the unit of its head, and a body of the size that the head gives
abbrev pub IsWhole : List ℕ → Asked → Type 0
IsWhole octets asked =
    (unit : List ℕ) × (body : List ℕ) × (octets ≡ unit ++ body)
    × IsHeadUnit unit × Asks unit asked × HasBodyOf asked.fields (length body)

-- a head is there whose body isn't
abbrev pub LacksBody : List ℕ → Type 0
LacksBody octets =
    (n : ℕ) × (size : ℕ) × (asked : Asked)
    × BeginsWithUnit octets n × Asks (take n octets) asked × HasBodyOf asked.fields size × (length octets < n + size)

-- the request that the octets begin with isn't whole yet
abbrev pub IsUnfinished : List ℕ → Type 0
IsUnfinished octets = HasNoUnit octets ⊎ LacksBody octets

-- the head that the octets begin with can't be read
abbrev pub IsUnreadable : List ℕ → Type 0
IsUnreadable octets = (n : ℕ) × BeginsWithUnit octets n × CannotBeRead (take n octets)

-- what the octets begin with: a whole request of n octets, one that isn't whole yet, or one that can't be read
abbrev pub IsNext : List ℕ → NextRequest → Type 0
IsNext octets (Whole asked n) = (0 < n) × (n ≤ length octets) × IsWhole (take n octets) asked
IsNext octets Unfinished = IsUnfinished octets
IsNext octets Unreadable = IsUnreadable octets
