-- What a unit says as the head of a response (RFC 9112, sections 4 and 5), and what a reader of heads answers. The
-- grammar is httparse's, which is more lenient than RFC 9112: empty lines may stand first (section 2.2 has them before a
-- request line alone), and the space behind the status may be missing where there is no reason (section 4). A folded
-- line (section 5.2) is refused.
use Rattle.std.specs.Prelude.{◌≡◌, ◌≤◌, ◌⊎◌, ℕ, List, [], length, take, map}
use Rattle.httparse.specs.Grammar as grammar
use Rattle.httparse.specs.Grammar.{ResponseHead, ReadsResponse, status_code}
use Rattle.httparse.specs.Spans.{name_and_value}
use Rattle.http_header.specs.Token.{lowercase}
use Rattle.net_base.specs.declared.field.Field.{Field}
use Rattle.h1_frames.specs.declared.head.Head.{Head}
use Rattle.h1_frames.specs.declared.head.HeadRead.{HeadRead}
use Rattle.h1_frames.specs.declared.head.HeadRead.TheVariants.{Whole, Part, Refused}
use Rattle.h1_frames.specs.Units.{BeginsWithUnit, HasNoUnit}

-- the unit is, as a whole, this response head, with at most 256 fields
abbrev pub IsHead : List ℕ → ResponseHead → Type 0
IsHead unit h = ReadsResponse unit h [] × (length h.fields ≤ 256)

-- the unit is no response head with at most 256 fields
abbrev pub IsNoHead : List ℕ → Type 0
IsNoHead unit = (h : ResponseHead) → ¬ (IsHead unit h)

-- a name and a value, the name in lower case (RFC 9110, section 5.1)
abbrev pub lowered : List ℕ × List ℕ → Field
lowered f = record { name = lowercase f.0; value = f.1 }

-- a field as it is kept: its name in lower case, its value without the white space around it
abbrev pub kept_field : grammar.Field → Field
kept_field f = lowered (name_and_value f)

-- what is kept of a head
abbrev pub head_of : ResponseHead → Head
head_of h = record { minor = h.minor; status = status_code h; fields = map kept_field h.fields }

-- the unit is a response head, and this is what is kept of it
abbrev pub SaysHead : List ℕ → Head → Type 0
SaysHead unit head = (h : ResponseHead) × IsHead unit h × (head ≡ head_of h)

-- a unit of n octets is there, and is judged
abbrev pub HasUnit : List ℕ → ℕ → Type 0
HasUnit bytes n = BeginsWithUnit bytes n × (n ≤ 65536)

-- the first 65536 octets hold no end of a unit
abbrev pub IsTooLong : List ℕ → Type 0
IsTooLong bytes = (65536 ≤ length bytes) × ((n : ℕ) → ¬ (HasUnit bytes n))

-- each answer, exactly where it fits
abbrev pub IsRead : List ℕ → HeadRead → Type 0
IsRead bytes (Whole head n) = HasUnit bytes n × SaysHead (take n bytes) head
IsRead bytes Part = (length bytes ≤ 65535) × HasNoUnit bytes
IsRead bytes Refused = IsTooLong bytes ⊎ ((n : ℕ) × HasUnit bytes n × IsNoHead (take n bytes))
