-- How words are read back. What the journal writes is read as what it was written for. A reader may take more than that (octets
-- in upper-case digits, say), so whoever reads a line writes what was read again and compares.
use Rattle.std.specs.Prelude.{ℕ, ◌+◌, ◌==◌, ◌&&◌, nat_le, Bool, true, false, List, [], ◌∷◌, take, drop, codes, bytes_eq, Option, Some, None, Result, Ok, Err, if◌then◌else◌}
use Rattle.std.specs.List.{slice_split}
use Rattle.std.specs.Fmt.{decimal}
use Rattle.std.specs.Str.{is_utf8}
use Rattle.std.specs.Str.Parse.{digits_value}
use Rattle.hex.specs.Hex.{decode_of, decode_sized}
use Rattle.hex.specs.declared.error.FromHexError.{FromHexError}
use Rattle.net_base.specs.Results.{◌>>=◌, GivesSeen}
use Rattle.net_base.specs.declared.end_cause.EndCause.{EndCause}
use Rattle.net_base.specs.declared.end_cause.EndCause.TheVariants.{DialFailed, End, LinkFault, Broken, Done}
use Rattle.net_base.specs.declared.field.Field.{Field}
use Rattle.net_base.specs.declared.numbers.Moment.{Moment}
use Rattle.net_base.specs.declared.numbers.StreamNo.{StreamNo}
use Rattle.net_base.specs.declared.origin.Origin.{Origin}
use Rattle.net_base.specs.declared.origin.Scheme.{Scheme}
use Rattle.net_base.specs.declared.origin.Scheme.TheVariants.{Http, Https}
use Rattle.net_base.specs.declared.target.Proto.{Proto}
use Rattle.net_base.specs.declared.target.Proto.TheVariants.{H1, H2}
use Rattle.net_base.specs.declared.target.Target.{Target}
use Rattle.net_base.specs.declared.target.Via.{Via}
use Rattle.net_base.specs.declared.target.Via.TheVariants as via
use Rattle.partition_keys.specs.Sites.{begins, site_of}
use Rattle.partition_keys.specs.declared.alternative.Alternative.{Alternative}
use Rattle.partition_keys.specs.declared.alternative.AltUpdate.{AltUpdate}
use Rattle.partition_keys.specs.declared.alternative.AltUpdate.TheVariants as alt
use Rattle.partition_keys.specs.declared.alternative.Proof.{Proof}
use Rattle.partition_keys.specs.declared.alternative.Proof.TheVariants.{NotAsked, NotValid, Until}
use Rattle.partition_keys.specs.declared.alternative.Why.{Why}
use Rattle.partition_keys.specs.declared.alternative.Why.TheVariants.{Status, Media, NotJson, NotArray, Absent, Stale}
use Rattle.partition_keys.specs.declared.key.PartitionKey.{PartitionKey}
use Rattle.partition_keys.specs.declared.site.Site.{Site}
use Rattle.model_values.specs.declared.entry.Way.{Way}
use Rattle.model_values.specs.declared.entry.Way.TheVariants as way
use Rattle.journal_words.specs.declared.faults.WordFault.{WordFault}
use Rattle.journal_words.specs.declared.faults.WordFault.TheVariants.{NoMem, Unreadable}

-- the result is the expected one, unless memory ran out
abbrev pub Gives : {T : Type 0} → Result T WordFault → Result T WordFault → Type 0
Gives result expected = GivesSeen NoMem (λ x. x) result expected

-- what a word is read as
abbrev pub Reader : Type 0 → Type 0
Reader A = List ℕ → Result A WordFault

-- what a few words are read as
abbrev pub WordsReader : Type 0 → Type 0
WordsReader A = List (List ℕ) → Result A WordFault

abbrev pub unreadable : {A : Type 0} → Result A WordFault
unreadable = Err Unreadable

-- this, or the word can't be read
abbrev pub or_unreadable : {A : Type 0} → Option A → Result A WordFault
or_unreadable None = unreadable
or_unreadable (Some x) = Ok x

-- ---- parts

-- the parts between the marks
abbrev pub parts : ℕ → List ℕ → List (List ℕ)
parts mark text = slice_split (λ b. b == mark) text

-- each word in turn
abbrev pub each : {A : Type 0} → Reader A → WordsReader (List A)
each read [] = Ok []
each read (word ∷ words) = do
  x ← read word
  xs ← each read words
  Ok (x ∷ xs)

-- what commas part, `-` where there is nothing
abbrev pub list : {A : Type 0} → Reader A → Reader (List A)
list read word = if bytes_eq word (codes "-") then Ok [] else each read (parts 44 word)

-- the place of the last mark
abbrev pub later : Option ℕ → Bool → Option ℕ
later (Some i) here = Some (i + 1)
later None true = Some 0
later None false = None

abbrev pub last_place : ℕ → List ℕ → Option ℕ
last_place mark [] = None
last_place mark (b ∷ bs) = later (last_place mark bs) (b == mark)

-- ---- numbers and octets

-- the number up to this one whose decimal it is
abbrev pub number_if : ℕ → List ℕ → ℕ → Result ℕ WordFault
number_if most word n = if nat_le n most && bytes_eq word (decimal n) then Ok n else unreadable

abbrev pub number : ℕ → Reader ℕ
number most word = number_if most word (digits_value 10 word)

abbrev pub decoded : Result (List ℕ) FromHexError → Result (List ℕ) WordFault
decoded (Ok bytes) = Ok bytes
decoded (Err e) = unreadable

-- octets in hexadecimal
abbrev pub hex : Reader (List ℕ)
hex word = decoded (decode_of word)

-- the same, `-` where there are none
abbrev pub octets : Reader (List ℕ)
octets word = if bytes_eq word (codes "-") then Ok [] else hex word

-- an address: 16 octets in hexadecimal
abbrev pub address : Reader (List ℕ)
address word = decoded (decode_sized word 16)

-- ---- words for a choice

abbrev pub either_word : {A : Type 0} → List ℕ → A → List ℕ → A → Reader A
either_word this x that y word = if bytes_eq word this then Ok x else (if bytes_eq word that then Ok y else unreadable)

abbrev pub credentials : Reader Bool
credentials = either_word (codes "+") true (codes "-") false

abbrev pub security : Reader Bool
security = either_word (codes "secure") true (codes "clear") false

abbrev pub persist : Reader Bool
persist = either_word (codes "keep") true (codes "lose") false

abbrev pub proto : Reader Proto
proto = either_word (codes "h1") H1 (codes "h2") H2

abbrev pub way_of : Reader Way
way_of word =
    if bytes_eq word (codes "direct") then Ok way.Direct
    else (if bytes_eq word (codes "alternative") then Ok way.Alternative
    else (if bytes_eq word (codes "coalesced") then Ok way.Coalesced
    else unreadable))

abbrev pub via_of : Reader Via
via_of word =
    if bytes_eq word (codes "direct") then Ok via.Direct
    else (if bytes_eq word (codes "h1") then Ok (via.Alternative H1)
    else (if bytes_eq word (codes "h2") then Ok (via.Alternative H2)
    else unreadable))

abbrev pub condition : Reader Why
condition word =
    if bytes_eq word (codes "status") then Ok Status
    else (if bytes_eq word (codes "media") then Ok Media
    else (if bytes_eq word (codes "json") then Ok NotJson
    else (if bytes_eq word (codes "array") then Ok NotArray
    else (if bytes_eq word (codes "absent") then Ok Absent
    else (if bytes_eq word (codes "stale") then Ok Stale
    else unreadable)))))

abbrev pub moment : Reader Moment
moment word = do
  n ← number 18446744073709551615 word
  Ok (record { 0 = n })

-- a moment, `-` where there is none
abbrev pub deadline_at : List ℕ → Result (Option Moment) WordFault
deadline_at word = do
  m ← moment word
  Ok (Some m)

abbrev pub deadline : Reader (Option Moment)
deadline word = if bytes_eq word (codes "-") then Ok None else deadline_at word

abbrev pub stream : Reader StreamNo
stream word = do
  n ← number 4294967295 word
  Ok (record { 0 = n })

-- ---- fields, addresses, streams, names

abbrev pub field_of : WordsReader Field
field_of (named ∷ digits ∷ []) = do
  value ← hex digits
  Ok (record { name = named; value = value })
field_of words = unreadable

-- NAME:HEX
abbrev pub field : Reader Field
field word = field_of (parts 58 word)

abbrev pub name : Reader (List ℕ)
name word = Ok word

-- ---- sites, origins and targets

-- the key of the site whose text it is
abbrev pub key_in : Option Site → Result PartitionKey WordFault
key_in None = unreadable
key_in (Some s) = Ok (record { site = s; second = None })

abbrev pub key : Reader PartitionKey
key word = if is_utf8 word then key_in (site_of word) else unreadable

abbrev pub place_at : List ℕ → Option ℕ → Result (List ℕ × ℕ) WordFault
place_at word None = unreadable
place_at word (Some i) = do
  port ← number 65535 (drop (i + 1) word)
  Ok (take i word, port)

-- HOST:PORT, parted at the last colon
abbrev pub place : Reader (List ℕ × ℕ)
place word = place_at word (last_place 58 word)

abbrev pub origin_at : Scheme → Reader Origin
origin_at scheme word = do
  at ← place word
  Ok (record { scheme = scheme; host = at.0; port = at.1 })

abbrev pub origin : Reader Origin
origin word =
    if begins (codes "http://") word then origin_at Http (drop 7 word)
    else (if begins (codes "https://") word then origin_at Https (drop 8 word)
    else unreadable)

abbrev pub target : WordsReader Target
target (at ∷ secured ∷ by ∷ []) = do
  goes ← place at
  secure ← security secured
  via ← via_of by
  Ok (record { host = goes.0; port = goes.1; secure = secure; via = via })
target words = unreadable

-- ---- alternatives and proofs

abbrev pub alternative_of : WordsReader Alternative
alternative_of (speaks ∷ host ∷ digits ∷ when ∷ kept ∷ []) = do
  proto ← proto speaks
  port ← number 65535 digits
  expires ← moment when
  persist ← persist kept
  Ok (record { proto = proto; host = host; port = port; expires = expires; persist = persist; broken_until = record { 0 = 0 }; proven_until = record { 0 = 0 } })
alternative_of words = unreadable

-- PROTO/HOST/PORT/EXPIRES/PERSIST
abbrev pub alternative : Reader Alternative
alternative word = alternative_of (parts 47 word)

abbrev pub set_to : Reader AltUpdate
set_to word = do
  alternatives ← list alternative word
  Ok (alt.Set alternatives)

abbrev pub alt_of : WordsReader AltUpdate
alt_of (word ∷ []) = either_word (codes "none") alt.None (codes "clear") alt.Clear word
alt_of (word ∷ listed ∷ []) = if bytes_eq word (codes "set") then set_to listed else unreadable
alt_of words = unreadable

abbrev pub until : Reader Proof
until word = do
  m ← moment word
  Ok (Until m)

abbrev pub not_valid : Reader Proof
not_valid word = do
  why ← condition word
  Ok (NotValid why)

abbrev pub not_asked : Reader Proof
not_asked word = if bytes_eq word (codes "none") then Ok NotAsked else unreadable

abbrev pub asked : List ℕ → Reader Proof
asked word more =
    if bytes_eq word (codes "until") then until more
    else (if bytes_eq word (codes "bad") then not_valid more
    else unreadable)

abbrev pub proof_of : WordsReader Proof
proof_of (word ∷ []) = not_asked word
proof_of (word ∷ more ∷ []) = asked word more
proof_of words = unreadable

-- ---- ends

abbrev pub cause_word : Reader EndCause
cause_word word =
    if bytes_eq word (codes "dial") then Ok DialFailed
    else (if bytes_eq word (codes "end") then Ok End
    else (if bytes_eq word (codes "fault") then Ok LinkFault
    else (if bytes_eq word (codes "done") then Ok Done
    else unreadable)))

abbrev pub broken_at : List ℕ → Reader EndCause
broken_at digits more = do
  code ← number 4294967295 digits
  at ← number 18446744073709551615 more
  Ok (Broken code at)

abbrev pub broken : List ℕ → List ℕ → Reader EndCause
broken word digits more = if bytes_eq word (codes "broken") then broken_at digits more else unreadable

abbrev pub cause_of : WordsReader EndCause
cause_of (word ∷ []) = cause_word word
cause_of (word ∷ digits ∷ more ∷ []) = broken word digits more
cause_of words = unreadable

abbrev pub cause : Reader EndCause
cause word = cause_of (parts 58 word)
