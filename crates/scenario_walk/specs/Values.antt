-- The values that members have.
use Rattle.std.specs.Prelude.{ℕ, List, [], ◌∷◌, ◌&&◌, ◌==◌, nat_le, Bool, codes, bytes_eq, length, Option, Some, None, option_map, option_and_then, Result, Ok, if◌then◌else◌}
use Rattle.std.specs.List.{list_all, list_any}
use Rattle.std.specs.Result.{result_ok}
use Rattle.hex.specs.Hex.{decode_sized}
use Rattle.serde_json.specs.Data.{Data, null, boolean, number, string, array, object}
use Rattle.serde_json.specs.Find.{as_bool, as_number, as_str, as_u64}
use Rattle.edge_traits.specs.declared.dialer.NetKind.{NetKind}
use Rattle.edge_traits.specs.declared.dialer.NetKind.TheVariants.{Inner, Tcp}
use Rattle.net_base.specs.Hosts.{is_plain_host}
use Rattle.net_base.specs.Identities.{is_name}
use Rattle.net_base.specs.Requests.{is_field}
use Rattle.net_base.specs.Results.{◌>>=◌}
use Rattle.net_base.specs.declared.field.Field.{Field}
use Rattle.net_base.specs.declared.numbers.Moment.{Moment}
use Rattle.net_base.specs.declared.target.Proto.{Proto}
use Rattle.net_base.specs.declared.target.Proto.TheVariants.{H1, H2}
use Rattle.partition_keys.specs.Sites.{site_of}
use Rattle.partition_keys.specs.declared.key.PartitionKey.{PartitionKey}
use Rattle.partition_keys.specs.declared.site.Site.{Site}
use Rattle.scenario_walk.specs.Faults.{Reader, bad, or_bad, below, any_items}
use Rattle.scenario_walk.specs.declared.fault.ScenarioFault.{ScenarioFault}

-- ---- of one part

-- true or false
abbrev pub flag : Reader Bool
flag path d = or_bad path (as_bool d)

-- a text, in octets of UTF-8
abbrev pub text : Reader (List ℕ)
text path d = or_bad path (as_str d)

abbrev pub if_fits : {A : Type 0} → (A → Bool) → A → Option A
if_fits test x = if test x then Some x else None

-- a text that passes a test
abbrev pub text_that : (List ℕ → Bool) → Reader (List ℕ)
text_that test path d = do
  t ← text path d
  or_bad path (if_fits test t)

-- a text of at most so many octets
abbrev pub text_within : ℕ → Reader (List ℕ)
text_within most = text_that (λ t. nat_le (length t) most)

abbrev pub number_of : Data → Option ℕ
number_of d = option_and_then as_u64 (as_number d)

-- a whole number from the one to the other, without fraction and exponent
abbrev pub whole : ℕ → ℕ → Reader ℕ
whole least most path d = or_bad path (option_and_then (if_fits (λ n. nat_le least n && nat_le n most)) (number_of d))

-- a value that is there
abbrev pub some : {A : Type 0} → Reader A → Reader (Option A)
some read path d = do
  x ← read path d
  Ok (Some x)

-- ---- words

-- what the text is by a table of words
abbrev pub word : {A : Type 0} → (List ℕ → Option A) → Reader A
word table path d = do
  t ← text path d
  or_bad path (table t)

abbrev pub net_word : List ℕ → Option NetKind
net_word t = if bytes_eq t (codes "inner") then Some Inner else if bytes_eq t (codes "tcp") then Some Tcp else None

abbrev pub proto_word : List ℕ → Option Proto
proto_word t = if bytes_eq t (codes "h1") then Some H1 else if bytes_eq t (codes "h2") then Some H2 else None

-- ---- names and addresses

-- a host that the URL Standard's host serializer writes as it stands
abbrev pub host : Reader (List ℕ)
host = text_that is_plain_host

-- a name that an identity may show, before which `*.` may stand (RFC 9525, section 6.3)
abbrev pub name : Reader (List ℕ)
name = text_that is_name

abbrev pub is_lower_digit : ℕ → Bool
is_lower_digit c = list_any (λ x. x == c) (codes "0123456789abcdef")

-- 32 lower-case hexadecimal digits: the 16 octets of an address
abbrev pub address_of : List ℕ → Option (List ℕ)
address_of t = if list_all is_lower_digit t then result_ok (decode_sized t 16) else None

abbrev pub address : Reader (List ℕ)
address path d = do
  t ← text path d
  or_bad path (address_of t)

-- Fetch Standard, network partition keys: that of this site, without a second part
abbrev pub key_of : Site → PartitionKey
key_of s = record { site = s; second = None }

-- the text of a site (HTML Standard, sites), here as such a key
abbrev pub site : Reader PartitionKey
site path d = do
  t ← text path d
  or_bad path (option_map key_of (site_of t))

-- ---- moments

-- a moment, or null for none
abbrev pub moment_or_none : Reader (Option Moment)
moment_or_none path null = Ok None
moment_or_none path (boolean b) = bad path
moment_or_none path (number n) = or_bad path (option_map (λ m. Some (record { 0 = m })) (as_u64 n))
moment_or_none path (string s) = bad path
moment_or_none path (array ds) = bad path
moment_or_none path (object ms) = bad path

-- ---- fields

-- a field: a list of two texts, its name and its value
abbrev pub field_of : List ℕ → List Data → Result Field ScenarioFault
field_of path [] = bad path
field_of path (a ∷ []) = bad path
field_of path (a ∷ b ∷ []) = do
  name ← text (below path (codes "0")) a
  value ← text (below path (codes "1")) b
  Ok (record { name = name; value = value })
field_of path (a ∷ b ∷ c ∷ ds) = bad path

-- a field; a list of another length is none
abbrev pub field : Reader Field
field path d = do
  parts ← any_items path d
  field_of path parts

-- a field whose name and value are good (RFC 9110, sections 5.1 and 5.5); it may be one that requests leave to the pool
abbrev pub good_field : Reader Field
good_field path d = do
  f ← field path d
  or_bad path (if_fits is_field f)
