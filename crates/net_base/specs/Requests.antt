-- Which requests there are, and how one is read from a method, a URL, fields and a body.
use Rattle.std.specs.Prelude.{⊤, List, ℕ, [], ◌∷◌, ◌++◌, ◌==◌, ◌&&◌, ◌||◌, not, ◌-◌, nat_lt, nat_le, Bool, false, codes, bytes_eq, length, map, slice_get, Option, Some, None, unwrap_or, Result, Ok, Err}
use Rattle.std.specs.List.{list_all, list_any, position}
use Rattle.http_header.specs.Token.{is_token_byte, is_value_byte, lowercase}
use Rattle.url.specs.declared.error.ParseError.{ParseError}
use Rattle.url.specs.Host.{host_text}
use Rattle.url.specs.Parts.{Parts, host_or_empty}
use Rattle.url.specs.Parser.{parse_url}
use Rattle.net_base.specs.declared.field.Field.{Field}
use Rattle.net_base.specs.declared.origin.Scheme.{Scheme}
use Rattle.net_base.specs.declared.origin.Origin.{Origin}
use Rattle.net_base.specs.declared.request.Request.{Request}
use Rattle.net_base.specs.declared.request.BuildFault.{BuildFault}
use Rattle.net_base.specs.declared.request.BuildFault.TheVariants.{NoMem, BadMethod, ForbiddenMethod, BadUrl, BadScheme, TooManyFields, BadField, ForbiddenField, BodyTooLarge}
use Rattle.net_base.specs.Origins.{scheme_of, default_port_of}
use Rattle.net_base.specs.Results.{◌>>=◌, ◌>>◌, demand, GivesSeen}

-- the result is the expected one, unless memory ran out
abbrev pub Gives : {T : Type 0} → Result T BuildFault → Result T BuildFault → Type 0
Gives result expected = GivesSeen NoMem (λ x. x) result expected

-- ---- the method

-- RFC 9110, section 5.6.2: at least one octet, each a tchar
abbrev pub is_token : List ℕ → Bool
is_token text = nat_lt 0 (length text) && list_all is_token_byte text

-- Fetch Standard, forbidden method: in any case
abbrev pub is_forbidden_method : List ℕ → Bool
is_forbidden_method method = list_any (bytes_eq (lowercase method)) (codes "connect" ∷ codes "trace" ∷ codes "track" ∷ [])

abbrev pub method_given : List ℕ → Result ⊤ BuildFault
method_given method = do
  demand (is_token method) BadMethod
  demand (not (is_forbidden_method method)) ForbiddenMethod

-- ---- the URL

-- `?` and the query where there is one, an empty one too, and else nothing
abbrev pub query_part : Option (List ℕ) → List ℕ
query_part None = []
query_part (Some q) = 63 ∷ q

-- RFC 9112, section 3.2.1, origin-form: the path, and `?` and the query where there is one
abbrev pub target_text : Parts → List ℕ
target_text u = u.path ++ query_part u.query

-- scheme, host, and port or the scheme's default one
abbrev pub origin_from : Scheme → Parts → Origin
origin_from s u = record { scheme = s; host = host_text (host_or_empty u); port = unwrap_or u.port (default_port_of s) }

abbrev pub url_given : Result Parts ParseError → Result Parts BuildFault
url_given (Ok u) = Ok u
url_given (Err e) = Err BadUrl

abbrev pub scheme_given : Option Scheme → Result Scheme BuildFault
scheme_given (Some s) = Ok s
scheme_given None = Err BadScheme

-- ---- the fields

-- a space or a tab stands there
abbrev pub is_blank : Option ℕ → Bool
is_blank None = false
is_blank (Some b) = b == 32 || b == 9

-- RFC 9110, section 5.1: a token; 65535 octets at most are this project's own
abbrev pub is_field_name : List ℕ → Bool
is_field_name name = is_token name && nat_le (length name) 65535

-- RFC 9110, section 5.5: no control but tab, and no space or tab at either end
abbrev pub is_field_value : List ℕ → Bool
is_field_value value =
    list_all is_value_byte value && not (is_blank (slice_get value 0)) && not (is_blank (slice_get value (length value - 1)))

abbrev pub is_field : Field → Bool
is_field f = is_field_name f.name && is_field_value f.value

-- What is written here and not by the caller (RFC 9110, sections 7.2 and 8.6; RFC 7838, section 5), what speaks of one
-- connection alone (RFC 9110, sections 7.6.1, 7.8 and 10.1.4; RFC 9112, section 6.1), and Expect (RFC 9110, section 10.1.1),
-- which isn't done here. The list is this project's own.
abbrev pub forbidden_names : List (List ℕ)
forbidden_names =
    codes "host" ∷ codes "content-length" ∷ codes "alt-used" ∷ codes "connection" ∷ codes "proxy-connection"
    ∷ codes "keep-alive" ∷ codes "transfer-encoding" ∷ codes "upgrade" ∷ codes "te" ∷ codes "expect" ∷ []

-- in any case
abbrev pub is_forbidden_name : List ℕ → Bool
is_forbidden_name name = list_any (bytes_eq (lowercase name)) forbidden_names

abbrev pub is_forbidden_field : Field → Bool
is_forbidden_field f = is_forbidden_name f.name

-- there is no such place, or the fault names it
abbrev pub no_place : (ℕ → BuildFault) → Option ℕ → Result ⊤ BuildFault
no_place fault None = Ok tt
no_place fault (Some place) = Err (fault place)

-- no field passes the test, or the fault names the place of the first that does, counted from 0
abbrev pub none_is : (Field → Bool) → (ℕ → BuildFault) → List Field → Result ⊤ BuildFault
none_is test fault fields = no_place fault (position test fields)

-- how many fields a request may have, which is this project's own
abbrev pub most_fields : ℕ
most_fields = 100

abbrev pub fields_given : List Field → Result ⊤ BuildFault
fields_given fields = do
  demand (nat_le (length fields) most_fields) (TooManyFields (length fields))
  none_is (λ f. not (is_field f)) BadField fields
  none_is is_forbidden_field ForbiddenField fields

-- RFC 9110, section 5.1: names are the same in either case
abbrev pub lowered : Field → Field
lowered f = record { name = lowercase f.name; value = f.value }

-- ---- the request

-- a request of this method for a URL, with these fields and this body, or the first of its faults. User name, password
-- and fragment of the URL are dropped
abbrev pub request_of : List ℕ → List ℕ → List Field → List ℕ → Result Request BuildFault
request_of method url fields body = do
  method_given method
  u ← url_given (parse_url None url)
  s ← scheme_given (scheme_of u.scheme)
  fields_given fields
  demand (nat_le (length body) 1048576) (BodyTooLarge (length body))
  Ok (record { method = method; origin = origin_from s u; path = target_text u; fields = map lowered fields; body = body })

-- the GET request that a text gives, without fields and body
abbrev pub get_request : List ℕ → Result Request BuildFault
get_request url = request_of (codes "GET") url [] []
