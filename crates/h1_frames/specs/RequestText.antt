-- How a request is written (RFC 9112, sections 3, 5 and 6).
use Rattle.std.specs.Prelude.{ℕ, Bool, ◌||◌, nat_lt, List, [], ◌∷◌, ◌++◌, length, codes, bytes_eq, if◌then◌else◌}
use Rattle.std.specs.Fmt.{decimal}
use Rattle.std.specs.List.{flat_map}
use Rattle.httparse.specs.Ascii.{crlf_bytes}
use Rattle.net_base.specs.declared.field.Field.{Field}
use Rattle.net_base.specs.declared.request.Request.{Request}
use Rattle.net_base.specs.Origins.{authority_text}

-- section 3: request-line = method SP request-target SP HTTP-version, and CRLF
abbrev pub request_line : Request → List ℕ
request_line r = r.method ++ (codes " " ++ r.path) ++ codes " HTTP/1.1" ++ crlf_bytes

-- section 5: field-line = field-name ":" OWS field-value OWS, and CRLF; one space is written
abbrev pub field_line : List ℕ → List ℕ → List ℕ
field_line name value = name ++ (codes ": " ++ value) ++ crlf_bytes

abbrev pub field_lines : List Field → List ℕ
field_lines fields = flat_map (λ f. field_line f.name f.value) fields

-- section 3.2: the host field, with the authority of the origin
abbrev pub host_field : Request → Field
host_field r = record { name = codes "host"; value = authority_text r.origin }

-- the methods that define a meaning for content: POST and PUT (RFC 9110, sections 9.3.3 and 9.3.4) and PATCH (RFC 5789);
-- for them a length of 0 is written too (RFC 9110, section 8.6)
abbrev pub expects_content : List ℕ → Bool
expects_content method = bytes_eq method (codes "POST") || bytes_eq method (codes "PUT") || bytes_eq method (codes "PATCH")

-- the length is written where the body isn't empty, or the method expects content
abbrev pub needs_length : Request → Bool
needs_length r = nat_lt 0 (length r.body) || expects_content r.method

-- section 6.2: the length of the body, where it is written
abbrev pub length_field : Request → List Field
length_field r =
    if needs_length r then record { name = codes "content-length"; value = decimal (length r.body) } ∷ [] else []

-- the fields that are written: the host, those of the request in order, and the length
abbrev pub sent_fields : Request → List Field
sent_fields r = host_field r ∷ r.fields ++ length_field r

-- the request line, the field lines, an empty line and the body
abbrev pub request_text : Request → List ℕ
request_text r = request_line r ++ field_lines (sent_fields r) ++ crlf_bytes ++ r.body
