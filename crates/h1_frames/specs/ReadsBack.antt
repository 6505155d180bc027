-- The head that is written reads back as what was given, by the grammar of httparse (RFC 9112, sections 2 to 5), and
-- behind it stands the body. How a reader learns where the body ends (section 6) isn't said here.
use Rattle.std.specs.Prelude.{◌≡◌, ◌<◌, ℕ, List, [], ◌∷◌, ◌++◌, length, map, All, IsTrue, IsUtf8}
use Rattle.httparse.specs.Grammar.{RequestHead, ReadsRequest, IsToken, AllPass, is_uri_byte, is_value_byte, is_ows}
use Rattle.httparse.specs.Spans.{name_and_value}
use Rattle.net_base.specs.declared.field.Field.{Field}
use Rattle.net_base.specs.declared.request.Request.{Request}
use Rattle.h1_frames.specs.RequestText.{sent_fields}

-- a field value (RFC 9110, section 5.5): octets of a value, of which neither the first nor the last is white space
pub record IsSendableValue (value : List ℕ) : Type 0 where
  pub octets : AllPass is_value_byte value
  pub begins : (first : ℕ) (rest : List ℕ) → value ≡ first ∷ rest → ¬ (IsTrue (is_ows first))
  pub ends : (front : List ℕ) (last : ℕ) → value ≡ front ++ last ∷ [] → ¬ (IsTrue (is_ows last))

-- a field whose name is a token (RFC 9110, section 5.1)
pub record IsSendableField (f : Field) : Type 0 where
  pub name : IsToken f.name
  pub value : IsSendableValue f.value

-- each part is what its place in the text allows: of a path, by the grammar of httparse, any UTF-8 without space and
-- control octets, which is more than section 3.2 does
pub record IsSendable (r : Request) : Type 0 where
  pub method : IsToken r.method
  pub path_some : 0 < length r.path
  pub path_octets : AllPass is_uri_byte r.path
  pub path_text : IsUtf8 r.path
  pub host : IsSendableValue r.origin.host
  pub fields : All IsSendableField r.fields

-- a head says what the request says: its method, its path, version 1.1, and the fields that are sent
pub record SaysRequest (h : RequestHead) (r : Request) : Type 0 where
  pub method : h.method ≡ r.method
  pub target : h.target ≡ r.path
  pub minor : h.minor ≡ 1
  pub fields : map name_and_value h.fields ≡ map (λ f. (f.name, f.value)) (sent_fields r)

-- the text is a head that says so, and then the body
abbrev pub ReadsBack : List ℕ → Request → Type 0
ReadsBack text r = (h : RequestHead) × ReadsRequest text h r.body × SaysRequest h r
