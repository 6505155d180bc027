-- The text of a request is a request head and its body.
use Rattle.std.proofs.Common.{◌≡◌, ℕ, zero, suc, ◌<◌, ◌/◌, ◌%◌, ◌==◌, Bool, true, false, cond, IsTrue, List, [], ◌∷◌, ◌++◌, length, reverse, map, codes, All, if◌then◌else◌, refl, ap, ap₂, sym, ◌∙◌, subst, arith, append_assoc, length-append, lit≤, rules}
use Rattle.std.specs.Fmt.{decimal, digits, digits_onto, digit_glyph}
use Rattle.std.specs.List.{flat_map}
use Rattle.std.proofs.lemmas.List.{reverse-append, reverse-reverse}
use Rattle.std.proofs.lemmas.List.Elements.{All-nil, All-cons, All-head, All-tail, All-append, All-map, All-weaker, All-from_recursion}
use Rattle.std.proofs.lemmas.List.Folds.{flat_map-map}
use Rattle.std.proofs.lemmas.Bool.Decides.{nat_tests}
use Rattle.httparse.specs.Ascii.{crlf_bytes}
use Rattle.httparse.specs.Grammar as grammar
use Rattle.httparse.specs.Grammar.{RequestHead, IsRequestHead, ReadsRequest, print_request, IsField, LineEnd, crlf, IsToken, AllPass, is_token_byte, is_value_byte, is_ows, skip_ows, trim_ows}
use Rattle.httparse.specs.Spans.{name_and_value}
use Rattle.httparse.proofs.TrimLemmas.{skip_ows_no, trim_ows_space}
use Rattle.net_base.specs.declared.field.Field.{Field}
use Rattle.net_base.specs.declared.request.Request.{Request}
use Rattle.net_base.specs.declared.origin.Origin.{Origin}
use Rattle.net_base.specs.Origins.{authority_text, default_port_of}
use Rattle.h1_frames.specs.RequestText.{request_line, field_lines, host_field, needs_length, length_field, sent_fields, request_text}
use Rattle.h1_frames.specs.ReadsBack.{IsSendableValue, IsSendableField, IsSendable, ReadsBack}

-- an octet of a value that is no white space
abbrev IsPlain : ℕ → Type 0
IsPlain b = IsTrue (is_value_byte b) × (is_ows b ≡ false)

no_blank : (b : ℕ) → is_ows b ≡ false → ¬ (IsTrue (is_ows b))
no_blank b e h = cc

blank_false : (b : ℕ) → ¬ (IsTrue (is_ows b)) → false ≡ is_ows b
blank_false b plain = by_test (is_ows b) refl
  where
    by_test : (t : Bool) → is_ows b ≡ t → false ≡ is_ows b
    by_test true e = absurd (plain e)
    by_test false e = sym e

-- Digits.

glyph_plain : (d : ℕ) → d < 10 → IsPlain (digit_glyph false d)
glyph_plain d small = grind (arith, nat_tests)

pick_all : (t : Bool) (xs ys : List ℕ) → All IsPlain xs → All IsPlain ys → All IsPlain (cond t xs ys)
pick_all true xs ys all other = all
pick_all false xs ys all other = other

pick_some : (t : Bool) (xs ys : List ℕ) → 0 < length xs → 0 < length ys → 0 < length (cond t xs ys)
pick_some true xs ys some other = some
pick_some false xs ys some other = other

digits_plain : (k n : ℕ) (acc : List ℕ) → All IsPlain acc → All IsPlain (digits_onto k 10 false n acc)
digits_plain zero n acc all = all
digits_plain (suc k) n acc all =
    let small : n % 10 < 10 = omega arith in
    let one = digit_glyph false (n % 10) in
    let more = All-cons IsPlain one acc (glyph_plain (n % 10) small) all in
    pick_all (n / 10 == 0) (one ∷ acc) _ more (digits_plain k (n / 10) (one ∷ acc) more)

digits_some : (k n b : ℕ) (acc : List ℕ) → 0 < length (digits_onto k 10 false n (b ∷ acc))
digits_some zero n b acc = omega arith
digits_some (suc k) n b acc =
    let one = digit_glyph false (n % 10) in
    pick_some (n / 10 == 0) (one ∷ b ∷ acc) _ (omega arith) (digits_some k (n / 10) one (b ∷ acc))

decimal_plain : (n : ℕ) → All IsPlain (decimal n)
unfolding digits
decimal_plain n = digits_plain 64 n [] (All-nil IsPlain)

decimal_some : (n : ℕ) → 0 < length (decimal n)
unfolding digits
decimal_some n =
    let one = digit_glyph false (n % 10) in
    pick_some (n / 10 == 0) (one ∷ []) (digits_onto 63 10 false (n / 10) (one ∷ [])) (omega arith) (digits_some 63 (n / 10) one [])

-- Values without white space at their ends.

last_all : (P : ℕ → Type 0) (front : List ℕ) (last : ℕ) → All P (front ++ last ∷ []) → P last
last_all P [] last all = All-head P last [] all
last_all P (b ∷ front) last all = last_all P front last (All-tail P b (front ++ last ∷ []) all)

-- the last of two lists is one of the second
ends_all : (P : ℕ → Type 0) (xs ys front : List ℕ) (last : ℕ) → All P ys → 0 < length ys → xs ++ ys ≡ front ++ last ∷ [] → P last
ends_all P [] ys front last all some e = last_all P front last (subst (All P) e all)
ends_all P (x ∷ xs) ys [] last all some e =
    let rest : xs ++ ys ≡ [] = cc in
    absurd (omega (arith, length-append xs ys, ap length rest))
ends_all P (x ∷ xs) ys (b ∷ front) last all some e =
    let rest : xs ++ ys ≡ front ++ last ∷ [] = cc in
    ends_all P xs ys front last all some rest

begins_all : (P : ℕ → Type 0) (ys : List ℕ) (first : ℕ) (rest : List ℕ) → All P ys → ys ≡ first ∷ rest → P first
begins_all P ys first rest all e = All-head P first rest (subst (All P) e all)

plain_octets : (ys : List ℕ) → All IsPlain ys → AllPass is_value_byte ys
plain_octets ys all = All-weaker IsPlain (λ b. IsTrue (is_value_byte b)) (λ b h. h.0) ys all

joined_begins : (xs ys : List ℕ) → IsSendableValue xs → All IsPlain ys
    → (first : ℕ) (rest : List ℕ) → xs ++ ys ≡ first ∷ rest → ¬ (IsTrue (is_ows first))
joined_begins [] ys value all first rest e = no_blank first (begins_all IsPlain ys first rest all e).1
joined_begins (x ∷ xs) ys value all first rest e =
    let same : x ≡ first = cc in
    value.begins first xs (ap (λ b. b ∷ xs) same)

joined_sendable : (xs ys : List ℕ) → IsSendableValue xs → All IsPlain ys → 0 < length ys → IsSendableValue (xs ++ ys)
joined_sendable xs ys value all some = record {
  octets = All-append (λ b. IsTrue (is_value_byte b)) xs ys value.octets (plain_octets ys all);
  begins = joined_begins xs ys value all;
  ends = λ front last e. no_blank last (ends_all IsPlain xs ys front last all some e).1;
}

plain_sendable : (ys : List ℕ) → All IsPlain ys → IsSendableValue ys
plain_sendable ys all = record {
  octets = plain_octets ys all;
  begins = λ first rest e. no_blank first (begins_all IsPlain ys first rest all e).1;
  ends = λ front last e. no_blank last (last_all IsPlain front last (subst (All IsPlain) e all)).1;
}

port_sendable : (host : List ℕ) (port : ℕ) → IsSendableValue host → IsSendableValue (host ++ 58 ∷ decimal port)
port_sendable host port value =
    joined_sendable host (58 ∷ decimal port) value (All-cons IsPlain 58 (decimal port) (refl, refl) (decimal_plain port)) (omega arith)

authority_sendable : (o : Origin) → IsSendableValue o.host → IsSendableValue (authority_text o)
authority_sendable o value = by_test (o.port == default_port_of o.scheme)
  where
    by_test : (t : Bool) → IsSendableValue (if t then o.host else o.host ++ 58 ∷ decimal o.port)
    by_test true = value
    by_test false = port_sendable o.host o.port value

-- What is trimmed from behind the space is the value.

front_stays : (v : List ℕ) → ((first : ℕ) (rest : List ℕ) → v ≡ first ∷ rest → ¬ (IsTrue (is_ows first))) → skip_ows v ≡ v
front_stays [] begins = refl
front_stays (b ∷ rest) begins = skip_ows_no {b = b} {rest = rest} refl (blank_false b (begins b rest refl))

back_begins : (v : List ℕ) → IsSendableValue v → (first : ℕ) (rest : List ℕ) → reverse v ≡ first ∷ rest → ¬ (IsTrue (is_ows first))
back_begins v value first rest e =
    value.ends (reverse rest) first (sym (reverse-reverse v) ∙ ap reverse e ∙ reverse-append (first ∷ []) rest)

value_back : (v : List ℕ) → IsSendableValue v → trim_ows (32 ∷ v) ≡ v
value_back v value = trim_ows_space v (front_stays v value.begins) (front_stays (reverse v) (back_begins v value))

-- The head.

abbrev written : Field → grammar.Field
written f = record { name = f.name; raw = 32 ∷ f.value; end = crlf }

abbrev head_back : Request → RequestHead
head_back r = record { blank = []; method = r.method; target = r.path; minor = 1; line_end = crlf; fields = map written (sent_fields r); last = crlf }

space_value : (v : List ℕ) → IsSendableValue v → AllPass is_value_byte (32 ∷ v)
space_value v value = All-cons (λ b. IsTrue (is_value_byte b)) 32 v refl value.octets

written_field : (f : Field) → IsSendableField f → IsField (written f)
written_field f is = record { name = is.name; raw = space_value f.value is.value }

-- the names that are written are tokens
host_name : IsToken (codes "host")
unfolding is_token_byte
host_name = (omega arith, All-from_recursion (λ b. IsTrue (is_token_byte b)) (codes "host") (search rules))

length_name : IsToken (codes "content-length")
unfolding is_token_byte
length_name = (omega arith, All-from_recursion (λ b. IsTrue (is_token_byte b)) (codes "content-length") (search rules))

length_sendable : (r : Request) → All IsSendableField (length_field r)
length_sendable r = by_test (needs_length r)
  where
    by_test : (t : Bool) → All IsSendableField (if t then record { name = codes "content-length"; value = decimal (length r.body) } ∷ [] else [])
    by_test true =
        All-cons IsSendableField (record { name = codes "content-length"; value = decimal (length r.body) }) []
        (record { name = length_name; value = plain_sendable (decimal (length r.body)) (decimal_plain (length r.body)) })
        (All-nil IsSendableField)
    by_test false = All-nil IsSendableField

sent_sendable : (r : Request) → IsSendable r → All IsSendableField (sent_fields r)
sent_sendable r is =
    All-cons IsSendableField (host_field r) (r.fields ++ length_field r)
    (record { name = host_name; value = authority_sendable r.origin is.host })
    (All-append IsSendableField r.fields (length_field r) is.fields (length_sendable r))

names_and_values : (fs : List Field) → All IsSendableField fs → map name_and_value (map written fs) ≡ map (λ f. (f.name, f.value)) fs
names_and_values [] all = refl
names_and_values (f ∷ fs) all =
    let one = All-head IsSendableField f fs all in
    let pair : List ℕ × List ℕ → List (List ℕ × List ℕ) → List (List ℕ × List ℕ) = λ p ps. p ∷ ps in
    ap₂ pair (ap (λ v. (f.name, v)) (value_back f.value one.value)) (names_and_values fs (All-tail IsSendableField f fs all))

lines_back : (fs : List Field) → flat_map grammar.print_field (map written fs) ≡ field_lines fs
lines_back fs = flat_map-map grammar.print_field written fs

text_back : (r : Request) → request_text r ≡ print_request (head_back r) ++ r.body
unfolding print_request
text_back r =
    let lines = field_lines (sent_fields r) in
    ap (λ t. t ++ r.body) (append_assoc (request_line r) lines crlf_bytes ∙ ap (λ t. request_line r ++ (t ++ crlf_bytes)) (sym (lines_back (sent_fields r))))

pub reads_back : (r : Request) → IsSendable r → ReadsBack (request_text r) r
reads_back r is =
    let sent = sent_sendable r is in
    let fields = All-map IsField written (sent_fields r) (All-weaker IsSendableField (λ f. IsField (written f)) written_field (sent_fields r) sent) in (
      head_back r,
      (
        record { method = is.method; target = (is.path_some, is.path_octets); target_text = is.path_text; minor = lit≤ tt; fields = fields },
        text_back r,
      ),
      record { method = refl; target = refl; minor = refl; fields = names_and_values (sent_fields r) sent },
    )
