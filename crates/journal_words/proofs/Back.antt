-- What is written is read back.
use Rattle.std.proofs.Common.{◌≡◌, ◌≢◌, ◌∙◌, sym, refl, ap, ap₂, subst, ℕ, ◌+◌, ◌<◌, ◌≤◌, ◌^◌, ◌==◌, nat_le, nat_lt, ltb-true, ◌&&◌, ◌||◌, not, Bool, true, false, List, [], ◌∷◌, ◌++◌, length, take, drop, map, codes, decimal, bytes_eq, All, IsTrue, IsUtf8, Option, Some, None, Ok, arith, le-leb, eqb-true, append_assoc, map-id}
use Rattle.std.specs.Str.{is_utf8}
use Rattle.std.specs.List.{list_all}
use Rattle.std.proofs.Math.Seq.{take-append_seam, drop-append-add}
use Rattle.std.proofs.lemmas.Bool.{and_from, and_parts}
use Rattle.std.proofs.lemmas.Fmt.{decimal_is_IsNumeral, IsAscii-decimal}
use Rattle.std.proofs.lemmas.List.Elements.{All-head, All-append, All-weaker}
use Rattle.std.proofs.lemmas.List.Sums.{AllPass-from_list_all}
use Rattle.std.proofs.lemmas.Str.{is_utf8-from_IsUtf8, IsUtf8-from_ascii, IsUtf8-append}
use Rattle.std.proofs.lemmas.Str.Ascii.{IsAscii-from_all}
use Rattle.hex.specs.Hex.{IsBytes, encode_lower}
use Rattle.hex.proofs.HexLemmas.{decode_of-encode_lower, decode_sized-encode_lower}
use Rattle.net_base.specs.declared.end_cause.EndCause.{EndCause}
use Rattle.net_base.specs.declared.end_cause.EndCause.TheVariants.{DialFailed, End, LinkFault, Broken, Done}
use Rattle.net_base.specs.declared.field.Field.{Field}
use Rattle.net_base.specs.declared.numbers.Moment.{Moment}
use Rattle.net_base.specs.declared.numbers.StreamNo.{StreamNo}
use Rattle.net_base.specs.declared.origin.Origin.{Origin}
use Rattle.net_base.specs.declared.origin.Scheme.{Scheme}
use Rattle.net_base.specs.declared.origin.Scheme.TheVariants.{Http, Https}
use Rattle.net_base.specs.declared.target.Proto.{Proto}
use Rattle.net_base.specs.declared.target.Proto.TheVariants.{H1, H2}
use Rattle.net_base.specs.declared.target.Target.{Target}
use Rattle.net_base.specs.declared.target.Via.{Via}
use Rattle.net_base.specs.declared.target.Via.TheVariants as via
use Rattle.net_base.specs.Identities.{is_name}
use Rattle.net_base.specs.Origins.{scheme_text}
use Rattle.net_base.specs.Requests.{is_token}
use Rattle.net_base.specs.Results.{◌>>=◌}
use Rattle.partition_keys.specs.declared.alternative.Alternative.{Alternative}
use Rattle.partition_keys.specs.declared.alternative.AltUpdate.{AltUpdate}
use Rattle.partition_keys.specs.declared.alternative.AltUpdate.TheVariants as alt
use Rattle.partition_keys.specs.declared.alternative.Proof.{Proof}
use Rattle.partition_keys.specs.declared.alternative.Proof.TheVariants.{NotAsked, NotValid, Until}
use Rattle.partition_keys.specs.declared.alternative.Why.{Why}
use Rattle.partition_keys.specs.declared.alternative.Why.TheVariants.{Status, Media, NotJson, NotArray, Absent, Stale}
use Rattle.partition_keys.specs.declared.key.PartitionKey.{PartitionKey}
use Rattle.partition_keys.specs.declared.site.Site.{Site}
use Rattle.partition_keys.specs.declared.site.Site.TheVariants.{Tuple, Opaque}
use Rattle.partition_keys.specs.Sites.{IsSite, site_text, site_of}
use Rattle.partition_keys.proofs.SiteLemmas.{computes}
use Rattle.model_values.specs.declared.entry.Way.{Way}
use Rattle.model_values.specs.declared.entry.Way.TheVariants as way
use Rattle.journal_words.specs.Ranges.{Fits16, Fits32, Fits64, FieldFits, AddressFits, DeadlineFits, AlternativeFits, AltFits, ProofFits, CauseFits}
use Rattle.journal_words.specs.Readers.{number, number_if, moment, stream, decoded, hex, octets, address, deadline, unreadable, credentials, security, persist, proto, way_of, via_of, condition, field, field_of, name, list, key, key_in, place, place_at, origin, origin_at, target, alternative, alternative_of, alt_of, proof_of, cause, cause_of, parts, last_place}
use Rattle.journal_words.specs.Words.{octets_text, deadline_text, credentials_text, security_text, persist_text, proto_text, way_text, via_text, condition_text, field_text, fields_text, addresses_text, streams_text, list_text, host_and_port, origin_text, target_words, alternative_text, alt_words, proof_words, cause_text}
use Rattle.journal_words.specs.Writable.{are_named, are_names, is_word, is_writable_alternative, is_writable_alt}
use Rattle.journal_words.proofs.Digits.{IsDigit, digit_apart, digit_colon, decimal_digits, hex_digits, hex_other}
use Rattle.journal_words.proofs.Lists.{IsItem, both_all, list_back}
use Rattle.journal_words.proofs.Names.{IsPlain, token_all_plain, token_no_colon, name_all_plain, name_other}
use Rattle.journal_words.proofs.Marks.{Apart, apart_by, part_alone, part_first, last_place_back}
use Rattle.journal_words.proofs.Steps.{bind, if_yes, if_no, same_bytes, other_bytes, other_test}

-- ---- numbers and octets

pub number_back : (most n : ℕ) → n ≤ most → most < 2 ^ 64 → number most (decimal n) ≡ Ok n
number_back most n le small =
    ap (number_if most (decimal n)) (decimal_is_IsNumeral n (omega arith)).1
    ∙ if_yes (nat_le n most && bytes_eq (decimal n) (decimal n)) (Ok n) unreadable (and_from _ _ (le-leb n most le) (same_bytes (decimal n)))

pub moment_back : (m : Moment) → Fits64 m.0 → moment (decimal m.0) ≡ Ok m
moment_back m fits = bind _ m.0 _ (number_back 18446744073709551615 m.0 fits (omega arith))

pub stream_back : (s : StreamNo) → Fits32 s.0 → stream (decimal s.0) ≡ Ok s
stream_back s fits = bind _ s.0 _ (number_back 4294967295 s.0 fits (omega arith))

pub hex_back : (xs : List ℕ) → IsBytes xs → hex (encode_lower xs) ≡ Ok xs
hex_back xs bytes = ap decoded (decode_of-encode_lower xs bytes)

pub octets_back : (xs : List ℕ) → IsBytes xs → octets (octets_text xs) ≡ Ok xs
octets_back [] bytes = refl
octets_back (b ∷ xs) bytes =
    if_no _ (Ok []) _ (other_bytes (encode_lower (b ∷ xs)) (codes "-") (hex_other (b ∷ xs) (codes "-") refl)) ∙ hex_back (b ∷ xs) bytes

pub address_back : (xs : List ℕ) → AddressFits xs → address (encode_lower xs) ≡ Ok xs
address_back xs fits = ap decoded (decode_sized-encode_lower xs 16 fits.0 fits.1)

-- a decimal number isn't `-`
decimal_other : (n : ℕ) → n ≤ 18446744073709551615 → decimal n ≢ codes "-"
decimal_other n fits is =
    let digit = All-head IsDigit 45 [] (subst (All IsDigit) is (decimal_digits n fits)) in
    let high = digit.high in
    absurd (omega arith)

pub deadline_back : (d : Option Moment) → DeadlineFits d → deadline (deadline_text d) ≡ Ok d
deadline_back None fits = refl
deadline_back (Some m) fits =
    if_no _ (Ok None) _ (other_bytes (decimal m.0) (codes "-") (decimal_other m.0 fits))
    ∙ bind (moment (decimal m.0)) m (λ n. Ok (Some n)) (moment_back m fits)

-- ---- words for a choice

pub credentials_back : (b : Bool) → credentials (credentials_text b) ≡ Ok b
credentials_back true = refl
credentials_back false = refl

pub security_back : (b : Bool) → security (security_text b) ≡ Ok b
security_back true = refl
security_back false = refl

pub persist_back : (b : Bool) → persist (persist_text b) ≡ Ok b
persist_back true = refl
persist_back false = refl

pub proto_back : (p : Proto) → proto (proto_text p) ≡ Ok p
proto_back H1 = refl
proto_back H2 = refl

pub way_back : (w : Way) → way_of (way_text w) ≡ Ok w
way_back way.Direct = refl
way_back way.Alternative = refl
way_back way.Coalesced = refl

pub via_back : (v : Via) → via_of (via_text v) ≡ Ok v
via_back via.Direct = refl
via_back (via.Alternative H1) = refl
via_back (via.Alternative H2) = refl

pub condition_back : (w : Why) → condition (condition_text w) ≡ Ok w
condition_back Status = refl
condition_back Media = refl
condition_back NotJson = refl
condition_back NotArray = refl
condition_back Absent = refl
condition_back Stale = refl

-- ---- lists

plain_apart : (text : List ℕ) → All IsPlain text → Apart 44 text
plain_apart text all = All-weaker IsPlain (λ b. b ≢ 44) (λ b p. p.comma) text all

hex_apart : (mark : ℕ) → mark < 48 → (xs : List ℕ) → IsBytes xs → Apart mark (encode_lower xs)
hex_apart mark low xs bytes = digit_apart mark low (encode_lower xs) (hex_digits xs bytes)

decimal_apart : (mark n : ℕ) → mark < 48 → n ≤ 18446744073709551615 → Apart mark (decimal n)
decimal_apart mark n low fits = digit_apart mark low (decimal n) (decimal_digits n fits)

decimal_colon : (n : ℕ) → n ≤ 18446744073709551615 → Apart 58 (decimal n)
decimal_colon n fits = digit_colon (decimal n) (decimal_digits n fits)

field_parts : (f : Field) → IsBytes f.value → IsTrue (is_token f.name) → parts 58 (field_text f) ≡ f.name ∷ encode_lower f.value ∷ []
field_parts f bytes named =
    ap (parts 58) (append_assoc f.name (58 ∷ []) (encode_lower f.value))
    ∙ part_first 58 f.name (encode_lower f.value) (token_no_colon f.name named)
    ∙ ap (λ ws. f.name ∷ ws) (part_alone 58 (encode_lower f.value) (digit_colon (encode_lower f.value) (hex_digits f.value bytes)))

dash_alone : parts 58 (codes "-") ≡ codes "-" ∷ []
dash_alone = refl

field_other : (f : Field) → IsBytes f.value → IsTrue (is_token f.name) → field_text f ≢ codes "-"
field_other f bytes named is =
    let cut = sym (field_parts f bytes named) ∙ ap (parts 58) is ∙ dash_alone in
    absurd (cc)

field_item : (f : Field) → IsBytes f.value → IsTrue (is_token f.name) → IsItem field field_text f
field_item f bytes named = record {
  back = ap field_of (field_parts f bytes named) ∙ bind (hex (encode_lower f.value)) f.value (λ v. Ok (record { name = f.name; value = v })) (hex_back f.value bytes);
  apart = All-append (λ b. b ≢ 44) (f.name ++ 58 ∷ []) (encode_lower f.value)
      (All-append (λ b. b ≢ 44) f.name (58 ∷ []) (plain_apart f.name (token_all_plain f.name named)) (apart_by 44 (58 ∷ []) refl))
      (hex_apart 44 (omega arith) f.value bytes);
  some = field_other f bytes named;
}

pub fields_back : (fs : List Field) → All FieldFits fs → IsTrue (are_named fs) → list field (fields_text fs) ≡ Ok fs
fields_back fs fits named = list_back field field_text fs (both_all FieldFits (IsItem field field_text) (λ f. is_token f.name) field_item fs fits named)

address_item : (xs : List ℕ) → AddressFits xs → IsItem address encode_lower xs
address_item xs fits = record {
  back = address_back xs fits;
  apart = hex_apart 44 (omega arith) xs fits.1;
  some = hex_other xs (codes "-") refl;
}

pub addresses_back : (xs : List (List ℕ)) → All AddressFits xs → list address (addresses_text xs) ≡ Ok xs
addresses_back xs fits = list_back address encode_lower xs (All-weaker AddressFits (IsItem address encode_lower) address_item xs fits)

wider : (n : ℕ) → Fits32 n → n ≤ 18446744073709551615
wider n fits = omega arith

stream_item : (s : StreamNo) → Fits32 s.0 → IsItem stream (λ t. decimal t.0) s
stream_item s fits = record {
  back = stream_back s fits;
  apart = decimal_apart 44 s.0 (omega arith) (wider s.0 fits);
  some = decimal_other s.0 (wider s.0 fits);
}

pub streams_back : (ss : List StreamNo) → All (λ (s : StreamNo). Fits32 s.0) ss → list stream (streams_text ss) ≡ Ok ss
streams_back ss fits = list_back stream (λ s. decimal s.0) ss (All-weaker (λ (s : StreamNo). Fits32 s.0) (IsItem stream (λ s. decimal s.0)) stream_item ss fits)

name_item : (n : List ℕ) → is_name n ≡ true → IsItem name (λ m. m) n
name_item n named = record { back = refl; apart = plain_apart n (name_all_plain n named); some = name_other n named }

pub names_back : (ns : List (List ℕ)) → IsTrue (are_names ns) → list name (list_text ns) ≡ Ok ns
names_back ns named =
    ap (λ ws. list name (list_text ws)) (sym (map-id ns))
    ∙ list_back name (λ m. m) ns (All-weaker (λ n. is_name n ≡ true) (IsItem name (λ m. m)) name_item ns (AllPass-from_list_all is_name ns (and_parts _ _ named).1))

-- ---- sites, origins and targets

ascii_utf8 : (text : List ℕ) → list_all (λ b. nat_lt b 128) text ≡ true → IsUtf8 text
ascii_utf8 text h =
    IsUtf8-from_ascii text (IsAscii-from_all text (All-weaker (λ b. nat_lt b 128 ≡ true) (λ b. b < 128) (λ b. ltb-true b 128) text (AllPass-from_list_all (λ b. nat_lt b 128) text h)))

scheme_utf8 : (s : Scheme) → IsUtf8 (scheme_text s ++ codes "://")
scheme_utf8 Http = ascii_utf8 (codes "http://") refl
scheme_utf8 Https = ascii_utf8 (codes "https://") refl

site_utf8 : (s : Site) → IsSite s → IsUtf8 (site_text s)
site_utf8 (Tuple scheme host) is = IsUtf8-append (scheme_text scheme ++ codes "://") host (scheme_utf8 scheme) is.0
site_utf8 (Opaque n) small =
    IsUtf8-append (codes "opaque:") (decimal n) (ascii_utf8 (codes "opaque:") refl) (IsUtf8-from_ascii (decimal n) (IsAscii-decimal n small))

site_back : (s : Site) → IsSite s → site_of (site_text s) ≡ Some s
site_back s is = computes (site_text s) (Ok s) (is, refl) tt (site_utf8 s is)

pub key_back : (k : PartitionKey) → IsSite k.site → k.second ≡ None → key (site_text k.site) ≡ Ok k
key_back k is alone =
    if_yes (is_utf8 (site_text k.site)) (key_in (site_of (site_text k.site))) unreadable (is_utf8-from_IsUtf8 (site_text k.site) (site_utf8 k.site is))
    ∙ ap key_in (site_back k.site is)
    ∙ ap (λ o. Ok (record { site = k.site; second = o })) (sym alone)

port_at : (host : List ℕ) (port : ℕ) → Fits16 port → (word : List ℕ) → word ≡ host ++ 58 ∷ decimal port → place_at word (Some (length host)) ≡ Ok (host, port)
port_at host port fits word is =
    let rest : drop (length host + 1) word ≡ decimal port = ap (drop (length host + 1)) is ∙ drop-append-add host (58 ∷ decimal port) 1 in
    let front : take (length host) word ≡ host = ap (take (length host)) is ∙ take-append_seam host (58 ∷ decimal port) in
    bind (number 65535 (drop (length host + 1) word)) port (λ p. Ok (take (length host) word, p))
    (ap (number 65535) rest ∙ number_back 65535 port fits (omega arith))
    ∙ ap (λ h. Ok (h, port)) front

port_wide : (n : ℕ) → Fits16 n → n ≤ 18446744073709551615
port_wide n fits = omega arith

place_back : (host : List ℕ) (port : ℕ) → Fits16 port → place (host_and_port host port) ≡ Ok (host, port)
place_back host port fits =
    let spelled = append_assoc host (58 ∷ []) (decimal port) in
    ap (place_at (host_and_port host port)) (ap (last_place 58) spelled ∙ last_place_back 58 host (decimal port) (decimal_colon port (port_wide port fits)))
    ∙ port_at host port fits (host_and_port host port) spelled

origin_is : (scheme : Scheme) (host : List ℕ) (port : ℕ) → Fits16 port → origin_at scheme (host_and_port host port) ≡ Ok (record { scheme = scheme; host = host; port = port })
origin_is scheme host port fits =
    bind (place (host_and_port host port)) (host, port) (λ at. Ok (record { scheme = scheme; host = at.0; port = at.1 })) (place_back host port fits)

origin_by : (scheme : Scheme) (host : List ℕ) (port : ℕ) → Fits16 port
    → origin ((scheme_text scheme ++ codes "://") ++ host_and_port host port) ≡ Ok (record { scheme = scheme; host = host; port = port })
origin_by Http host port fits = origin_is Http host port fits
origin_by Https host port fits = origin_is Https host port fits

pub origin_back : (o : Origin) → Fits16 o.port → origin (origin_text o) ≡ Ok o
origin_back o fits = origin_by o.scheme o.host o.port fits

pub target_back : (t : Target) → Fits16 t.port → target (target_words t) ≡ Ok t
target_back t fits =
    bind (place (host_and_port t.host t.port)) (t.host, t.port)
    (λ goes. security (security_text t.secure) >>= λ secure. via_of (via_text t.via) >>= λ by. Ok (record { host = goes.0; port = goes.1; secure = secure; via = by }))
    (place_back t.host t.port fits)
    ∙ bind (security (security_text t.secure)) t.secure
    (λ secure. via_of (via_text t.via) >>= λ by. Ok (record { host = t.host; port = t.port; secure = secure; via = by })) (security_back t.secure)
    ∙ bind (via_of (via_text t.via)) t.via (λ by. Ok (record { host = t.host; port = t.port; secure = t.secure; via = by })) (via_back t.via)

-- ---- alternatives and proofs

proto_slash : (p : Proto) → Apart 47 (proto_text p)
proto_slash H1 = apart_by 47 (codes "h1") refl
proto_slash H2 = apart_by 47 (codes "h2") refl

proto_comma : (p : Proto) → Apart 44 (proto_text p)
proto_comma H1 = apart_by 44 (codes "h1") refl
proto_comma H2 = apart_by 44 (codes "h2") refl

persist_slash : (b : Bool) → Apart 47 (persist_text b)
persist_slash true = apart_by 47 (codes "keep") refl
persist_slash false = apart_by 47 (codes "lose") refl

persist_comma : (b : Bool) → Apart 44 (persist_text b)
persist_comma true = apart_by 44 (codes "keep") refl
persist_comma false = apart_by 44 (codes "lose") refl

-- the host has no comma and no slash, and it isn't broken or proven
record IsWritable (a : Alternative) : Type 0 where
  comma : Apart 44 a.host
  slash : Apart 47 a.host
  broken : a.broken_until.0 ≡ 0
  proven : a.proven_until.0 ≡ 0

neither : (b : ℕ) → not (b == 44 || b == 47) ≡ true → (b ≢ 44) × (b ≢ 47)
neither b h = by (b == 44) (b == 47) refl refl h
  where
    by : (c d : Bool) → (b == 44) ≡ c → (b == 47) ≡ d → not (c || d) ≡ true → (b ≢ 44) × (b ≢ 47)
    by false false is_comma is_slash k = (other_test b 44 (ap not is_comma), other_test b 47 (ap not is_slash))
    by true d is_comma is_slash k = absurd (cc)
    by false true is_comma is_slash k = absurd (cc)

writable : (a : Alternative) → is_writable_alternative a ≡ true → IsWritable a
writable a h =
    let marked = λ (b : ℕ). not (b == 44 || b == 47) in
    let last = and_parts (is_word a.host && list_all marked a.host && a.broken_until.0 == 0) (a.proven_until.0 == 0) h in
    let next = and_parts (is_word a.host && list_all marked a.host) (a.broken_until.0 == 0) last.0 in
    let first = and_parts (is_word a.host) (list_all marked a.host) next.0 in
    let each = AllPass-from_list_all marked a.host first.1 in
    record {
      comma = All-weaker (λ b. marked b ≡ true) (λ b. b ≢ 44) (λ b k. (neither b k).0) a.host each;
      slash = All-weaker (λ b. marked b ≡ true) (λ b. b ≢ 47) (λ b k. (neither b k).1) a.host each;
      broken = eqb-true a.broken_until.0 0 next.1;
      proven = eqb-true a.proven_until.0 0 last.1;
    }

-- five words with a slash between each two
five : (a b c d e : List ℕ) → ((((((((a ++ 47 ∷ []) ++ b) ++ 47 ∷ []) ++ c) ++ 47 ∷ []) ++ d) ++ 47 ∷ []) ++ e) ≡ a ++ 47 ∷ (b ++ 47 ∷ (c ++ 47 ∷ (d ++ 47 ∷ e)))
five a b c d e = simp append_assoc

five_parts : (a b c d e : List ℕ) → Apart 47 a → Apart 47 b → Apart 47 c → Apart 47 d → Apart 47 e
    → parts 47 ((((((((a ++ 47 ∷ []) ++ b) ++ 47 ∷ []) ++ c) ++ 47 ∷ []) ++ d) ++ 47 ∷ []) ++ e) ≡ a ∷ b ∷ c ∷ d ∷ e ∷ []
five_parts a b c d e ha hb hc hd he =
    ap (parts 47) (five a b c d e)
    ∙ part_first 47 a (b ++ 47 ∷ (c ++ 47 ∷ (d ++ 47 ∷ e))) ha
    ∙ ap (λ ws. a ∷ ws) (part_first 47 b (c ++ 47 ∷ (d ++ 47 ∷ e)) hb
    ∙ ap (λ ws. b ∷ ws) (part_first 47 c (d ++ 47 ∷ e) hc
    ∙ ap (λ ws. c ∷ ws) (part_first 47 d e hd
    ∙ ap (λ ws. d ∷ ws) (part_alone 47 e he))))

alternative_parts : (a : Alternative) → AlternativeFits a → IsWritable a
    → parts 47 (alternative_text a) ≡ proto_text a.proto ∷ a.host ∷ decimal a.port ∷ decimal a.expires.0 ∷ persist_text a.persist ∷ []
alternative_parts a fits writes =
    five_parts (proto_text a.proto) a.host (decimal a.port) (decimal a.expires.0) (persist_text a.persist)
    (proto_slash a.proto) writes.slash (decimal_apart 47 a.port (omega arith) (port_wide a.port fits.0)) (decimal_apart 47 a.expires.0 (omega arith) fits.1)
    (persist_slash a.persist)

-- the alternative that its words give
abbrev made : Proto → List ℕ → ℕ → Moment → Bool → Alternative
made proto host port expires persist =
    record { proto = proto; host = host; port = port; expires = expires; persist = persist; broken_until = record { 0 = 0 }; proven_until = record { 0 = 0 } }

abbrev timed : Alternative → ℕ → ℕ → Alternative
timed a m n = record a { broken_until = record { 0 = m }; proven_until = record { 0 = n } }

words_back : (a : Alternative) → AlternativeFits a → IsWritable a
    → alternative_of (proto_text a.proto ∷ a.host ∷ decimal a.port ∷ decimal a.expires.0 ∷ persist_text a.persist ∷ []) ≡ Ok a
words_back a fits writes =
    bind (proto (proto_text a.proto)) a.proto
    (λ p. number 65535 (decimal a.port) >>= λ port. moment (decimal a.expires.0) >>= λ m. persist (persist_text a.persist) >>= λ b. Ok (made p a.host port m b))
    (proto_back a.proto)
    ∙ bind (number 65535 (decimal a.port)) a.port
    (λ port. moment (decimal a.expires.0) >>= λ m. persist (persist_text a.persist) >>= λ b. Ok (made a.proto a.host port m b))
    (number_back 65535 a.port fits.0 (omega arith))
    ∙ bind (moment (decimal a.expires.0)) a.expires
    (λ m. persist (persist_text a.persist) >>= λ b. Ok (made a.proto a.host a.port m b)) (moment_back a.expires fits.1)
    ∙ bind (persist (persist_text a.persist)) a.persist (λ b. Ok (made a.proto a.host a.port a.expires b)) (persist_back a.persist)
    ∙ ap₂ (λ m n. Ok (timed a m n)) (sym writes.broken) (sym writes.proven)

alternative_apart : (a : Alternative) → AlternativeFits a → IsWritable a → Apart 44 (alternative_text a)
alternative_apart a fits writes =
    let P = λ (b : ℕ). b ≢ 44 in
    let slash = apart_by 44 (47 ∷ []) refl in
    let port = decimal_apart 44 a.port (omega arith) (port_wide a.port fits.0) in
    let expires = decimal_apart 44 a.expires.0 (omega arith) fits.1 in
    All-append P _ (persist_text a.persist)
    (All-append P _ (47 ∷ [])
    (All-append P _ (decimal a.expires.0)
    (All-append P _ (47 ∷ [])
    (All-append P _ (decimal a.port)
    (All-append P _ (47 ∷ []) (All-append P (proto_text a.proto ++ 47 ∷ []) a.host (All-append P (proto_text a.proto) (47 ∷ []) (proto_comma a.proto) slash) writes.comma) slash)
    port)
    slash)
    expires)
    slash)
    (persist_comma a.persist)

dash_unslashed : parts 47 (codes "-") ≡ codes "-" ∷ []
dash_unslashed = refl

alternative_other : (a : Alternative) → AlternativeFits a → IsWritable a → alternative_text a ≢ codes "-"
alternative_other a fits writes is =
    let cut = sym (alternative_parts a fits writes) ∙ ap (parts 47) is ∙ dash_unslashed in
    absurd (cc)

alternative_item : (a : Alternative) → AlternativeFits a → is_writable_alternative a ≡ true → IsItem alternative alternative_text a
alternative_item a fits h =
    let writes = writable a h in
    record {
      back = ap alternative_of (alternative_parts a fits writes) ∙ words_back a fits writes;
      apart = alternative_apart a fits writes;
      some = alternative_other a fits writes;
    }

pub alt_back : (a : AltUpdate) → AltFits a → IsTrue (is_writable_alt a) → alt_of (alt_words a) ≡ Ok a
alt_back alt.None fits writes = refl
alt_back alt.Clear fits writes = refl
alt_back (alt.Set as_set) fits writes =
    bind (list alternative (list_text (map alternative_text as_set))) as_set (λ alternatives. Ok (alt.Set alternatives))
    (list_back alternative alternative_text as_set (both_all AlternativeFits (IsItem alternative alternative_text) is_writable_alternative alternative_item as_set fits writes))

pub proof_back : (p : Proof) → ProofFits p → proof_of (proof_words p) ≡ Ok p
proof_back NotAsked fits = refl
proof_back (Until m) fits = bind (moment (decimal m.0)) m (λ n. Ok (Until n)) (moment_back m fits)
proof_back (NotValid why) fits = bind (condition (condition_text why)) why (λ w. Ok (NotValid w)) (condition_back why)

-- ---- ends

broken_parts : (code at : ℕ) → Fits32 code → Fits64 at → parts 58 (cause_text (Broken code at)) ≡ codes "broken" ∷ decimal code ∷ decimal at ∷ []
broken_parts code at small wide =
    ap (parts 58) (ap (λ t. codes "broken:" ++ t) (append_assoc (decimal code) (58 ∷ []) (decimal at)))
    ∙ part_first 58 (codes "broken") (decimal code ++ 58 ∷ decimal at) (apart_by 58 (codes "broken") refl)
    ∙ ap (λ ws. codes "broken" ∷ ws) (part_first 58 (decimal code) (decimal at) (decimal_colon code (wider code small))
    ∙ ap (λ ws. decimal code ∷ ws) (part_alone 58 (decimal at) (decimal_colon at wide)))

pub cause_back : (c : EndCause) → CauseFits c → cause (cause_text c) ≡ Ok c
cause_back DialFailed fits = refl
cause_back End fits = refl
cause_back LinkFault fits = refl
cause_back Done fits = refl
cause_back (Broken code at) fits =
    ap cause_of (broken_parts code at fits.0 fits.1)
    ∙ bind (number 4294967295 (decimal code)) code (λ n. number 18446744073709551615 (decimal at) >>= λ p. Ok (Broken n p)) (number_back 4294967295 code fits.0 (omega arith))
    ∙ bind (number 18446744073709551615 (decimal at)) at (λ p. Ok (Broken code p)) (number_back 18446744073709551615 at fits.1 (omega arith))
