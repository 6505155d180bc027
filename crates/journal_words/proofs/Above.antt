-- Words hold neither spaces nor ends of lines: each octet is above the space.
use Rattle.std.proofs.Common.{◌≡◌, refl, ℕ, ◌<◌, ◌≤◌, ◌^◌, nat_lt, Bool, true, false, List, [], ◌∷◌, ◌++◌, map, codes, decimal, All, IsTrue, Option, Some, None, ltb-true, arith}
use Rattle.std.specs.List.{list_all}
use Rattle.std.proofs.lemmas.Bool.{and_parts}
use Rattle.std.proofs.lemmas.List.Elements.{All-cons, All-nil, All-append, All-map, All-weaker}
use Rattle.std.proofs.lemmas.List.Sums.{AllPass-from_list_all}
use Rattle.hex.specs.Hex.{IsBytes, encode_lower}
use Rattle.net_base.specs.declared.end_cause.EndCause.{EndCause}
use Rattle.net_base.specs.declared.end_cause.EndCause.TheVariants.{DialFailed, End, LinkFault, Broken, Done}
use Rattle.net_base.specs.declared.field.Field.{Field}
use Rattle.net_base.specs.declared.numbers.Moment.{Moment}
use Rattle.net_base.specs.declared.numbers.StreamNo.{StreamNo}
use Rattle.net_base.specs.declared.origin.Origin.{Origin}
use Rattle.net_base.specs.declared.origin.Scheme.{Scheme}
use Rattle.net_base.specs.declared.origin.Scheme.TheVariants.{Http, Https}
use Rattle.net_base.specs.declared.target.Proto.{Proto}
use Rattle.net_base.specs.declared.target.Proto.TheVariants.{H1, H2}
use Rattle.net_base.specs.declared.target.Target.{Target}
use Rattle.net_base.specs.declared.target.Via.{Via}
use Rattle.net_base.specs.declared.target.Via.TheVariants as via
use Rattle.net_base.specs.Identities.{is_name}
use Rattle.net_base.specs.Origins.{scheme_text}
use Rattle.net_base.specs.Requests.{is_token}
use Rattle.partition_keys.specs.declared.alternative.Alternative.{Alternative}
use Rattle.partition_keys.specs.declared.alternative.AltUpdate.{AltUpdate}
use Rattle.partition_keys.specs.declared.alternative.AltUpdate.TheVariants as alt
use Rattle.partition_keys.specs.declared.alternative.Proof.{Proof}
use Rattle.partition_keys.specs.declared.alternative.Proof.TheVariants.{NotAsked, NotValid, Until}
use Rattle.partition_keys.specs.declared.alternative.Why.{Why}
use Rattle.partition_keys.specs.declared.alternative.Why.TheVariants.{Status, Media, NotJson, NotArray, Absent, Stale}
use Rattle.partition_keys.specs.declared.site.Site.{Site}
use Rattle.partition_keys.specs.declared.site.Site.TheVariants.{Tuple, Opaque}
use Rattle.partition_keys.specs.Sites.{IsSite, site_text}
use Rattle.model_values.specs.declared.entry.Way.{Way}
use Rattle.model_values.specs.declared.entry.Way.TheVariants as way
use Rattle.journal_words.specs.Ranges.{Fits16, Fits32, FieldFits, AddressFits, DeadlineFits, AlternativeFits, AltFits, ProofFits, CauseFits}
use Rattle.journal_words.specs.Words.{octets_text, deadline_text, credentials_text, security_text, persist_text, proto_text, way_text, via_text, condition_text, field_text, fields_text, addresses_text, streams_text, list_text, host_and_port, origin_text, target_words, alternative_text, alt_words, proof_words, cause_text}
use Rattle.journal_words.specs.Writable.{are_named, are_names, is_word, is_writable_alternative, is_writable_alt}
use Rattle.journal_words.proofs.Digits.{digit_above, decimal_digits, hex_digits}
use Rattle.journal_words.proofs.Hosts.{plain_host_above}
use Rattle.journal_words.proofs.Lists.{both_all, list_text_all}
use Rattle.journal_words.proofs.Names.{IsPlain, token_all_plain, name_all_plain}

-- each octet is above the space
abbrev pub Above : List ℕ → Type 0
Above = All (λ b. 32 < b)

-- texts whose octets pass the test, and texts one behind the other
above_by : (text : List ℕ) → list_all (λ b. nat_lt 32 b) text ≡ true → Above text
above_by text h = All-weaker (λ b. nat_lt 32 b ≡ true) (λ b. 32 < b) (λ b. ltb-true 32 b) text (AllPass-from_list_all (λ b. nat_lt 32 b) text h)

joined : (front back : List ℕ) → Above front → Above back → Above (front ++ back)
joined front back = All-append (λ b. 32 < b) front back

one : (word : List ℕ) → Above word → All Above (word ∷ [])
one word above = All-cons Above word [] above (All-nil Above)

two : (first second : List ℕ) → Above first → Above second → All Above (first ∷ second ∷ [])
two first second a b = All-cons Above first (second ∷ []) a (one second b)

-- ---- numbers and octets

pub decimal_above : (n : ℕ) → n ≤ 18446744073709551615 → Above (decimal n)
decimal_above n fits = digit_above (decimal n) (decimal_digits n fits)

pub address_above : (xs : List ℕ) → IsBytes xs → Above (encode_lower xs)
address_above xs bytes = digit_above (encode_lower xs) (hex_digits xs bytes)

pub octets_above : (xs : List ℕ) → IsBytes xs → Above (octets_text xs)
octets_above [] bytes = above_by (codes "-") refl
octets_above (b ∷ xs) bytes = address_above (b ∷ xs) bytes

pub word_above : (text : List ℕ) → IsTrue (is_word text) → Above text
word_above text h = above_by text (and_parts _ _ h).1

plain_above : (text : List ℕ) → All IsPlain text → Above text
plain_above text all = All-weaker IsPlain (λ b. 32 < b) (λ b p. p.high) text all

pub token_above : (text : List ℕ) → IsTrue (is_token text) → Above text
token_above text h = plain_above text (token_all_plain text h)

-- ---- words for a choice

pub credentials_above : (b : Bool) → Above (credentials_text b)
credentials_above true = above_by (codes "+") refl
credentials_above false = above_by (codes "-") refl

pub security_above : (b : Bool) → Above (security_text b)
security_above true = above_by (codes "secure") refl
security_above false = above_by (codes "clear") refl

pub persist_above : (b : Bool) → Above (persist_text b)
persist_above true = above_by (codes "keep") refl
persist_above false = above_by (codes "lose") refl

pub proto_above : (p : Proto) → Above (proto_text p)
proto_above H1 = above_by (codes "h1") refl
proto_above H2 = above_by (codes "h2") refl

pub way_above : (w : Way) → Above (way_text w)
way_above way.Direct = above_by (codes "direct") refl
way_above way.Alternative = above_by (codes "alternative") refl
way_above way.Coalesced = above_by (codes "coalesced") refl

pub via_above : (v : Via) → Above (via_text v)
via_above via.Direct = above_by (codes "direct") refl
via_above (via.Alternative p) = proto_above p

pub condition_above : (w : Why) → Above (condition_text w)
condition_above Status = above_by (codes "status") refl
condition_above Media = above_by (codes "media") refl
condition_above NotJson = above_by (codes "json") refl
condition_above NotArray = above_by (codes "array") refl
condition_above Absent = above_by (codes "absent") refl
condition_above Stale = above_by (codes "stale") refl

pub deadline_above : (d : Option Moment) → DeadlineFits d → Above (deadline_text d)
deadline_above None fits = above_by (codes "-") refl
deadline_above (Some m) fits = decimal_above m.0 fits

-- ---- lists

list_above : (words : List (List ℕ)) → All Above words → Above (list_text words)
list_above words all = list_text_all (λ b. 32 < b) (omega arith) (omega arith) words all

mapped_above : {A : Type 0} (P : A → Type 0) (write : A → List ℕ) → ((x : A) → P x → Above (write x)) → (xs : List A) → All P xs → Above (list_text (map write xs))
mapped_above P write above xs all = list_above (map write xs) (All-map Above write xs (All-weaker P (λ x. Above (write x)) above xs all))

field_above : (f : Field) → IsBytes f.value → IsTrue (is_token f.name) → Above (field_text f)
field_above f bytes named =
    joined (f.name ++ 58 ∷ []) (encode_lower f.value) (joined f.name (58 ∷ []) (token_above f.name named) (above_by (58 ∷ []) refl)) (address_above f.value bytes)

pub fields_above : (fs : List Field) → All FieldFits fs → IsTrue (are_named fs) → Above (fields_text fs)
fields_above fs fits named =
    mapped_above (λ f. Above (field_text f)) field_text (λ f above. above) fs
    (both_all FieldFits (λ f. Above (field_text f)) (λ f. is_token f.name) field_above fs fits named)

pub addresses_above : (xs : List (List ℕ)) → All AddressFits xs → Above (addresses_text xs)
addresses_above xs fits = mapped_above AddressFits encode_lower (λ x f. address_above x f.1) xs fits

pub streams_above : (ss : List StreamNo) → All (λ (s : StreamNo). Fits32 s.0) ss → Above (streams_text ss)
streams_above ss fits = mapped_above (λ (s : StreamNo). Fits32 s.0) (λ s. decimal s.0) (λ s f. decimal_above s.0 (omega arith)) ss fits

pub names_above : (ns : List (List ℕ)) → IsTrue (are_names ns) → Above (list_text ns)
names_above ns named =
    list_above ns (All-weaker (λ n. is_name n ≡ true) Above (λ n h. plain_above n (name_all_plain n h)) ns (AllPass-from_list_all is_name ns (and_parts _ _ named).1))

-- ---- sites, origins and targets

port_above : (n : ℕ) → Fits16 n → Above (decimal n)
port_above n fits = decimal_above n (omega arith)

place_above : (host : List ℕ) (port : ℕ) → Fits16 port → IsTrue (is_word host) → Above (host_and_port host port)
place_above host port fits word =
    joined (host ++ 58 ∷ []) (decimal port) (joined host (58 ∷ []) (word_above host word) (above_by (58 ∷ []) refl)) (port_above port fits)

scheme_above : (s : Scheme) → Above (scheme_text s ++ codes "://")
scheme_above Http = above_by (codes "http://") refl
scheme_above Https = above_by (codes "https://") refl

pub site_above : (s : Site) → IsSite s → Above (site_text s)
site_above (Tuple scheme host) is = joined (scheme_text scheme ++ codes "://") host (scheme_above scheme) (plain_host_above host is.1)
site_above (Opaque n) small = joined (codes "opaque:") (decimal n) (above_by (codes "opaque:") refl) (decimal_above n (below_most n small))
  where
    below_most : (m : ℕ) → m < 2 ^ 64 → m ≤ 18446744073709551615
    below_most m lt = omega arith

pub origin_above : (o : Origin) → Fits16 o.port → IsTrue (is_word o.host) → Above (origin_text o)
origin_above o fits word =
    joined (scheme_text o.scheme ++ codes "://") (host_and_port o.host o.port) (scheme_above o.scheme) (place_above o.host o.port fits word)

pub target_above : (t : Target) → Fits16 t.port → IsTrue (is_word t.host) → All Above (target_words t)
target_above t fits word =
    All-cons Above (host_and_port t.host t.port) (security_text t.secure ∷ via_text t.via ∷ []) (place_above t.host t.port fits word)
    (two (security_text t.secure) (via_text t.via) (security_above t.secure) (via_above t.via))

-- ---- alternatives and proofs

alternative_above : (a : Alternative) → AlternativeFits a → is_writable_alternative a ≡ true → Above (alternative_text a)
alternative_above a fits h =
    let word = (and_parts _ _ (and_parts _ _ (and_parts _ _ h).0).0).0 in
    let slash = above_by (47 ∷ []) refl in
    joined _ (persist_text a.persist)
    (joined _ (47 ∷ [])
    (joined _ (decimal a.expires.0)
    (joined _ (47 ∷ [])
    (joined _ (decimal a.port)
    (joined _ (47 ∷ []) (joined (proto_text a.proto ++ 47 ∷ []) a.host (joined (proto_text a.proto) (47 ∷ []) (proto_above a.proto) slash) (word_above a.host word)) slash)
    (port_above a.port fits.0))
    slash)
    (decimal_above a.expires.0 fits.1))
    slash)
    (persist_above a.persist)

pub alt_above : (a : AltUpdate) → AltFits a → IsTrue (is_writable_alt a) → All Above (alt_words a)
alt_above alt.None fits writes = one (codes "none") (above_by (codes "none") refl)
alt_above alt.Clear fits writes = one (codes "clear") (above_by (codes "clear") refl)
alt_above (alt.Set listed) fits writes =
    two (codes "set") (list_text (map alternative_text listed)) (above_by (codes "set") refl)
    (mapped_above (λ a. Above (alternative_text a)) alternative_text (λ a above. above) listed
    (both_all AlternativeFits (λ a. Above (alternative_text a)) is_writable_alternative alternative_above listed fits writes))

pub proof_above : (p : Proof) → ProofFits p → All Above (proof_words p)
proof_above NotAsked fits = one (codes "none") (above_by (codes "none") refl)
proof_above (Until m) fits = two (codes "until") (decimal m.0) (above_by (codes "until") refl) (decimal_above m.0 fits)
proof_above (NotValid why) fits = two (codes "bad") (condition_text why) (above_by (codes "bad") refl) (condition_above why)

-- ---- ends

pub cause_above : (c : EndCause) → CauseFits c → Above (cause_text c)
cause_above DialFailed fits = above_by (codes "dial") refl
cause_above End fits = above_by (codes "end") refl
cause_above LinkFault fits = above_by (codes "fault") refl
cause_above Done fits = above_by (codes "done") refl
cause_above (Broken code at) fits =
    joined ((codes "broken:" ++ decimal code) ++ 58 ∷ []) (decimal at)
    (joined (codes "broken:" ++ decimal code) (58 ∷ []) (joined (codes "broken:") (decimal code) (above_by (codes "broken:") refl) (code_above code fits.0)) (above_by (58 ∷ []) refl))
    (decimal_above at fits.1)
  where
    code_above : (n : ℕ) → Fits32 n → Above (decimal n)
    code_above n small = decimal_above n (omega arith)
