-- A host that the URL Standard's parser gives holds no space and no control.
use Rattle.std.proofs.Common.{◌≡◌, inl, inr, ⊎_elim, refl, ap, subst, ℕ, zero, suc, ◌+◌, ◌-◌, ◌*◌, ◌/◌, ◌^◌, ◌<◌, ◌≤◌, ◌==◌, ◌&&◌, ◌||◌, not, nat_lt, Bool, true, false, if◌then◌else◌, List, [], ◌∷◌, ◌++◌, length, get_or, take, drop, replicate, slice_index, slice_range, codes, bytes_eq, All, Option, Some, None, is_some, unwrap_or, option_map, Ok, Err, IfOk, IsTrue, arith, ltb-true}
use Rattle.std.specs.Int.{w32, to_be_bytes, bytes_high_first, byte_at}
use Rattle.std.specs.List.{list_any}
use Rattle.std.specs.Result.{result_map_both}
use Rattle.std.specs.Str.Parse.{digits_value}
use Rattle.std.specs.Net.Grammar.{IsColonHex, IsGroup, IsGroupsAfter, IsDotted, IsElided}
use Rattle.std.specs.Net.Addr.{segments_of}
use Rattle.std.specs.Net.Reader.{whole_value, read_ipv6}
use Rattle.std.specs.Net.Text.{ipv4_text, hex_groups_text}
use Rattle.std.proofs.NetLemmas.Alphabet.{IsDigitOrDot, IsHexOrColon, All-ipv4_text, All-hex_groups_text}
use Rattle.std.proofs.NetLemmas.Ipv6.{read_ipv6_sound}
use Rattle.std.proofs.lemmas.Bool.{cond_both, cases_lt}
use Rattle.std.proofs.lemmas.Int.Digits.{digits_value-lt}
use Rattle.std.proofs.lemmas.List.{get_or_past}
use Rattle.std.proofs.lemmas.List.Elements.{All-nil, All-cons, All-append, All-replicate, All-same, All-weaker}
use Rattle.std.proofs.lemmas.Slice.Eq.{bytes_eq-Decides}
use Rattle.url.specs.declared.error.ParseError.{ParseError}
use Rattle.url.specs.declared.error.ParseError.TheVariants.{EmptyHost, IdnaError, InvalidIpv4Address, InvalidIpv6Address, InvalidDomainCharacter, RelativeUrlWithoutBase}
use Rattle.url.specs.declared.host.Host.{Host}
use Rattle.url.specs.declared.host.Host.TheVariants.{Domain, Ipv4, Ipv6}
use Rattle.url.specs.declared.scheme.SchemeType.{SchemeType}
use Rattle.url.specs.declared.scheme.SchemeType.TheVariants.{File, SpecialNotFile, NotSpecial}
use Rattle.url.specs.declared.sets.TheConstants.{FORBIDDEN_DOMAIN}
use Rattle.url.specs.Ascii.{at_sign, left_bracket, number_sign, question_mark, right_bracket}
use Rattle.url.specs.Path.{escape_end, is_windows_drive_letter, segment_len}
use Rattle.url.specs.Head.{scheme_only, with_authority}
use Rattle.url.specs.Host.{host_text, host_of_ascii, ipv4_host, ipv6_host, is_forbidden_in_domain, is_forbidden_in_host, parse_bracketed, parse_domain, parse_special_host, parse_opaque_host, without_localhost, parse_file_host, parse_host, ascii_domain}
use Rattle.url.specs.Input.{is_empty, lowercase, split_once, rsplit_once, strip_tabs_and_new_lines, trim_c0_control_and_space}
use Rattle.url.specs.Ipv4.{ends_in_a_number, parse_ipv4}
use Rattle.url.specs.Parser.{Parsed, and_then, split_port, split_scheme, lacks_host, leading_slashes, file_with_host, parse_port, parse_authority, with_path, after_double_slash, parse_non_special, after_file_double_slash, parse_file, parse_body, with_tail, before_tail, parse_parts, parse_by_scheme, parse_url}
use Rattle.url.specs.Parts.{Parts, kind_of, host_or_empty, has_host}
use Rattle.url.specs.Scheme.{scheme_type, is_special, is_file}
use Rattle.url.proofs.HostLemmas.{none_from_list_any, opaque_host_encoded}
use Rattle.url.proofs.HostRoundTrip.{IsHostByte, host_text_plain}
use Rattle.url.proofs.SetLemmas.{passes_from_kept}
use Rattle.net_base.specs.Hosts.{is_plain_host, is_text, has_host as host_is}

-- ---- the numbers of addresses

group_fits : (group : List ℕ) (s : ℕ) → IsGroup group s → s < 2 ^ 16
group_fits group s is =
    let below : digits_value 16 group < 16 ^ length group = digits_value-lt 16 group is.0.0.1 in
    let value : digits_value 16 group ≡ s = is.0.1 in
    by (length group) is.1 (subst (λ n. n < 16 ^ length group) value below)
  where
    by : (n : ℕ) → n ≤ 4 → s < 16 ^ n → s < 2 ^ 16
    by zero le lt = omega arith
    by (suc zero) le lt = omega arith
    by (suc (suc zero)) le lt = omega arith
    by (suc (suc (suc zero))) le lt = omega arith
    by (suc (suc (suc (suc zero)))) le lt = omega arith
    by (suc (suc (suc (suc (suc n))))) le lt = absurd (omega arith)

abbrev Fits : ℕ → Type 0
Fits s = s < 2 ^ 16

dotted_fit : (text octets : List ℕ) → IsDotted text octets → All Fits (segments_of octets)
dotted_fit text octets is =
    let a = is.fit.0 in let b = is.fit.1 in let c = is.fit.2 in let d = is.fit.3 in
    All-same Fits (segments_of octets) ((is.a * 256 + is.b) ∷ (is.c * 256 + is.d) ∷ []) (ap segments_of is.value)
    (All-cons Fits (is.a * 256 + is.b) ((is.c * 256 + is.d) ∷ []) (omega arith) (All-cons Fits (is.c * 256 + is.d) [] (omega arith) (All-nil Fits)))

groups_fit : (ipv4 : Bool) (segments before text : List ℕ) → IsGroupsAfter ipv4 before text segments → All Fits segments
groups_fit ipv4 [] before text is = All-nil Fits
groups_fit ipv4 (s ∷ segments) before text (inl h) = All-cons Fits s segments (group_fits h.0 s h.3) (groups_fit ipv4 segments (codes ":") h.1 h.4)
groups_fit ipv4 (s ∷ segments) before text (inr h) = All-same Fits (s ∷ segments) (segments_of h.1) h.5 (dotted_fit h.0 h.1 h.4)

elided_fit : (text segments : List ℕ) → IsElided text segments → All Fits segments
elided_fit text segments is =
    let zeros : List ℕ = replicate (8 - length is.head - length is.tail) 0 in
    let zero_fits : Fits 0 = omega arith in
    All-same Fits segments ((is.head ++ zeros) ++ is.tail) is.value
    (All-append Fits (is.head ++ zeros) is.tail
    (All-append Fits is.head zeros (groups_fit false is.head [] is.head_text is.head_groups) (All-replicate Fits (8 - length is.head - length is.tail) 0 zero_fits))
    (groups_fit true is.tail [] is.tail_text is.tail_groups))

colon_hex_fits : (text segments : List ℕ) → IsColonHex text segments → All Fits segments
colon_hex_fits text segments (inl h) = groups_fit true segments [] text h.0
colon_hex_fits text segments (inr h) = elided_fit text segments h

at_each : (segments : List ℕ) → All Fits segments → (k : ℕ) → get_or segments k 0 < 2 ^ 16
at_each segments all k =
    ⊎_elim (λ lt. all k 0 lt) (λ past. let none = get_or_past segments k 0 past in omega arith) (cases_lt k (length segments))

byte_small : (i n : ℕ) → byte_at i n < 256
byte_small zero n = omega arith
byte_small (suc i) n = let m = n / 256 ^ suc i in omega arith

bytes_small : (m n k : ℕ) → get_or (bytes_high_first m n) k 0 < 2 ^ 8
bytes_small zero n k = omega arith
bytes_small (suc m) n zero = let small = byte_small m n in omega arith
bytes_small (suc m) n (suc k) = bytes_small m n k

-- ---- the text of a host

abbrev Shown : List ℕ → Type 0
Shown = All (λ b. 32 < b)

abbrev IsShown : Host (List ℕ) → Type 0
IsShown host = Shown (host_text host)

-- what was parsed is such a host, unless the parser refused it
record Shows (r : Parsed (Host (List ℕ))) : Type 0 where
  shows : IfOk r IsShown

good : (host : Host (List ℕ)) → IsShown host → Shows (Ok host)
good host shown = record { shows = shown }

bad : (e : ParseError) → Shows (Err e)
bad e = record { shows = tt }

ipv4_shown : (bits : ℕ) → Shown (ipv4_text (to_be_bytes w32 bits))
ipv4_shown bits =
    All-weaker IsDigitOrDot (λ b. 32 < b) (λ b is. digit_or_dot b is) (ipv4_text (to_be_bytes w32 bits)) (All-ipv4_text (to_be_bytes w32 bits) (λ k. bytes_small 4 bits k))
  where
    digit_or_dot : (b : ℕ) → IsDigitOrDot b → 32 < b
    digit_or_dot b (inl h) = let low = h.0 in omega arith
    digit_or_dot b (inr h) = omega arith

hex_shown : (segments : List ℕ) → All Fits segments → Shown (codes "[" ++ hex_groups_text segments ++ codes "]")
hex_shown segments all =
    let P = λ (b : ℕ). 32 < b in
    let left : 32 < 91 = omega arith in
    let right : 32 < 93 = omega arith in
    All-append P (codes "[" ++ hex_groups_text segments) (codes "]")
    (All-append P (codes "[") (hex_groups_text segments) (All-cons P 91 [] left (All-nil P))
    (All-weaker IsHexOrColon P hex_or_colon (hex_groups_text segments) (All-hex_groups_text segments (at_each segments all))))
    (All-cons P 93 [] right (All-nil P))
  where
    hex_or_colon : (b : ℕ) → IsHexOrColon b → 32 < b
    hex_or_colon b (inl h) = let low = h.0 in omega arith
    hex_or_colon b (inr h) = let low = h.0 in omega arith

whole_if : (b : Bool) (v segments : List ℕ) → (if b then Some v else None) ≡ Some segments → v ≡ segments
whole_if true v segments is = cc
whole_if false v segments is = absurd (cc)

whole_some : (r : Option (List ℕ × List ℕ)) (segments : List ℕ) → whole_value r ≡ Some segments → (rest : List ℕ) × (r ≡ Some (segments, rest))
whole_some None segments is = absurd (cc)
whole_some (Some p) segments is = (p.1, ap (λ v. Some (v, p.1)) (whole_if (length p.1 == 0) p.0 segments is))

ipv6_shows : (text : List ℕ) (o : Option (List ℕ)) → whole_value (read_ipv6 text) ≡ o → Shows (ipv6_host o)
ipv6_shows text None is = bad InvalidIpv6Address
ipv6_shows text (Some segments) is =
    let some = whole_some (read_ipv6 text) segments is in
    let sound = read_ipv6_sound text segments some.0 some.1 in
    good (Ipv6 (record { segments = segments })) (hex_shown segments (colon_hex_fits sound.0 segments sound.2))

bracketed_shows : (bytes : List ℕ) → Shows (parse_bracketed bytes)
unfolding parse_bracketed
bracketed_shows bytes =
    cond_both (slice_index bytes (length bytes - 1) == right_bracket) _ _ Shows (λ _. ipv6_shows (slice_range bytes 1 (length bytes - 1)) _ refl) (λ _. bad InvalidIpv6Address)

ipv4_shows : (o : Option ℕ) → Shows (ipv4_host o)
ipv4_shows None = bad InvalidIpv4Address
ipv4_shows (Some bits) = good (Ipv4 (record { octets = to_be_bytes w32 bits })) (ipv4_shown bits)

domain_shown : (domain : List ℕ) → list_any is_forbidden_in_domain domain ≡ false → Shown domain
domain_shown domain none =
    All-weaker (λ b. is_forbidden_in_domain b ≡ false) (λ b. 32 < b) (λ b kept. ltb-true 32 b (passes_from_kept FORBIDDEN_DOMAIN (λ c. nat_lt 32 c) refl b kept))
    domain (none_from_list_any is_forbidden_in_domain domain none)

ascii_shows : (o : Option (List ℕ)) → Shows (host_of_ascii o)
ascii_shows None = bad IdnaError
ascii_shows (Some domain) =
    cond_both (is_empty domain) _ _ Shows (λ _. bad EmptyHost) (λ _. cond_both (list_any is_forbidden_in_domain domain) _ _ Shows (λ _. bad IdnaError)
    (λ none. cond_both (ends_in_a_number domain) _ _ Shows (λ _. ipv4_shows (parse_ipv4 domain)) (λ _. good (Domain domain) (domain_shown domain none))))

domain_shows : (domain : List ℕ) → Shows (parse_domain domain)
domain_shows domain = ascii_shows (ascii_domain domain)

special_shows : (bytes : List ℕ) → Shows (parse_special_host bytes)
unfolding parse_special_host
special_shows bytes = cond_both (slice_index bytes 0 == left_bracket) _ _ Shows (λ _. bracketed_shows bytes) (λ _. domain_shows _)

opaque_shows : (bytes : List ℕ) → Shows (parse_opaque_host bytes)
unfolding parse_opaque_host
opaque_shows bytes =
    cond_both (slice_index bytes 0 == left_bracket) _ _ Shows (λ _. bracketed_shows bytes)
    (λ _. cond_both (list_any is_forbidden_in_host bytes) _ _ Shows (λ _. bad InvalidDomainCharacter)
    (λ none. good (Domain _) (All-weaker IsHostByte (λ b. 32 < b) (λ b is. is.above) _ (host_text_plain NotSpecial (Domain _) (opaque_host_encoded bytes none)))))

without_local : (host : Host (List ℕ)) → IsShown host → IsShown (without_localhost host)
without_local (Domain domain) shown = cond_both (bytes_eq domain (codes "localhost")) [] domain Shown (λ _. All-nil (λ b. 32 < b)) (λ _. shown)
without_local (Ipv4 address) shown = shown
without_local (Ipv6 address) shown = shown

mapped_shows : (r : Parsed (Host (List ℕ))) → Shows r → Shows (result_map_both without_localhost (λ e. e) r)
mapped_shows (Ok host) shown = good (without_localhost host) (without_local host shown.shows)
mapped_shows (Err e) shown = bad e

file_shows : (bytes : List ℕ) → Shows (parse_file_host bytes)
unfolding parse_file_host
file_shows bytes = cond_both (is_empty bytes) _ _ Shows (λ _. good (Domain []) (All-nil (λ b. 32 < b))) (λ _. mapped_shows (parse_special_host bytes) (special_shows bytes))

host_shows : (kind : SchemeType) (bytes : List ℕ) → Shows (parse_host kind bytes)
host_shows File bytes = file_shows bytes
host_shows SpecialNotFile bytes = special_shows bytes
host_shows NotSpecial bytes = opaque_shows bytes

-- ---- the host of a URL

abbrev UrlShown : Parts → Type 0
UrlShown url = IsShown (host_or_empty url)

-- the host of the URL that was parsed is such a host, unless the parser refused it
record UrlShows (r : Parsed Parts) : Type 0 where
  shows : IfOk r UrlShown

url_good : (url : Parts) → UrlShown url → UrlShows (Ok url)
url_good url shown = record { shows = shown }

url_bad : (e : ParseError) → UrlShows (Err e)
url_bad e = record { shows = tt }

hostless : Shown []
hostless = All-nil (λ b. 32 < b)

after_host : (r : Parsed (Host (List ℕ))) (next : Host (List ℕ) → Parsed Parts) → Shows r → ((host : Host (List ℕ)) → IsShown host → UrlShows (next host)) → UrlShows (and_then r next)
after_host (Ok host) next here rest = rest host here.shows
after_host (Err e) next here rest = url_bad e

after_any : {A : Type 0} (r : Parsed A) (next : A → Parsed Parts) → ((x : A) → UrlShows (next x)) → UrlShows (and_then r next)
after_any (Ok x) next rest = rest x
after_any (Err e) next rest = url_bad e

after_url : (r : Parsed Parts) (next : Parts → Parsed Parts) → UrlShows r → ((url : Parts) → UrlShown url → UrlShows (next url)) → UrlShows (and_then r next)
after_url (Ok url) next here rest = rest url here.shows
after_url (Err e) next here rest = url_bad e

authority_shows : (scheme bytes : List ℕ) → UrlShows (parse_authority scheme bytes)
unfolding parse_authority
authority_shows scheme bytes =
    let at = rsplit_once at_sign bytes in
    let host_port = split_port at.1 in
    cond_both (lacks_host at.0 host_port.0 host_port.1) _ _ UrlShows (λ _. url_bad EmptyHost)
    (λ _. after_host (parse_host (scheme_type scheme) host_port.0) _ (host_shows (scheme_type scheme) host_port.0)
    (λ host shown. after_any (parse_port scheme (unwrap_or host_port.1 [])) _ (λ port. url_good (with_authority _ _ _ host port) shown)))

slashes_show : (scheme bytes : List ℕ) → UrlShows (after_double_slash scheme bytes)
unfolding after_double_slash
slashes_show scheme bytes =
    after_url (parse_authority scheme (take (segment_len (scheme_type scheme) bytes) bytes)) _ (authority_shows scheme _) (λ head shown. url_good (with_path head _) shown)

other_shows : (scheme body : List ℕ) → UrlShows (parse_non_special scheme body)
unfolding parse_non_special
other_shows scheme body =
    cond_both (leading_slashes NotSpecial body == 2) _ _ UrlShows (λ _. slashes_show scheme (drop 2 body))
    (λ _. cond_both (leading_slashes NotSpecial body == 1) _ _ UrlShows
    (λ _. url_good (with_path (scheme_only scheme) _) hostless) (λ _. url_good (with_path (scheme_only scheme) _) hostless))

file_slashes_show : (bytes : List ℕ) → UrlShows (after_file_double_slash bytes)
unfolding after_file_double_slash
file_slashes_show bytes =
    cond_both (is_windows_drive_letter (take (segment_len File bytes) bytes)) _ _ UrlShows
    (λ _. url_good (with_path (file_with_host (Domain [])) _) hostless)
    (λ _. after_host (parse_file_host (take (segment_len File bytes) bytes)) _ (file_shows _) (λ host shown. url_good (with_path (file_with_host host) _) shown))

file_url_shows : (body : List ℕ) → UrlShows (parse_file None body)
unfolding parse_file
file_url_shows body =
    cond_both (leading_slashes File body == 2) _ _ UrlShows (λ _. file_slashes_show _) (λ _. url_good (with_path (file_with_host (Domain [])) _) hostless)

body_shows : (scheme body : List ℕ) → UrlShows (parse_body scheme None body)
unfolding parse_body
body_shows scheme body =
    cond_both (is_file (scheme_type scheme)) _ _ UrlShows (λ _. file_url_shows body)
    (λ _. cond_both (is_special (scheme_type scheme)) _ _ UrlShows (λ _. slashes_show scheme _) (λ _. other_shows scheme body))

-- the path, the query and the fragment say nothing of the host
tail_shown : (url : Parts) (query fragment : Option (List ℕ)) → UrlShown url → UrlShown (with_tail (before_tail url query fragment) query fragment)
tail_shown url query fragment shown =
    cond_both (not (is_special (kind_of url)) && (is_some query || is_some fragment)) (with_path url (escape_end url.path)) url (λ u. UrlShown (with_tail u query fragment))
    (λ _. shown) (λ _. shown)

parts_show : (scheme body : List ℕ) (query fragment : Option (List ℕ)) → UrlShows (parse_parts scheme None body query fragment)
unfolding parse_parts
parts_show scheme body query fragment =
    after_url (parse_body scheme None body) _ (body_shows scheme body) (λ url shown. url_good (with_tail (before_tail url query fragment) query fragment) (tail_shown url query fragment shown))

scheme_shows : (split : Option (List ℕ × List ℕ)) (body : List ℕ) (query fragment : Option (List ℕ)) → UrlShows (parse_by_scheme split None body query fragment)
scheme_shows None body query fragment = url_bad RelativeUrlWithoutBase
scheme_shows (Some split) body query fragment = parts_show (lowercase split.0) split.1 query fragment

url_shows : (input : List ℕ) → UrlShows (parse_url None input)
unfolding parse_url
url_shows input =
    let hash = split_once number_sign (strip_tabs_and_new_lines (trim_c0_control_and_space input)) in
    let question = split_once question_mark hash.0 in
    scheme_shows (split_scheme question.0) question.0 question.1 hash.1

-- ---- a plain host

of_host : (host : List ℕ) (o : Option (Host (List ℕ))) (b : Bool) → IsShown (unwrap_or o (Domain [])) → is_text host (option_map host_text (if b then o else None)) ≡ true → Shown host
of_host host o false shown is = absurd (cc)
of_host host None true shown is = absurd (cc)
of_host host (Some h) true shown is = subst Shown ((bytes_eq-Decides (host_text h) host).0 is) shown

of_result : (host : List ℕ) (r : Parsed Parts) → IfOk r UrlShown → host_is host r ≡ true → Shown host
of_result host (Ok u) shown is = of_host host u.host (has_host u) shown is
of_result host (Err e) shown is = absurd (cc)

-- a host that the parser gives back as it is written
pub plain_host_above : (host : List ℕ) → IsTrue (is_plain_host host) → All (λ b. 32 < b) host
plain_host_above host h = of_result host (parse_url None (codes "http://" ++ host)) (url_shows (codes "http://" ++ host)).shows h
