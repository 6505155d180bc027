-- Texts that are no site's, and sites that are read back.
use Rattle.std.proofs.Common.{◌≡◌, ◌≢◌, ◌⊎◌, inl, inr, ◌∙◌, sym, refl, ap, subst, ℕ, ◌<◌, ◌+◌, ◌^◌, nat_lt, Bool, true, false, ◌&&◌, if◌then◌else◌, Decides, List, ◌++◌, length, get_or, take, drop, codes, bytes_eq, Option, Some, None, Result, Ok, Err, IfOk, IfErr, IsUtf8, MatchResult, MatchOption, length-append, arith}
use Rattle.std.specs.Fmt.{decimal}
use Rattle.std.specs.Str.Parse.{digits_value}
use Rattle.std.proofs.lemmas.Bool.Decides.{Decides-and, Decides-ltb}
use Rattle.std.proofs.lemmas.Fmt.{decimal_is_IsNumeral}
use Rattle.std.proofs.lemmas.List.{take-append-drop}
use Rattle.std.proofs.lemmas.Slice.Eq.{bytes_eq-Decides}
use Rattle.std.proofs.lemmas.Str.{IsCharBoundary-after_ascii, IsUtf8-drop}
use Rattle.net_base.specs.declared.origin.Scheme.{Scheme}
use Rattle.net_base.specs.declared.origin.Scheme.TheVariants.{Http, Https}
use Rattle.net_base.specs.Hosts.{is_plain_host}
use Rattle.partition_keys.specs.declared.site.Site.{Site}
use Rattle.partition_keys.specs.declared.site.Site.TheVariants.{Tuple, Opaque}
use Rattle.partition_keys.specs.declared.site.SiteFault.{SiteFault}
use Rattle.partition_keys.specs.declared.site.SiteFault.TheVariants.{NoMem, BadSite}
use Rattle.partition_keys.specs.Sites.{IsSiteHost, IsSiteText, IsBeginning, RefusesSite, site_text, begins, tuple_of, opaque_if, opaque_of, site_of}

-- ---- a scheme and a host

no_tuple : (scheme : Scheme) (host : List ℕ) → ¬ (IsSiteHost host) → (s : Site) → ¬ (IsSiteText (site_text (Tuple scheme host)) s)
no_tuple Http host bad (Tuple Http h) is = let same : h ≡ host = cc in bad (subst IsSiteHost same is.0)
no_tuple Http host bad (Tuple Https h) is = let apart : ◌≡◌ {A = ℕ} 58 115 = cc in absurd (omega (arith, apart))
no_tuple Http host bad (Opaque n) is = let apart : ◌≡◌ {A = ℕ} 104 111 = cc in absurd (omega (arith, apart))
no_tuple Https host bad (Tuple Http h) is = let apart : ◌≡◌ {A = ℕ} 115 58 = cc in absurd (omega (arith, apart))
no_tuple Https host bad (Tuple Https h) is = let same : h ≡ host = cc in bad (subst IsSiteHost same is.0)
no_tuple Https host bad (Opaque n) is = let apart : ◌≡◌ {A = ℕ} 104 111 = cc in absurd (omega (arith, apart))

pub tuple_bad : (scheme : Scheme) (host : List ℕ) (o : Option Site)
    → MatchOption o (¬ (IsSiteHost host)) (λ s. IsSiteHost host × (s ≡ Tuple scheme host)) → o ≡ None → (s : Site) → ¬ (IsSiteText (site_text (Tuple scheme host)) s)
tuple_bad scheme host None told none s = no_tuple scheme host told s
tuple_bad scheme host (Some t) told none s = absurd (cc)

-- ---- a number

no_opaque : (digits : List ℕ) → ((n : ℕ) → n < 2 ^ 64 → digits ≢ decimal n) → (s : Site) → ¬ (IsSiteText (codes "opaque:" ++ digits) s)
no_opaque digits bad (Opaque n) is = let same : digits ≡ decimal n = cc in bad n is.0 same
no_opaque digits bad (Tuple Http h) is = let apart : ◌≡◌ {A = ℕ} 111 104 = cc in absurd (omega (arith, apart))
no_opaque digits bad (Tuple Https h) is = let apart : ◌≡◌ {A = ℕ} 111 104 = cc in absurd (omega (arith, apart))

-- the site of the number that the digits write, where they write one
abbrev pub GivesOpaque : List ℕ → Option Site → Type 0
GivesOpaque digits o =
    MatchOption o ((n : ℕ) → n < 2 ^ 64 → digits ≢ decimal n) (λ s. (n : ℕ) × (n < 2 ^ 64) × (digits ≡ decimal n) × (s ≡ Opaque n))

pub opaque_bad : (digits : List ℕ) (o : Option Site) → GivesOpaque digits o → o ≡ None → (s : Site) → ¬ (IsSiteText (codes "opaque:" ++ digits) s)
opaque_bad digits None told none s = no_opaque digits told s
opaque_bad digits (Some t) told none s = absurd (cc)

-- ---- refusals

-- a text that begins as a site's does and is none's is refused behind that beginning
pub refuses : (text front rest : List ℕ) → IsBeginning front → text ≡ front ++ rest → (o : Option Site) (r : Result Site SiteFault)
    → MatchResult r (λ s. o ≡ Some s) (λ e. (o ≡ None) × (e ≡ BadSite (length front)))
    → (o ≡ None → (s : Site) → ¬ (IsSiteText (front ++ rest) s)) → IfErr r (RefusesSite text)
refuses text front rest begins is o (Ok s) given bad = tt
refuses text front rest begins is o (Err e) given bad =
    let none = subst (λ (t : List ℕ). (s : Site) → ¬ (IsSiteText t s)) (sym is) (bad given.0) in
    subst (RefusesSite text) (sym given.1) (none, inl (front, (rest, is, begins, refl)))

-- ---- the site of a text is computed

begins_is : (front text : List ℕ) → begins front text ≡ true → text ≡ front ++ drop (length front) text
begins_is front text h =
    let same : take (length front) text ≡ front = (bytes_eq-Decides (take (length front) text) front).0 h in
    sym (take-append-drop (length front) text) ∙ ap (λ (t : List ℕ). t ++ drop (length front) text) same

if_true : {A : Type 0} (b : Bool) (x : A) → b ≡ true → (if b then Some x else None) ≡ Some x
if_true b x h = ap (λ (t : Bool). if t then Some x else None) h

true_if : {A : Type 0} (b : Bool) (x y : A) → (if b then Some x else None) ≡ Some y → (b ≡ true) × (y ≡ x)
true_if true x y h = (refl, cc)
true_if false x y h = absurd (cc)

writes_opaque : (digits : List ℕ) (n : ℕ) → Decides (nat_lt n (2 ^ 64) && bytes_eq digits (decimal n)) ((n < 2 ^ 64) × (digits ≡ decimal n))
writes_opaque digits n = Decides-and _ _ (Decides-ltb n (2 ^ 64)) (bytes_eq-Decides digits (decimal n))

computed : (text : List ℕ) (s : Site) → IsSiteText text s → site_of text ≡ Some s
unfolding site_of
computed text (Tuple Http host) is = ap site_of is.1 ∙ if_true (is_plain_host host) (Tuple Http host) is.0.1
computed text (Tuple Https host) is = ap site_of is.1 ∙ if_true (is_plain_host host) (Tuple Https host) is.0.1
computed text (Opaque n) is =
    ap site_of is.1 ∙ ap (λ (m : ℕ). opaque_if (decimal n) m) (decimal_is_IsNumeral n is.0).1
    ∙ if_true (nat_lt n (2 ^ 64) && bytes_eq (decimal n) (decimal n)) (Opaque n) ((writes_opaque (decimal n) n).1 (is.0, refl))

-- what follows an octet of ASCII in UTF-8 is in UTF-8
utf8_behind : (text : List ℕ) (i : ℕ) → IsUtf8 text → i < length text → get_or text i 0 < 128 → IsUtf8 (drop (i + 1) text)
utf8_behind text i u within ascii = IsUtf8-drop text (i + 1) u (IsCharBoundary-after_ascii text i u within ascii)

tuple_text_is : (text : List ℕ) (scheme : Scheme) (host : List ℕ) (s : Site)
    → IsUtf8 host → text ≡ site_text (Tuple scheme host) → tuple_of scheme host ≡ Some s → IsSiteText text s
tuple_text_is text scheme host s u is told =
    let one = true_if (is_plain_host host) (Tuple scheme host) s told in
    subst (IsSiteText text) (sym one.1) ((u, one.0), is)

opaque_text_is : (text digits : List ℕ) (s : Site) → text ≡ codes "opaque:" ++ digits → opaque_of digits ≡ Some s → IsSiteText text s
opaque_text_is text digits s is told =
    let n = digits_value 10 digits in
    let one = true_if (nat_lt n (2 ^ 64) && bytes_eq digits (decimal n)) (Opaque n) s told in
    let writes = (writes_opaque digits n).0 one.0 in
    subst (IsSiteText text) (sym one.1) (writes.0, is ∙ ap (λ (ds : List ℕ). codes "opaque:" ++ ds) writes.1)

http_rest : (text : List ℕ) → IsUtf8 text → text ≡ codes "http://" ++ drop 7 text → IsUtf8 (drop 7 text)
http_rest text u is =
    let long : length text ≡ length (codes "http://" ++ drop 7 text) = ap (λ (t : List ℕ). length t) is in
    let at : get_or text 6 0 ≡ 47 = ap (λ (t : List ℕ). get_or t 6 0) is in
    utf8_behind text 6 u (omega (arith, length-append (codes "http://") (drop 7 text))) (omega arith)

https_rest : (text : List ℕ) → IsUtf8 text → text ≡ codes "https://" ++ drop 8 text → IsUtf8 (drop 8 text)
https_rest text u is =
    let long : length text ≡ length (codes "https://" ++ drop 8 text) = ap (λ (t : List ℕ). length t) is in
    let at : get_or text 7 0 ≡ 47 = ap (λ (t : List ℕ). get_or t 7 0) is in
    utf8_behind text 7 u (omega (arith, length-append (codes "https://") (drop 8 text))) (omega arith)

by_tests : (text : List ℕ) (a b c : Bool) → begins (codes "http://") text ≡ a → begins (codes "https://") text ≡ b → begins (codes "opaque:") text ≡ c
    → IsUtf8 text → (s : Site)
    → (if a then tuple_of Http (drop 7 text) else (if b then tuple_of Https (drop 8 text) else (if c then opaque_of (drop 7 text) else None))) ≡ Some s
    → IsSiteText text s
by_tests text true b c is_http is_https is_opaque u s told =
    let is = begins_is (codes "http://") text is_http in tuple_text_is text Http (drop 7 text) s (http_rest text u is) is told
by_tests text false true c is_http is_https is_opaque u s told =
    let is = begins_is (codes "https://") text is_https in tuple_text_is text Https (drop 8 text) s (https_rest text u is) is told
by_tests text false false true is_http is_https is_opaque u s told =
    opaque_text_is text (drop 7 text) s (begins_is (codes "opaque:") text is_opaque) told
by_tests text false false false is_http is_https is_opaque u s told = absurd (cc)

is_site_text : (text : List ℕ) (s : Site) → IsUtf8 text → site_of text ≡ Some s → IsSiteText text s
unfolding site_of
is_site_text text s u told = by_tests text _ _ _ refl refl refl u s told

none_if_bad : (text : List ℕ) (o : Option Site) → site_of text ≡ o → IsUtf8 text → ((s : Site) → ¬ (IsSiteText text s)) → site_of text ≡ None
none_if_bad text None is u bad = is
none_if_bad text (Some s) is u bad = absurd (bad s (is_site_text text s u is))

pub reads_back : (text : List ℕ) (r : Result Site SiteFault) → IfOk r (IsSiteText text) → IfErr r (RefusesSite text)
    → (s : Site) → IsSiteText text s → MatchResult r (λ t. t ≡ s) (λ e. e ≡ NoMem)
reads_back text (Ok t) ok refused s is =
    let here = computed text t ok in let there = computed text s is in cc
reads_back text (Err NoMem) ok refused s is = refl
reads_back text (Err (BadSite place)) ok refused s is = absurd (refused.0 s is)

pub computes : (text : List ℕ) (r : Result Site SiteFault) → IfOk r (IsSiteText text) → IfErr r (RefusesSite text)
    → IsUtf8 text → MatchResult r (λ s. site_of text ≡ Some s) (λ e. (e ≡ NoMem) ⊎ (site_of text ≡ None))
computes text (Ok s) ok refused u = computed text s ok
computes text (Err NoMem) ok refused u = inl refl
computes text (Err (BadSite place)) ok refused u = inr (none_if_bad text (site_of text) refl u refused.0)
