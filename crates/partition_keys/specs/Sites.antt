-- Sites, and the one text of each (HTML Standard, sites; URL Standard, URL parsing and host serializing). The text of an
-- opaque site, `opaque:` and its number, is this project's own. The host of an https site is judged as that of an http URL.
use Rattle.std.specs.Prelude.{◌≡◌, ◌≢◌, ◌⊎◌, ⊤, ℕ, ◌<◌, ◌^◌, nat_lt, List, ◌++◌, Bool, ◌&&◌, length, take, drop, codes, bytes_eq, Option, Some, None, IsTrue, IsUtf8, if◌then◌else◌}
use Rattle.std.specs.Fmt.{decimal}
use Rattle.std.specs.Str.Parse.{digits_value}
use Rattle.net_base.specs.declared.origin.Scheme.{Scheme}
use Rattle.net_base.specs.declared.origin.Scheme.TheVariants.{Http, Https}
use Rattle.net_base.specs.Hosts.{is_plain_host}
use Rattle.net_base.specs.Origins.{scheme_text}
use Rattle.partition_keys.specs.declared.site.Site.{Site}
use Rattle.partition_keys.specs.declared.site.Site.TheVariants.{Tuple, Opaque}
use Rattle.partition_keys.specs.declared.site.SiteFault.{SiteFault}
use Rattle.partition_keys.specs.declared.site.SiteFault.TheVariants.{NoMem, BadSite}

-- a host that is written as the URL Standard's parser gives it back
abbrev pub IsSiteHost : List ℕ → Type 0
IsSiteHost host = IsUtf8 host × IsTrue (is_plain_host host)

-- the sites that have a text
abbrev pub IsSite : Site → Type 0
IsSite (Tuple s host) = IsSiteHost host
IsSite (Opaque n) = n < 2 ^ 64

-- `http://` or `https://` and the host, or `opaque:` and the number
abbrev pub site_text : Site → List ℕ
site_text (Tuple s host) = scheme_text s ++ codes "://" ++ host
site_text (Opaque n) = codes "opaque:" ++ decimal n

-- the text is that of this site
abbrev pub IsSiteText : List ℕ → Site → Type 0
IsSiteText text s = IsSite s × (text ≡ site_text s)

-- how the text of a site begins
abbrev pub IsBeginning : List ℕ → Type 0
IsBeginning front = (front ≡ codes "http://") ⊎ ((front ≡ codes "https://") ⊎ (front ≡ codes "opaque:"))

-- the text begins so, and this is the place behind it
abbrev pub BeginsUpTo : List ℕ → ℕ → Type 0
BeginsUpTo text place = (front : List ℕ) × ((rest : List ℕ) × (text ≡ front ++ rest) × IsBeginning front × (place ≡ length front))

-- the text doesn't begin so
abbrev pub HasNoBeginning : List ℕ → Type 0
HasNoBeginning text = (front rest : List ℕ) → IsBeginning front → text ≢ front ++ rest

-- the text is that of no site, and the fault stands behind its beginning, or at 0 where it has none
abbrev pub IsBadSite : List ℕ → ℕ → Type 0
IsBadSite text place = ((s : Site) → ¬ (IsSiteText text s)) × (BeginsUpTo text place ⊎ (HasNoBeginning text × (place ≡ 0)))

-- why the text is refused; want of memory needs no cause
abbrev pub RefusesSite : List ℕ → SiteFault → Type 0
RefusesSite text NoMem = ⊤
RefusesSite text (BadSite place) = IsBadSite text place

-- ---- the site that a text in UTF-8 is read as

abbrev pub begins : List ℕ → List ℕ → Bool
begins front text = bytes_eq (take (length front) text) front

-- the site of this scheme and host, where the host is one
abbrev pub tuple_of : Scheme → List ℕ → Option Site
tuple_of s host = if is_plain_host host then Some (Tuple s host) else None

-- the opaque site of this number, where the digits are its decimal
abbrev pub opaque_if : List ℕ → ℕ → Option Site
opaque_if digits n = if nat_lt n (2 ^ 64) && bytes_eq digits (decimal n) then Some (Opaque n) else None

-- the opaque site of the number that the digits write
abbrev pub opaque_of : List ℕ → Option Site
opaque_of digits = opaque_if digits (digits_value 10 digits)

-- what follows `http://`, `https://` or `opaque:` says which site it is
unfoldable pub site_of : List ℕ → Option Site
site_of text =
    if begins (codes "http://") text then tuple_of Http (drop 7 text)
    else (if begins (codes "https://") text then tuple_of Https (drop 8 text)
    else (if begins (codes "opaque:") text then opaque_of (drop 7 text)
    else None))
