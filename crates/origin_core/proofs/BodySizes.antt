-- The content-length among fields that are looked at one by one.
use Rattle.std.proofs.Common.{◌≡◌, ℕ, ◌+◌, ◌<◌, ◌≤◌, true, false, List, [], ◌∷◌, length, drop, get_or, Option, None, Some, codes, bytes_eq, refl, ap, sym, ◌∙◌, subst}
use Rattle.std.specs.Str.Parse.{IsNumeral, digits_value}
use Rattle.std.proofs.lemmas.List.{drop_more, drop_all}
use Rattle.net_base.specs.declared.field.Field.{Field}
use Rattle.origin_core.specs.ScriptedRequests.{values_of, GiveSize, HasBodyOf, HasNoBodySize}

abbrev pub sizes : List Field → List (List ℕ)
sizes fields = values_of (codes "content-length") fields

abbrev pub IsNumber : List ℕ → Type 0
IsNumber text = IsNumeral 10 text × (digits_value 10 text ≤ 18446744073709551615)

-- what was found among the first i fields
abbrev pub FoundIs : List Field → ℕ → Option ℕ → Type 0
FoundIs fields i None = sizes fields ≡ sizes (drop i fields)
FoundIs fields i (Some n) = (text : List ℕ) × (sizes fields ≡ text ∷ sizes (drop i fields)) × IsNumber text × (digits_value 10 text ≡ n)

pub record Found (fields : List Field) (i : ℕ) (found : Option ℕ) : Type 0 where
  pub is : FoundIs fields i found

pub sizes_none : (fields : List Field) → Found fields 0 None
sizes_none fields = record { is = refl }

front : (fields : List Field) (i : ℕ) (f : Field) → i < length fields → f ≡ get_or fields i f → drop i fields ≡ f ∷ drop (i + 1) fields
front fields i f lt is = drop_more fields i f lt ∙ ap (λ b. b ∷ drop (i + 1) fields) (sym is)

other : (f : Field) (fs : List Field) → bytes_eq f.name (codes "content-length") ≡ false → sizes (f ∷ fs) ≡ sizes fs
other f fs differs = rw differs refl

named : (f : Field) (fs : List Field) → bytes_eq f.name (codes "content-length") ≡ true → sizes (f ∷ fs) ≡ f.value ∷ sizes fs
named f fs same = rw same refl

pub sizes_skip : (fields : List Field) (i : ℕ) (f : Field) (found : Option ℕ) → i < length fields → f ≡ get_or fields i f
    → bytes_eq f.name (codes "content-length") ≡ false → Found fields i found → Found fields (i + 1) found
sizes_skip fields i f None lt is differs r = record { is = r.is ∙ ap (λ s. sizes s) (front fields i f lt is) ∙ other f (drop (i + 1) fields) differs }
sizes_skip fields i f (Some n) lt is differs r =
    record { is = (r.is.0, r.is.1 ∙ ap (λ s. r.is.0 ∷ sizes s) (front fields i f lt is) ∙ ap (λ s. r.is.0 ∷ s) (other f (drop (i + 1) fields) differs), r.is.2, r.is.3) }

here : (fields : List Field) (i : ℕ) (f : Field) → i < length fields → f ≡ get_or fields i f
    → bytes_eq f.name (codes "content-length") ≡ true → sizes (drop i fields) ≡ f.value ∷ sizes (drop (i + 1) fields)
here fields i f lt is same = ap (λ s. sizes s) (front fields i f lt is) ∙ named f (drop (i + 1) fields) same

pub sizes_first : (fields : List Field) (i : ℕ) (f : Field) (n : ℕ) → i < length fields → f ≡ get_or fields i f
    → bytes_eq f.name (codes "content-length") ≡ true → IsNumber f.value → digits_value 10 f.value ≡ n → Found fields i None → Found fields (i + 1) (Some n)
sizes_first fields i f n lt is same number e r = record { is = (f.value, r.is ∙ here fields i f lt is same, number, e) }

two : (vs : List (List ℕ)) (v w : List ℕ) (ws : List (List ℕ)) (n : ℕ) → vs ≡ v ∷ w ∷ ws → ¬ (GiveSize vs n)
two vs v w ws n e = let P : List (List ℕ) → Type 0 = λ s. ¬ (GiveSize s n) in subst P (sym e) (λ h. h)

pub sizes_second : (fields : List Field) (i : ℕ) (f : Field) (n : ℕ) → i < length fields → f ≡ get_or fields i f
    → bytes_eq f.name (codes "content-length") ≡ true → Found fields i (Some n) → HasNoBodySize fields
sizes_second fields i f n lt is same r size =
    two (sizes fields) r.is.0 f.value (sizes (drop (i + 1) fields)) size (r.is.1 ∙ ap (λ s. r.is.0 ∷ s) (here fields i f lt is same))

bad : (v : List ℕ) (ws : List (List ℕ)) (n : ℕ) → ¬ (IsNumber v) → ¬ (GiveSize (v ∷ ws) n)
bad v [] n differs = λ h. differs h.0
bad v (w ∷ ws) n differs = λ h. h

pub sizes_bad : (fields : List Field) (i : ℕ) (f : Field) → i < length fields → f ≡ get_or fields i f
    → bytes_eq f.name (codes "content-length") ≡ true → ¬ (IsNumber f.value) → Found fields i None → HasNoBodySize fields
sizes_bad fields i f lt is same differs r size =
    let P : List (List ℕ) → Type 0 = λ s. ¬ (GiveSize s size) in subst P (sym (r.is ∙ here fields i f lt is same)) (bad f.value (sizes (drop (i + 1) fields)) size differs)

pub sizes_end : (fields : List Field) (i : ℕ) → length fields ≤ i → Found fields i None → HasBodyOf fields 0
sizes_end fields i le r =
    let P : List (List ℕ) → Type 0 = λ s. GiveSize s 0 in subst P (sym (r.is ∙ ap (λ s. sizes s) (drop_all i fields le))) refl

pub sizes_end_one : (fields : List Field) (i n : ℕ) → length fields ≤ i → Found fields i (Some n) → HasBodyOf fields n
sizes_end_one fields i n le r =
    let P : List (List ℕ) → Type 0 = λ s. GiveSize s n in
    subst P (sym (r.is.1 ∙ ap (λ s. r.is.0 ∷ sizes s) (drop_all i fields le))) (r.is.2, r.is.3)
