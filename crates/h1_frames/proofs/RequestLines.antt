-- The lines of a request, one after the other.
use Rattle.std.proofs.Common.{◌≡◌, ℕ, Bool, true, List, [], ◌∷◌, ◌++◌, length, codes, if◌then◌else◌, ap, sym, ◌∙◌, append_assoc}
use Rattle.std.specs.Fmt.{decimal}
use Rattle.std.proofs.lemmas.List.{append-nil}
use Rattle.std.proofs.lemmas.Grind.{flat_map-append}
use Rattle.net_base.specs.declared.field.Field.{Field}
use Rattle.net_base.specs.declared.request.Request.{Request}
use Rattle.net_base.specs.Origins.{authority_text}
use Rattle.h1_frames.specs.RequestText.{field_line, field_lines, needs_length, length_field, sent_fields}

pub length_line : (before : List ℕ) (r : Request) → needs_length r ≡ true
    → before ++ field_lines (length_field r) ≡ before ++ field_line (codes "content-length") (decimal (length r.body))
length_line before r e =
    let line = field_line (codes "content-length") (decimal (length r.body)) in
    let fields : Bool → List Field = λ t. if t then record { name = codes "content-length"; value = decimal (length r.body) } ∷ [] else [] in
    ap (λ t. before ++ field_lines (fields t)) e ∙ ap (λ t. before ++ t) (append-nil line)

pub sent_lines : (before : List ℕ) (r : Request)
    → before ++ field_line (codes "host") (authority_text r.origin) ++ field_lines r.fields ++ field_lines (length_field r)
    ≡ before ++ field_lines (sent_fields r)
sent_lines before r =
    let host = field_line (codes "host") (authority_text r.origin) in
    let given = field_lines r.fields in
    let last = field_lines (length_field r) in
    ap (λ t. t ++ last) (append_assoc before host given) ∙ append_assoc before (host ++ given) last
    ∙ ap (λ t. before ++ t) (append_assoc host given last ∙ ap (λ t. host ++ t) (sym (flat_map-append (λ f. field_line f.name f.value) r.fields (length_field r))))
