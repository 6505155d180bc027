use Rattle.std.proofs.Common.{◌≡◌, ◌∙◌, take, map, refl}
use Rattle.httparse.specs.Grammar.{ResponseHead, status_code}
use Rattle.httparse.specs.Spans.{header_bytes, name_and_value}
use Rattle.h1_frames.specs.Heads.{IsHead, kept_field}
use Rattle.h1_frames.proofs.HeadFields.{kept_fields}
use Rattle.h1_frames.proofs.head.head_from.Goals as goal

pub returns-in-Ok-clause-whole : goal.returns-in-Ok-clause-whole
returns-in-Ok-clause-whole c =
    let unit = c.args.unit.now in
    let spans = c.in-Some.spans in
    let at : (h : ResponseHead) × IsHead unit h × (spans.minor ≡ h.minor) × (spans.status ≡ status_code h)
    × (map (header_bytes unit) (take spans.count c.head_spans.new.room) ≡ map name_and_value h.fields)
    = c.in-Some.ensures.head in
    let fields : c.in-Ok.fields ≡ map kept_field at.0.fields = c.in-Ok.ensures ∙ kept_fields unit _ at.0.fields at.4 in
    (at.0, at.1, rw (at.2, at.3, fields) refl)
