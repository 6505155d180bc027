use Rattle.std.proofs.Common.{◌≡◌, ◌∙◌, take, map, refl}
use Rattle.httparse.specs.Grammar.{RequestHead}
use Rattle.httparse.specs.Spans.{header_bytes, span_bytes, name_and_value}
use Rattle.origin_core.specs.ScriptedRequests.{IsRequestUnit}
use Rattle.h1_frames.proofs.HeadFields.{kept_fields}
use Rattle.origin_core.proofs.scripted_request.read_asked.Goals as goal

pub returns-in-Ok-clause-asks : goal.returns-in-Ok-clause-asks
returns-in-Ok-clause-asks c =
    let unit = c.args.unit.now in
    let spans = c.in-Some.spans in
    let head : (h : RequestHead) × IsRequestUnit unit h × (span_bytes unit spans.method ≡ h.method)
    × (span_bytes unit spans.target ≡ h.target)
    × (map (header_bytes unit) (take spans.count c.asked_spans.new.room) ≡ map name_and_value h.fields)
    = c.in-Some.ensures.head in
    let fields = kept_fields unit _ head.0.fields head.4 in
    (head.0, head.1, c.in-Ok.ensures ∙ rw (head.2, head.3, fields) refl)
