use Rattle.std.proofs.Common.{◌≡◌, ◌++◌, take}
use Rattle.h1_frames.specs.RequestText.{field_lines}
use Rattle.h1_frames.proofs.request.add_fields.Given as goal

abbrev pub invariant-loop-field : goal.invariant-loop-field
invariant-loop-field l = l.text ≡ l.initial.text ++ field_lines (take l.field-index l.fields)
