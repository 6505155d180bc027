use Rattle.std.proofs.Common.{◌≡◌, ◌++◌, flat_map, take}
use Rattle.origin_core.specs.ScriptedAnswers.{field_line}
use Rattle.origin_core.proofs.scripted_answer.write_fields.Given as goal

abbrev pub invariant-loop-field : goal.invariant-loop-field
invariant-loop-field l = l.text ≡ l.initial.text ++ flat_map field_line (take l.field-index l.fields)
