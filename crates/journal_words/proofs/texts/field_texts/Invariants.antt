use Rattle.std.proofs.Common.{◌≡◌, map, take}
use Rattle.journal_words.specs.Words.{field_text}
use Rattle.journal_words.proofs.texts.field_texts.Given as goal

abbrev pub invariant-loop-field : goal.invariant-loop-field
invariant-loop-field l = l.texts ≡ map field_text (take l.field-index l.fields)
