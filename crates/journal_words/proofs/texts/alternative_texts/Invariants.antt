use Rattle.std.proofs.Common.{◌≡◌, map, take}
use Rattle.journal_words.specs.Words.{alternative_text}
use Rattle.journal_words.proofs.texts.alternative_texts.Given as goal

abbrev pub invariant-loop-a : goal.invariant-loop-a
invariant-loop-a l = l.texts ≡ map alternative_text (take l.a-index l.list)
