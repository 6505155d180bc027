use Rattle.std.proofs.Common.{◌≡◌, ◌<◌, take, length, IfSome}
use Rattle.journal_words.specs.Readers.{last_place}
use Rattle.journal_words.proofs.readers.last_place.Given as goal

abbrev pub invariant-loop-i : goal.invariant-loop-i
invariant-loop-i l = (l.place ≡ last_place l.mark (take l.i l.text)) × IfSome l.place (λ p. p < length l.text)
