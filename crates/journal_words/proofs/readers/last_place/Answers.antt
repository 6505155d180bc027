use Rattle.journal_words.proofs.ReaderLemmas.{last_here, last_before}
use Rattle.journal_words.proofs.readers.last_place.Goals as goal
use Rattle.journal_words.proofs.readers.last_place.Goals.{then-b-mark, else-b-mark}

pub loop-i-preserved : goal.loop-i-preserved
loop-i-preserved c = elim c.if-b-mark.branch [
  | then-b-mark w ↦ last_here c.args.mark c.args.text.now c.loop-i.i c.if-b-mark.place c.loop-i-test.true w.if-b-mark.true w.place-is
  | else-b-mark w ↦ last_before c.args.mark c.args.text.now c.loop-i.i c.loop-i.place c.if-b-mark.place c.loop-i-test.true w.if-b-mark.false w.place-is c.loop-i.invariant
]
