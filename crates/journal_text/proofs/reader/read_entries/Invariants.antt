use Rattle.std.proofs.Common.{length}
use Rattle.journal_text.proofs.JournalLemmas.{IsAt}
use Rattle.journal_text.proofs.reader.read_entries.Given as goal

abbrev pub invariant-loop-cut : goal.invariant-loop-cut
invariant-loop-cut l = IsAt l.text l.all l.rest

abbrev pub decreases-loop-cut : goal.decreases-loop-cut
decreases-loop-cut l = length l.rest
