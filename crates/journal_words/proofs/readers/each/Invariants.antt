use Rattle.std.proofs.Common.{◌≡◌, map}
use Rattle.net_base.proofs.Rests.{behind}
use Rattle.journal_words.specs.Readers.{each}
use Rattle.journal_words.proofs.ReaderLemmas.{from}
use Rattle.journal_words.proofs.readers.each.Given as goal

abbrev pub invariant-loop-word : goal.invariant-loop-word
invariant-loop-word g l =
    let read = g.R.ReadsWord.reads l.reader in
    each read (map (λ w. w.now) l.words) ≡ behind l.all (from read l.words l.word-index)
