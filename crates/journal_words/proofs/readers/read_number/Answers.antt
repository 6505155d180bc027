use Rattle.std.proofs.Common.{bytes_eq, ◌∙◌}
use Rattle.journal_words.proofs.ReaderLemmas.{not_false, number_of_written}
use Rattle.journal_words.proofs.readers.read_number.Goals as goal

pub returns-clause-gives : goal.returns-clause-gives
returns-clause-gives c =
    let written = c.as_slice.result.now in
    number_of_written c.args.most c.in-Some.n c.args.word.now written c.if-n-most.false c.ranges.most.fits (c.as_slice.ensures ∙ c.in_ok-written.ensures)
    (not_false (bytes_eq written c.args.word.now) c.if-ne.ensures)
