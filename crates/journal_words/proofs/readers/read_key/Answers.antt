use Rattle.std.proofs.Common.{inl, subst}
use Rattle.journal_words.specs.Readers.{Gives}
use Rattle.journal_words.proofs.ReaderLemmas.{key_of_utf8, key_of_others}
use Rattle.journal_words.proofs.readers.read_key.Goals as goal

pub returns-in-Ok : goal.returns-in-Ok
returns-in-Ok c = subst (Gives c.key_of_text.result) (key_of_utf8 c.args.word.now c.in-Ok.ensures.cases.1) c.key_of_text.ensures

pub returns-in-Err : goal.returns-in-Err
returns-in-Err c = inl (key_of_others c.args.word.now c.in-Err.ensures.cases.0)
