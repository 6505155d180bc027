use Rattle.journal_text.proofs.JournalLemmas.{no_journal, other_format, same_format}
use Rattle.journal_text.proofs.reader.read_journal.Goals as goal

pub returns-in_default-clause-back : goal.returns-in_default-clause-back
returns-in_default-clause-back c h rest writable fits is = absurd (no_journal c.args.bytes.now c.in_default.ensures h rest is)

pub returns-then-not-is_format-clause-refused : goal.returns-then-not-is_format-clause-refused
returns-then-not-is_format-clause-refused c =
    let format = c.in-Some.format in
    other_format c.args.bytes.now format.line.now format.behind.now c.in-Some.ensures.0 c.in-Some.ensures.1
    (λ same. let on = c.is_format.ensures.1 same in let off = c.if-not-is_format.true in absurd (cc))

pub returns-then-not-is_format-clause-back : goal.returns-then-not-is_format-clause-back
returns-then-not-is_format-clause-back c h rest writable fits is =
    let format = c.in-Some.format in
    let same = same_format c.args.bytes.now format.line.now format.behind.now c.in-Some.ensures.0 c.in-Some.ensures.1 h rest is in
    let on = c.is_format.ensures.1 same in
    let off = c.if-not-is_format.true in
    absurd (cc)
