use Rattle.journal_lines.proofs.EntryBack.{given_fits, given_back}
use Rattle.journal_lines.proofs.read_entry.read_words.Goals as goal

pub returns-clause-fits : goal.returns-clause-fits
returns-clause-fits c = given_fits c.read_parts.result c.args.line.now c.read_parts.ensures

pub returns-clause-back : goal.returns-clause-back
returns-clause-back c = given_back c.read_parts.result c.args.line.now c.read_parts.ensures
