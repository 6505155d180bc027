use Rattle.journal_text.proofs.LineSteps.{line_back, line_fits}
use Rattle.journal_text.proofs.reader.read_line.Goals as goal

pub returns-in-Ok-clause-fits : goal.returns-in-Ok-clause-fits
returns-in-Ok-clause-fits c = line_fits c.args.line.now c.in-Ok.e c.if_of.result c.in-Ok.ensures.fits c.if_of.ensures.ok

pub returns-in-Ok-clause-back : goal.returns-in-Ok-clause-back
returns-in-Ok-clause-back c =
    line_back c.args.line.now c.in-Ok.e c.if_of.result c.in-Ok.ensures.back c.if_of.ensures.ok c.if_of.ensures.refused

pub returns-in-Err-clause-back : goal.returns-in-Err-clause-back
returns-in-Err-clause-back c f fits of = c.in-Err.ensures.back f fits of.1 of.0
