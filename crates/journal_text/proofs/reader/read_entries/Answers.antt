use Rattle.std.proofs.Common.{ap, ◌∙◌, length, arith}
use Rattle.journal_text.specs.Lines.{end_line}
use Rattle.journal_text.proofs.JournalLemmas.{begins, behind_first, is_journal, is_bad, is_cut, left_at_end, left_at_bad, left_none, not_end, shorter, goes_on}
use Rattle.journal_text.proofs.reader.read_entries.Goals as goal

pub loop-cut-init : goal.loop-cut-init
loop-cut-init c = begins c.args.text.now c.new-all.result c.new-all.ensures

pub returns-then-branch-clause-ok : goal.returns-then-branch-clause-ok
returns-then-branch-clause-ok c =
    let cut = c.in-Some.cut in
    let so_far = c.loop-cut.invariant in
    is_journal c.args.text.now c.loop-cut.all c.loop-cut.rest.now cut.line.now cut.behind.now so_far.0 c.in-Some.ensures.0
    (c.in_ok-is_end.ensures.0 c.if-branch.true ∙ ap end_line c.len.ensures) so_far.1.0

pub returns-then-branch-clause-back : goal.returns-then-branch-clause-back
returns-then-branch-clause-back c h rest writable fits is =
    let cut = c.in-Some.cut in
    let so_far = c.loop-cut.invariant in
    left_at_end c.args.text.now c.loop-cut.all c.loop-cut.rest.now cut.line.now cut.behind.now so_far.1.1.1 c.in-Some.ensures.0 c.in-Some.ensures.1
    (omega (arith, so_far.1.1.0, c.requires)) (c.in_ok-is_end.ensures.0 c.if-branch.true ∙ ap end_line c.len.ensures)
    h rest writable fits (behind_first c.args.text.now h rest is)

pub returns-in-Err-clause-refused : goal.returns-in-Err-clause-refused
returns-in-Err-clause-refused c =
    let cut = c.in-Some.cut in
    let so_far = c.loop-cut.invariant in
    is_bad c.args.text.now c.loop-cut.all c.loop-cut.rest.now cut.line.now cut.behind.now c.in-Err.fault c.len-in-Some.result so_far.0
    c.in-Some.ensures.0 so_far.1.0 c.in-Some.ensures.1
    (not_end c.in_ok-is_end.field-0 cut.line.now c.len.result (length c.loop-cut.all) c.if-branch.false c.in_ok-is_end.ensures c.len.ensures)
    c.len-in-Some.ensures c.in-Err.ensures.refused

pub returns-in-Err-clause-back : goal.returns-in-Err-clause-back
returns-in-Err-clause-back c h rest writable fits is =
    let cut = c.in-Some.cut in
    let so_far = c.loop-cut.invariant in
    left_at_bad c.args.text.now c.loop-cut.all c.loop-cut.rest.now cut.line.now cut.behind.now so_far.1.1.1 c.in-Some.ensures.0 c.in-Some.ensures.1
    (omega (arith, so_far.1.1.0, c.requires)) c.in-Err.fault c.in-Err.ensures.back
    (not_end c.in_ok-is_end.field-0 cut.line.now c.len.result (length c.loop-cut.all) c.if-branch.false c.in_ok-is_end.ensures c.len.ensures)
    h rest writable fits (behind_first c.args.text.now h rest is)

pub loop-cut-smaller : goal.loop-cut-smaller
loop-cut-smaller c = shorter c.loop-cut.rest.now c.in-Some.cut.line.now c.in-Some.cut.behind.now c.in-Some.ensures.0

pub loop-cut-preserved : goal.loop-cut-preserved
loop-cut-preserved c =
    let cut = c.in-Some.cut in
    goes_on c.args.text.now c.loop-cut.all c.push.new.self c.loop-cut.rest.now cut.line.now cut.behind.now c.in-Ok.e c.loop-cut.invariant
    c.in-Some.ensures.0 c.in-Some.ensures.1 c.requires
    (not_end c.in_ok-is_end.field-0 cut.line.now c.len.result (length c.loop-cut.all) c.if-branch.false c.in_ok-is_end.ensures c.len.ensures)
    c.in-Ok.ensures.ok c.in-Ok.ensures.fits c.in-Ok.ensures.back c.in_ok-push-in-Ok.ensures.ok

pub returns-clause-refused : goal.returns-clause-refused
returns-clause-refused c =
    let so_far = c.loop-cut.invariant in
    is_cut c.args.text.now c.loop-cut.all c.loop-cut.rest.now so_far.0 so_far.1.0 c.in_default.ensures

pub returns-clause-back : goal.returns-clause-back
returns-clause-back c h rest writable fits is =
    let so_far = c.loop-cut.invariant in
    absurd (left_none c.args.text.now c.loop-cut.all c.loop-cut.rest.now so_far.1.1.1 c.in_default.ensures h rest writable fits
    (behind_first c.args.text.now h rest is))
