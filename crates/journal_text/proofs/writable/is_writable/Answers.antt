use Rattle.std.proofs.Common.{sym, ◌∙◌}
use Rattle.journal_lines.specs.Writable.{HasWritableKey}
use Rattle.journal_text.proofs.LineSteps.{and_first}
use Rattle.journal_text.proofs.writable.is_writable.Goals as goal

pub returns : goal.returns
returns c =
    and_first c.has_writable_key.result _ (HasWritableKey c.args.e.now.act) (sym c.is_writable_act.ensures ∙ c.if-not-is_writable_act.false)
    c.has_writable_key.ensures
