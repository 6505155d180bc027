use Rattle.std.proofs.Common.{IfOk, IsTrue, ◌↔◌, sym, subst}
use Rattle.model_values.specs.declared.entry.Act.{Act}
use Rattle.journal_lines.specs.Writable.{HasWritableKey}
use Rattle.journal_text.proofs.writable.has_writable_key.Goals as goal

pub returns-in-Submit : goal.returns-in-Submit
returns-in-Submit c =
    subst (λ (a : Act). IfOk c.is_writable_key.result (λ is. IsTrue is ↔ HasWritableKey a)) (sym c.in-Submit.is) c.is_writable_key.ensures

pub returns-in-Preconnect : goal.returns-in-Preconnect
returns-in-Preconnect c =
    subst (λ (a : Act). IfOk c.is_writable_key-in-Preconnect.result (λ is. IsTrue is ↔ HasWritableKey a)) (sym c.in-Preconnect.is)
    c.is_writable_key-in-Preconnect.ensures

pub returns-in-Resolved : goal.returns-in-Resolved
returns-in-Resolved c =
    subst (λ (a : Act). IfOk c.is_writable_key-in-Resolved.result (λ is. IsTrue is ↔ HasWritableKey a)) (sym c.in-Resolved.is)
    c.is_writable_key-in-Resolved.ensures
