use Rattle.std.proofs.Common.{ap, ◌∙◌}
use Rattle.pool_run.specs.declared.serial.Said.TheVariants.{Told}
use Rattle.pool_run.proofs.Exchanges.{fault_told, end_told, quiet_told, answer_told, lacks_said, lacks_journal, stops_err}
use Rattle.pool_run.proofs.serial.run_staged.Goals as goal

pub returns-in-Ok-Told-Answered : goal.returns-in-Ok-Told-Answered
returns-in-Ok-Told-Answered g c =
    answer_told _ _ _ _ _ _ _ _ _ _ _ _ _ (c.in-Ok-Told-Answered.field-0-is ∙ ap Told c.in-Ok-Told-Answered.field-0-0-is) c.in-Up.ensures c.retire.ensures c.in-Ok-Told-Answered.ensures c.in_ok-journal-in-Ok-Told-Answered.ensures

pub returns-in-Ok-Told-Fault : goal.returns-in-Ok-Told-Fault
returns-in-Ok-Told-Fault g c =
    fault_told _ _ _ _ _ _ _ _ _ (c.in-Ok-Told-Fault.field-0-is ∙ ap Told c.in-Ok-Told-Fault.field-0-0-is) c.in-Up.ensures c.retire.ensures c.in-Ok-Told-Fault.ensures

pub returns-in-Ok-Told-End : goal.returns-in-Ok-Told-End
returns-in-Ok-Told-End g c =
    end_told _ _ _ _ _ _ _ _ _ (c.in-Ok-Told-End.field-0-is ∙ ap Told c.in-Ok-Told-End.field-0-0-is) c.in-Up.ensures c.retire.ensures c.in-Ok-Told-End.ensures

pub returns-in-Ok-Told-Quiet : goal.returns-in-Ok-Told-Quiet
returns-in-Ok-Told-Quiet g c =
    quiet_told _ _ _ _ _ _ _ _ _ (c.in-Ok-Told-Quiet.field-0-is ∙ ap Told c.in-Ok-Told-Quiet.field-0-0-is) c.in-Up.ensures c.retire.ensures c.in-Ok-Told-Quiet.ensures

pub returns-in_err-journal-in-Ok-Told-Answered : goal.returns-in_err-journal-in-Ok-Told-Answered
returns-in_err-journal-in-Ok-Told-Answered g c =
    stops_err _ _ _ _ _ _ c.from_residual.ensures.0
    (lacks_journal _ _ _ _ _ _ _ _ _ _ _ (c.in-Ok-Told-Answered.field-0-is ∙ ap Told c.in-Ok-Told-Answered.field-0-0-is) c.in-Up.ensures c.retire.ensures c.in-Ok-Told-Answered.ensures)

pub returns : goal.returns
returns g c = lacks_said _ _ _ _ _ _ _ _ _ c.in-Up.ensures c.retire.ensures c.in-Err.ensures
