use Rattle.std.proofs.Common.{◌∙◌, ap, map}
use Rattle.small_form.specs.Forms.{are_only_if}
use Rattle.small_form.proofs.JsonValues.{are_only_names}
use Rattle.small_form.proofs.form.is_only.Goals as goal

pub returns-in-Some : goal.returns-in-Some
returns-in-Some c =
    let names = map (λ name. name.now) c.args.names.now in
    c.are_only.ensures ∙ are_only_names names c.in-Some.members.now.entries ∙ ap (λ ms. are_only_if names ms) c.in-Some.ensures
