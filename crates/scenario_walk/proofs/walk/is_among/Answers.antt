use Rattle.std.proofs.Common.{◌∙◌, bytes_eq, rules, tests}
use Rattle.std.proofs.lemmas.Iterator.{YieldsList-from_slice}
use Rattle.std.proofs.lemmas.Iterator.Search.{any_from_yields_List}
use Rattle.scenario_walk.proofs.WalkLemmas.{any_of_mapped}
use Rattle.scenario_walk.proofs.walk.is_among.Goals as goal

pub returns : goal.returns
returns c =
    let is_text = bytes_eq c.args.text.now in
    any_from_yields_List (λ name. is_text name.now) _ _ _ c.any.ensures.ran (YieldsList-from_slice c.args.names.now cc) (λ x b q k. search (rules, tests))
    ∙ any_of_mapped is_text (λ name. name.now) c.args.names.now
