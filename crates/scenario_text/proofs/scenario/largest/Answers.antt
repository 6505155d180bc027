use Rattle.std.proofs.Common.{ℕ, unwrap_or, ap, ◌∙◌, rules, tests}
use Rattle.std.proofs.lemmas.Iterator.{YieldsList-from_slice, YieldsList-from_map}
use Rattle.std.proofs.lemmas.Iterator.Consumers.{reduce_from_yields_List}
use Rattle.std.proofs.lemmas.List.Folds.{max_of_map}
use Rattle.net_base.specs.declared.peer.Answer.{Answer}
use Rattle.scenario_text.specs.Scenarios.{body_length}
use Rattle.scenario_text.proofs.scenario.largest.Goals as goal

pub returns : goal.returns
returns c =
    let size : Answer → ℕ = (λ (a : Answer). body_length a.body) in
    c.unwrap_or.ensures ∙ ap (λ o. unwrap_or o 0) (reduce_from_yields_List _ c.map.result _ c.max.ensures.ran (YieldsList-from_map _ size (YieldsList-from_slice c.args.answers.now cc) c.map.ensures.closure (λ x b q k. search (rules, tests)))) ∙ max_of_map size c.args.answers.now
