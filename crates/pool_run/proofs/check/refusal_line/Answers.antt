use Rattle.std.proofs.Common.{◌≡◌, ℕ, List, [], ◌∷◌, ◌++◌, codes, Result, Ok, Err, IfOk, sym, ap, ◌∙◌, append_assoc}
use Rattle.std.specs.Fmt.{decimal}
use Rattle.plain_values.specs.declared.memory.NoMem.{NoMem}
use Rattle.scenario_walk.specs.declared.fault.ScenarioFault.{ScenarioFault}
use Rattle.scenario_walk.specs.declared.fault.ScenarioFault.TheVariants.{TooMany}
use Rattle.pool_run.specs.Check.{refusal_line}
use Rattle.pool_run.proofs.check.refusal_line.Goals as goal

same_line : (path : List ℕ) (n : ℕ) → codes "refused too-many " ++ path ++ (codes " " ++ decimal n ++ 10 ∷ []) ≡ refusal_line (TooMany path n)
same_line path n = simp append_assoc

-- the line of too many, from its parts
many_line : (fault : ScenarioFault) (path shown number behind : List ℕ) (n : ℕ) (r : Result (List ℕ) NoMem)
    → fault ≡ TooMany path n → shown ≡ path → behind ≡ number → number ≡ codes " " ++ decimal n ++ 10 ∷ []
    → IfOk r (λ text. text ≡ codes "refused too-many " ++ shown ++ behind) → IfOk r (λ text. text ≡ refusal_line fault)
many_line fault path shown number behind n (Err e) f s b t h = tt
many_line fault path shown number behind n (Ok text) f s b t h =
    h
    ∙ ap (λ (x : List ℕ). codes "refused too-many " ++ x ++ behind) s
    ∙ ap (λ (x : List ℕ). codes "refused too-many " ++ path ++ x) (b ∙ t)
    ∙ same_line path n
    ∙ ap refusal_line (sym f)

pub returns-in_ok-number-in-TooMany-clause-line : goal.returns-in_ok-number-in-TooMany-clause-line
returns-in_ok-number-in-TooMany-clause-line c =
    many_line c.args.fault.now c.in-TooMany.path _ _ _ c.in-TooMany.n _ c.in-TooMany.is c.as_slice-in-TooMany.ensures c.as_bytes.ensures.value
    c.in_ok-number-in-TooMany.ensures.ok c.line_with-in-TooMany.ensures
