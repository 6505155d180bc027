use Rattle.std.proofs.Common.{◌≡◌, ℕ, List, [], ◌∷◌, ◌++◌, codes, length, sum_by, Result, Ok, Err, IfOk, ap, ◌∙◌, append_assoc}
use Rattle.std.specs.Fmt.{decimal}
use Rattle.plain_values.specs.declared.memory.NoMem.{NoMem}
use Rattle.scenario_text.specs.declared.scenario.Scenario.{Scenario}
use Rattle.pool_run.specs.Check.{check_line}
use Rattle.pool_run.proofs.check.check_line.Goals as goal

abbrev line_of : ℕ → ℕ → ℕ → List ℕ
line_of channels calls peers =
    codes "channels " ++ (decimal channels ++ (codes " calls " ++ (decimal calls ++ (codes " peers " ++ (decimal peers ++ 10 ∷ [])))))

same_line : (s : Scenario) → line_of (length s.channels) (sum_by length s.channels) (length s.peers) ≡ check_line s
same_line s = simp append_assoc

-- the line of these counts
counts_line : (s : Scenario) (channels calls peers : ℕ) (line shown : List ℕ) (r : Result (List ℕ) NoMem)
    → channels ≡ length s.channels → calls ≡ sum_by length s.channels → peers ≡ length s.peers → shown ≡ line → line ≡ line_of channels calls peers
    → IfOk r (λ text. text ≡ shown) → IfOk r (λ text. text ≡ check_line s)
counts_line s channels calls peers line shown (Err e) a b d t l h = tt
counts_line s channels calls peers line shown (Ok text) a b d t l h =
    h
    ∙ t
    ∙ l
    ∙ ap (λ (n : ℕ). line_of n calls peers) a
    ∙ ap (λ (n : ℕ). line_of (length s.channels) n peers) b
    ∙ ap (λ (n : ℕ). line_of (length s.channels) (sum_by length s.channels) n) d
    ∙ same_line s

pub returns : goal.returns
returns c =
    counts_line c.args.scenario.now c.len-channels.result c.in_ok-calls.calls c.len-peers.result _ _ _ c.len-channels.ensures
    (c.in_ok-calls.ensures ∙ ap (sum_by length) c.as_slice.ensures) c.len-peers.ensures c.as_bytes.ensures.value c.in_ok-line.ensures.ok c.build.ensures
