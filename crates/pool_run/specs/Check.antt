-- What `check` says, and the lines for what is no scenario.
use Rattle.std.specs.Prelude.{ℕ, List, [], ◌∷◌, ◌++◌, length, sum_by, codes}
use Rattle.std.specs.Fmt.{decimal}
use Rattle.scenario_walk.specs.declared.fault.ScenarioFault.{ScenarioFault}
use Rattle.scenario_walk.specs.declared.fault.ScenarioFault.TheVariants.{NoMem, NotJson, Unsupported, BadValue, TooMany}
use Rattle.scenario_text.specs.declared.scenario.Scenario.{Scenario}

-- how many channels, calls and peers the scenario has
abbrev pub check_line : Scenario → List ℕ
check_line s =
    codes "channels " ++ decimal (length s.channels) ++ codes " calls " ++ decimal (sum_by length s.channels)
    ++ codes " peers " ++ decimal (length s.peers) ++ 10 ∷ []

-- the one line that says why an input is refused; want of memory has none
abbrev pub refusal_line : ScenarioFault → List ℕ
refusal_line NoMem = []
refusal_line NotJson = codes "refused not-json" ++ 10 ∷ []
refusal_line (Unsupported path) = codes "refused unsupported " ++ path ++ 10 ∷ []
refusal_line (BadValue path) = codes "refused bad-value " ++ path ++ 10 ∷ []
refusal_line (TooMany path n) = codes "refused too-many " ++ path ++ codes " " ++ decimal n ++ 10 ∷ []
