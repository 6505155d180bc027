-- Settling: what the pool does by itself is determined, comes to an end, and leaves no eligible exchange waiting for what is there. All of it
-- holds at every state, whether a history leads there or not.
use Rattle.std.specs.Prelude.{◌≡◌, ◌<◌, ◌≤◌, ⊤, ℕ, List, [], ◌∷◌, ◌+◌, ◌-◌, not, Bool, Some, IsTrue, length, count_by}
use Rattle.model_histories.specs.Histories.{run_from}
use Rattle.model_histories.specs.Legal.{IsPoolsEntry}
use Rattle.model_settling.specs.Room.{is_eligible, has_room}
use Rattle.model_settling.specs.Settling.{IsSettled}
use Rattle.model_steps.specs.After.{after}
use Rattle.model_values.specs.declared.entry.Entry.{Entry}
use Rattle.model_values.specs.declared.state.AbstractPool.{AbstractPool}
use Rattle.model_values.specs.declared.state.Connection.{Connection}
use Rattle.model_values.specs.declared.state.Exchange.{Exchange}
use Rattle.model_authority.specs.Lists.{numbered}
use Rattle.model_authority.specs.Statuses.{is_waiting, has_ended, is_open, is_gone}
use Rattle.model_authority.specs.Ways.{is_usable}

-- at each state at most one entry of the pool itself is legal
abbrev pub SettlingIsDetermined : Type 0
SettlingIsDetermined = (s : AbstractPool) (x y : Entry) → IsPoolsEntry s x → IsPoolsEntry s y → x ≡ y

-- each of these entries is the pool's own, and legal where it stands
abbrev pub AreSettling : AbstractPool → List Entry → Type 0
AreSettling s [] = ⊤
AreSettling s (x ∷ xs) = IsPoolsEntry s x × AreSettling (after s x) xs

-- these entries of the pool itself lead to a settled state
pub record Settles (s : AbstractPool) (xs : List Entry) : Type 0 where
  pub own : AreSettling s xs
  pub settled : IsSettled (run_from s xs)

abbrev pub is_unended : Exchange → Bool
is_unended e = not (has_ended e.status)

abbrev pub waits : Exchange → Bool
waits e = is_waiting e.status

abbrev pub is_present : Connection → Bool
is_present c = not (is_gone c.phase)

abbrev pub is_up : Connection → Bool
is_up c = is_open c.phase

-- what is left to do: the exchanges that have no end, those of them that wait, the connections that the total has room for, and those
-- that are open
abbrev pub left_to_do : AbstractPool → ℕ
left_to_do s = count_by is_unended s.exchanges + count_by waits s.exchanges + (s.config.total - count_by is_present s.connections) + count_by is_up s.connections

-- each entry of the pool itself leaves less to do
abbrev pub SettlingFalls : Type 0
SettlingFalls = (s : AbstractPool) (x : Entry) → IsPoolsEntry s x → left_to_do (after s x) < left_to_do s

-- so what is left to do bounds how many there are
abbrev pub SettlingIsBounded : Type 0
SettlingIsBounded = (s : AbstractPool) (xs : List Entry) → AreSettling s xs → length xs + left_to_do (run_from s xs) ≤ left_to_do s

-- from each state finitely many entries of the pool itself lead to a settled one
abbrev pub SettlingEnds : Type 0
SettlingEnds = (s : AbstractPool) → (xs : List Entry) × Settles s xs

-- the exchange of this number has neither a usable connection nor room
pub record HasNowhereToGo (s : AbstractPool) (number : ℕ) (exchange : Exchange) : Type 0 where
  pub no_connection : (c : ℕ) (connection : Connection) → numbered c s.connections ≡ Some connection → ¬ IsTrue (is_usable s exchange connection)
  pub no_room : ¬ IsTrue (has_room s number exchange)

-- at each settled state no eligible exchange has a usable connection or room
abbrev pub NoneWaits : Type 0
NoneWaits = (s : AbstractPool) (number : ℕ) (exchange : Exchange) → IsSettled s → numbered number s.exchanges ≡ Some exchange → IsTrue (is_eligible s exchange) → HasNowhereToGo s number exchange
