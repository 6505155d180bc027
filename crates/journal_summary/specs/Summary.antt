-- The summary of a list of entries: seven lines, each a name, one space (32), a number in decimal and LF (10). The format is
-- this project's own.
use Rattle.std.specs.Prelude.{ℕ, Bool, true, false, not, ◌&&◌, List, [], ◌∷◌, ◌++◌, codes, length, count_by, sum_by}
use Rattle.std.specs.Fmt.{decimal}
use Rattle.model_authority.specs.Statuses.{has_ended}
use Rattle.model_histories.specs.Histories.{run}
use Rattle.model_values.specs.declared.config.Config.{Config}
use Rattle.model_values.specs.declared.entry.Act.{Act}
use Rattle.model_values.specs.declared.entry.Act.TheVariants as act
use Rattle.model_values.specs.declared.entry.Entry.{Entry}
use Rattle.model_values.specs.declared.outcome.Outcome.TheVariants as outcome
use Rattle.model_values.specs.declared.reply.PreconnectReply.TheVariants as preconnect
use Rattle.model_values.specs.declared.reply.SubmitReply.TheVariants as submit
use Rattle.model_values.specs.declared.state.Exchange.{Exchange}
use Rattle.model_values.specs.declared.state.Status.{Status}
use Rattle.model_values.specs.declared.state.Status.TheVariants as status

-- ---- what entries say

-- a submission that the pool accepted
abbrev pub is_accepted : Act → Bool
is_accepted (act.Submit ask (submit.Accepted e)) = true
is_accepted _ = false

-- how many submissions were accepted. In a history that is how many exchanges there are
abbrev pub submitted_count : List Entry → ℕ
submitted_count h = count_by (λ (x : Entry). is_accepted x.act) h

-- how many connections the act makes: one where one is wanted for an exchange, and those that a preconnect opens
abbrev pub made_by : Act → ℕ
made_by (act.Want e c target) = 1
made_by (act.Preconnect key credentials origin count (preconnect.Opening k)) = k
made_by _ = 0

-- how many connections were made, whether they came up or not
abbrev pub connection_count : List Entry → ℕ
connection_count h = sum_by (λ (x : Entry). made_by x.act) h

-- ---- what became of the exchanges

-- it ended with a final response (RFC 9110, section 15)
abbrev pub is_answered : Status → Bool
is_answered (status.Ended (outcome.Answered response)) = true
is_answered _ = false

-- its caller cancelled it
abbrev pub is_cancelled : Status → Bool
is_cancelled (status.Ended outcome.Cancelled) = true
is_cancelled _ = false

-- it failed: it ended otherwise, also by its deadline or by the shutdown
abbrev pub is_failed : Status → Bool
is_failed s = has_ended s && not (is_answered s) && not (is_cancelled s)

-- how many were answered
abbrev pub answered_count : List Exchange → ℕ
answered_count xs = count_by (λ (x : Exchange). is_answered x.status) xs

-- how many failed
abbrev pub failed_count : List Exchange → ℕ
failed_count xs = count_by (λ (x : Exchange). is_failed x.status) xs

-- how many were cancelled
abbrev pub cancelled_count : List Exchange → ℕ
cancelled_count xs = count_by (λ (x : Exchange). is_cancelled x.status) xs

-- how often exchanges gave up a lease and waited again. One that would have moved a sixth time ended instead
abbrev pub move_count : List Exchange → ℕ
move_count xs = sum_by (λ (x : Exchange). x.moves) xs

-- ---- lines

-- a name, one space, a number and LF
abbrev pub count_line : List ℕ → ℕ → List ℕ
count_line name n = name ++ 32 ∷ decimal n ++ 10 ∷ []

-- what became of the exchanges
abbrev pub exchange_lines : List Exchange → List ℕ
exchange_lines xs =
    count_line (codes "answered") (answered_count xs) ++ count_line (codes "failed") (failed_count xs)
    ++ count_line (codes "cancelled") (cancelled_count xs) ++ count_line (codes "moves") (move_count xs)

-- the summary of the entries of a pool with these limits
unfoldable pub summary_text : Config → List Entry → List ℕ
summary_text config h =
    count_line (codes "submitted") (submitted_count h) ++ exchange_lines (run config h).exchanges
    ++ count_line (codes "connections") (connection_count h) ++ count_line (codes "entries") (length h)
