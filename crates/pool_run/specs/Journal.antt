-- The entries of the run of one exchange, one GET on one connection, their journal and their summary.
use Rattle.std.specs.Prelude.{ℕ, ◌+◌, List, [], ◌∷◌, ◌++◌, true, false, None}
use Rattle.net_base.specs.declared.end_cause.EndCause.TheVariants.{Done}
use Rattle.net_base.specs.declared.identity.Identity.{Identity}
use Rattle.net_base.specs.declared.numbers.ConnNo.{ConnNo}
use Rattle.net_base.specs.declared.numbers.ExchangeNo.{ExchangeNo}
use Rattle.net_base.specs.declared.numbers.StreamNo.{StreamNo}
use Rattle.net_base.specs.declared.origin.Origin.{Origin}
use Rattle.net_base.specs.declared.request.Request.{Request}
use Rattle.net_base.specs.declared.response.Response.{Response}
use Rattle.net_base.specs.declared.target.Target.{Target}
use Rattle.net_base.specs.declared.target.Via.TheVariants as via
use Rattle.partition_keys.specs.declared.alternative.AltUpdate.TheVariants as alt
use Rattle.partition_keys.specs.declared.alternative.Proof.TheVariants.{NotAsked}
use Rattle.model_values.specs.declared.entry.Act.{Act}
use Rattle.model_values.specs.declared.entry.Act.TheVariants as act
use Rattle.model_values.specs.declared.entry.Entry.{Entry}
use Rattle.model_values.specs.declared.entry.Way.TheVariants as way
use Rattle.model_values.specs.declared.order.OrderMark.TheVariants as mark
use Rattle.model_values.specs.declared.reply.ShutReply.TheVariants.{Noted}
use Rattle.model_values.specs.declared.reply.SubmitReply.TheVariants.{Accepted}
use Rattle.model_values.specs.declared.report.Report.TheVariants as report
use Rattle.model_values.specs.declared.submission.Submission.{Submission}
use Rattle.scenario_text.specs.Calls.{default_key}
use Rattle.scenario_text.specs.Limits.{default_config}
use Rattle.journal_text.specs.Lines.{journal_text}
use Rattle.journal_summary.specs.Summary.{summary_text}
use Rattle.pool_run.specs.Moments.{moment_of}

-- exchange 1, connection 1 and its stream 1
abbrev pub exchange_1 : ExchangeNo
exchange_1 = record { 0 = 1 }

abbrev pub conn_1 : ConnNo
conn_1 = record { 0 = 1 }

abbrev pub stream_1 : StreamNo
stream_1 = record { 0 = 1 }

-- an entry of this caller at this moment
abbrev pub entry : ℕ → ℕ → Act → Entry
entry moment who act = record { who = record { 0 = who }; moment = record { 0 = moment }; act = act }

-- the target of an http origin itself: its host and its port, clear and direct
abbrev pub clear_direct : Origin → Target
clear_direct o = record { host = o.host; port = o.port; secure = false; via = via.Direct }

-- a submission with each default of a scenario
unfoldable pub submission_of : Request → Submission
submission_of request =
    record { key = default_key; credentials = true; request = request; urgency = 3; background = false; deadline = None; probe = false }

-- channel 1 submits, a connection is wanted, and worker 101 is to dial it
unfoldable pub wanted_entries : Request → List Entry
wanted_entries request =
    entry 0 1 (act.Submit (submission_of request) (Accepted exchange_1))
    ∷ entry 0 0 (act.Want exchange_1 conn_1 (clear_direct request.origin))
    ∷ entry 0 101 (act.Dial conn_1 (clear_direct request.origin)) ∷ []

-- the connection came up, and the exchange gets it at once; its order is taken in round 1
unfoldable pub opened_entries : Identity → List Entry
opened_entries identity =
    entry 0 101 (act.Reported conn_1 0 (report.Opened identity))
    ∷ entry 0 0 (act.Assign exchange_1 conn_1 stream_1 way.Direct)
    ∷ entry 10 101 (act.Orders conn_1 0 (mark.Start exchange_1 stream_1 ∷ [])) ∷ []

-- the answer came at this moment, when the link had taken so many octets
unfoldable pub answered_entries : ℕ → ℕ → Response → List Entry
answered_entries moment sent response =
    entry moment 101 (act.Reported conn_1 sent (report.Answered stream_1 response true alt.None NotAsked)) ∷ []

-- the pool was shut down, which is caller 999's, and the connection was ordered to close and did
unfoldable pub closed_entries : ℕ → ℕ → List Entry
closed_entries moment sent =
    entry moment 999 (act.Shutdown Noted)
    ∷ entry moment 101 (act.Orders conn_1 sent (mark.Close ∷ []))
    ∷ entry moment 101 (act.Closed conn_1 sent Done []) ∷ []

-- the request has so many octets and was answered in this round; three rounds later the pool was shut down
unfoldable pub exchange_history : Request → Identity → ℕ → ℕ → Response → List Entry
exchange_history request identity sent round response =
    wanted_entries request ++ opened_entries identity ++ answered_entries (moment_of round) sent response
    ++ closed_entries (moment_of (round + 3)) sent

-- the journal of the exchange and its summary. A scenario of the small form has the default limits
unfoldable pub exchange_text : Request → Identity → ℕ → ℕ → Response → List ℕ
exchange_text request identity sent round response =
    let h = exchange_history request identity sent round response in journal_text h ++ summary_text default_config h
