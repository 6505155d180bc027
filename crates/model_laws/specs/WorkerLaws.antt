-- A worker's turn stays lawful, whatever others do meanwhile.
use Rattle.std.specs.Prelude.{◌≡◌, ◌⊎◌, ◌++◌, ⊤, ℕ, List, []}
use Rattle.net_base.specs.declared.numbers.CallerNo.{CallerNo}
use Rattle.net_base.specs.declared.numbers.ConnNo.{ConnNo}
use Rattle.model_laws.specs.Courses.{OfConnection}
use Rattle.model_histories.specs.Histories.{run, IsHistory}
use Rattle.model_histories.specs.Legal.{IsLegal}
use Rattle.model_histories.specs.Port.{NoneOf}
use Rattle.model_histories.specs.Reading.{calls_of, own_of}
use Rattle.model_histories.specs.Working.{MayWorkAt}
use Rattle.model_values.specs.declared.config.Config.{Config}
use Rattle.model_values.specs.declared.entry.Act.{Act}
use Rattle.model_values.specs.declared.entry.Act.TheVariants.{Orders, Reported, Closed}
use Rattle.model_values.specs.declared.entry.Entry.{Entry}
use Rattle.model_values.specs.declared.order.OrderMark.{OrderMark}

-- what others do: this history goes on as that one, without an entry of the caller
pub record GoesOn (config : Config) (who : CallerNo) (h more : List Entry) : Type 0 where
  pub history : IsHistory config h
  pub later : IsHistory config (h ++ more)
  pub others : NoneOf who more

-- a worker's report, or its giving up of the connection. That these are legal asks for nothing but what its own entries gave it; which
-- connection is to be dialed, and which orders are pending, is up to the pool
abbrev pub IsWorkersWord : Act → Type 0
IsWorkersWord (Reported c sent report) = ⊤
IsWorkersWord (Closed c sent cause heard) = ⊤
IsWorkersWord _ = ⊥

-- a worker's word that is legal stays legal
abbrev pub WorkersWordsStayLegal : Type 0
WorkersWordsStayLegal =
    (config : Config) (h more : List Entry) (x : Entry) → GoesOn config x.who h more → IsWorkersWord x.act → IsLegal (run config h) x → IsLegal (run config (h ++ more)) x

-- where a worker may legally take the orders of its connection, it may afterwards take those that are pending then, or there are none
abbrev pub WorkersMayGoOnTaking : Type 0
WorkersMayGoOnTaking =
    (config : Config) (h more : List Entry) (x : Entry) (c : ConnNo) (sent : ℕ) (orders : List OrderMark) →
    GoesOn config x.who h more → x.act ≡ Orders c sent orders → IsLegal (run config h) x →
    OfConnection (run config (h ++ more)) c (λ connection. (connection.orders ≡ []) ⊎ IsLegal (run config (h ++ more)) (record x { act = Orders c sent connection.orders }))

-- and where it may ask for the orders of its connection it may go on to ask
abbrev pub WorkersMayGoOnAsking : Type 0
WorkersMayGoOnAsking =
    (config : Config) (h more : List Entry) (who : CallerNo) (c : ConnNo) (sent : ℕ) → GoesOn config who h more → MayWorkAt (run config h) who c sent → MayWorkAt (run config (h ++ more)) who c sent

-- entries of others change nothing of what is read off a history as a caller's own calls, nor of the orders that these gave it
pub record ReadsTheSame (who : CallerNo) (h more : List Entry) : Type 0 where
  pub calls : calls_of (h ++ more) who ≡ calls_of h who
  pub own : own_of (h ++ more) who ≡ own_of h who

abbrev pub OthersChangeNoOwnCalls : Type 0
OthersChangeNoOwnCalls = (who : CallerNo) (h more : List Entry) → NoneOf who more → ReadsTheSame who h more
