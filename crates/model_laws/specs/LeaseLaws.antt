-- One lease at a time.
use Rattle.std.specs.Prelude.{◌≡◌, ◌<◌, ◌+◌, ℕ, List, Option, IsTrue, IsSomeAnd}
use Rattle.net_base.specs.declared.numbers.ConnNo.{ConnNo}
use Rattle.net_base.specs.declared.numbers.ExchangeNo.{ExchangeNo}
use Rattle.net_base.specs.declared.numbers.StreamNo.{StreamNo}
use Rattle.model_laws.specs.Courses.{state_at, Comes, OfExchange}
use Rattle.model_histories.specs.Histories.{IsHistory}
use Rattle.model_histories.specs.Reading.{IsLeaseOf}
use Rattle.model_values.specs.declared.config.Config.{Config}
use Rattle.model_values.specs.declared.entry.Act.TheVariants.{Assign}
use Rattle.model_values.specs.declared.entry.Entry.{Entry}
use Rattle.model_values.specs.declared.entry.Way.{Way}
use Rattle.model_authority.specs.Statuses.{is_at}

-- each Assign of a history begins a lease
abbrev pub AssignsBeginLeases : Type 0
AssignsBeginLeases =
    (config : Config) (h : List Entry) (n : ℕ) (x : Entry) (e : ExchangeNo) (c : ConnNo) (r : StreamNo) (by : Way) →
    Comes config h n x → x.act ≡ Assign e c r by → (over : Option ℕ) × IsLeaseOf config h e c r (n + 1) over

-- of two leases of one exchange the first has ended before the second begins
abbrev pub LeasesDontOverlap : Type 0
LeasesDontOverlap =
    (config : Config) (h : List Entry) (e : ExchangeNo) (c d : ConnNo) (r t : StreamNo) (p q : ℕ) (over later : Option ℕ) →
    IsHistory config h → IsLeaseOf config h e c r p over → IsLeaseOf config h e d t q later → p < q → IsSomeAnd over (λ o. o < q)

-- at each state of a history no two exchanges have a lease on one stream of one connection
abbrev pub StreamsAreLeasedOnce : Type 0
StreamsAreLeasedOnce =
    (config : Config) (h : List Entry) (n : ℕ) (e f : ExchangeNo) (c : ConnNo) (r : StreamNo) → IsHistory config h →
    OfExchange (state_at config h n) e (λ exchange. IsTrue (is_at c r exchange.status)) → OfExchange (state_at config h n) f (λ exchange. IsTrue (is_at c r exchange.status)) → e ≡ f
