-- An exchange that is given up, an answer and a shutdown keep the streams of a connection in order.
use Rattle.std.proofs.Common.{[], ◌≡◌, List, ◌∷◌, ◌++◌, Option, Some, None, Bool, true, false, ◌∙◌, append-nil, Contains}
use Rattle.std.specs.Prelude.{◌||◌, if◌then◌else◌}
use Rattle.std.proofs.lemmas.Bool.{cond_both}
use Rattle.std.proofs.lemmas.Grind.{flat_map-append}
use Rattle.net_base.specs.declared.numbers.Moment.{Moment}
use Rattle.net_base.specs.declared.numbers.StreamNo.{StreamNo}
use Rattle.net_base.specs.declared.response.Response.{Response}
use Rattle.model_changes.specs.Connections.{started_by, streams_started, closing, without_stream, without_exchange, kept_open, without_reset, after_answer, excluding, after_large_answer, gone, after_shutdown}
use Rattle.model_laws.proofs.GivenSteps.{given_closing, given_gone, given_excluding, given_orders, given_without_stream}
use Rattle.model_laws.proofs.StreamLemmas.{starts_beside_resets}
use Rattle.model_laws.specs.Sound.{GivesStreamsInOrder}
use Rattle.model_steps.specs.Answered.{is_misdirected, answered_connection}
use Rattle.model_authority.specs.Statuses.{is_wanted, is_open, is_draining, speaks_h2}
use Rattle.model_values.specs.declared.config.Config.{Config}
use Rattle.model_values.specs.declared.order.OrderMark.{OrderMark}
use Rattle.model_values.specs.declared.order.OrderMark.TheVariants as mark
use Rattle.model_values.specs.declared.state.Connection.{Connection}
use Rattle.model_values.specs.declared.state.Exchange.{Exchange}

-- ---- exchanges and answers that end

pub given_without_exchange : (config : Config) (r : StreamNo) (c : Connection) → GivesStreamsInOrder config c → GivesStreamsInOrder config (without_exchange r c)
unfolding without_exchange
given_without_exchange config r c h =
    let told : List OrderMark = c.orders ++ mark.Reset r ∷ [] in
    let same : streams_started told ≡ streams_started c.orders = flat_map-append started_by c.orders (mark.Reset r ∷ []) ∙ append-nil (streams_started c.orders) in
    cond_both (speaks_h2 c) (record c { orders = told }) (closing c) (GivesStreamsInOrder config)
    (λ t. given_orders config told c same h) (λ f. given_closing config c h)

given_kept_open : (config : Config) (keep : Bool) (c : Connection) → GivesStreamsInOrder config c → GivesStreamsInOrder config (kept_open keep c)
given_kept_open config true c h = h
given_kept_open config false c h = given_closing config c h

pub given_large_answer : (config : Config) (now : Moment) (r : StreamNo) (c : Connection) → Contains c.started r → GivesStreamsInOrder config c →
    GivesStreamsInOrder config (after_large_answer now r c)
unfolding after_large_answer
given_large_answer config now r c begun h = given_kept_open config (speaks_h2 c) (without_stream now r c) (given_without_stream config now r c begun h)

given_answer : (config : Config) (now : Moment) (r : StreamNo) (keep : Bool) (c : Connection) → Contains c.started r → GivesStreamsInOrder config c →
    GivesStreamsInOrder config (after_answer now r keep c)
unfolding after_answer
given_answer config now r keep c begun h =
    let less : Connection = without_reset r c in
    let same : GivesStreamsInOrder config less = given_orders config less.orders c (starts_beside_resets r c.orders) h in
    given_kept_open config keep (without_stream now r less) (given_without_stream config now r less begun same)

pub given_answered : (config : Config) (now : Moment) (r : StreamNo) (response : Response) (keep : Bool) (lease : Option Exchange) (c : Connection) →
    Contains c.started r → GivesStreamsInOrder config c → GivesStreamsInOrder config (answered_connection now r response keep lease c)
given_answered config now r response keep None c begun h = given_answer config now r keep c begun h
given_answered config now r response keep (Some e) c begun h =
    let without : Connection = excluding e.ask.request.origin c in
    cond_both (is_misdirected response e) without c (λ (x : Connection). GivesStreamsInOrder config (after_answer now r keep x))
    (λ t. given_answer config now r keep without begun (given_excluding config e.ask.request.origin c h))
    (λ f. given_answer config now r keep c begun h)

-- ---- the shutdown

pub given_shutdown : (config : Config) (c : Connection) → GivesStreamsInOrder config c → GivesStreamsInOrder config (after_shutdown c)
unfolding after_shutdown
given_shutdown config c h =
    let up : Bool = is_open c.phase || is_draining c.phase in
    cond_both (is_wanted c.phase) (gone c) (if up then closing c else c) (GivesStreamsInOrder config) (λ w. given_gone config c h)
    (λ f. cond_both up (closing c) c (GivesStreamsInOrder config) (λ t. given_closing config c h) (λ g. h))
