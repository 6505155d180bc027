-- What holds of each state that a history goes through.
use Rattle.std.proofs.Common.{◌≡◌, ◌≤◌, ℕ, List, ap, ◌∙◌, IsSome, IsTrue, subst, length, take}
use Rattle.net_base.specs.declared.numbers.ExchangeNo.{ExchangeNo}
use Rattle.partition_keys.specs.declared.group.GroupKey.{GroupKey}
use Rattle.model_changes.specs.Connections.{streams_started}
use Rattle.model_laws.proofs.AgainLemmas.{EachMoves, moves_after, moves_opening}
use Rattle.model_laws.proofs.AwaitLemmas.{IsReady, pending_after, awaited_after, pending_opening, awaited_opening}
use Rattle.model_laws.proofs.CarriedLemmas.{carried_after, apart_after, carried_opening, apart_opening}
use Rattle.model_laws.proofs.CountLemmas.{IsWithin, within_after, within_opening}
use Rattle.model_laws.proofs.CourseLemmas.{kept_from, state_each}
use Rattle.model_laws.proofs.FewLemmas.{few_after, few_opening}
use Rattle.model_laws.proofs.FitLemmas.{same_item}
use Rattle.model_laws.proofs.GivenLemmas.{AreGiven, given_after, given_opening}
use Rattle.model_laws.proofs.OrderlyLemmas.{AreOrderly, orderly_after, orderly_opening}
use Rattle.model_laws.proofs.SentLemmas.{sent_after, sent_opening}
use Rattle.model_laws.proofs.SizeLemmas.{HasNumbers, numbers_after, numbers_opening}
use Rattle.model_laws.proofs.RowLemmas.{rows_after, rows_opening}
use Rattle.model_laws.proofs.ShutLemmas.{shut_after, shut_opening}
use Rattle.model_laws.proofs.WorkerLemmas.{may_order}
use Rattle.model_laws.specs.AlternativeLaws.{AlternativesAreFew}
use Rattle.model_laws.specs.Courses.{state_at}
use Rattle.model_laws.specs.EndLaws.{ClosingOnesStartNothing}
use Rattle.model_laws.specs.LeaseLaws.{StreamsAreLeasedOnce}
use Rattle.model_laws.specs.LimitLaws.{ConnectionsStayWithinLimits, StreamsStayWithinLimits}
use Rattle.model_laws.specs.Sound.{LeasesAreCarried, LeasesAreApart, StartedAreSent, HasStreamsInOrder, GivesStreamsInOrder, PendingAreLeased, UnsentAwaitHanding, IsShutDown, RowsAreApart, IsSound, StandingIsSound, ReachedIsSound}
use Rattle.model_histories.proofs.HistoryLemmas.{each_standing}
use Rattle.model_histories.proofs.RunLemmas.{config-run}
use Rattle.model_histories.specs.Histories.{opening, run, MayStand}
use Rattle.model_histories.specs.Legal.{IsWorkersEntry, MayTake}
use Rattle.model_settling.specs.Counts.{count_total, count_in_group}
use Rattle.model_steps.specs.After.{after}
use Rattle.model_authority.proofs.NumberLemmas.{value_and}
use Rattle.model_authority.specs.Lists.{numbered}
use Rattle.model_authority.specs.Statuses.{is_at}
use Rattle.model_values.specs.declared.config.Config.{Config}
use Rattle.model_values.specs.declared.entry.Entry.{Entry}
use Rattle.model_values.specs.declared.order.OrderMark.{OrderMark}
use Rattle.model_values.specs.declared.state.AbstractPool.{AbstractPool}
use Rattle.model_values.specs.declared.state.Connection.{Connection}

-- what each entry that may stand keeps, with the limits that the pool has
record Keeps (s : AbstractPool) : Type 0 where
  carried : LeasesAreCarried s
  apart : LeasesAreApart s
  sent : StartedAreSent s
  orderly : AreOrderly s
  given : AreGiven s
  pending : PendingAreLeased s
  awaited : UnsentAwaitHanding s
  moves : EachMoves s
  shut : IsSome s.shutdown → IsShutDown s
  within : IsWithin s
  numbers : HasNumbers s
  few : length s.alternatives ≤ 1024
  rows : RowsAreApart s

keeps_after : (s : AbstractPool) (e : Entry) → MayStand s e → Keeps s → Keeps (after s e)
keeps_after s e stand k =
    let ready : IsReady s = record { carried = k.carried; apart = k.apart; sent = k.sent; orderly = k.orderly; given = k.given; pending = k.pending; awaited = k.awaited } in
    record {
      carried = carried_after s e stand k.carried;
      apart = apart_after s e stand k.carried k.apart;
      sent = sent_after s e stand k.orderly k.sent;
      orderly = orderly_after s e stand k.orderly;
      given = given_after s e stand k.orderly k.pending k.given;
      pending = pending_after s e stand ready;
      awaited = awaited_after s e stand ready;
      moves = moves_after s e k.moves;
      shut = shut_after s e stand k.shut;
      within = within_after s e stand k.within;
      numbers = numbers_after s e stand k.numbers;
      few = few_after s e k.few;
      rows = rows_after s e k.rows;
    }

keeps_opening : (config : Config) → Keeps (opening config)
keeps_opening config = record {
  carried = carried_opening config;
  apart = apart_opening config;
  sent = sent_opening config;
  orderly = orderly_opening config;
  given = given_opening config;
  pending = pending_opening config;
  awaited = awaited_opening config;
  moves = moves_opening config;
  shut = shut_opening config;
  within = within_opening config;
  numbers = numbers_opening config;
  few = few_opening config;
  rows = rows_opening config;
}

sound_with : (config : Config) (s : AbstractPool) → s.config ≡ config → Keeps s → IsSound config s
sound_with config s same k =
    record {
      limits = same;
      carried = k.carried;
      apart = k.apart;
      sent = k.sent;
      orderly = λ number y is_item. subst (λ (c : Config). HasStreamsInOrder c y) same (k.orderly number y is_item);
      given = λ number y is_item. subst (λ (c : Config). GivesStreamsInOrder c y) same (k.given number y is_item);
      pending = k.pending;
      awaited = k.awaited;
      moves = k.moves;
      shut = k.shut;
      within = record {
        total = subst (λ (c : Config). count_total s ≤ c.total) same k.within.0;
        group = λ (g : GroupKey). subst (λ (c : Config). count_in_group s g ≤ c.per_group) same (k.within.1 g);
      };
      exchanges = subst (λ (c : Config). length s.exchanges ≤ c.submissions) same k.numbers.0;
      connections = k.numbers.1;
      few = k.few;
      rows = k.rows;
    }

pub standing_is_sound : StandingIsSound
unfolding run
standing_is_sound config h each =
    sound_with config (run config h) (config-run config h) (kept_from Keeps keeps_after (opening config) h (each_standing (opening config) h each) (keeps_opening config))

pub reached_is_sound : ReachedIsSound
reached_is_sound config h n history =
    sound_with config (state_at config h n) (config-run config (take n h)) (state_each config h n Keeps history keeps_after (keeps_opening config))

-- ---- laws that are parts of it

pub alternatives_are_few : AlternativesAreFew
alternatives_are_few config h n history = (reached_is_sound config h n history).few

pub connections_stay_within_limits : ConnectionsStayWithinLimits
connections_stay_within_limits config h n history = (reached_is_sound config h n history).within

pub streams_stay_within_limits : StreamsStayWithinLimits
streams_stay_within_limits config h n number y history is_item = ((reached_is_sound config h n history).orderly number y is_item).streams

-- the orders that are taken are those of the connection
pub closing_ones_start_nothing : ClosingOnesStartNothing
closing_ones_start_nothing config h n e c sent orders y comes is is_item closing =
    let s : AbstractPool = state_at config h n in
    let may = (may_order s e c sent orders is (comes.history.each n e comes.is_entry).legal).1 in
    let v = value_and (numbered c.0 s.connections) (λ x. IsWorkersEntry x e.who sent × MayTake x orders) may in
    let same : v.0 ≡ y = same_item (numbered c.0 s.connections) v.0 y v.1 is_item in
    let taken : orders ≡ y.orders = v.2.1.1 ∙ ap (λ (x : Connection). x.orders) same in
    let orderly : HasStreamsInOrder config y = (reached_is_sound config h n comes.history).orderly c.0 y is_item in
    ap (λ (ms : List OrderMark). streams_started ms) taken ∙ orderly.closing closing

pub streams_are_leased_once : StreamsAreLeasedOnce
streams_are_leased_once config h n e f c r history first second =
    let s : AbstractPool = state_at config h n in
    let x = value_and (numbered e.0 s.exchanges) (λ y. IsTrue (is_at c r y.status)) first in
    let y = value_and (numbered f.0 s.exchanges) (λ z. IsTrue (is_at c r z.status)) second in
    let same = (reached_is_sound config h n history).apart e.0 f.0 x.0 y.0 c r x.1 y.1 x.2 y.2 in
    let whole : ℕ → ExchangeNo = λ k. record { 0 = k } in
    ap whole same
