-- What becomes of a connection.
use Rattle.std.specs.Prelude.{ℕ, List, [], ◌∷◌, ◌++◌, ◌+◌, ◌==◌, ◌&&◌, ◌||◌, not, nat_lt, nat_le, Bool, true, false, Option, Some, None, if◌then◌else◌, filter}
use Rattle.std.specs.List.{list_any, flat_map}
use Rattle.net_base.specs.Equality.{same_proto}
use Rattle.net_base.specs.declared.identity.Identity.{Identity}
use Rattle.net_base.specs.declared.numbers.ConnNo.{ConnNo}
use Rattle.net_base.specs.declared.numbers.CallerNo.{CallerNo}
use Rattle.net_base.specs.declared.numbers.ExchangeNo.{ExchangeNo}
use Rattle.net_base.specs.declared.numbers.Moment.{Moment}
use Rattle.net_base.specs.declared.numbers.StreamNo.{StreamNo}
use Rattle.net_base.specs.declared.origin.Origin.{Origin}
use Rattle.net_base.specs.declared.target.Via.{Via}
use Rattle.net_base.specs.declared.target.Via.TheVariants as via
use Rattle.partition_keys.specs.declared.group.GroupKey.{GroupKey}
use Rattle.model_authority.specs.Lists.{is_nil}
use Rattle.model_authority.specs.Statuses.{is_open, is_draining, is_closing, is_gone, is_wanted, is_unsent_at, speaks_h2}
use Rattle.model_authority.specs.Ways.{is_https, is_secured_for}
use Rattle.model_values.specs.declared.order.OrderMark.{OrderMark}
use Rattle.model_values.specs.declared.order.OrderMark.TheVariants as mark
use Rattle.model_values.specs.declared.state.Connection.{Connection}
use Rattle.model_values.specs.declared.state.Exchange.{Exchange}
use Rattle.model_values.specs.declared.state.Phase.TheVariants.{Wanted, Dialing, Open, Draining, Closing, Gone}
use Rattle.model_values.specs.Limits.{most_unsaid}

abbrev pub is_stream : StreamNo → StreamNo → Bool
is_stream a b = a.0 == b.0

-- ---- orders

abbrev pub is_start : OrderMark → Bool
is_start (mark.Start e stream) = true
is_start (mark.Reset stream) = false
is_start mark.Close = false

abbrev pub is_start_of : StreamNo → OrderMark → Bool
is_start_of r (mark.Start e stream) = is_stream r stream
is_start_of r (mark.Reset stream) = false
is_start_of r mark.Close = false

abbrev pub is_reset_of : StreamNo → OrderMark → Bool
is_reset_of r (mark.Start e stream) = false
is_reset_of r (mark.Reset stream) = is_stream r stream
is_reset_of r mark.Close = false

abbrev pub started_by : OrderMark → List StreamNo
started_by (mark.Start e stream) = stream ∷ []
started_by (mark.Reset stream) = []
started_by mark.Close = []

-- the streams of the starts among the orders
abbrev pub streams_started : List OrderMark → List StreamNo
streams_started orders = flat_map started_by orders

-- ---- closing

-- it is told to close, and to do nothing else. One that closes or is gone stays as it is
unfoldable pub closing : Connection → Connection
closing c = if is_closing c.phase || is_gone c.phase then c else record c { phase = Closing; orders = mark.Close ∷ [] }

-- it carries nothing from now on. A draining one closes
unfoldable pub idle_from : Moment → Connection → Connection
idle_from now c = if is_draining c.phase then closing (record c { idle_since = now }) else record c { idle_since = now }

-- the live streams have run out
abbrev pub has_run_out : Connection → Connection → Bool
has_run_out old new = is_nil new.live && not (is_nil old.live)

unfoldable pub idle_if_run_out : Moment → Connection → Connection → Connection
idle_if_run_out now old new = if has_run_out old new then idle_from now new else new

abbrev pub other_streams : StreamNo → List StreamNo → List StreamNo
other_streams r rs = filter (λ x. not (is_stream r x)) rs

-- the stream is no longer live
unfoldable pub without_stream : Moment → StreamNo → Connection → Connection
without_stream now r c = idle_if_run_out now c (record c { live = other_streams r c.live })

-- the start of the stream is taken back, and it is no longer live
unfoldable pub without_start : Moment → StreamNo → Connection → Connection
without_start now r c = idle_if_run_out now c (record c { live = other_streams r c.live; orders = filter (λ m. not (is_start_of r m)) c.orders })

-- RFC 9113, section 6.4: the stream is to be reset, and stays live until it is closed. HTTP/1.1 has no way to give up an
-- exchange but to close
unfoldable pub without_exchange : StreamNo → Connection → Connection
without_exchange r c = if speaks_h2 c then record c { orders = c.orders ++ mark.Reset r ∷ [] } else closing c

-- ---- being wanted, dialed and opened

-- a connection that is wanted, for an exchange or for none. Its limit, its next stream and its idle moment mean nothing
-- before it opens
abbrev pub new_connection : GroupKey → Option ExchangeNo → Moment → Connection
new_connection g wanted_for now =
    record {
      group = g;
      wanted_for = wanted_for;
      caller = record { 0 = 0 };
      phase = Wanted;
      identity = None;
      peer_limit = most_unsaid;
      next_stream = 1;
      live = [];
      started = [];
      orders = [];
      sent = 0;
      idle_since = now;
      excluded = [];
    }

abbrev pub dialing_by : CallerNo → Connection → Connection
dialing_by who c = record c { caller = who; phase = Dialing }

-- RFC 7838, sections 2.4 and 2.1, and RFC 9110, section 4.3.4: whether the identity is good for the group's target
abbrev pub suits_via : GroupKey → Identity → Via → Bool
suits_via g id via.Direct = not (is_https g.origin.scheme) || is_secured_for g.origin.host id
suits_via g id (via.Alternative p) = same_proto id.proto p && is_secured_for g.origin.host id

unfoldable pub suits : GroupKey → Identity → Bool
suits g id = suits_via g id g.target.via

-- it is up, and no stream was started. Until the peer says how many it allows (RFC 9113, section 6.5.2) the
-- number is this project's own
abbrev pub opened_with : Moment → Identity → Connection → Connection
opened_with now id c = record c { identity = Some id; phase = Open; peer_limit = most_unsaid; next_stream = 1; idle_since = now }

abbrev pub refused_with : Identity → Connection → Connection
refused_with id c = closing (record c { identity = Some id })

-- it opens, unless the pool is shut down or the identity isn't good for it
unfoldable pub after_opened : Bool → Moment → Identity → Connection → Connection
after_opened is_shut now id c = if not is_shut && suits c.group id then opened_with now id c else refused_with id c

-- ---- leases

-- RFC 9113, section 5.1.1: the numbers of the client's streams are odd and rise. HTTP/1.1 has no stream numbers; here
-- its exchanges are counted
abbrev pub stream_after : StreamNo → Connection → ℕ
stream_after r c = if speaks_h2 c then r.0 + 2 else r.0 + 1

-- the exchange's start is ordered, and its stream is live. RFC 9113, section 5.1.1: no number is used again, so one
-- that has none left drains. Which number is the last is this project's own
unfoldable pub with_start : ℕ → ExchangeNo → StreamNo → Connection → Connection
with_start last e r c =
    record c {
      orders = c.orders ++ mark.Start e r ∷ [];
      live = c.live ++ r ∷ [];
      next_stream = stream_after r c;
      phase = if nat_lt last (stream_after r c) then Draining else c.phase;
    }

-- its orders are taken
abbrev pub with_taken : List OrderMark → Connection → Connection
with_taken orders c = record c { orders = []; started = c.started ++ streams_started orders }

-- ---- reports

-- RFC 9113, section 6.5.2: the peer says how many live streams it allows
abbrev pub with_limit : ℕ → Connection → Connection
with_limit n c = record c { peer_limit = n }

abbrev pub kept_open : Bool → Connection → Connection
kept_open true c = c
kept_open false c = closing c

abbrev pub without_reset : StreamNo → Connection → Connection
without_reset r c = record c { orders = filter (λ m. not (is_reset_of r m)) c.orders }

-- RFC 9112, sections 9.3 and 9.6: the answer is whole, and where the connection isn't kept it closes
unfoldable pub after_answer : Moment → StreamNo → Bool → Connection → Connection
after_answer now r keep c = kept_open keep (without_stream now r (without_reset r c))

-- RFC 9110, section 15.5.20: it isn't to be coalesced for this origin again
abbrev pub excluding : Origin → Connection → Connection
excluding origin c = record c { excluded = c.excluded ++ origin ∷ [] }

-- an answer that is too large costs an HTTP/2 connection its stream alone, and an HTTP/1.1 connection has to close
unfoldable pub after_large_answer : Moment → StreamNo → Connection → Connection
after_large_answer now r c = kept_open (speaks_h2 c) (without_stream now r c)

abbrev pub is_unsent_stream : ConnNo → List Exchange → StreamNo → Bool
is_unsent_stream conn es r = list_any (λ e. is_unsent_at conn r e.status) es

-- RFC 9113, section 6.8: of these streams those that aren't above the last one, without those whose start isn't handed
abbrev pub streams_left : ConnNo → List Exchange → StreamNo → List StreamNo → List StreamNo
streams_left conn es last rs = filter (λ r. nat_le r.0 last.0 && not (is_unsent_stream conn es r)) rs

abbrev pub draining : Connection → Connection
draining c = if is_open c.phase then record c { phase = Draining } else c

abbrev pub draining_or_closing : Connection → Connection
draining_or_closing c = if is_nil c.live then closing c else draining c

-- RFC 9113, section 6.8: it takes no further exchange, and where it carries nothing it closes
unfoldable pub going_away : Moment → ConnNo → List Exchange → StreamNo → Connection → Connection
going_away now conn es last c =
    draining_or_closing (idle_if_run_out now c (record c { live = streams_left conn es last c.live; orders = filter (λ m. not (is_start m)) c.orders }))

abbrev pub gone : Connection → Connection
gone c = record c { phase = Gone }

-- one that nobody has yet is gone, one that is up closes, and one that is being dialed is left to its worker
unfoldable pub after_shutdown : Connection → Connection
after_shutdown c = if is_wanted c.phase then gone c else (if is_open c.phase || is_draining c.phase then closing c else c)

abbrev pub with_sent : ℕ → Connection → Connection
with_sent sent c = record c { sent = sent }
