-- What becomes of the alternatives of origins (RFC 7838).
use Rattle.std.specs.Prelude.{ℕ, List, ◌∷◌, ◌+◌, ◌==◌, ◌&&◌, not, min, Bool, Option, Some, None, if◌then◌else◌, find, filter, map, take}
use Rattle.std.specs.Str.{bytes_eq}
use Rattle.net_base.specs.Equality.{same_proto, same_target}
use Rattle.net_base.specs.declared.numbers.Moment.{Moment}
use Rattle.net_base.specs.declared.origin.Origin.{Origin}
use Rattle.net_base.specs.declared.target.Target.{Target}
use Rattle.partition_keys.specs.declared.alternative.Alternative.{Alternative}
use Rattle.partition_keys.specs.declared.alternative.AltUpdate.{AltUpdate}
use Rattle.partition_keys.specs.declared.alternative.AltUpdate.TheVariants as update
use Rattle.partition_keys.specs.declared.alternative.Proof.{Proof}
use Rattle.partition_keys.specs.declared.alternative.Proof.TheVariants as proof
use Rattle.partition_keys.specs.declared.key.PartitionKey.{PartitionKey}
use Rattle.model_changes.specs.declared.alternatives.Mark.{Mark}
use Rattle.model_changes.specs.declared.alternatives.Mark.TheVariants as mark
use Rattle.model_authority.specs.Ways.{is_row_of, list_of, alternative_target}
use Rattle.model_values.specs.declared.state.AltRow.{AltRow}
use Rattle.model_values.specs.Limits.{broken_for, most_origins}

-- a sum of moments stays at the greatest moment
abbrev pub later_by : ℕ → Moment → Moment
later_by n m = record { 0 = min (m.0 + n) 18446744073709551615 }

-- the two are one service: protocol, host and port are equal
abbrev pub is_same_service : Alternative → Alternative → Bool
is_same_service a b = same_proto a.proto b.proto && bytes_eq a.host b.host && a.port == b.port

-- the alternative is where this target leads
abbrev pub leads_to : Target → Alternative → Bool
leads_to t a = same_target t (alternative_target a)

abbrev pub with_marks_of : Alternative → Option Alternative → Alternative
with_marks_of a None = a
with_marks_of a (Some old) = record a { broken_until = old.broken_until; proven_until = old.proven_until }

-- what was known of the service stays known
abbrev pub marked_as_before : List Alternative → Alternative → Alternative
marked_as_before old a = with_marks_of a (find (is_same_service a) old)

abbrev pub other_rows : PartitionKey → Origin → List AltRow → List AltRow
other_rows key origin rows = filter (λ row. not (is_row_of key origin row)) rows

-- the origin's list in its place at the front. The origins that were set last are kept
unfoldable pub with_list : PartitionKey → Origin → List Alternative → List AltRow → List AltRow
with_list key origin list rows =
    take most_origins (record { key = key; origin = origin; list = map (marked_as_before (list_of (find (is_row_of key origin) rows))) list } ∷ other_rows key origin rows)

-- RFC 7838, sections 3.1 and 3: a list takes the place of the one before, `clear` drops it
unfoldable pub updated_alternatives : PartitionKey → Origin → AltUpdate → List AltRow → List AltRow
updated_alternatives key origin update.None rows = rows
updated_alternatives key origin update.Clear rows = other_rows key origin rows
updated_alternatives key origin (update.Set list) rows = with_list key origin list rows

abbrev pub marked : Mark → Alternative → Alternative
marked (mark.Broken until) a = record a { broken_until = until }
marked (mark.Proven until) a = record a { proven_until = until }

abbrev pub marked_at : Target → Mark → Alternative → Alternative
marked_at t m a = if leads_to t a then marked m a else a

abbrev pub with_marked_in : PartitionKey → Origin → Target → Mark → AltRow → AltRow
with_marked_in key origin t m row = if is_row_of key origin row then record row { list = map (marked_at t m) row.list } else row

abbrev pub without_target_in : PartitionKey → Origin → Target → AltRow → AltRow
without_target_in key origin t row = if is_row_of key origin row then record row { list = filter (λ a. not (leads_to t a)) row.list } else row

-- RFC 7838, section 2.4, lets the origin be used where an alternative fails. For how long it counts as broken is
-- this project's own
unfoldable pub broken_alternatives : PartitionKey → Origin → Target → Moment → List AltRow → List AltRow
broken_alternatives key origin t now rows = map (with_marked_in key origin t (mark.Broken (later_by broken_for now))) rows

-- RFC 8164, section 2.3: the origin's http exchanges may use the alternative before this moment. How long a proof
-- lasts, and that it is one for this service alone, is this project's own
unfoldable pub proven_alternatives : PartitionKey → Origin → Target → Proof → List AltRow → List AltRow
proven_alternatives key origin t proof.NotAsked rows = rows
proven_alternatives key origin t (proof.NotValid why) rows = rows
proven_alternatives key origin t (proof.Until m) rows = map (with_marked_in key origin t (mark.Proven m)) rows

-- RFC 7838, section 6: the alternative said that it isn't one
unfoldable pub dropped_alternatives : PartitionKey → Origin → Target → List AltRow → List AltRow
dropped_alternatives key origin t rows = map (without_target_in key origin t) rows

abbrev pub persistent_in : AltRow → AltRow
persistent_in row = record row { list = filter (λ a. a.persist) row.list }

-- RFC 7838, section 2.2: when the network changes, the alternatives that don't persist are dropped
unfoldable pub persistent_alternatives : List AltRow → List AltRow
persistent_alternatives rows = map persistent_in rows
