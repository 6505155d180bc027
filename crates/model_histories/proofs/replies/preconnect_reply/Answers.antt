use Rattle.std.proofs.Common.{◌≤◌, length, arith}
use Rattle.std.proofs.lemmas.List.Sums.{count_by-le-length}
use Rattle.partition_keys.specs.declared.group.GroupKey.{GroupKey}
use Rattle.model_settling.specs.Counts.{count_total, count_in_group, is_present, is_present_in}
use Rattle.model_values.specs.declared.state.AbstractPool.{AbstractPool}
use Rattle.model_histories.proofs.replies.preconnect_reply.Goals as goal

total_le : (s : AbstractPool) → count_total s ≤ length s.connections
unfolding count_total
total_le s = count_by-le-length is_present s.connections

group_le : (s : AbstractPool) (g : GroupKey) → count_in_group s g ≤ length s.connections
unfolding count_in_group
group_le s g = count_by-le-length (is_present_in g) s.connections

pub overflow_cast-result : goal.overflow_cast-result
overflow_cast-result c = omega (arith, total_le c.args.s.now, c.requires, c.count_total.ensures)

pub overflow_cast-result-in-0 : goal.overflow_cast-result-in-0
overflow_cast-result-in-0 c = omega (arith, group_le c.args.s.now c.group_parts_for-group.result, c.requires, c.count_in_group.ensures)
