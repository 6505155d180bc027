use Rattle.std.proofs.Common.{◌≡◌, ◌+◌, drop}
use Rattle.model_settling.specs.Due.{lowest_from}
use Rattle.model_histories.specs.Replies.{waits_for_dial}
use Rattle.model_histories.proofs.legal.next_dial.Given as goal

abbrev pub invariant-loop-c : goal.invariant-loop-c
invariant-loop-c l = record {
  number : l.number ≡ l.c-index + 1;
  rest : lowest_from waits_for_dial l.number (drop l.c-index l.s.connections) ≡ lowest_from waits_for_dial 1 l.s.connections;
}
