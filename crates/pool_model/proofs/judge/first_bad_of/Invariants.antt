use Rattle.std.proofs.Common.{◌≡◌, ◌+◌, take}
use Rattle.model_histories.proofs.FirstBadLemmas.{StandBefore}
use Rattle.model_histories.specs.Histories.{run}
use Rattle.pool_model.proofs.judge.first_bad_of.Given as goal

abbrev pub invariant-loop-e : goal.invariant-loop-e
invariant-loop-e l = record {
  before : StandBefore l.fn.config l.entries l.e-index;
  state : l.s ≡ run l.fn.config (take l.e-index l.entries);
  place : l.place ≡ l.e-index + 1;
}
