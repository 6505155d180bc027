use Rattle.std.proofs.Common.{◌∙◌, sym}
use Rattle.model_histories.proofs.RunLemmas.{run_none}
use Rattle.dispatch_core.proofs.StepLemmas.{new_stands}
use Rattle.dispatch_core.proofs.pool.Pool.new.Goals as goal

pub invariant_of-result : goal.invariant_of-result
invariant_of-result c = new_stands c.args.config _ _ c.requires c.new.ensures (c.open_pool.ensures ∙ sym (run_none c.args.config))
