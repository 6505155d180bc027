use Rattle.dispatch_core.proofs.StepLemmas.{few_now}
use Rattle.dispatch_core.proofs.pool.Pool.look.Goals as goal

pub is_late_at-requires : goal.is_late_at-requires
is_late_at-requires c = record { few = few_now c.reached_is_sound.ensures c.args.self.now c.taken.new.self c.in_ok-s.s c.in_ok-s.ensures.before c.in_ok-s.ensures.state }
