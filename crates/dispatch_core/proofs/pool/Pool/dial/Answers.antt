use Rattle.model_histories.specs.Histories.{IsHistory}
use Rattle.dispatch_core.proofs.StepLemmas.{new_to}
use Rattle.dispatch_core.proofs.pool.Pool.dial.Goals as goal

pub returns-clause-ok : goal.returns-clause-ok
returns-clause-ok c =
    let history : IsHistory c.args.self.now.config c.args.self.now.history = rw (← c.self.view_is) c.self.invariant.history in
    rw (c.new.ensures, c.in_ok-goes_to.ensures)
    (new_to c.args.self.now.config c.args.self.now.history c.args.s c.args.moment c.args.who _ _ c.wanted_are_untouched.ensures history c.requires.noted c.in_ok-conn.ensures, c.in_ok-enter.ensures.ok)
