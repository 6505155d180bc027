use Rattle.std.proofs.Common.{◌≡◌, take, drop, min, length, ◌-◌, slice_get, Some, arith, rules, refl}
use Rattle.std.proofs.lemmas.Option.{slice_get_read}
use Rattle.edge_traits.specs.declared.link_step.LinkStep.TheVariants.{Give}
use Rattle.edge_traits.proofs.ScriptSteps.{give_taken}
use Rattle.edge_traits.proofs.script_link.ScriptLinkLink.read.Goals as goal

pub returns-else-is_err-clause-exact : goal.returns-else-is_err-clause-exact
returns-else-is_err-clause-exact c =
    let s = c.args.self.now in
    let lookup = c.in-Some-Give.ensures.lookup in
    let found = slice_get_read c.as_slice.result.now (length c.as_slice.result.now) s.at.step c.in-Some-Give.field-0.now refl lookup.3.0 lookup.1 in
    let is : slice_get s.steps s.at.step ≡ Some (Give c.in-Some-Give.octets) = rw (c.as_slice.ensures, c.in-Some-Give.field-0-is) at found in
    let piece = c.front_of-piece.result.now in
    let front : piece ≡ take (min (min (length (drop s.at.offset c.in-Some-Give.octets)) (length c.args.buf.now)) (s.allowance - length s.received.items)) (drop s.at.offset c.in-Some-Give.octets) = search rules in
    record {
      used_up = λ e. absurd (omega arith);
      step = λ less. give_taken _ _ s.steps s.at c.after-self.result c.in-Some-Give.octets piece c.put_front.new.buf (length c.args.buf.now) (s.allowance - length s.received.items) refl is front c.put_front.ensures (λ e. c.after-self.ensures.whole (search (rules, e))) (λ e. search rules) (search rules);
    }
