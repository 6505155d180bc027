use Rattle.std.proofs.Common.{◌≡◌, ◌+◌, drop, slice_get, Some, rules}
use Rattle.edge_traits.proofs.Rest.{drop_next}
use Rattle.edge_traits.proofs.NextPart.{plays_next}
use Rattle.edge_traits.proofs.mem_dialer.MemDialerDialer.dial.Goals as goal

pub returns-clause-exact : goal.returns-clause-exact
returns-clause-exact c =
    let s = c.args.self.now in
    let part = c.in-Some.part.now in
    let is : slice_get s.links s.next ≡ Some part = search rules in
    plays_next (drop s.next s.links) part (drop (s.next + 1) s.links) _ _ _ _ _ (drop_next s.links s.next part is) (record {
      unlisted = search rules;
      shown = search rules;
      view = search rules;
      script = search rules;
      becomes = search rules;
    })
