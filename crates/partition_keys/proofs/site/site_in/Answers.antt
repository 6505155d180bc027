use Rattle.std.proofs.Common.{refl, inl, inr, codes}
use Rattle.net_base.specs.declared.origin.Scheme.TheVariants.{Http, Https}
use Rattle.partition_keys.proofs.SiteLemmas.{refuses, tuple_bad, opaque_bad}
use Rattle.partition_keys.proofs.site.site_in.Goals as goal

pub returns-in-Some-clause-refused : goal.returns-in-Some-clause-refused
returns-in-Some-clause-refused c =
    let host = c.in-Some.host.now in
    let site = c.in_ok-tuple_site.field-0 in
    refuses c.args.text.now (codes "http://") host (inl refl) c.in-Some.ensures site c.or_bad.result c.or_bad.ensures
    (tuple_bad Http host site c.in_ok-tuple_site.ensures)

pub returns-in-Some-behind-clause-refused : goal.returns-in-Some-behind-clause-refused
returns-in-Some-behind-clause-refused c =
    let host = c.in-Some-behind.host.now in
    let site = c.in_ok-tuple_site-2.field-0 in
    refuses c.args.text.now (codes "https://") host (inr (inl refl)) c.in-Some-behind.ensures site c.or_bad-in-Some-behind.result c.or_bad-in-Some-behind.ensures
    (tuple_bad Https host site c.in_ok-tuple_site-2.ensures)

pub returns-in-Some-behind-2-clause-refused : goal.returns-in-Some-behind-2-clause-refused
returns-in-Some-behind-2-clause-refused c =
    let digits = c.in-Some-behind-2.digits.now in
    let site = c.in_ok-opaque_site.field-0 in
    refuses c.args.text.now (codes "opaque:") digits (inr (inr refl)) c.in-Some-behind-2.ensures site c.or_bad-in-Some-behind-2.result c.or_bad-in-Some-behind-2.ensures
    (opaque_bad digits site c.in_ok-opaque_site.ensures)
