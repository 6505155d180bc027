use Rattle.partition_keys.proofs.SiteLemmas.{reads_back, computes}
use Rattle.partition_keys.proofs.site.read_site.Goals as goal

pub returns-clause-back : goal.returns-clause-back
returns-clause-back c = reads_back c.args.text.now c.site_in.result c.site_in.ensures.ok c.site_in.ensures.refused

pub returns-clause-computes : goal.returns-clause-computes
returns-clause-computes c = computes c.args.text.now c.site_in.result c.site_in.ensures.ok c.site_in.ensures.refused
