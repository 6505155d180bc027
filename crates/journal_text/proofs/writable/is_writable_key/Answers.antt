use Rattle.partition_keys.specs.Sites.{IsSite}
use Rattle.journal_text.proofs.LineSteps.{and_second}
use Rattle.journal_text.proofs.writable.is_writable_key.Goals as goal

pub returns-in-None : goal.returns-in-None
returns-in-None c = and_second c.is_site.result (IsSite c.args.key.now.site) _ c.in-None.is c.is_site.ensures
