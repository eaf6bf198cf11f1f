use Rattle.std.proofs.Common.{refl}
use Rattle.abstract_post.proofs.WorkedJobs.{start-job}
use Rattle.abstract_post.proofs.tests.start.Goals as goal

pub post-requires-clause-fits : goal.post-requires-clause-fits
post-requires-clause-fits c = start-job c.args.program.now _ _ c.requires refl refl refl refl refl c.in_ok-target.ensures
