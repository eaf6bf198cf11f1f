use Rattle.std.proofs.Common.{refl, length}
use Rattle.horn_rules.specs.Home.{State}
use Rattle.abstract_post.proofs.WorkedJobs.{worked-premise, own-job}
use Rattle.abstract_post.proofs.tests.own.Goals as goal

pub post-requires-clause-fits : goal.post-requires-clause-fits
post-requires-clause-fits c =
    let program = c.args.program.now in
    let said = c.premise-premise in
    let stands = worked-premise program said.result (State 2 1) 5 (length program.columns) c.requires said.ensures.id said.ensures.home refl refl _ said.ensures.set c.in_ok-predicates.ensures said.ensures.within in
    own-job program _ _ _ said.result c.requires refl refl refl refl refl stands refl c.in_ok-target.ensures
