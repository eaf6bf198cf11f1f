use Rattle.std.proofs.Common.{refl, length, ◌+◌}
use Rattle.horn_rules.specs.Home.{State, Env}
use Rattle.abstract_post.proofs.WorkedJobs.{worked-premise, env-job}
use Rattle.abstract_post.proofs.tests.env.Goals as goal

pub post-requires-clause-fits : goal.post-requires-clause-fits
post-requires-clause-fits c =
    let program = c.args.program.now in
    let n = length program.columns in
    let one = c.premise-stays in
    let two = c.premise-steps in
    let stays = worked-premise program one.result (State 1 1) 2 n c.requires one.ensures.id one.ensures.home refl refl _ one.ensures.set c.in_ok-predicates.ensures one.ensures.within in
    let steps = worked-premise program two.result (Env 2 1) 8 (n + n) c.requires two.ensures.id two.ensures.home refl refl _ two.ensures.set c.in_ok-predicates-2.ensures two.ensures.within in
    env-job program _ _ _ one.result two.result c.requires refl refl refl refl refl stays steps refl c.in_ok-target.ensures
