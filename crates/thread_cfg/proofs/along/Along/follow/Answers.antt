use Rattle.thread_cfg.proofs.along.Along.follow.Goals as goal

pub returns-in-Requires : goal.returns-in-Requires
returns-in-Requires c = rw c.in-Requires.is c.require.ensures
