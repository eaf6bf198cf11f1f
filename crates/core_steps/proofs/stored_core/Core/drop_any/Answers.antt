use Rattle.core_steps.specs.Course.{state_of}
use Rattle.core_steps.proofs.WhatLooksTell.{not-free}
use Rattle.core_steps.proofs.KeptDrops.{not-free-drops}
use Rattle.core_steps.proofs.stored_core.Core.drop_any.Goals as goal

pub drop_held-requires : goal.drop_held-requires
drop_held-requires c =
    let state = state_of c.args.self.now in
    record {
      worker = c.requires.worker;
      suits = not-free-drops state c.args.w c.requires.stop (not-free state c.args.w c.is_free.result c.if-not-is_free.true c.is_free.ensures.1);
    }
