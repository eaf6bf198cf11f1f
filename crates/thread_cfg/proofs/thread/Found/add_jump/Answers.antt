use Rattle.std.proofs.Common.{[], refl}
use Rattle.thread_cfg.specs.Action.{jump}
use Rattle.thread_cfg.proofs.AddLemmas.{AddsActions-ways}
use Rattle.thread_cfg.proofs.PassSteps.{on_ok-then}
use Rattle.thread_cfg.proofs.thread.Found.add_jump.Goals as goal

pub add_way-requires-clause-within : goal.add_way-requires-clause-within
add_way-requires-clause-within c = ([], tt, (tt, tt))

pub returns : goal.returns
returns c from =
    on_ok-then (AddsActions-ways c.args.running.now c.args.at.0 c.args.self.now c.add_way.new.self (jump from c.args.to.0) refl)
    c.add_way.result (c.add_way.ensures [] tt)
