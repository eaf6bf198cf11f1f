use Rattle.std.proofs.Common.{refl}
use Rattle.thread_cfg.specs.Action.{lock_action}
use Rattle.thread_cfg.specs.inside.Meant.{frame_of}
use Rattle.thread_cfg.proofs.AddLemmas.{AddsActions-ways}
use Rattle.thread_cfg.proofs.PassSteps.{on_ok-then}
use Rattle.thread_cfg.proofs.thread.Found.add_lock.Goals as goal

pub returns : goal.returns
returns c =
    on_ok-then
    (AddsActions-ways c.args.running.now c.args.at.0 c.args.self.now c.add_exchange.new.self
    (lock_action (frame_of c.args.running.now.frame) c.args.from c.args.lock c.args.next.0) refl)
    c.add_exchange.result (rw c.lock_variable-variable.ensures at c.add_exchange.ensures)
