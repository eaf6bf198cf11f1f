use Rattle.std.proofs.Common.{[], ◌∷◌, refl}
use Rattle.thread_cfg.specs.Action.{simple}
use Rattle.thread_cfg.proofs.AddLemmas.{AddsActions-ways}
use Rattle.thread_cfg.proofs.PassSteps.{on_ok-then}
use Rattle.thread_cfg.proofs.thread.Found.add_simple.Goals as goal

pub add_way-requires-clause-within : goal.add_way-requires-clause-within
add_way-requires-clause-within c = (c.requires.within.1 ∷ [], (c.requires.within.2, tt), c.requires.within.3.0)

pub returns : goal.returns
returns c from e stands =
    on_ok-then (AddsActions-ways c.args.running.now c.args.at.0 c.args.self.now c.add_way.new.self (simple from e c.args.to.0) refl)
    c.add_way.result (c.add_way.ensures (e ∷ []) (stands, tt))
