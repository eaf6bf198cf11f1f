use Rattle.std.proofs.Common.{[], ◌∷◌, refl}
use Rattle.thread_cfg.specs.Action.{Alternative, choice}
use Rattle.thread_cfg.proofs.AddLemmas.{AddsActions-ways, AddsWays-then}
use Rattle.thread_cfg.proofs.PassSteps.{on_ok-then}
use Rattle.thread_cfg.proofs.thread.Found.add_choice.Goals as goal

pub add_way-requires-clause-within : goal.add_way-requires-clause-within
add_way-requires-clause-within c = ([], tt, (tt, tt))

pub add_way-requires-2-clause-within : goal.add_way-requires-2-clause-within
add_way-requires-2-clause-within c = ([], tt, (tt, tt))

pub returns : goal.returns
returns c from =
    let first : Alternative = record { events = []; to = c.args.on_true.0 } in
    let second : Alternative = record { events = []; to = c.args.on_false.0 } in
    on_ok-then
    (λ more. AddsActions-ways c.args.running.now c.args.at.0 c.args.self.now c.add_way-2.new.self (choice from c.args.on_true.0 c.args.on_false.0) refl
    (AddsWays-then c.args.running.now c.args.at.0 c.args.self.now c.add_way.new.self c.add_way-2.new.self (first ∷ []) (second ∷ [])
    (c.in_ok-add_way.ensures [] tt) more))
    c.add_way-2.result (c.add_way-2.ensures [] tt)
