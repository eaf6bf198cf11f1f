use Rattle.std.proofs.Common.{option_map}
use Rattle.thread_cfg.specs.Action.{requiring, test_action}
use Rattle.thread_cfg.specs.Path.{when_false, when_true}
use Rattle.thread_cfg.specs.inside.Passing.{location_of}
use Rattle.thread_cfg.proofs.AddLemmas.{AddsActions-ways, AddsWays-then, small-test}
use Rattle.thread_cfg.proofs.PassSteps.{on_ok-then}
use Rattle.thread_cfg.proofs.thread.Found.add_test.Goals as goal

pub returns : goal.returns
returns c a b means =
    let from = c.args.compared.now.from in
    let t = option_map location_of c.args.on_true in
    let f = option_map location_of c.args.on_false in
    let first = rw c.when_true-when_true.ensures at (c.in_ok-add_requiring.ensures a b means) in
    let second = rw c.when_false-when_false.ensures at (c.add_requiring-2.ensures a b means) in
    on_ok-then
    (λ more. AddsActions-ways c.args.running.now c.args.at.0 c.args.self.now c.add_requiring-2.new.self (test_action from c.args.mark a b t f)
    (small-test from c.args.mark a b t f)
    (AddsWays-then c.args.running.now c.args.at.0 c.args.self.now c.add_requiring.new.self c.add_requiring-2.new.self
    (requiring from (when_true c.args.mark) a b t) (requiring from (when_false c.args.mark) a b f) first more))
    c.add_requiring-2.result second
