use Rattle.std.proofs.Common.{ap, ◌∙◌, arith, length, ◌≤◌}
use Rattle.serial_fix.specs.inside.Found.{held_at, FoundFacts}
use Rattle.serial_fix.proofs.Index.{words-at}
use Rattle.serial_fix.proofs.found.Found.words.Goals as goal

pub returns : goal.returns
returns c =
    let within : c.args.home.0 ≤ length c.self.inside.at_home.items = omega (arith, ap (λ (f : FoundFacts). f.homes) c.self.view_is) in
    c.deref.ensures.value
    ∙ words-at (λ words. words.items) c.self.inside.at_home.items c.self.inside.facts.items c.args.home.0 c.index.result.now c.self.invariant c.requires.from_1 within c.index.ensures
    ∙ ap (λ (f : FoundFacts). held_at c.args.home.0 f.facts) c.self.view_is
