use Rattle.std.proofs.Common.{Ok, refl, subst, inl}
use Rattle.predicate_sets.specs.Sets.{IsAddAnswer}
use Rattle.predicate_sets.specs.declared.sets.Added.{Added}
use Rattle.core_steps.proofs.Growths.{known-stands}
use Rattle.core_steps.proofs.growing.grow_by.Goals as goal

pub returns-in-Ok : goal.returns-in-Ok
returns-in-Ok c =
    let sets = c.args.sets.now in
    let home = c.args.pair.now.0.0 in
    let answer = subst (λ (a : Added). IsAddAnswer sets home c.in_ok-atom.atom (Ok a) c.add-added.new.self) c.in-Known.is c.in-Ok.ensures in
    let both = known-stands sets c.add-added.new.self home c.in-Known.field-0 c.in_ok-atom.atom c.args.pair.now.1 answer c.in_ok-atom.ensures in
    inl (both.0, both.1, refl)
