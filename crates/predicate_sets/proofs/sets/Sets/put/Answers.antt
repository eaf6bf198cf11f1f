use Rattle.std.proofs.Common.{map, sym, subst, ap, ◌∙◌, ◌-◌}
use Rattle.std.proofs.lemmas.List.{map-set}
use Rattle.predicate_sets.specs.HomeSet.{IsHomeSet}
use Rattle.predicate_sets.specs.Sets.{AreHomeSets, with_set}
use Rattle.predicate_sets.proofs.Homes.{set-are}
use Rattle.predicate_sets.proofs.sets.Sets.put.Goals as goal

pub invariant_of-self : goal.invariant_of-self
invariant_of-self c =
    let homes = c.self.inside.homes.items in
    let place = c.args.home.0 - 1 in
    subst AreHomeSets (sym (map-set (λ set. set.value) homes place c.args.set))
    (set-are (map (λ set. set.value) homes) place c.args.set.value c.self.invariant (subst IsHomeSet c.deref.ensures c.atoms.ensures.home_set))

pub returns : goal.returns
returns c =
    map-set (λ set. set.value) c.self.inside.homes.items (c.args.home.0 - 1) c.args.set
    ∙ ap (λ sets. with_set sets c.args.home.0 c.args.set.value) c.self.view_is
