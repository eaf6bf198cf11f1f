use Rattle.std.proofs.Common.{◌≡◌, [], ◌∷◌, ◌++◌, length, map, ◌<◌, ◌+◌, ◌-◌, sym, ap, ◌∙◌, subst, arith}
use Rattle.std.proofs.lemmas.List.{map-set}
use Rattle.thr_base.specs.Limits.{most_predicates}
use Rattle.predicate_sets.specs.HomeSet.{IsHomeSet, Lacks}
use Rattle.predicate_sets.specs.Sets.{AreHomeSets, set_at, with_set}
use Rattle.predicate_sets.proofs.Atoms.{home_set_grows}
use Rattle.predicate_sets.proofs.Homes.{set-are, set_at-map}
use Rattle.predicate_sets.proofs.sets.Sets.add.Goals as goal

-- the atom is new and has room
pub returns : goal.returns
returns c =
    let sets = c.args.self.now in
    let home = c.args.home.0 in
    let set = set_at sets home in
    let seen : set ≡ c.deref-set.result.now = set_at-map (λ arc. arc.value) c.self.inside.homes.items sets home c.index.result.now c.self.view_is c.requires c.index.ensures ∙ sym c.deref-set.ensures in
    let lacks : Lacks set c.args.atom = subst (λ v. Lacks v c.args.atom) (c.atoms.ensures.atoms ∙ sym seen) c.in_default.ensures in
    let counted : length c.atoms-count.result.now ≡ length set = ap length (c.atoms-count.ensures.atoms ∙ sym seen) in
    let longer : c.in-Ok.longer.value ≡ set ++ c.args.atom ∷ [] = c.in-Ok.ensures ∙ ap (λ v. v ++ c.args.atom ∷ []) (sym seen) in (
      (lacks, omega (arith, counted, ap length seen, c.atoms.ensures.home_set.few, c.if-count.false)),
      ap (λ n. n + 1) counted,
      map-set (λ arc. arc.value) c.self.inside.homes.items (home - 1) c.in-Ok.longer
          ∙ ap (λ v. with_set v home c.in-Ok.longer.value) c.self.view_is
          ∙ ap (with_set sets home) longer,
    )

-- all lists are still those of homes
pub invariant_of-self : goal.invariant_of-self
invariant_of-self c =
    let homes = c.self.inside.homes.items in
    let place = c.args.home.0 - 1 in
    let set = c.deref-set.result.now in
    let counted : length c.atoms-count.result.now ≡ length set = ap length c.atoms-count.ensures.atoms in
    let lacks : Lacks set c.args.atom = subst (λ v. Lacks v c.args.atom) c.atoms.ensures.atoms c.in_default.ensures in
    let room : length set < most_predicates = omega (arith, counted, c.atoms.ensures.home_set.few, c.if-count.false) in
    let longer : IsHomeSet c.in-Ok.longer.value = subst IsHomeSet (sym c.in-Ok.ensures) (home_set_grows set c.args.atom c.atoms.ensures.home_set room lacks) in
    subst AreHomeSets (sym (map-set (λ arc. arc.value) homes place c.in-Ok.longer))
    (set-are (map (λ arc. arc.value) homes) place c.in-Ok.longer.value c.self.invariant longer)
