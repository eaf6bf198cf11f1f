use Rattle.std.proofs.Common.{◌≡◌, ◌-◌, ◌+◌, ◌<◌, ◌++◌, suc, length, map, ◌∙◌, arith}
use Rattle.std.specs.Option.{IsSome}
use Rattle.lin_rows.proofs.Lists.{AllByRecursion-map_at}
use Rattle.transition_formula.specs.Program.{IsFormOver}
use Rattle.transition_formula.specs.Forms.{value_if_fits}
use Rattle.transition_formula.specs.Stored.{form_of, set_of}
use Rattle.step_meaning.proofs.Loops.{mapped-at, assigned-next}
use Rattle.step_meaning.proofs.write.write_sets.Goals as goal

pub write_set-requires-clause-within : goal.write_set-requires-clause-within
write_set-requires-clause-within c =
    let left : c.sets.left - 1 < length c.args.sets.now = omega (arith, c.sets-test.true, c.sets.invariant.within) in
    let here = AllByRecursion-map_at (λ set. set.0 < length c.args.next.now) set_of c.args.sets.now (c.sets.left - 1) c.index-sets-left.result c.requires.within left c.index-sets-left.is in
    omega (arith, here, c.sets.auto.next)

pub write_set-requires-clause-over : goal.write_set-requires-clause-over
write_set-requires-clause-over c =
    let left : c.sets.left - 1 < length c.args.sets.now = omega (arith, c.sets-test.true, c.sets.invariant.within) in
    AllByRecursion-map_at (λ set. IsFormOver (length c.args.state.now + length c.args.inputs.now) set.1) set_of c.args.sets.now (c.sets.left - 1) c.index-sets-left.result c.requires.over left c.index-sets-left.is

pub write_set-requires-clause-fits : goal.write_set-requires-clause-fits
write_set-requires-clause-fits c =
    let left : c.sets.left - 1 < length c.args.sets.now = omega (arith, c.sets-test.true, c.sets.invariant.within) in
    AllByRecursion-map_at (λ set. IsSome (value_if_fits set.1 (c.args.state.now ++ c.args.inputs.now))) set_of c.args.sets.now (c.sets.left - 1) c.index-sets-left.result c.requires.fit left c.index-sets-left.is

pub sets-preserved : goal.sets-preserved
sets-preserved c =
    let left : c.sets.left - 1 < length c.args.sets.now = omega (arith, c.sets-test.true, c.sets.invariant.within) in
    let more : c.sets.left ≡ suc (c.sets.left - 1) = omega (arith, c.sets-test.true) in
    let set = c.index-sets-left.result in
    record {
      within = omega (arith, left);
      written = c.write_set.ensures
          ∙ assigned-next (map set_of c.args.sets.now) (c.args.state.now ++ c.args.inputs.now) c.args.next.now c.sets.next (c.sets.left - 1) c.sets.left set.0 (form_of set.1) more
          (mapped-at set_of c.args.sets.now (c.sets.left - 1) set left c.index-sets-left.is) c.sets.invariant.written;
    }
