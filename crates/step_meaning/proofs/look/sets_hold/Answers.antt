use Rattle.std.proofs.Common.{◌≡◌, ◌+◌, ◌++◌, length, map, true, false, Some, None, sym, ◌∙◌}
use Rattle.lin_rows.proofs.Lists.{AllByRecursion-map_at}
use Rattle.transition_formula.specs.Program.{IsFormOver}
use Rattle.transition_formula.specs.Stored.{set_of}
use Rattle.step_meaning.specs.Outcome.{set_holds}
use Rattle.step_meaning.proofs.Loops.{mapped-at, stop_from-here, stop_from-next}
use Rattle.step_meaning.proofs.look.sets_hold.Goals as goal

pub set_holds-requires : goal.set_holds-requires
set_holds-requires c =
    (AllByRecursion-map_at (λ set. IsFormOver (length c.args.state.now + length c.args.inputs.now) set.1) set_of c.args.sets.now
    c.sets.set-index c.set-item.result c.requires c.sets-test.true c.set-item.is).one_each

pub returns-in-Some-false : goal.returns-in-Some-false
returns-in-Some-false c =
    let z = c.args.state.now ++ c.args.inputs.now in
    let at = mapped-at set_of c.args.sets.now c.sets.set-index c.set-item.result c.sets-test.true c.set-item.is in
    let told = c.set_holds.ensures c.set-item.result.0 in
    let is = c.in-Some-false.is in
    let value = c.in-Some-false.field-0-test in
    let found : Some false ≡ set_holds z (set_of c.set-item.result) = cc in
    sym (stop_from-here (set_holds z) (map set_of c.args.sets.now) c.sets.set-index (set_of c.set-item.result) (Some false) at found) ∙ c.sets.invariant

pub returns-in-None : goal.returns-in-None
returns-in-None c =
    let z = c.args.state.now ++ c.args.inputs.now in
    let at = mapped-at set_of c.args.sets.now c.sets.set-index c.set-item.result c.sets-test.true c.set-item.is in
    let told = c.set_holds.ensures c.set-item.result.0 in
    let is = c.in-None.is in
    let found : None ≡ set_holds z (set_of c.set-item.result) = cc in
    sym (stop_from-here (set_holds z) (map set_of c.args.sets.now) c.sets.set-index (set_of c.set-item.result) None at found) ∙ c.sets.invariant

pub sets-preserved : goal.sets-preserved
sets-preserved c =
    let z = c.args.state.now ++ c.args.inputs.now in
    let at = mapped-at set_of c.args.sets.now c.sets.set-index c.set-item.result c.sets-test.true c.set-item.is in
    let told = c.set_holds.ensures c.set-item.result.0 in
    let is = c.in-Some-true.is in
    let value = c.in-Some-true.field-0-test in
    let found : Some true ≡ set_holds z (set_of c.set-item.result) = cc in
    stop_from-next (set_holds z) (map set_of c.args.sets.now) c.sets.set-index (set_of c.set-item.result) at found c.sets.invariant
