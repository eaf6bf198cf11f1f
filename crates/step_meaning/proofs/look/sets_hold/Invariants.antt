use Rattle.std.proofs.Common.{◌≡◌, ◌++◌, map}
use Rattle.transition_formula.specs.Stored.{set_of}
use Rattle.step_meaning.specs.Outcome.{set_holds, first_stop}
use Rattle.step_meaning.proofs.Loops.{stop_from}
use Rattle.step_meaning.proofs.look.sets_hold.Given as goal

abbrev pub invariant-sets : goal.invariant-sets
invariant-sets l =
    let z = l.state ++ l.inputs in
    stop_from (set_holds z) (map set_of l.sets) l.set-index ≡ first_stop (map (set_holds z) (map set_of l.sets))
