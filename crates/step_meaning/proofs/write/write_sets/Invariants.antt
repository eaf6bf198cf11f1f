use Rattle.std.proofs.Common.{◌≡◌, ◌≤◌, ◌++◌, map, length, drop}
use Rattle.transition_formula.specs.Step.{after_sets}
use Rattle.transition_formula.specs.Stored.{set_of}
use Rattle.step_meaning.proofs.write.write_sets.Given as goal

abbrev pub invariant-sets : goal.invariant-sets
invariant-sets l = record {
  within : l.left ≤ length l.sets;
  written : l.next ≡ after_sets (drop l.left (map set_of l.sets)) (l.state ++ l.inputs) l.initial.next;
}

abbrev pub decreases-sets : goal.decreases-sets
decreases-sets l = l.left
