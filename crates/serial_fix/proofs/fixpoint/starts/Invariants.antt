use Rattle.std.proofs.Common.{ℕ, ◌+◌, ◌≤◌}
use Rattle.transition_formula.specs.Program.{Thread, IsThreadOf}
use Rattle.serial_fix.specs.inside.Looked.{AreLookedAt}
use Rattle.serial_fix.specs.inside.Run.{IsRun, Extends, StartIsSettled}
use Rattle.serial_fix.proofs.fixpoint.starts.Given as goal

abbrev pub invariant-loop-i : goal.invariant-loop-i
invariant-loop-i l = record {
  run : IsRun l.program l.sets l.found;
  on : Extends l.initial.found.facts l.found.facts;
  done : (i : ℕ) (thread : Thread) → IsThreadOf l.program i thread → i ≤ l.i → StartIsSettled l.program l.sets i l.found.facts;
  looked : AreLookedAt l.program l.sets l.found (l.i + 1);
}
