use Rattle.std.proofs.Common.{◌+◌, ◌-◌, ◌^◌, ◌≤◌, length}
use Rattle.serial_fix.specs.inside.Looked.{AreLookedAt, turn}
use Rattle.serial_fix.specs.inside.Run.{IsRun, Extends, AllAreSettled}
use Rattle.serial_fix.proofs.fixpoint.rounds.Given as goal

abbrev pub invariant-loop-next : goal.invariant-loop-next
invariant-loop-next l = record {
  run : IsRun l.program l.sets l.found;
  on : Extends l.initial.found.facts l.found.facts;
  within : l.next ≤ length l.found.facts;
  done : AllAreSettled l.program l.sets l.next l.found.facts;
  looked : AreLookedAt l.program l.sets l.found (turn (l.next + 1) 0);
}

abbrev pub decreases-loop-next : goal.decreases-loop-next
decreases-loop-next l = 2 ^ 32 - l.next
