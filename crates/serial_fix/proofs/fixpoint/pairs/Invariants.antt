use Rattle.std.proofs.Common.{◌+◌, ◌*◌}
use Rattle.horn_rules.specs.Stored.{fact_of}
use Rattle.serial_fix.specs.inside.Looked.{AreLookedAt, first_pair, turn}
use Rattle.serial_fix.specs.inside.Run.{IsRun, Extends, PairsAreSettled}
use Rattle.serial_fix.proofs.fixpoint.pairs.Given as goal

abbrev pub invariant-loop-m : goal.invariant-loop-m
invariant-loop-m l = record {
  run : IsRun l.program l.sets l.found;
  on : Extends l.initial.found.facts l.found.facts;
  done : PairsAreSettled l.program l.sets (fact_of l.program l.known.fact) l.m l.initial.found.facts l.found.facts;
  looked : AreLookedAt l.program l.sets l.found (turn (l.n + 1) (first_pair + 2 * (l.m + 1)));
}
