use Rattle.std.proofs.Common.{◌+◌, ◌*◌}
use Rattle.horn_rules.specs.Stored.{fact_of}
use Rattle.serial_fix.specs.inside.Looked.{AreLookedAt, turn}
use Rattle.serial_fix.specs.inside.Run.{IsRun, Extends}
use Rattle.serial_fix.proofs.Rounds.{DoneTo}
use Rattle.serial_fix.proofs.run.steps_from.Given as goal

abbrev pub invariant-loop-e : goal.invariant-loop-e
invariant-loop-e l = record {
  run : IsRun l.program l.sets l.found;
  on : Extends l.initial.found.facts l.found.facts;
  done : DoneTo l.program l.sets l.at.0.0 (fact_of l.program l.known.fact) l.e l.found.facts;
  looked : AreLookedAt l.program l.sets l.found (turn l.known.id.0 (2 * (l.e + 1)));
}
