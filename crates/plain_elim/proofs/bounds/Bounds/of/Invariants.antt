use Rattle.std.proofs.Common.{◌≡◌, drop, None}
use Rattle.farkas_cert.specs.BackSubstitution.{bounds_from}
use Rattle.plain_elim.proofs.bounds.Bounds.of.Given as goal

abbrev pub invariant-lines : goal.invariant-lines
invariant-lines l =
    bounds_from l.columns l.column l.point l.bounds (drop l.line-index l.lines)
    ≡ bounds_from l.columns l.column l.point (record { lower = None; upper = None }) l.lines
