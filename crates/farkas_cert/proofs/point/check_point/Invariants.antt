use Rattle.std.proofs.Common.{take}
use Rattle.std.specs.List.{AllByRecursion}
use Rattle.lin_rows.specs.View.{system_of}
use Rattle.farkas_cert.specs.Point.{Passes}
use Rattle.farkas_cert.proofs.point.check_point.Given as goal

abbrev pub invariant-rows : goal.invariant-rows
invariant-rows l = AllByRecursion (Passes l.x l.d) (take l.place (system_of l.rows).rows)
