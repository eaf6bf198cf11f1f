use Rattle.std.proofs.Common.{◌≡◌, ◌≤◌, Some, length, subst, to_z-of_z, add-one, take_all, arith}
use Rattle.std.specs.Int.{w128}
use Rattle.std.specs.List.{AllByRecursion}
use Rattle.lin_rows.specs.View.{row_of, system_of}
use Rattle.farkas_cert.specs.Point.{Passes, Breaks, row_overflow}
use Rattle.farkas_cert.proofs.PointSums.{IsFirstRow-next, AllByRecursion-take_more, IsRationalPoint-passes}
use Rattle.farkas_cert.proofs.point.check_point.Goals as goal

pub returns-in-Breaks-clause-answer : goal.returns-in-Breaks-clause-answer
returns-in-Breaks-clause-answer c =
    let d = to_z-of_z {w = w128} c.ranges.d in
    IsFirstRow-next (Breaks c.args.x.now c.args.d) c.args.x.now c.args.d (system_of c.args.rows.now).rows c.rows.place (row_of c.row.result) (rw d at c.rows.invariant) c.row.ensures.row (rw d at c.in-Breaks.ensures)

pub returns-in-Overflow-clause-answer : goal.returns-in-Overflow-clause-answer
returns-in-Overflow-clause-answer c =
    let d = to_z-of_z {w = w128} c.ranges.d in
    IsFirstRow-next (λ r. row_overflow c.args.x.now c.args.d r ≡ Some c.in-Overflow.column) c.args.x.now c.args.d (system_of c.args.rows.now).rows c.rows.place (row_of c.row.result) (rw d at c.rows.invariant) c.row.ensures.row (rw d at c.in-Overflow.ensures)

pub rows-preserved : goal.rows-preserved
rows-preserved c =
    rw (add-one c.rows.place) (AllByRecursion-take_more (Passes c.args.x.now _) (system_of c.args.rows.now).rows c.rows.place (row_of c.row.result) c.rows.invariant c.row.ensures.row c.in-Passes.ensures)

pub returns-clause-point : goal.returns-clause-point
returns-clause-point c = λ _.
    let d = to_z-of_z {w = w128} c.ranges.d in
    let rows = (system_of c.args.rows.now).rows in
    let end : length rows ≤ c.rows.place = omega arith in
    let all = subst (AllByRecursion (Passes c.args.x.now c.args.d)) (take_all c.rows.place rows end) (rw d at c.rows.invariant) in
    IsRationalPoint-passes (system_of c.args.rows.now) c.args.x.now c.args.d c.requires.whole c.requires.positive all
