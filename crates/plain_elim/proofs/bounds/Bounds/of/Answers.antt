use Rattle.std.proofs.Common.{◌≡◌, ◌≤◌, ◌∙◌, sym, Some, None, length, add-one, rules, arith}
use Rattle.plain_elim.specs.inside.PointParts.{narrowed_by}
use Rattle.plain_elim.proofs.PointBounds.{bounds_from-stops, bounds_from-goes, bounds_from-end}
use Rattle.plain_elim.proofs.bounds.Bounds.of.Goals as goal

pub returns-in_err-bounds : goal.returns-in_err-bounds
returns-in_err-bounds c =
    let none : None ≡ narrowed_by c.args.columns c.args.column c.args.point.now c.line-item.result c.lines.bounds = search rules in
    let stopped = bounds_from-stops c.args.columns c.args.column c.args.point.now c.lines.bounds c.args.lines.now c.lines.line-index c.line-item.result c.lines-test.true c.line-item.is none in
    search (rules, sym stopped ∙ c.lines.invariant)

pub lines-preserved : goal.lines-preserved
lines-preserved c =
    let next = c.in_ok-bounds.bounds in
    let some : Some next ≡ narrowed_by c.args.columns c.args.column c.args.point.now c.line-item.result c.lines.bounds = search rules in
    let gone = bounds_from-goes c.args.columns c.args.column c.args.point.now c.lines.bounds next c.args.lines.now c.lines.line-index c.line-item.result c.lines-test.true c.line-item.is some in
    rw (add-one c.lines.line-index) (sym gone ∙ c.lines.invariant)

pub returns : goal.returns
returns c =
    let end : length c.args.lines.now ≤ c.lines.line-index = omega arith in
    sym (bounds_from-end c.args.columns c.args.column c.args.point.now c.lines.bounds c.args.lines.now c.lines.line-index end) ∙ c.lines.invariant
