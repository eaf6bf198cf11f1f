use Rattle.std.proofs.Common.{◌≡◌, ◌*ℤ◌, to_z, of_z, rules}
use Rattle.std.specs.Int.{w128}
use Rattle.lin_rows.specs.Row.{product_of}
use Rattle.farkas_cert.proofs.PointSums.{broken}
use Rattle.farkas_cert.proofs.point.row_answer.Goals as goal

pub returns-else-holds : goal.returns-else-holds
returns-else-holds c = record {
  fits = search rules;
  breaks =
      let sum : to_z w128 (of_z w128 c.in-Ok.sum) ≡ product_of c.args.row.now.coefficients.now c.args.x.now = search (rules, c.in-Ok.ensures.sum) in
      let bound : to_z w128 (of_z w128 c.in-Some.bound) ≡ c.args.row.now.bound *ℤ c.args.d = search rules in
      broken c.args.row.now.equal c.holds.result _ _ _ _ c.holds.ensures c.if-holds.false sum bound;
}
