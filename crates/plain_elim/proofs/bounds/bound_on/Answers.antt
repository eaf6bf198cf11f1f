use Rattle.std.proofs.Common.{◌≡◌, ◌<ℤ◌, ◌*ℤ◌, ◌∙◌, sym, Some, pos, rules}
use Rattle.lin_rows.specs.Exact.{fitting}
use Rattle.lin_rows.proofs.Numbers.{read_back}
use Rattle.farkas_cert.specs.Line.{coefficient_at}
use Rattle.farkas_cert.proofs.Reduced.{fitting_is}
use Rattle.plain_elim.proofs.PointBounds.{nonzero_product}
use Rattle.plain_elim.proofs.bounds.bound_on.Goals as goal

pub of-requires-clause-some : goal.of-requires-clause-some
of-requires-clause-some c zero =
    let coefficient = coefficient_at c.args.column c.args.line.now in
    let d = c.args.point.now.denominator in
    let given : Some c.in_ok-factor.factor ≡ fitting (coefficient *ℤ d) = search rules in
    let product = fitting_is (coefficient *ℤ d) c.in_ok-factor.factor given in
    let positive : pos 0 <ℤ d = search rules in
    nonzero_product coefficient d c.requires.bounds.there positive (sym product.0 ∙ sym (read_back c.in_ok-factor.factor product.1) ∙ zero)
