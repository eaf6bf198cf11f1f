use Rattle.std.proofs.Common.{◌≡◌, ◌∙◌, Some, rules}
use Rattle.std.specs.Prelude.{neg_ℤ, ◌+ℤ◌, ◌*ℤ◌}
use Rattle.lin_rows.specs.Exact.{fitting}
use Rattle.lin_rows.proofs.Numbers.{read_back, Fits-neg}
use Rattle.plain_elim.proofs.PointFractions.{fits-fitting}
use Rattle.plain_elim.proofs.PointBounds.{minus_product-some}
use Rattle.plain_elim.proofs.bounds.minus_product.Goals as goal
use Rattle.farkas_cert.proofs.Reduced.{fitting_is}

pub returns : goal.returns
returns c =
    let p = c.in_ok-product.product in
    let given : Some p ≡ fitting (c.args.coefficient *ℤ c.args.number) = search rules in
    let product = fitting_is (c.args.coefficient *ℤ c.args.number) p given in
    let negated = read_back (neg_ℤ p) (Fits-neg p product.1) in
    let sum : c.sum_if_fits.result ≡ fitting (c.args.total +ℤ neg_ℤ p) = search (rules, negated) in
    record {
      difference = sum ∙ minus_product-some c.args.total c.args.coefficient c.args.number p given;
      fits = rw sum (fits-fitting (c.args.total +ℤ neg_ℤ p));
    }
