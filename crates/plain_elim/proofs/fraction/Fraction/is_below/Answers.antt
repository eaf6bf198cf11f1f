use Rattle.std.proofs.Common.{◌≡◌, ◌*ℤ◌, None, rules}
use Rattle.lin_rows.specs.Exact.{fitting}
use Rattle.lin_rows.proofs.Numbers.{read_back}
use Rattle.plain_elim.proofs.PointFractions.{is_below-none}
use Rattle.plain_elim.proofs.fraction.Fraction.is_below.Goals as goal
use Rattle.farkas_cert.proofs.Reduced.{fitting_is}

pub returns-in_err-right : goal.returns-in_err-right
returns-in_err-right c =
    let none : None ≡ fitting (c.args.other.now.numerator *ℤ c.args.self.now.denominator) = search rules in
    search (rules, is_below-none c.args.self.now c.args.other.now none)

pub returns : goal.returns
returns c =
    let f = c.args.self.now in
    let g = c.args.other.now in
    let left = fitting_is (f.numerator *ℤ g.denominator) c.in_ok-left.left (search rules) in
    let right = fitting_is (g.numerator *ℤ f.denominator) c.in_ok-right.right (search rules) in
    rw (read_back c.in_ok-left.left left.1, read_back c.in_ok-right.right right.1) (search rules)
