use Rattle.std.proofs.Common.{◌≡◌, ◌+◌, ◌++◌, pos, ◌+ℤ◌, drop, option_map}
use Rattle.lin_rows.specs.Row.{product_of}
use Rattle.lin_rows.specs.Sum.{overflow_from}
use Rattle.transition_formula.proofs.lines.sum_at.Given as goal

abbrev pub invariant-places : goal.invariant-places
invariant-places l =
    let z = l.state ++ l.inputs in
    record {
      sum : product_of l.coefficients z ≡ l.sum +ℤ product_of (drop l.place l.coefficients) (drop l.place z);
      overflow : overflow_from (pos 0) l.coefficients z ≡ option_map (λ n. l.place + n) (overflow_from l.sum (drop l.place l.coefficients) (drop l.place z));
    }
