use Rattle.std.proofs.Common.{◌≡◌}
use Rattle.farkas_cert.specs.Proof.{products}
use Rattle.farkas_cert.specs.inside.Weighing.{weighed_to}
use Rattle.farkas_cert.proofs.columns.coefficients_weighed.Given as goal

abbrev pub invariant-loop-column : goal.invariant-loop-column
invariant-loop-column l = l.seen ≡ weighed_to l.column (products l.rows.rows l.cert)
