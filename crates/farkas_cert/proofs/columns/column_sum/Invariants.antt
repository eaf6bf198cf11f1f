use Rattle.std.proofs.Common.{◌≡◌, pos, drop}
use Rattle.farkas_cert.specs.Proof.{products}
use Rattle.farkas_cert.specs.inside.Columns.{column_from}
use Rattle.farkas_cert.proofs.columns.column_sum.Given as goal

abbrev pub invariant-pairs : goal.invariant-pairs
invariant-pairs l = column_from l.sum l.column (products l.rows.rows (drop l.pair-index l.cert)) ≡ column_from (pos 0) l.column (products l.rows.rows l.cert)
