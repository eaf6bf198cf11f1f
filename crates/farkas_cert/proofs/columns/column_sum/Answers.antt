use Rattle.std.proofs.Common.{pos, Some, None, sym, ◌∙◌, to_z, get_or, ◌*ℤ◌}
use Rattle.std.specs.Int.{w128}
use Rattle.thr_base.specs.Number.{Fits}
use Rattle.lin_rows.proofs.Numbers.{read_back}
use Rattle.farkas_cert.specs.Cert.{row_numbered}
use Rattle.farkas_cert.specs.inside.Columns.{number_at}
use Rattle.farkas_cert.proofs.ColumnSums.{IsSome-InOrder, column_from-at, Fits-sum_with}
use Rattle.farkas_cert.proofs.columns.column_sum.Goals as goal

pub add_product-requires-clause-there : goal.add_product-requires-clause-there
add_product-requires-clause-there c =
    IsSome-InOrder c.args.rows.now.rows 0 c.args.cert.now c.pairs.pair-index (0, pos 0) c.requires.in_order c.pairs-test.true

pub returns-in-None : goal.returns-in-None
returns-in-None c =
    let step = column_from-at c.args.rows.now.rows _ c.args.column c.args.cert.now c.pairs.pair-index (0, pos 0) None c.pairs-test.true (sym c.in-None.is ∙ c.add_product.ensures) in
    sym step ∙ c.pairs.invariant

pub pairs-preserved : goal.pairs-preserved
pairs-preserved c =
    let is = sym c.in-Some.is ∙ c.add_product.ensures in
    let step = column_from-at c.args.rows.now.rows _ c.args.column c.args.cert.now c.pairs.pair-index (0, pos 0) (Some c.in-Some.more) c.pairs-test.true is in
    let pair = get_or c.args.cert.now c.pairs.pair-index (0, pos 0) in
    let fits : Fits c.in-Some.more = Fits-sum_with (to_z w128 c.pairs.sum-bits) (pair.1 *ℤ number_at (row_numbered c.args.rows.now.rows pair.0) c.args.column) c.in-Some.more (sym is) in
    rw (read_back c.in-Some.more fits) (sym step ∙ c.pairs.invariant)
