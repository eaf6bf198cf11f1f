use Rattle.std.proofs.Common.{sym}
use Rattle.lin_rows.proofs.Views.{length-system_of, IsWellFormed-system_of}
use Rattle.lin_rows.proofs.rows_view.RowsView.count.Goals as goal

pub returns-clause-count : goal.returns-clause-count
returns-clause-count c = sym (length-system_of c.args.self.now)

pub returns-clause-well_formed : goal.returns-clause-well_formed
returns-clause-well_formed c = IsWellFormed-system_of c.args.self.now
