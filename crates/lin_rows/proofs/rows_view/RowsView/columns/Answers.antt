use Rattle.lin_rows.proofs.Views.{IsWellFormed-system_of}
use Rattle.lin_rows.proofs.rows_view.RowsView.columns.Goals as goal

pub returns-clause-well_formed : goal.returns-clause-well_formed
returns-clause-well_formed c = IsWellFormed-system_of c.args.self.now
