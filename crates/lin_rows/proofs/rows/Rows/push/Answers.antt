use Rattle.std.proofs.Common.{sym, subst}
use Rattle.thr_base.specs.Number.{Fits}
use Rattle.lin_rows.proofs.Numbers.{read_back}
use Rattle.lin_rows.proofs.StoredRows.{IsStored-one}
use Rattle.lin_rows.proofs.rows.Rows.push.Goals as goal

pub append-requires-clause-stored : goal.append-requires-clause-stored
append-requires-clause-stored c =
    IsStored-one c.args.self.now.columns _ c.args.coefficients.now c.requires.width c.requires.coefficients (subst Fits (sym (read_back c.args.bound c.requires.bound)) c.requires.bound)
