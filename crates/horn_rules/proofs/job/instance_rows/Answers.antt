use Rattle.std.proofs.Common.{Ok, Err, Result, IfOk}
use Rattle.lin_rows.specs.System.{System}
use Rattle.horn_rules.proofs.Jobs.{its-premises, rows-of-job}
use Rattle.horn_rules.proofs.job.instance_rows.Goals as goal

pub rows_of_kind-requires : goal.rows_of_kind-requires
rows_of_kind-requires c = its-premises c.args.program.now c.args.job.now c.requires

if-made : {E : Type 0} (P Q : System → Type 0) (made : Result System E) → ((rows : System) → P rows → Q rows) → IfOk made P → IfOk made Q
if-made P Q (Ok rows) each is = each rows is
if-made P Q (Err e) each is = tt

pub returns : goal.returns
returns c = if-made _ _ c.rows_of_kind.result (λ rows are given comes. rows-of-job c.args.program.now c.args.job.now rows given are comes) c.rows_of_kind.ensures
