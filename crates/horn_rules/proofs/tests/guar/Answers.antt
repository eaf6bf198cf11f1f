use Rattle.horn_rules.proofs.WorkedProgram.{first-source}
use Rattle.horn_rules.proofs.tests.guar.Goals as goal

pub rows_of_kind-requires : goal.rows_of_kind-requires
rows_of_kind-requires c = first-source _ _ c.requires c.in_ok-starts.ensures.0 c.in_ok-starts.ensures.1
