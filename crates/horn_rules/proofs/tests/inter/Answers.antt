use Rattle.horn_rules.proofs.WorkedProgram.{first-location, second-source}
use Rattle.horn_rules.proofs.tests.inter.Goals as goal

pub rows_of_kind-requires : goal.rows_of_kind-requires
rows_of_kind-requires c = (
  first-location _ _ c.requires c.in_ok-stays.ensures.0 c.in_ok-stays.ensures.1,
  second-source _ _ c.requires c.in_ok-starts.ensures.0 c.in_ok-starts.ensures.1,
)
