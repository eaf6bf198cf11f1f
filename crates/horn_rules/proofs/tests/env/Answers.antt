use Rattle.horn_rules.proofs.WorkedProgram.{first-location, second-edge}
use Rattle.horn_rules.proofs.tests.env.Goals as goal

pub rows_of_kind-requires : goal.rows_of_kind-requires
rows_of_kind-requires c = (
  first-location _ _ c.requires c.in_ok-stays.ensures.0 c.in_ok-stays.ensures.1,
  second-edge _ _ c.requires c.in_ok-told.ensures.0 c.in_ok-told.ensures.1,
)
