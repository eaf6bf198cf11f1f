use Rattle.lin_rows.proofs.Systems.{part_of-part_of, part_of-whole}
use Rattle.lin_rows.proofs.laws.parts_of_systems.Goals as goal

pub returns-clause-part : goal.returns-clause-part
returns-clause-part c = part_of-part_of

pub returns-clause-whole : goal.returns-clause-whole
returns-clause-whole c = part_of-whole
