use Rattle.std.proofs.Common.{refl}
use Rattle.horn_rules.proofs.WorkedProgram.{start-job}
use Rattle.horn_rules.proofs.tests.start.Goals as goal

pub instance_rows-requires : goal.instance_rows-requires
instance_rows-requires c = start-job _ _ _ c.requires refl refl refl refl refl c.in_ok-target.ensures
