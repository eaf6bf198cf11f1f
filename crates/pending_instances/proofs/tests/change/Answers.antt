use Rattle.pending_instances.proofs.TestTables.{none-went}
use Rattle.pending_instances.proofs.tests.change.Goals as goal

pub changed-requires : goal.changed-requires
changed-requires c = none-went c.args.program.now c.args.table.now c.args.waiting.now c.requires
