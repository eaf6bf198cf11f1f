use Rattle.serial_run.proofs.Steps.{stopped-memory}
use Rattle.serial_run.proofs.next.stop_for_memory.Goals as goal

pub returns : goal.returns
returns c = stopped-memory c.args.core.now c.stop-stopped.new.self c.stop-stopped.result c.requires c.stop-stopped.ensures
