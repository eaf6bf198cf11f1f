use Rattle.std.proofs.Common.{◌≡◌, subst}
use Rattle.derivation_tree.specs.Kept.{Leaving}
use Rattle.core_steps.specs.declared.event.Reason.TheVariants as reason
use Rattle.core_steps.specs.Stops.{Stops}
use Rattle.serial_run.proofs.Steps.{stopped-left}
use Rattle.serial_run.proofs.next.stop_for_left.Goals as goal

pub returns : goal.returns
returns c =
    let old = c.args.core.now in
    let new = c.stop-stopped.new.self in
    stopped-left old new c.args.job c.args.kind c.stop-stopped.result c.requires.has
    (subst (λ (left : Leaving). Stops old 1 (reason.Left left) c.stop-stopped.result new) c.of_job.ensures c.stop-stopped.ensures)
