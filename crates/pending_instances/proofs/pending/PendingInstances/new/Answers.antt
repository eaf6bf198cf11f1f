use Rattle.pending_instances.proofs.SaidOfPrograms.{begins_for}
use Rattle.pending_instances.proofs.pending.PendingInstances.new.Goals as goal

pub returns : goal.returns
returns c =
    begins_for c.stored_values_tell_what_they_stand_for.ensures.homes c.args.program.now c.args.rule c.in_ok-layout.layout c.in_ok-starts.starts.items c.args.facts c.in_ok-cursors.cursors
    c.in_ok-layout.ensures.layout c.in_ok-layout.ensures.rule c.in_ok-starts.ensures.seen c.in_ok-cursors.ensures
