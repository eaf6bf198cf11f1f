use Rattle.std.proofs.Common.{subst, sym}
use Rattle.transition_formula.specs.Program.{Program}
use Rattle.instance_cursors.specs.Waiting.{Waiting}
use Rattle.pending_instances.specs.Calls.{HasCome, IsFor, Opens}
use Rattle.pending_instances.specs.Pending.{AreAtHomes}
use Rattle.pending_instances.proofs.SaidOfPrograms.{comes_for}
use Rattle.pending_instances.proofs.pending.PendingInstances.came.Goals as goal

pub returns : goal.returns
returns c =
    let Answers : Waiting → Type 0 = λ w. (program : Program) → IsFor program w → AreAtHomes program c.args.table.now.live → Opens program w c.args.table.now c.came.new.self in
    let Come : Waiting → Type 0 = λ w. HasCome w c.args.table.now in
    subst Answers c.self.view_is (comes_for c.stored_values_tell_what_they_stand_for.ensures.homes c.self.inside.cursors c.came.new.self c.args.table.now c.facts-facts.result.now _
    (subst Come (sym c.self.view_is) c.requires.came) c.facts-facts.ensures.facts c.open_instances_lead.ensures.rise c.came.ensures)
