use Rattle.std.proofs.Common.{IfOk, subst, sym}
use Rattle.transition_formula.specs.Program.{Program}
use Rattle.instance_cursors.specs.Waiting.{IsOpen, Waiting}
use Rattle.pending_instances.specs.Calls.{Closes, IsFor}
use Rattle.pending_instances.proofs.SaidOfPrograms.{takes_for}
use Rattle.pending_instances.proofs.pending.PendingInstances.take.Goals as goal

pub take-requires : goal.take-requires
take-requires c = let Open : Waiting → Type 0 = λ w. IsOpen w c.args.instance in subst Open (sym c.self.view_is) c.requires

pub returns-clause-closes : goal.returns-clause-closes
returns-clause-closes c =
    let Answers : Waiting → Type 0 = λ w. IfOk c.take.result (λ _. (program : Program) → IsFor program w → Closes program w c.args.instance c.take.new.self) in
    subst Answers c.self.view_is (takes_for c.self.inside.cursors c.take.new.self c.args.instance c.take.result c.take.ensures.closes)
