use Rattle.std.proofs.Common.{subst}
use Rattle.std.specs.Option.{MatchOption}
use Rattle.instance_cursors.specs.Waiting.{NoneIsOpen, Waiting}
use Rattle.pending_instances.specs.Calls.{IsNext}
use Rattle.pending_instances.proofs.SaidOfPrograms.{chooses_for}
use Rattle.pending_instances.proofs.pending.PendingInstances.choose.Goals as goal

pub returns : goal.returns
returns c =
    let Answers : Waiting → Type 0 = λ w. MatchOption c.choose.result (NoneIsOpen w) (IsNext c.args.thread.0 w) in
    subst Answers c.self.view_is (chooses_for c.stored_values_tell_what_they_stand_for.ensures.homes c.self.inside.cursors c.open_instances_lead.ensures.leads c.open_instances_lead.ensures.rise
    c.args.thread c.choose.result c.choose.ensures)
