use Rattle.std.proofs.Common.{subst}
use Rattle.std.specs.Option.{MatchOption}
use Rattle.instance_cursors.specs.Waiting.{IsOpen, Waiting}
use Rattle.pending_instances.specs.Calls.{IsOpenTo}
use Rattle.pending_instances.proofs.SaidOfPrograms.{home_for}
use Rattle.pending_instances.proofs.pending.PendingInstances.home_if_open.Goals as goal

pub returns : goal.returns
returns c =
    let Answers : Waiting → Type 0 = λ w. MatchOption c.home_if_open.result (¬ IsOpen w c.args.instance) (IsOpenTo w c.args.instance) in
    subst Answers c.self.view_is (home_for c.stored_values_tell_what_they_stand_for.ensures.homes c.self.inside.cursors c.open_instances_lead.ensures.leads c.open_instances_lead.ensures.rise
    c.args.instance c.home_if_open.result c.home_if_open.ensures)
