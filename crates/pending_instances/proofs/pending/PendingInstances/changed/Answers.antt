use Rattle.std.proofs.Common.{List, subst, sym}
use Rattle.transition_formula.specs.Program.{Program}
use Rattle.fact_table.specs.declared.live_fact.LiveFact.{LiveFact}
use Rattle.instance_cursors.specs.Waiting as cursors
use Rattle.instance_cursors.specs.Waiting.{Waiting}
use Rattle.pending_instances.specs.Calls.{IsFor, IsLeft, Reopens}
use Rattle.pending_instances.proofs.SaidOfPrograms.{reopens_for}
use Rattle.pending_instances.proofs.pending.PendingInstances.changed.Goals as goal

pub returns : goal.returns
returns c =
    let Answers : Waiting → Type 0 = λ w. (program : Program) → IsFor program w → Reopens program w c.args.homes.now c.args.table.now c.changed.new.self in
    let Left : Waiting → Type 0 = λ w. IsLeft w c.args.table.now in
    let Reopened : List LiveFact → Type 0 = λ live. cursors.Reopens c.self.inside.cursors live c.args.homes.now c.changed.new.self in
    subst Answers c.self.view_is (λ program is. reopens_for c.stored_values_tell_what_they_stand_for.ensures.homes program c.self.inside.cursors c.changed.new.self c.args.homes.now c.args.table.now is
    (subst Left (sym c.self.view_is) c.requires) c.open_instances_lead.ensures.leads c.open_instances_lead.ensures.rise c.open_instances_lead-2.ensures.rise
    (subst Reopened c.facts.ensures.facts c.changed.ensures))
