use Rattle.std.proofs.Common.{List, map, subst}
use Rattle.thr_base.specs.Held.{Rise}
use Rattle.instance_cursors.specs.Waiting.{OpenLead, Waiting}
use Rattle.instance_cursors.specs.inside.Stored.{seen}
use Rattle.instance_cursors.proofs.Chosen.{kept_leads}
use Rattle.instance_cursors.proofs.cursors.Cursors.open_instances_lead.Goals as goal

pub returns-clause-leads : goal.returns-clause-leads
returns-clause-leads c =
    let Lead : Waiting → Type 0 = λ w. OpenLead w in
    subst Lead c.self.view_is (kept_leads (seen c.self.inside) c.self.invariant.kept)

pub returns-clause-rise : goal.returns-clause-rise
returns-clause-rise c =
    let Rises : Waiting → Type 0 = λ w. Rise 0 (map (λ f. f.id.0) w.live) in
    subst Rises c.self.view_is c.self.invariant.kept.ids_rise
