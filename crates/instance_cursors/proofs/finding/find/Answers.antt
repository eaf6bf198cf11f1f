use Rattle.std.proofs.Common.{subst}
use Rattle.thr_base.specs.declared.names.FactId.{FactId}
use Rattle.instance_cursors.specs.inside.Found.{HasNoId}
use Rattle.instance_cursors.proofs.Sought.{nowhere_without}
use Rattle.instance_cursors.proofs.finding.find.Goals as goal

pub returns-in-None : goal.returns-in-None
returns-in-None c =
    let None_of : FactId → Type 0 = λ id. HasNoId c.args.facts.now id in
    nowhere_without c.args.layout.now c.args.facts.now c.args.cursors.now c.args.instance (subst None_of c.last_id.ensures c.in-None.ensures)
