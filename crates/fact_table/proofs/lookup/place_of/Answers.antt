use Rattle.std.proofs.Common.{◌∙◌, ap}
use Rattle.std.proofs.lemmas.List.{get_or_default}
use Rattle.thr_base.specs.declared.names.FactId.{FactId}
use Rattle.fact_table.proofs.Lookups.{lacks_from_first}
use Rattle.fact_table.proofs.lookup.place_of.Goals as goal

pub returns-else-ids-place : goal.returns-else-ids-place
returns-else-ids-place c =
    lacks_from_first c.args.ids.now c.args.id c.first_from-place.result c.requires c.first_from-place.ensures.first
    (λ lt same. c.if-ids-place.false (ap (λ (x : FactId). x.0) (get_or_default c.args.ids.now c.first_from-place.result _ c.args.id lt) ∙ same))
