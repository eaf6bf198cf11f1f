use Rattle.std.proofs.Common.{ap, refl, ◌∙◌, arith}
use Rattle.fact_table.specs.inside.FactIds.{FactIds, id_in, key_of}
use Rattle.fact_table.proofs.FactMaps.{one_more}
use Rattle.fact_table.proofs.fact_ids.FactIds.put.Goals as goal

pub invariant_of-self : goal.invariant_of-self
invariant_of-self c =
    let absent = ap (λ (w : FactIds). id_in w (key_of c.args.fact)) c.self.view_is ∙ c.requires.absent in
    let more = one_more _ _ _ (c.in-Ok.ensures.old ∙ absent) c.in-Ok.ensures.len in
    omega (arith, more, c.in-Ok.ensures.spare, c.self.invariant)

pub returns : goal.returns
returns c =
    let absent = ap (λ (w : FactIds). id_in w (key_of c.args.fact)) c.self.view_is ∙ c.requires.absent in
    let more = one_more _ _ _ (c.in-Ok.ensures.old ∙ absent) c.in-Ok.ensures.len in
    rw (← c.self.view_is) (record { room = refl; count = more; found = λ q. c.in-Ok.ensures.updates.0 q })
