use Rattle.std.proofs.Common.{ap, arith}
use Rattle.fact_table.specs.inside.HomeIds.{HomeIds}
use Rattle.fact_table.specs.inside.FactIds.{FactIds}
use Rattle.fact_table.proofs.Indexes.{IsIndexOf-nothing}
use Rattle.fact_table.proofs.index.Index.new.Goals as goal

pub returns-clause-index : goal.returns-clause-index
returns-clause-index c =
    let room = ap (λ (s : FactIds). s.room) c.in_ok-by_fact.ensures in
    let home_room = ap (λ (s : HomeIds). s.room) c.in_ok-by_home.ensures in
    IsIndexOf-nothing _ c.args.homes
    (record { ids = omega (arith, room, c.in_ok-ids.ensures.capacity); by_home = omega (arith, room, home_room) })
    c.in_ok-ids.ensures.items
    (ap (λ (s : FactIds). s.entries) c.in_ok-by_fact.ensures)
    (ap (λ (s : HomeIds). s.count) c.in_ok-by_home.ensures)
    (ap (λ (s : HomeIds). s.lists) c.in_ok-by_home.ensures)
