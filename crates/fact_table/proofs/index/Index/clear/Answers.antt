use Rattle.std.proofs.Common.{ap, arith, length}
use Rattle.fact_table.specs.inside.HomeIds.{HomeIds}
use Rattle.fact_table.specs.inside.FactIds.{FactIds}
use Rattle.fact_table.proofs.Indexes.{IsIndexOf-nothing}
use Rattle.fact_table.proofs.index.Index.clear.Goals as goal

pub returns-clause-index : goal.returns-clause-index
returns-clause-index c =
    let room = ap (λ (s : FactIds). s.room) c.clear-2.ensures in
    let home_room = ap (λ (s : HomeIds). s.room) c.clear-3.ensures in
    IsIndexOf-nothing _ (length c.args.self.now.by_home.lists)
    (record { ids = omega (arith, room, c.clear.ensures.capacity, c.requires.ids); by_home = omega (arith, room, home_room, c.requires.by_home) })
    c.clear.ensures.items
    (ap (λ (s : FactIds). s.entries) c.clear-2.ensures)
    (ap (λ (s : HomeIds). s.count) c.clear-3.ensures)
    (ap (λ (s : HomeIds). s.lists) c.clear-3.ensures)
