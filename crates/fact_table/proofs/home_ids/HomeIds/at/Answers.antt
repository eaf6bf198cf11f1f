use Rattle.fact_table.proofs.Parts.{place_within}
use Rattle.fact_table.proofs.home_ids.HomeIds.at.Goals as goal

pub part_at-requires-clause-place : goal.part_at-requires-clause-place
part_at-requires-clause-place c =
    rw c.deref-2.ensures.value
    (place_within c.self.inside.room c.self.inside.ids.items c.self.inside.ends.items c.args.self.now c.args.home.0 c.self.view_is c.requires.0 c.requires.1)
