use Rattle.fact_table.proofs.Lookups.{Rise-ids, within_from_id, live_at-found, live_at-missing}
use Rattle.fact_table.proofs.lookup.fact_with.Goals as goal

pub place_of-requires : goal.place_of-requires
place_of-requires c = Rise-ids _ _ c.requires.ids c.requires.rise

pub bounds-facts-place : goal.bounds-facts-place
bounds-facts-place c = within_from_id _ _ _ _ c.requires.ids c.in-Some.ensures

pub returns-in-Some : goal.returns-in-Some
returns-in-Some c = live_at-found c.args.facts.now c.args.ids.now _ _ _ c.requires.ids c.requires.rise c.in-Some.ensures

pub returns-in-None : goal.returns-in-None
returns-in-None c = live_at-missing c.args.facts.now c.args.ids.now c.args.id c.requires.ids c.in-None.ensures
