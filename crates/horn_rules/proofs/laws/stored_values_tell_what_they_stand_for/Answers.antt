use Rattle.horn_rules.proofs.StoredSets.{homes-distinct, facts-tell, sets-by-number}
use Rattle.horn_rules.proofs.laws.stored_values_tell_what_they_stand_for.Goals as goal

pub returns-clause-homes : goal.returns-clause-homes
returns-clause-homes c = homes-distinct

pub returns-clause-facts : goal.returns-clause-facts
returns-clause-facts c = facts-tell c.positions_are_those_held.ensures.words

pub returns-clause-sets : goal.returns-clause-sets
returns-clause-sets c = sets-by-number
