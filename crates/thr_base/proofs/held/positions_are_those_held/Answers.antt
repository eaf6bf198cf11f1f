use Rattle.thr_base.proofs.Positions.{are-positions, positions-tell, words-below}
use Rattle.thr_base.proofs.held.positions_are_those_held.Goals as goal

pub returns-clause-exact : goal.returns-clause-exact
returns-clause-exact c = are-positions

pub returns-clause-words : goal.returns-clause-words
returns-clause-words c = positions-tell

pub returns-clause-below : goal.returns-clause-below
returns-clause-below c = words-below
