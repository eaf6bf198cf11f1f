use Rattle.withdraw.proofs.tests.put.Goals as goal

pub returns-clause-rest : goal.returns-clause-rest
returns-clause-rest c = c.insertions_rest_on_earlier.ensures _ _ _ _ _ c.facts.ensures.table c.requires.premises c.insert.ensures.answer c.requires.rest
