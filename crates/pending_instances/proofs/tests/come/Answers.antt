use Rattle.pending_instances.proofs.TestTables.{comes-together}
use Rattle.pending_instances.proofs.tests.come.Goals as goal

pub returns-in-New-clause-together : goal.returns-in-New-clause-together
returns-in-New-clause-together c =
    comes-together c.args.program.now c.args.table.now c.insert.new.self c.args.waiting.now c.came.new.self c.in-New.id _ _ c.requires.together c.in-New.ensures.answer c.in-New.ensures.unmarked
    c.in-New.ensures.homes c.facts-facts.ensures.table c.came.ensures
