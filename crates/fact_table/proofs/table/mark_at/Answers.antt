use Rattle.std.proofs.Common.{arith}
use Rattle.fact_table.proofs.Lookups.{set-marked}
use Rattle.fact_table.proofs.table.mark_at.Goals as goal

pub returns-clause-facts : goal.returns-clause-facts
returns-clause-facts c = set-marked c.args.facts.now.items c.args.place c.index-fact.result.now (omega arith) c.index-fact.ensures
