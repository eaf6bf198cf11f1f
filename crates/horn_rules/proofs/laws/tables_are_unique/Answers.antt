use Rattle.horn_rules.proofs.Tables.{tables-unique}
use Rattle.horn_rules.proofs.laws.tables_are_unique.Goals as goal

pub returns : goal.returns
returns c = tables-unique
